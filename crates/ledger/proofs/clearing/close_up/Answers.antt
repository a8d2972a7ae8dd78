use mathlib.Core.Path.{◌≡◌}
use Prim.Native.Nat.{◌+◌, ◌*◌, ◌/◌, ◌%◌}
use native.Mathlib.Omega.{arith}
use Rattle.definitions.specs.LedgerWords.{count_held}
use Rattle.ledger.specs.ClosingUp.{AllGo}
use Rattle.ledger.proofs.ClosingUp.{closed-start, closed-past}
use Rattle.ledger.proofs.clearing.close_up.Goals as goal

pub loop-k-init : goal.loop-k-init
loop-k-init c =
    let a = c.args in
    let start = c.whole-closing in
    let counted : c.of-held.result.count ≡ count_held a.words.now = rw c.of-held.ensures at c.of-held.result.counted in (
      omega arith,
      omega arith,
      closed-start a.words.now a.clock (4 * (a.first / 4)) (omega arith) (λ k l. c.requires.1 k (omega arith)) start.result start.ensures.all start.ensures.none,
    )

pub returns-then-rest-eq0-clause-closed : goal.returns-then-rest-eq0-clause-closed
returns-then-rest-eq0-clause-closed c =
    let w = c.args.words.now in
    let l = c.loop-k in
    let n = c.of-held.result.count in
    let counted : n ≡ count_held w = rw c.of-held.ensures at c.of-held.result.counted in
    let go : AllGo w c.args.clock (4 * l.k) (4 * (n / 4)) = λ k a b. rw c.of-held.ensures at (c.end_of_staying-end.ensures.passed k (omega arith) b) in
    let e : 4 * (n / 4) ≡ count_held w = omega arith in
    rw e at (closed-past w c.args.clock (4 * l.k) (4 * (n / 4)) l.words l.closing (omega arith) l.invariant.2 go)

pub returns-clause-closed : goal.returns-clause-closed
returns-clause-closed c =
    let w = c.args.words.now in
    let l = c.loop-k in
    let n = c.of-held.result.count in
    let counted : n ≡ count_held w = rw c.of-held.ensures at c.of-held.result.counted in
    let go : AllGo w c.args.clock (4 * l.k) (4 * (n / 4)) = λ k a b. rw c.of-held.ensures at (c.end_of_staying-end.ensures.passed k (omega arith) b) in
    let e : 4 * (n / 4) + n % 4 ≡ count_held w = omega arith in
    rw e at (c.pass_word.ensures.passed w (closed-past w c.args.clock (4 * l.k) (4 * (n / 4)) l.words l.closing (omega arith) l.invariant.2 go))
