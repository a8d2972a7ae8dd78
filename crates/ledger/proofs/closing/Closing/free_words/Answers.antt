use mathlib.Core.Path.{◌≡◌, sym, ◌∙◌}
use Prim.Native.Nat.{◌+◌, ◌-◌, ◌*◌}
use native.Mathlib.Omega.{arith}
use Rattle.definitions.specs.ClearedWords.{put_places}
use Rattle.ledger.specs.ClosingUp.{settled}
use Rattle.ledger.proofs.ClosingUp.{settled-full, free_on}
use Rattle.ledger.proofs.closing.Closing.free_words.Goals as goal

pub loop-k-init : goal.loop-k-init
unfolding put_places
loop-k-init c =
    let e : 4 * (c.args.from - c.args.from) ≡ 0 = omega arith in
    rw e

pub loop-k-preserved : goal.loop-k-preserved
loop-k-preserved c =
    let l = c.loop-k in
    let a = c.args in
    let start = c.whole in
    let put = c.free_some in
    let full = settled-full l.words start.result (omega arith) (omega arith) in
    sym (settled-full put.new.words put.result (omega arith) (omega arith)) ∙ put.ensures.put
    ∙ free_on a.words.now (settled l.words start.result) (4 * a.from) start.result.kept (4 * (l.k - a.from)) 4 (4 * (l.k + 1 - a.from)) (full ∙ l.invariant) (omega arith) (omega arith)
