use mathlib.Core.Path.{◌≡◌, ap, ◌∙◌}
use Prim.Native.Nat.{ℕ, ◌-◌}
use native.Mathlib.Omega.{arith}
use lib.ListN.{replicate}
use Rattle.definitions.specs.LedgerWords.{count_held}
use Rattle.definitions.specs.ClearedWords.{free_place, put_places}
use Rattle.ledger.specs.ClosingUp.{settled, AllStay}
use Rattle.ledger.proofs.ClosingUp.{closed_all, gone-count, clear-put, stayed-all, clear_none, none-gone}
use Rattle.ledger.proofs.clearing.clear_tickets.Goals as goal

pub returns-in_default : goal.returns-in_default
returns-in_default c =
    let a = c.args in
    let w = a.words.now in
    let n : c.of-held.result.count ≡ count_held w = rw c.of-held.ensures at c.of-held.result.counted in
    let all : AllStay w a.clock (count_held w) = none-gone w a.clock (count_held w) _ c.in_default.is (rw (c.of-held.ensures, n) at c.first_ended.ensures) in
    let z : 0 ≡ count_held w - count_held w = omega arith in record {
      cleared = c.put_count.ensures ∙ rw n (clear_none w a.clock all);
      counted = z ∙ gone-count w a.clock (count_held w) (stayed-all w a.clock all);
      bounded = omega arith;
    }

pub returns : goal.returns
returns c =
    let a = c.args in
    let w = a.words.now in
    let n : c.of-held.result.count ≡ count_held w = rw c.of-held.ensures at c.of-held.result.counted in
    let up = c.close_up-closing in
    let kept = up.result.kept in
    let closed = up.ensures.closed in
    let put = c.settle.ensures ∙ c.free.ensures.put
    ∙ ap (λ (m : ℕ). put_places (settled up.new.words up.result) kept (replicate (m - kept) free_place)) n
    ∙ closed_all w a.clock up.new.words up.result closed
    in record {
      cleared = c.put_count-2.ensures ∙ clear-put w a.clock c.settle.new.words kept put closed.count;
      counted = ap (λ (m : ℕ). m - kept) n ∙ gone-count w a.clock kept closed.count;
      bounded = omega arith;
    }
