use Prim.Native.Nat.{◌*◌}
use Rattle.ledger.specs.ClosingUp.{AllStay}
use Rattle.ledger.proofs.clearing.words_staying.Given as goal

abbrev pub invariant-loop-k : goal.invariant-loop-k
invariant-loop-k l = AllStay l.held.words.now l.clock (4 * l.k)
