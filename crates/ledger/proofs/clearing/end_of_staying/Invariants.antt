use Prim.Native.Nat.{◌*◌, ◌/◌}
use Rattle.ledger.specs.ClosingUp.{AllGo}
use Rattle.ledger.proofs.clearing.end_of_staying.Given as goal

abbrev pub invariant-loop-k : goal.invariant-loop-k
invariant-loop-k l = AllGo l.held.words.now l.clock (4 * l.k) (4 * (l.held.count / 4))
