use Prim.Native.Nat.{◌*◌, ◌/◌, ◌≤◌}
use Rattle.ledger.specs.ClosingUp.{Closed}
use Rattle.ledger.proofs.clearing.close_up.Given as goal

abbrev pub invariant-loop-k : goal.invariant-loop-k
invariant-loop-k l = (l.k ≤ l.n / 4) × (l.closing.kept ≤ 4 * l.k) × Closed l.initial.words l.clock (4 * l.k) l.words l.closing
