use Prim.Native.Nat.{◌*◌}
use Rattle.ledger.specs.Lookups.{NoneHas}
use Rattle.ledger.proofs.held.HeldTickets.place_of.Given as goal

abbrev pub invariant-loop-k : goal.invariant-loop-k
invariant-loop-k l = NoneHas l.self.words.now l.number 0 (4 * l.k)
