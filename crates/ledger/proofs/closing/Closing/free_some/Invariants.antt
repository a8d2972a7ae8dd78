use mathlib.Core.Path.{◌≡◌}
use Prim.Native.Nat.{◌+◌}
use lib.ListN.{replicate}
use Rattle.definitions.specs.ClearedWords.{free_place, put_places}
use Rattle.ledger.specs.ClosingUp.{settled}
use Rattle.ledger.proofs.closing.Closing.free_some.Given as goal

abbrev pub invariant-loop : goal.invariant-loop
invariant-loop l =
    (l.closing.kept ≡ l.initial.closing.kept + l.counter)
    × (settled l.words l.closing ≡ put_places (settled l.initial.words l.initial.closing) l.initial.closing.kept (replicate l.counter free_place))
