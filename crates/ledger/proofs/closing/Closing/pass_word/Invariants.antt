use mathlib.Core.List.{List}
use Prim.Native.Nat.{ℕ, ◌+◌, ◌*◌, ◌≤◌}
use Rattle.ledger.specs.ClosingUp.{Closed}
use Rattle.ledger.proofs.closing.Closing.pass_word.Given as goal

abbrev pub invariant-loop-lane : goal.invariant-loop-lane
invariant-loop-lane l =
    (l.closing.kept ≤ 4 * l.k.index + l.lane)
    × ((w : List ℕ) → Closed w l.clock (4 * l.k.index) l.initial.words l.initial.closing → Closed w l.clock (4 * l.k.index + l.lane) l.words l.closing)
