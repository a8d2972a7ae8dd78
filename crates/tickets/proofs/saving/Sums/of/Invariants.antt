use Prim.Native.Nat.{◌*◌, ◌≤◌}
use mathlib.Core.Path.{◌≡◌}
use Rattle.definitions.specs.Limits.{sum_place}
use Rattle.definitions.specs.Saving.{byte_sum, place_sum}
use Rattle.tickets.proofs.saving.Sums.of.Given as goal

abbrev pub invariant-loop-i : goal.invariant-loop-i
invariant-loop-i l =
    (l.first ≡ byte_sum l.saved l.i) × (l.second ≡ place_sum l.saved l.i) × (l.first ≤ 255 * l.i) × (l.second ≤ sum_place * 255 * l.i)
