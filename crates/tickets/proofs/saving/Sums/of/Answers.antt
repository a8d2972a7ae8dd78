use mathlib.Core.Path.{◌≡◌, ◌∙◌}
use Prim.Native.Nat.{◌<◌}
use native.Mathlib.Omega.{arith}
use lib.ListN.{get_or}
use lib.Seq.{length-take-le, get_or-take}
use Rattle.definitions.specs.Limits.{sum_place}
use Rattle.definitions.specs.Saving.{counted_place}
use Rattle.tickets.proofs.SavedBytes.{place_times, sum_next}
use Rattle.tickets.proofs.saving.Sums.of.Goals as goal

pub loop-i-preserved : goal.loop-i-preserved
loop-i-preserved c =
    let l = c.loop-i in
    let s = c.args.saved.now in
    let size = length-take-le sum_place s (omega arith) in
    let inside : l.i < sum_place = omega arith in
    let byte : c.from-byte.result ≡ get_or s l.i 0 = c.from-byte.ensures ∙ get_or-take sum_place s l.i 0 inside in
    let t = place_times l.i c.from-byte.result inside (omega arith) in (
      rw (sum_next (λ k. 1) s l.i, ← byte) (omega (arith, l.invariant.0)),
      rw (sum_next counted_place s l.i, ← byte) (omega (arith, l.invariant.1)),
      omega arith,
      omega (arith, t),
    )
