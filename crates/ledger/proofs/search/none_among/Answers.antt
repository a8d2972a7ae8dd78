use Prim.Native.Nat.{◌<◌}
use native.Mathlib.Nat.{le_trans}
use native.Mathlib.Omega.{arith}
use lib.Bits.{and_le_l}
use borrow.Author.Count.{below_more}
use Rattle.definitions.specs.Limits.{two16}
use Rattle.ledger.proofs.Lookups.{marks-more, no-lane}
use Rattle.ledger.proofs.search.none_among.Goals as goal

pub loop-word-preserved : goal.loop-word-preserved
loop-word-preserved c =
    let a = c.args in
    let l = c.loop-word in
    let small : a.number < two16 = omega arith in (
      le_trans (and_le_l l.marks c.other_marks-marks.result) l.invariant.0,
      λ e.
          let p = marks-more l.marks c.other_marks-marks.result 0x8000800080008000 l.invariant.0 e in
          below_more _ _ (l.invariant.1 p.0) (no-lane _ a.number small (rw c.other_marks-marks.ensures at p.1)),
    )
