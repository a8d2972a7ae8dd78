use native.Mathlib.Numerals.{add-one}
use lib.ListN.{length-set}
use borrow.Author.Rules.{rules}
use Rattle.record.proofs.Cursor.{copy_step}
use Rattle.record.proofs.writer.copy.Goals as goal

pub loop-i-preserved : goal.loop-i-preserved
loop-i-preserved c =
    let l = c.loop-i in
    let a = c.args in
    rw add-one (simp length-set l.invariant.0, rw l.invariant.1 (copy_step a.out.now a.src.now a.at.now l.i (search rules)))
