use mathlib.Core.Path.{◌≡◌, sym}
use native.Mathlib.Omega.{arith}
use borrow.Author.Tests.{le-leb}
use lib.ListN.{length}
use Rattle.record.proofs.Cursor.{behind-zero, behind-none}
use borrow.Author.Rules.{rules}
use Rattle.record.proofs.writer.zero_behind.Goals as goal

pub returns-else-hops-ge-TRAIL_LIMIT : goal.returns-else-hops-ge-TRAIL_LIMIT
returns-else-hops-ge-TRAIL_LIMIT c =
    let a = c.args in
    let w = c.trail_word.ensures in
    rw w.exact (behind-zero a.trail w.places.1 8 a.hops (sym w.places.0) (omega arith))

pub returns-then-hops-ge-TRAIL_LIMIT : goal.returns-then-hops-ge-TRAIL_LIMIT
returns-then-hops-ge-TRAIL_LIMIT c =
    let a = c.args in
    let l : length a.trail ≡ 8 = search rules in
    rw (le-leb 8 a.hops (omega arith)) (behind-none a.trail a.hops (omega arith))
