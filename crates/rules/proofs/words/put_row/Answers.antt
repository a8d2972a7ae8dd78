use mathlib.Core.Path.{◌≡◌, refl, ◌∙◌}
use Prim.Native.Nat.{◌+◌, ◌-◌}
use native.Mathlib.Omega.{arith}
use lib.ListN.{length}
use Rattle.std.proofs.lemmas.Slice.{put_mid-paste}
use Rattle.definitions.specs.AccountWords.{row_start}
use Rattle.rules.proofs.Storing.{put-pasted}
use Rattle.rules.proofs.words.put_row.Goals as goal

pub returns : goal.returns
returns c =
    let a = c.args in
    let at = row_start a.number in
    let l : length a.row ≡ 6 = omega (arith, c.copy_from_slice.ensures.len) in
    put_mid-paste at (at + 6 - at) a.words.now c.copy_from_slice.new.self a.row (length a.row) c.copy_from_slice.ensures.after (omega arith) refl
    ∙ put-pasted a.words.now at a.row (omega arith)
