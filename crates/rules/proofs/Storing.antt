-- Laws of a stored row (R2.8).
-- Assumes nothing.
use mathlib.Core.Path.{◌≡◌, refl, sym, ◌∙◌}
use mathlib.Core.List.{List, [], ◌∷◌}
use Prim.Native.Nat.{ℕ, ◌+◌, ◌≤◌}
use native.Mathlib.Numerals.{add-one}
use native.Mathlib.Omega.{arith}
use lib.ListN.{length, set}
use lib.Seq.{sets, sets-eq, paste, take_all}
use Rattle.definitions.specs.Words.{put_row}

-- word after word, or all at once
put-sets : (w : List ℕ) (i : ℕ) (row : List ℕ) → put_row w i row ≡ sets w i row
unfolding put_row
put-sets w i [] = refl
put-sets w i (x ∷ row) = let h = put-sets (set w i x) (i + 1) row in rw add-one (rw add-one at h)

pub put-pasted : (w : List ℕ) (i : ℕ) (row : List ℕ) → i + length row ≤ length w → paste w i row (length row) ≡ put_row w i row
put-pasted w i row h = rw (take_all (length row) row (omega arith)) (sym (put-sets w i row ∙ sets-eq row w i h))
