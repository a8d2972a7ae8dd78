-- A law of rows put in place.
-- Assumes nothing.
use mathlib.Core.Path.{◌≡◌}
use mathlib.Core.List.{List, [], ◌∷◌}
use Prim.Native.Nat.{ℕ, ◌+◌}
use native.Mathlib.Nat.{add_assoc}
use native.Mathlib.Omega.{arith}
use lib.ListN.{length, get_or, set}
use Rattle.definitions.specs.Words.{put_row}

-- a row of four words, put word by word
pub four_put : (w row : List ℕ) (at : ℕ) → length row ≡ 4
    → set (set (set (set w at (get_or row 0 0)) (at + 1) (get_or row 1 0)) (at + 2) (get_or row 2 0)) (at + 3) (get_or row 3 0) ≡ put_row w at row
unfolding put_row
four_put w (a ∷ b ∷ c ∷ d ∷ []) at h = simp add_assoc
four_put w row at h = absurd (omega arith)
