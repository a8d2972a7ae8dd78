-- Laws of lists: runs of stores, `sets l i vs`, what stands at the front or at the end, and what holds of each entry.
-- Assumes nothing.
use mathlib.Core.Path.{◌≡◌, refl, sym, ap, ◌∙◌, subst}
use mathlib.Core.List.Memᴰ
use mathlib.Core.List.{List, [], ◌∷◌, ◌++◌, map, Memᴰ}
use mathlib.Core.Logic.{◌⊎◌, inl, inr}
use Prim.Native.Nat.{ℕ, suc, ◌+◌}
use native.Mathlib.Omega.{arith}
use lib.ListN.{length, take, set}
use native.Mathlib.Nat.{add-zero, add-suc, suc-add}
use lib.Seq.{sets, set_comm}

pub map-append : {A B : Type 0} (f : A → B) (xs ys : List A) → map f (xs ++ ys) ≡ map f xs ++ map f ys
map-append f [] ys = refl
map-append f (x ∷ xs) ys = ap (λ l. f x ∷ l) (map-append f xs ys)

-- what holds of each entry of a list, and of one more, holds of each entry where that one is put at the end
pub each_snoc : {A : Type 0} (P : A → Type 0) (xs : List A) (x : A) → ((y : A) → Memᴰ y xs → P y) → P x
    → (y : A) → Memᴰ y (xs ++ (x ∷ [])) → P y
each_snoc P xs x h k y i = go (Memᴰ.append_cases xs i)
  where
    go : Memᴰ y xs ⊎ Memᴰ y (x ∷ []) → P y
    go (inl j) = h y j
    go (inr j) = subst P (sym (Memᴰ.eq_of_singleton j)) k

pub sets-append : (l : List ℕ) (i : ℕ) (vs ws : List ℕ) → sets l i (vs ++ ws) ≡ sets (sets l i vs) (i + length vs) ws
sets-append l i [] ws = rw add-zero
sets-append l i (v ∷ vs) ws = rw (add-suc, sym (suc-add i (length vs))) (sets-append (set l i v) (suc i) vs ws)

-- the last store may come first
pub sets_last : (l : List ℕ) (i : ℕ) (vs : List ℕ) (v : ℕ) → sets l i (vs ++ (v ∷ [])) ≡ sets (set l (i + length vs) v) i vs
sets_last l i [] v = rw add-zero
sets_last l i (u ∷ us) v =
    sets_last (set l i u) (suc i) us v
    ∙ rw (suc-add, add-suc, set_comm l i (suc (i + length us)) u v (λ e. omega arith))

-- ---- The record that a grant left, read again
pub take-front : (xs ys : List ℕ) → take (length xs) (xs ++ ys) ≡ xs
take-front [] ys = refl
take-front (x ∷ xs) ys = ap (λ (l : List ℕ). x ∷ l) (take-front xs ys)
