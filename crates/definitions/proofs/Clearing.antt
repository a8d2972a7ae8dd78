-- Laws of clearing: what a test takes of a list, what a number stands for among what is taken, and which tickets stay (R7.6).
-- Assumes nothing.
use mathlib.Core.Path.{◌≡◌, refl, sym, ap, ◌∙◌}
use mathlib.Core.Bool.{Bool, true, false, cond, not, ◌&&◌}
use mathlib.Core.List.Memᴰ
use mathlib.Core.List.{List, [], ◌∷◌, ◌++◌, map, Memᴰ}
use mathlib.Core.Logic.{◌⊎◌, inl, inr}
use mathlib.Core.Option.{some}
use Prim.Native.Nat.{ℕ, suc, ◌≤◌}
use native.Mathlib.Omega.{arith}
use lib.Dec.{eqb, leb}
use lib.ListN.{length, length-map}
use borrow.Author.Tests.{not-true, leb-false, lt-leb}
use Rattle.definitions.specs.declared.ticket.Ticket.{Ticket}
use Rattle.definitions.specs.HeldTickets.{first_of}
use Rattle.definitions.specs.Clearing.{stays, only, gone_from, gone}
use Rattle.definitions.proofs.LawfulDescent.{true-false}

module _ {A : Type 0} (p : A → Bool) where
  -- of two lists, one behind the other
  pub only-append : (xs ys : List A) → only p (xs ++ ys) ≡ only p xs ++ only p ys
  only-append [] ys = refl
  only-append (x ∷ xs) ys = go (p x) (only-append xs ys)
    where
      go : (b : Bool) → only p (xs ++ ys) ≡ only p xs ++ only p ys
          → cond b (x ∷ only p (xs ++ ys)) (only p (xs ++ ys)) ≡ cond b (x ∷ only p xs) (only p xs) ++ only p ys
      go true e = ap (λ l. x ∷ l) e
      go false e = e

  -- at most all
  pub only-length : (xs : List A) → length (only p xs) ≤ length xs
  only-length [] = omega arith
  only-length (x ∷ xs) = go (p x) (only-length xs)
    where
      go : (b : Bool) → length (only p xs) ≤ length xs → length (cond b (x ∷ only p xs) (only p xs)) ≤ suc (length xs)
      go true e = omega arith
      go false e = omega arith

  -- what is taken is in the list, and passes the test
  pub only-is : (xs : List A) (u : A) → Memᴰ u (only p xs) → Memᴰ u xs × (p u ≡ true)
  only-is [] u i = absurd (Memᴰ.not-nil i)
  only-is (x ∷ xs) u i = go (p x) refl i (only-is xs u)
    where
      here : p x ≡ true → (u ≡ x) ⊎ Memᴰ u (only p xs) → (Memᴰ u (only p xs) → Memᴰ u xs × (p u ≡ true))
          → Memᴰ u (x ∷ xs) × (p u ≡ true)
      here q (inl e) k = (Memᴰ.head e, ap p e ∙ q)
      here q (inr j) k = let r = k j in (Memᴰ.tail r.0, r.1)

      go : (b : Bool) → p x ≡ b → Memᴰ u (cond b (x ∷ only p xs) (only p xs)) → (Memᴰ u (only p xs) → Memᴰ u xs × (p u ≡ true))
          → Memᴰ u (x ∷ xs) × (p u ≡ true)
      go true q j k = here q (Memᴰ.cases_cons j) k
      go false q j k = let r = k j in (Memᴰ.tail r.0, r.1)

  -- a list that passes whole
  pub only-all : (xs : List A) → ((u : A) → Memᴰ u xs → p u ≡ true) → only p xs ≡ xs
  only-all [] h = refl
  only-all (x ∷ xs) h =
      ap (λ b. cond b (x ∷ only p xs) (only p xs)) (h x (Memᴰ.head refl)) ∙ ap (λ l. x ∷ l) (only-all xs (λ u i. h u (Memᴰ.tail i)))

  -- two tests, one after the other
  pub only-only : (q : A → Bool) (xs : List A) → only q (only p xs) ≡ only (λ x. p x && q x) xs
  only-only q [] = refl
  only-only q (x ∷ xs) = go (p x) (only-only q xs)
    where
      go : (b : Bool) → only q (only p xs) ≡ only (λ x. p x && q x) xs
          → only q (cond b (x ∷ only p xs) (only p xs)) ≡ cond (b && q x) (x ∷ only (λ x. p x && q x) xs) (only (λ x. p x && q x) xs)
      go true e = ap (λ l. cond (q x) (x ∷ l) l) e
      go false e = e

  -- of a list made entry by entry from another
  pub only-map : {B : Type 0} (f : B → A) (ys : List B) → only p (map f ys) ≡ map f (only (λ y. p (f y)) ys)
  only-map f [] = refl
  only-map f (y ∷ ys) = go (p (f y)) (only-map f ys)
    where
      go : (b : Bool) → only p (map f ys) ≡ map f (only (λ y. p (f y)) ys)
          → cond b (f y ∷ only p (map f ys)) (only p (map f ys)) ≡ map f (cond b (y ∷ only (λ y. p (f y)) ys) (only (λ y. p (f y)) ys))
      go true e = ap (λ l. f y ∷ l) e
      go false e = e

  -- what a number stands for, if it is taken, is what the number stands for among what is taken
  pub only-first : (num : A → ℕ) (n : ℕ) (xs : List A) (u : A) → first_of num n xs ≡ some u → p u ≡ true → first_of num n (only p xs) ≡ some u
  only-first num n [] u e h = e
  only-first num n (x ∷ xs) u e h = go (eqb (num x) n) (p x) refl refl e (λ q. only-first num n xs u q h)
    where
      go : (b d : Bool) → eqb (num x) n ≡ b → p x ≡ d → cond b (some x) (first_of num n xs) ≡ some u
          → (first_of num n xs ≡ some u → first_of num n (only p xs) ≡ some u) → first_of num n (cond d (x ∷ only p xs) (only p xs)) ≡ some u
      go true true i j e k = ap (λ b. cond b (some x) (first_of num n (only p xs))) i ∙ e
      go true false i j e k = let same : x ≡ u = cc in true-false h (ap p (sym same) ∙ j)
      go false true i j e k = ap (λ b. cond b (some x) (first_of num n (only p xs))) i ∙ k e
      go false false i j e k = k e

-- what ends no earlier than a ticket that stays, stays
pub stays-too : (clock : ℕ) (t u : Ticket) → stays clock t ≡ true → t.window.end ≤ u.window.end → stays clock u ≡ true
stays-too clock t u h e =
    let l = leb-false t.window.end clock (not-true (leb t.window.end clock) h) in
    ap not (lt-leb u.window.end clock (omega (arith, l)))

-- how many go, of the tickets of a list's entries
pub gone-map : {A : Type 0} (f : A → Ticket) (clock : ℕ) (xs : List A) → gone clock (map f xs) ≡ gone_from f clock xs
gone-map f clock xs =
    let k = only (λ x. stays clock (f x)) xs in
    let e : length (only (stays clock) (map f xs)) ≡ length k = ap length (only-map (stays clock) f xs) ∙ length-map k f in
    omega (arith, e, length-map xs f)
