-- Laws of what a number stands for, in any list whose entries have numbers: it has the number and is in the list, goes on to stand as the list
-- grows, and stands for the same in a list made from another (R7.1).
-- Assumes nothing.
use mathlib.Core.Path.{◌≡◌, refl, ap, ◌∙◌}
use mathlib.Core.Bool.{Bool, true, false, cond, false≢true}
use mathlib.Core.List.{List, [], ◌∷◌, ◌++◌, map, Memᴰ}
use mathlib.Core.Option
use mathlib.Core.Option.{Option, some, none}
use Prim.Native.Nat.{ℕ, ◌<◌}
use borrow.Author.Tests.{eqb-true, eq-eqb, ne_eqb}
use lib.Dec.{eqb}
use native.Mathlib.Omega.{arith}
use Rattle.definitions.proofs.Equality.{decides-ticket}
use Rattle.definitions.specs.declared.ticket.Ticket.{Ticket}
use Rattle.definitions.specs.HeldTickets.{first_of, is_ticket, holds, first_ticket}

none-some : {A : Type 0} {B : Type 0} {b : B} → ◌≡◌ {A = Option B} none (some b) → A
none-some e = let z : ◌≡◌ {A = ℕ} 0 1 = cc in absurd (omega arith)

module _ {A : Type 0} (num : A → ℕ) (n : ℕ) where
  -- it has the number, and is in the list
  pub first-is : (xs : List A) (u : A) → first_of num n xs ≡ some u → (num u ≡ n) × Memᴰ u xs
  first-is [] u e = none-some e
  first-is (x ∷ xs) u e = go (eqb (num x) n) refl e (first-is xs u)
    where
      go : (b : Bool) → eqb (num x) n ≡ b → cond b (some x) (first_of num n xs) ≡ some u
          → (first_of num n xs ≡ some u → (num u ≡ n) × Memᴰ u xs) → (num u ≡ n) × Memᴰ u (x ∷ xs)
      go true q e k = let p : u ≡ x = cc in (ap num p ∙ eqb-true (num x) n q, Memᴰ.head p)
      go false q e k = let r = k e in (r.0, Memᴰ.tail r.1)

  -- it stands for the same as the list grows
  pub first_more : (xs ys : List A) (u : A) → first_of num n xs ≡ some u → first_of num n (xs ++ ys) ≡ some u
  first_more [] ys u e = none-some e
  first_more (x ∷ xs) ys u e = go (eqb (num x) n) e (first_more xs ys u)
    where
      go : (b : Bool) → cond b (some x) (first_of num n xs) ≡ some u → (first_of num n xs ≡ some u → first_of num n (xs ++ ys) ≡ some u)
          → cond b (some x) (first_of num n (xs ++ ys)) ≡ some u
      go true e k = e
      go false e k = k e

  -- it stands for an entry at the end, if every number before is lower
  pub first-last : (xs : List A) (x : A) → num x ≡ n → ((u : A) → Memᴰ u xs → num u < n) → first_of num n (xs ++ (x ∷ [])) ≡ some x
  first-last [] x e h = ap (λ b. cond b (some x) none) (eq-eqb (num x) n e)
  first-last (y ∷ xs) x e h =
      let lo = h y (Memᴰ.head refl) in
      ap (λ b. cond b (some y) (first_of num n (xs ++ (x ∷ [])))) (ne_eqb (num y) n (λ p. omega (arith, lo, p)))
      ∙ first-last xs x e (λ u i. h u (Memᴰ.tail i))

-- in a list made entry by entry from another, it stands for what is made of the entry that it stands for there
pub first-map : {A B : Type 0} (num : B → ℕ) (f : A → B) (n : ℕ) (xs : List A) → first_of num n (map f xs) ≡ Option.map f (first_of (λ x. num (f x)) n xs)
first-map num f n [] = refl
first-map num f n (x ∷ xs) = go (eqb (num (f x)) n) (first-map num f n xs)
  where
    go : (b : Bool) → first_of num n (map f xs) ≡ Option.map f (first_of (λ x. num (f x)) n xs)
        → cond b (some (f x)) (first_of num n (map f xs)) ≡ Option.map f (cond b (some x) (first_of (λ x. num (f x)) n xs))
    go true k = refl
    go false k = k

-- a ticket that is held is the first of its number
pub held_first : (l : List Ticket) (t : Ticket) → holds l t ≡ true → first_ticket t.number l ≡ some t
unfolding holds
held_first l t e = by (first_ticket t.number l) e
  where
    by : (o : Option Ticket) → is_ticket o t ≡ true → o ≡ some t
    by none q = absurd (false≢true q)
    by (some u) q = ap some ((decides-ticket u t).sound q)
