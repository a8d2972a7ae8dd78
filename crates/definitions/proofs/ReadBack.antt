-- Laws of what is read back (R2.13, R7.7).
-- Assumes nothing.
use Prim.Native.Nat.{ℕ, zero, suc, ◌+◌, ◌-◌, ◌/◌, ◌^◌, ◌≤◌, ◌<◌}
use mathlib.Core.Path.{◌≡◌, refl, sym, ap, ◌∙◌}
use mathlib.Core.Bool.{Bool, true, false}
use mathlib.Core.List.{List, [], ◌∷◌}
use native.Mathlib.Omega.{arith}
use native.Mathlib.Numerals.{add-one}
use lib.ListN.{length, get_or, set, replicate}
use lib.Dec.{leb, ltb}
use borrow.Author.Tests.{leb-true, ltb-true, ltb-false}
use lib.Seq.{set_at, append_snoc}
use Rattle.definitions.specs.Limits.{account_limit, name_limit, trail_limit, byte_bits}
use Rattle.definitions.specs.Words.{lane_at, lanes_of}
use Rattle.definitions.specs.Accounts.{Row, row_of}
use Rattle.definitions.specs.AccountWords.{row_start, name_at, length_at, set_length, table_of}
use Rattle.definitions.specs.LedgerWords.{ticket_in, ticket_at, tickets_from, tickets_of, count_held}
use Rattle.definitions.specs.ReadBack.{padded_name}
use Rattle.definitions.specs.declared.ticket.Ticket.{Ticket}
use Rattle.definitions.proofs.AccountWords.{row-of, row-above, row-set, row-unset, name-length}
use Rattle.definitions.proofs.Bools.{and_right}

-- ---- Names in bytes
-- a byte more of a name
pub padded-step : (w : List ℕ) (i n : ℕ) → n < name_limit
    → set (padded_name (name_at w i n)) n (lane_at byte_bits w i n) ≡ padded_name (name_at w i (n + 1))
unfolding padded_name name_at
padded-step w i n h =
    let e : name_limit - n ≡ suc (name_limit - suc n) = omega arith in
    rw (add-one, name-length w i n, name-length w i (suc n), e)
    (set_at (name_at w i n) 0 (replicate (name_limit - suc n) 0) (lane_at byte_bits w i n) n (name-length w i n)
    ∙ sym (append_snoc (name_at w i n) (lane_at byte_bits w i n) (replicate (name_limit - suc n) 0)))

-- no byte of it
pub padded-none : (w : List ℕ) (i : ℕ) → replicate name_limit 0 ≡ padded_name (name_at w i 0)
unfolding padded_name name_at
padded-none w i = refl

pub padded-empty : (name : List ℕ) → length name ≡ 0 → replicate name_limit 0 ≡ padded_name name
unfolding padded_name
padded-empty [] h = refl
padded-empty (c ∷ name) h = absurd (omega arith)

-- ---- The length of an account's name
module _ (w : List ℕ) (n : ℕ) where
  pub set-few : set_length (length_at w n) ≡ true → length_at w n ≤ name_limit
  set-few h = leb-true (length_at w n) name_limit (and_right (leb 1 (length_at w n)) _ h)

  pub length-set : n < account_limit → set_length (length_at w n) ≡ true → length_at w n ≡ length (row_of (table_of w) n).name
  length-set l h = sym (ap (λ (x : Row). length x.name) (row-of w n l ∙ row-set w n h) ∙ name-length w (row_start n) (length_at w n))

  pub length-unset : n < account_limit → set_length (length_at w n) ≡ false → 0 ≡ length (row_of (table_of w) n).name
  length-unset l h = sym (ap (λ (x : Row). length x.name) (row-of w n l ∙ row-unset w n h))

  -- only a set row has a name, and it stands in the row's words
  pub named-below : (length (row_of (table_of w) n).name ≡ 0 → ⊥) → n < account_limit
  named-below d = by (ltb n account_limit) refl
    where
      by : (q : Bool) → ltb n account_limit ≡ q → n < account_limit
      by true e = ltb-true n account_limit e
      by false e = absurd (d (ap (λ (x : Row). length x.name) (row-above w n (ltb-false n account_limit e))))

  pub named-row : (length (row_of (table_of w) n).name ≡ 0 → ⊥)
      → name_at w (row_start n) (length (row_of (table_of w) n).name) ≡ (row_of (table_of w) n).name
  named-row d = by (set_length (length_at w n)) refl
    where
      l : n < account_limit
      l = named-below d

      by : (q : Bool) → set_length (length_at w n) ≡ q → name_at w (row_start n) (length (row_of (table_of w) n).name) ≡ (row_of (table_of w) n).name
      by true e =
          let r = row-of w n l ∙ row-set w n e in
          ap (name_at w (row_start n)) (sym (length-set l e)) ∙ sym (ap (λ (x : Row). x.name) r)
      by false e = absurd (d (sym (length-unset l e)))

-- ---- Tickets by their places
-- the ticket at a place of the list is that at the place of the words
tickets-at : (w : List ℕ) (p n i : ℕ) (t : Ticket) → i < n → get_or (tickets_from w p n) i t ≡ ticket_at w (p + i)
unfolding tickets_from
tickets-at w p zero i t h = absurd (omega arith)
tickets-at w p (suc n) zero t h =
    let e : p + 0 ≡ p = omega arith in
    rw e
tickets-at w p (suc n) (suc i) t h =
    let e : p + 1 + i ≡ p + suc i = omega arith in
    tickets-at w (p + 1) n i t (omega arith) ∙ rw e

pub ticket-listed : (w : List ℕ) (i : ℕ) (t : Ticket) → i < count_held w → get_or (tickets_of w) i t ≡ ticket_at w i
unfolding tickets_of
ticket-listed w i t h =
    let e : 0 + i ≡ i = omega arith in
    tickets-at w 0 (count_held w) i t h ∙ rw e

-- its trail has as many places as a ticket's has
lanes-many : (w x n : ℕ) → length (lanes_of w x n) ≡ n
unfolding lanes_of
lanes-many w x zero = refl
lanes-many w x (suc n) = ap suc (lanes-many w (x / 2 ^ w) n)

pub trail-places : (w : List ℕ) (i : ℕ) → length (ticket_at w i).trail ≡ trail_limit
unfolding ticket_at ticket_in
trail-places w i = lanes-many byte_bits _ trail_limit
