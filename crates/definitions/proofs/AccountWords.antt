-- Laws of the accounts' words: the rows of a table, names and their packing, and what storing a row leaves.
-- Assumes nothing.
use mathlib.Core.Path.{◌≡◌, refl, sym, ap, ◌∙◌}
use mathlib.Core.Bool.{Bool, true, false}
use mathlib.Core.List.{List, [], ◌∷◌, ◌++◌}
use Prim.Native.Nat.{ℕ, zero, suc, ◌+◌, ◌*◌, ◌/◌, ◌%◌, ◌^◌, ◌≤◌, ◌<◌}
use native.Mathlib.Nat.{add-zero, zero-add, eq-or-lt_of_le, le_of_suc-le-suc}
use mathlib.Core.Logic.{◌⊎◌, inl, inr}
use native.Mathlib.Numerals.{add-one}
use native.Mathlib.Omega.{arith}
use lib.ListN.{length, get_or, set, replicate, get_or-replicate, length-append, length-set, get_or-eq_default, get_or-append}
use lib.Seq.{get_or-set_same, get_or-set_other, get_or_at, ext_get_or}
use lib.Dec.{leb, ltb, eqb}
use borrow.Author.Tests.{leb-true, le-leb, eqb-true, eqb-false, ltb-true, ltb-false}
use Rattle.definitions.specs.Limits.{account_limit, accounts_size, name_limit, byte_bits, detail_word, send_word, receive_word, two32}
use Rattle.definitions.proofs.Bools.{and_right}
use Rattle.definitions.specs.Fields.{Bytes}
use Rattle.definitions.specs.Accounts.{Row, no_row, row_of, no_accounts}
use Rattle.definitions.specs.Words.{lane_at, pack_at}
use Rattle.definitions.specs.AccountWords.{row_start, row_word, name_at, detail_at, length_at, set_length, account_in, row_at, rows_from, table_of, row_words, store_row}
use Rattle.definitions.proofs.Words.{pack-lane, put-at, put-length, put_other}

-- the rows of a table
pub rows-length : (w : List ℕ) (n k : ℕ) → length (rows_from w n k) ≡ k
unfolding rows_from
rows-length w n zero = refl
rows-length w n (suc k) = ap suc (rows-length w (n + 1) k)

pub rows_at : (w : List ℕ) (n k i : ℕ) → i < k → get_or (rows_from w n k) i no_row ≡ row_at w (n + i)
unfolding rows_from
rows_at w n zero i h = absurd (omega arith)
rows_at w n (suc k) zero h = rw add-zero
rows_at w n (suc k) (suc i) h =
    let e : n + 1 + i ≡ n + suc i = omega arith in
    rows_at w (n + 1) k i (omega arith) ∙ rw e

pub row-of : (w : List ℕ) (i : ℕ) → i < account_limit → row_of (table_of w) i ≡ row_at w i
row-of w i h = rows_at w 0 account_limit i h ∙ rw zero-add

-- a number above 63 has no row
pub row-above : (w : List ℕ) (i : ℕ) → account_limit ≤ i → row_of (table_of w) i ≡ no_row
row-above w i h = get_or-eq_default (table_of w) no_row (rw rows-length h)

-- the row of a stored length that is that of a set row, and of another
pub row-set : (w : List ℕ) (n : ℕ) → set_length (length_at w n) ≡ true → row_at w n ≡ record { name = name_at w (row_start n) (length_at w n); account = account_in w n }
unfolding row_at
row-set w n h = rw h

pub row-unset : (w : List ℕ) (n : ℕ) → set_length (length_at w n) ≡ false → row_at w n ≡ no_row
unfolding row_at
row-unset w n h = rw h

-- names
pub name-length : (w : List ℕ) (i n : ℕ) → length (name_at w i n) ≡ n
unfolding name_at
name-length w i zero = refl
name-length w i (suc n) = simp (length-append, name-length w i n, add-one)

snoc-at : (l : List ℕ) (b k n : ℕ) → length l ≡ n → (k ≡ n) ⊎ (k < n) → (f : ℕ → ℕ) → b ≡ f n → (k < n → get_or l k 0 ≡ f k)
    → get_or (l ++ (b ∷ [])) k 0 ≡ f k
snoc-at l b k n e (inl q) f h r = rw q (get_or_at l b [] 0 n e ∙ h)
snoc-at l b k n e (inr q) f h r = get_or-append l (b ∷ []) 0 k (rw e q) ∙ r q

pub name-byte : (w : List ℕ) (i n k : ℕ) → k < n → get_or (name_at w i n) k 0 ≡ lane_at byte_bits w i k
unfolding name_at
name-byte w i zero k h = absurd (omega arith)
name-byte w i (suc n) k h =
    snoc-at (name_at w i n) (lane_at byte_bits w i n) k n (name-length w i n) (eq-or-lt_of_le (le_of_suc-le-suc h)) (lane_at byte_bits w i) refl (name-byte w i n k)

pub store_length : (w : List ℕ) (n : ℕ) (x : Row) → length (store_row w n x) ≡ length w
unfolding store_row
store_length w n x = put-length (row_words x) w (row_start n)

-- two names of the same bytes
name-same : (w v : List ℕ) (i n : ℕ) → ((k : ℕ) → k < n → lane_at byte_bits w i k ≡ lane_at byte_bits v i k) → name_at w i n ≡ name_at v i n
unfolding name_at
name-same w v i zero h = refl
name-same w v i (suc n) h = rw (name-same w v i n (λ k l. h k (omega arith)), h n (omega arith))

-- the six words of a row that are set do not overlap another row
apart : (i n k : ℕ) → (i ≡ n → ⊥) → k < 6 → row_start n ≤ row_start i + k → row_start n + 6 ≤ row_start i + k
apart i n k d h l = by (eq-or-lt_of_le le)
  where
    le : n ≤ i
    le = omega arith

    by : (n ≡ i) ⊎ (n < i) → row_start n + 6 ≤ row_start i + k
    by (inl e) = absurd (d (sym e))
    by (inr q) = omega arith

-- what storing row n leaves of another row
module _ (w : List ℕ) (n i : ℕ) (x : Row) (d : i ≡ n → ⊥) where
  word_kept : (k : ℕ) → k < 6 → row_word (store_row w n x) i k ≡ row_word w i k
  unfolding store_row
  word_kept k h = put_other (row_words x) w (row_start n) (row_start i + k) (apart i n k d h)

  byte-kept : (k : ℕ) → k < name_limit → lane_at byte_bits (store_row w n x) (row_start i) k ≡ lane_at byte_bits w (row_start i) k
  unfolding lane_at
  byte-kept k h = rw (word_kept (k / 8) (omega arith))

  same_row : length_at (store_row w n x) i ≡ length_at w i → length_at w i ≤ name_limit
      → ◌≡◌ {A = Row} (record { name = name_at (store_row w n x) (row_start i) (length_at (store_row w n x) i); account = account_in (store_row w n x) i })
      (record { name = name_at w (row_start i) (length_at w i); account = account_in w i })
  same_row e l =
      let s : name_at (store_row w n x) (row_start i) (length_at w i) ≡ name_at w (row_start i) (length_at w i) =
      name-same (store_row w n x) w (row_start i) (length_at w i) (λ k r. byte-kept k (omega arith))
      in
      rw (e, s, word_kept detail_word (omega arith), word_kept send_word (omega arith), word_kept receive_word (omega arith))

  -- other rows stay
  pub row_kept : row_at (store_row w n x) i ≡ row_at w i
  row_kept =
      let e : detail_at (store_row w n x) i ≡ detail_at w i = word_kept detail_word (omega arith) in
      by (set_length (length_at w i)) refl (ap (λ (m : ℕ). m % 256) e)
    where
      by : (p : Bool) → set_length (length_at w i) ≡ p → length_at (store_row w n x) i ≡ length_at w i → row_at (store_row w n x) i ≡ row_at w i
      by false h e = row-unset (store_row w n x) i (rw e h) ∙ sym (row-unset w i h)
      by true h e =
          row-set (store_row w n x) i (rw e h) ∙ same_row e (leb-true (length_at w i) name_limit (and_right (leb 1 (length_at w i)) (leb (length_at w i) name_limit) h))
          ∙ sym (row-set w i h)

-- a row that an edit can store
pub record Storable (x : Row) : Type 0 where
  pub known : x.account.known ≡ true
  pub least : 1 ≤ length x.name
  pub most : length x.name ≤ name_limit
  pub bytes : Bytes x.name
  pub flags : x.account.flags < 256
  pub lifetime : x.account.lifetime < 2 ^ 32

-- what storing row n puts there
module _ (w : List ℕ) (n : ℕ) (x : Row) (l : length w ≡ accounts_size) (h : n < account_limit) (g : Storable x) where
  word-stored : (k : ℕ) → k < 6 → row_word (store_row w n x) n k ≡ get_or (row_words x) k 0
  unfolding store_row
  word-stored k r = put-at (row_words x) w (row_start n) k r (omega arith)

  packed-word : (j : ℕ) → j < 3 → get_or (row_words x) j 0 ≡ pack_at byte_bits x.name (8 * j) 8
  packed-word zero r = refl
  packed-word (suc zero) r = refl
  packed-word (suc (suc zero)) r = refl
  packed-word (suc (suc (suc j))) r = absurd (omega arith)

  byte-stored : (k : ℕ) → k < name_limit → lane_at byte_bits (store_row w n x) (row_start n) k ≡ get_or x.name k 0
  unfolding lane_at
  byte-stored k r =
      let e : 8 * (k / 8) + k % 8 ≡ k = omega arith in
      rw (word-stored (k / 8) (omega arith), packed-word (k / 8) (omega arith), pack-lane byte_bits x.name (λ i. omega (arith, g.bytes i)) (8 * (k / 8)) 8 (k % 8) (omega arith), e)

  length-stored : length_at (store_row w n x) n ≡ length x.name
  length-stored = rw (word-stored detail_word (omega arith)) (omega (arith, g.most))

  name-stored : name_at (store_row w n x) (row_start n) (length x.name) ≡ x.name
  name-stored =
      ext_get_or 0 (name_at (store_row w n x) (row_start n) (length x.name)) x.name (name-length (store_row w n x) (row_start n) (length x.name))
      (λ k r.
      let q : k < length x.name = rw (name-length (store_row w n x) (row_start n) (length x.name)) at r in
      name-byte (store_row w n x) (row_start n) (length x.name) k q ∙ byte-stored k (omega (arith, g.most)))

  flags-stored : detail_at (store_row w n x) n / 256 % 256 ≡ x.account.flags
  flags-stored = rw (word-stored detail_word (omega arith)) (omega (arith, g.most, g.flags))

  lifetime-stored : detail_at (store_row w n x) n / two32 % two32 ≡ x.account.lifetime
  lifetime-stored = rw (word-stored detail_word (omega arith)) (omega (arith, g.most, g.flags, g.lifetime))

  account-stored : account_in (store_row w n x) n ≡ x.account
  account-stored i =
      record {
        known = sym g.known i;
        flags = flags-stored i;
        send = word-stored send_word (omega arith) i;
        receive = word-stored receive_word (omega arith) i;
        lifetime = lifetime-stored i;
      }

  -- the row is read back
  pub row-stored : row_at (store_row w n x) n ≡ x
  row-stored =
      row-set (store_row w n x) n (rw (length-stored, le-leb 1 (length x.name) g.least, le-leb (length x.name) name_limit g.most))
      ∙ rw (length-stored, name-stored, account-stored)

  stored_at : (i : ℕ) (p : Bool) → eqb i n ≡ p → i < account_limit → row_at (store_row w n x) i ≡ get_or (set (table_of w) n x) i no_row
  stored_at i true e r =
      let q : i ≡ n = eqb-true i n e in
      rw q (row-stored ∙ sym (get_or-set_same (table_of w) n x no_row (rw rows-length h)))
  stored_at i false e r =
      row_kept w n i x (eqb-false i n e) ∙ sym (get_or-set_other (table_of w) n i x no_row (eqb-false i n e) ∙ row-of w i r)

  -- the table with the row
  pub table-stored : table_of (store_row w n x) ≡ set (table_of w) n x
  table-stored =
      ext_get_or no_row (table_of (store_row w n x)) (set (table_of w) n x) (rows-length (store_row w n x) 0 account_limit ∙ sym (length-set (table_of w) n x ∙ rows-length w 0 account_limit))
      (λ i r.
      let q : i < account_limit = rw rows-length at r in
      row-of (store_row w n x) i q ∙ stored_at i (eqb i n) refl q)

abbrev zeros : List ℕ
zeros = replicate accounts_size 0

none-at : (i : ℕ) → get_or zeros i 0 ≡ 0
none-at i = by (ltb i accounts_size) refl
  where
    by : (p : Bool) → ltb i accounts_size ≡ p → get_or zeros i 0 ≡ 0
    by true h = get_or-replicate accounts_size i 0 0 (ltb-true i accounts_size h)
    by false h = get_or-eq_default zeros 0 (ltb-false i accounts_size h)

rows_none : (n k : ℕ) → rows_from zeros n k ≡ replicate k no_row
unfolding rows_from
rows_none n zero = refl
rows_none n (suc k) = rw (row-unset zeros n (rw (none-at (row_start n + detail_word))), rows_none (n + 1) k)

-- words that are all 0 are a table without accounts
pub table_none : table_of (replicate accounts_size 0) ≡ no_accounts
table_none = rows_none 0 account_limit
