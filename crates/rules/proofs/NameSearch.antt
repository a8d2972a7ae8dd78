-- Laws of the search for a name: row by row, and word by word.
-- Assumes nothing.
use mathlib.Core.Path.{◌≡◌, refl, sym, ap, ◌∙◌}
use mathlib.Core.Bool.{Bool, true, false, not, ◌&&◌, cond, false≢true}
use mathlib.Core.List.{List}
use Prim.Native.Nat.{ℕ, zero, suc, ◌+◌, ◌-◌, ◌*◌, ◌/◌, ◌%◌, ◌^◌, ◌≤◌, ◌<◌, min}
use native.Mathlib.Nat.{add-zero, mul-zero, mul-suc, div-one, mod-eq_of_lt}
use native.Mathlib.Omega.{arith}
use lib.ListN.{length, get_or}
use lib.Seq.{ext_get_or}
use lib.Bits.{bit_and, and_zero_r, and_mask}
use lib.Pow.{shr-shr, high}
use lib.Dec.{leb, eqb, ltb, lit<}
use borrow.Author.Tests.{eq-eqb, ne_eqb, eqb-true, leb-true, ltb-true, ltb-false}
use Rattle.definitions.specs.Limits.{account_limit, name_limit, byte_bits}
use Rattle.definitions.proofs.Bools.{and_left, and_right, same_test}
use Rattle.definitions.proofs.Names.{agree-each, each-agree, bytes-each, each-bytes}
use Rattle.definitions.specs.Fields.{Bytes}
use Rattle.definitions.specs.Accounts.{row_of}
use Rattle.definitions.specs.AccountWords.{row_start, length_at, name_at, set_length, row_at, rows_from, table_of}
use Rattle.definitions.specs.Words.{lane_of, lane_at, pack_at}
use Rattle.definitions.specs.Names.{name_of, good_name, good_bytes, folded, agree, same_name, matches, number_from, find_name, name_taken}
use Rattle.definitions.specs.declared.account.Name.{Name}
use Rattle.rules.specs.Lanes.{all_lanes}
use Rattle.std.specs.List.{find, range_with_len}
use Rattle.std.specs.Prelude.{Option, Some, None, is_some, unwrap_or}
use Rattle.rules.specs.NameSearch.{first_bytes, words_of, bytes_of, words_agree, cut_word, has_name, is_other, first_match}
use Rattle.definitions.proofs.AccountWords.{row-of, row-set, row-unset, name-length, name-byte}
use Rattle.definitions.proofs.Words.{pack-lane, lane-small, lanes-same}
use Rattle.rules.proofs.Lanes.{and-lane, all-lane, all_past}

-- what holds of each of a name's three words
three : (P : ℕ → Type 0) → P 0 → P 1 → P 2 → (k : ℕ) → k < 3 → P k
three P a b c zero h = a
three P a b c (suc zero) h = b
three P a b c (suc (suc zero)) h = c
three P a b c (suc (suc (suc k))) h = absurd (omega arith)

-- a length that a name has is at most 24, and not 0
pub set-most : (n : ℕ) → set_length n ≡ true → n ≤ name_limit
set-most n h = leb-true n name_limit (and_right (leb 1 n) (leb n name_limit) h)

-- and a good name has such a length
pub good-set : (s : List ℕ) → good_name s ≡ true → set_length (length s) ≡ true
unfolding good_name
good-set s h =
    let l = leb (length s) name_limit in
    rw (and_left (leb 1 (length s)) (l && good_bytes s (length s)) h, and_left l (good_bytes s (length s)) (and_right (leb 1 (length s)) (l && good_bytes s (length s)) h))

pub set-least : (n : ℕ) → set_length n ≡ true → 0 < n
set-least n h = leb-true 1 n (and_left (leb 1 n) (leb n name_limit) h)

-- ---- Words cut to a name's length
-- the first bytes of a word, by a shift of all eight
all-shift : (w c n k : ℕ) → c < 2 ^ w → all_lanes w (n + k) c / 2 ^ (w * k) ≡ all_lanes w n c
unfolding all_lanes
all-shift w c n zero h = rw (add-zero, mul-zero, div-one)
all-shift w c n (suc k) h =
    let e : n + suc k ≡ suc (n + k) = omega arith in
    let f : w * suc k ≡ w + w * k = omega (arith, mul-suc w k) in
    rw (e, f, ← shr-shr (all_lanes w (n + k) c * 2 ^ w + c) w (w * k), high (all_lanes w (n + k) c) w h) (all-shift w c n k h)

pub bytes_shifted : (n : ℕ) → 0xFFFFFFFFFFFFFFFF / 2 ^ (8 * (8 - n)) ≡ first_bytes n
unfolding all_lanes
bytes_shifted n =
    let m = min n 8 in
    let f : 8 * (8 - n) ≡ 8 * (8 - m) = omega arith in
    let g : m + (8 - m) ≡ 8 = omega arith in
    rw f (rw g at (all-shift byte_bits 0xFF m (8 - m) (lit< tt)))

-- a byte of a cut word: that of the word as far as the name goes, 0 behind it
module _ (m x p : ℕ) where
  cut_in : p < m → lane_of byte_bits (bit_and x (all_lanes byte_bits m 0xFF)) p ≡ lane_of byte_bits x p
  cut_in h =
      and-lane byte_bits x (all_lanes byte_bits m 0xFF) p
      ∙ rw (all-lane byte_bits 0xFF (lit< tt) m p h) (and_mask (lane_of byte_bits x p) 8 ∙ mod-eq_of_lt (lane-small byte_bits x p))

  cut_out : m ≤ p → lane_of byte_bits (bit_and x (all_lanes byte_bits m 0xFF)) p ≡ 0
  cut_out h = and-lane byte_bits x (all_lanes byte_bits m 0xFF) p ∙ rw (all_past byte_bits 0xFF (lit< tt) m p h) (and_zero_r (lane_of byte_bits x p))

-- byte for byte they agree where the words are equal
pub words-equal : (x y : ℕ) → x < 2 ^ 64 → y < 2 ^ 64 → eqb x y ≡ words_agree false x y
words-equal x y a b =
    same_test (eqb x y) (words_agree false x y) (λ e. each-bytes false x y (λ p l. ap (λ (z : ℕ). lane_of byte_bits z p) (eqb-true x y e)))
    (λ e. eq-eqb x y (lanes-same byte_bits 8 x y a b (bytes-each false x y e)))

-- past a name's end no byte is left to tell words apart
pub word-past : (f : Bool) (n k x y : ℕ) → n ≤ 8 * k → words_agree f (cut_word n k x) (cut_word n k y) ≡ true
word-past f n k x y h =
    each-bytes f (cut_word n k x) (cut_word n k y)
    (λ p l. let m : min (n - 8 * k) 8 ≤ p = omega arith in rw (cut_out (min (n - 8 * k) 8) x p m, cut_out (min (n - 8 * k) 8) y p m))

-- ---- Two names, the first in some words, the second in others
module _ (f : Bool) (w v : List ℕ) (i j n : ℕ) where
  -- word k of both, cut to the names' length, agree
  abbrev pub word_of : ℕ → Bool
  word_of k = words_agree f (cut_word n k (get_or w (i + k) 0)) (cut_word n k (get_or v (j + k) 0))

  -- byte p of word k, in its place
  lane_in : (u : List ℕ) (a k p : ℕ) → p < 8 → lane_at byte_bits u a (8 * k + p) ≡ lane_of byte_bits (get_or u (a + k) 0) p
  unfolding lane_at
  lane_in u a k p h =
      let d : (8 * k + p) / 8 ≡ k = omega arith in
      let r : (8 * k + p) % 8 ≡ p = omega arith in
      rw (d, r)

  name-words : agree f (name_at w i n) (name_at v j n) n ≡ true → (k : ℕ) → word_of k ≡ true
  name-words h k = each-bytes f (cut_word n k (get_or w (i + k) 0)) (cut_word n k (get_or v (j + k) 0)) (λ p l. by p l (ltb p (min (n - 8 * k) 8)) refl)
    where
      by : (p : ℕ) → p < 8 → (t : Bool) → ltb p (min (n - 8 * k) 8) ≡ t
          → folded f (lane_of byte_bits (cut_word n k (get_or w (i + k) 0)) p) ≡ folded f (lane_of byte_bits (cut_word n k (get_or v (j + k) 0)) p)
      by p l true e =
          let m = ltb-true p (min (n - 8 * k) 8) e in
          let q : 8 * k + p < n = omega arith in
          let s = agree-each f (name_at w i n) (name_at v j n) n h (8 * k + p) q in
          rw (cut_in (min (n - 8 * k) 8) (get_or w (i + k) 0) p m, cut_in (min (n - 8 * k) 8) (get_or v (j + k) 0) p m, ← lane_in w i k p l, ← lane_in v j k p l)
          (rw (name-byte w i n (8 * k + p) q, name-byte v j n (8 * k + p) q) at s)
      by p l false e =
          let m = ltb-false p (min (n - 8 * k) 8) e in
          rw (cut_out (min (n - 8 * k) 8) (get_or w (i + k) 0) p m, cut_out (min (n - 8 * k) 8) (get_or v (j + k) 0) p m)

  words-name : n ≤ name_limit → ((k : ℕ) → k < 3 → word_of k ≡ true) → agree f (name_at w i n) (name_at v j n) n ≡ true
  words-name b h = each-agree f (name_at w i n) (name_at v j n) n each
    where
      each : (q : ℕ) → q < n → folded f (get_or (name_at w i n) q 0) ≡ folded f (get_or (name_at v j n) q 0)
      each q l =
          let k = q / 8 in
          let p = q % 8 in
          let e : 8 * k + p ≡ q = omega arith in
          let m : p < min (n - 8 * k) 8 = omega arith in
          let s = bytes-each f (cut_word n k (get_or w (i + k) 0)) (cut_word n k (get_or v (j + k) 0)) (h k (omega arith)) p (omega arith) in
          let t = rw (cut_in (min (n - 8 * k) 8) (get_or w (i + k) 0) p m, cut_in (min (n - 8 * k) 8) (get_or v (j + k) 0) p m, ← lane_in w i k p (omega arith), ← lane_in v j k p (omega arith), e) at s in
          rw (name-byte w i n q l, name-byte v j n q l) t

  -- the bytes of names agree where their three words do
  pub name-by-words : set_length n ≡ true → agree f (name_at w i n) (name_at v j n) n ≡ (word_of 2 && (word_of 1 && word_of 0))
  name-by-words g =
      same_test (agree f (name_at w i n) (name_at v j n) n) (word_of 2 && (word_of 1 && word_of 0)) (λ h. rw (name-words h 2, name-words h 1, name-words h 0))
      (λ h.
      let t = and_right (word_of 2) (word_of 1 && word_of 0) h in
      words-name (set-most n g) (three (λ (k : ℕ). word_of k ≡ true) (and_right (word_of 1) (word_of 0) t) (and_left (word_of 1) (word_of 0) t) (and_left (word_of 2) (word_of 1 && word_of 0) h)))

-- ---- A row and a name
-- a row is set where its length is that of a name
pub known-set : (w : List ℕ) (n : ℕ) → n < account_limit → (row_of (table_of w) n).account.known ≡ set_length (length_at w n)
known-set w n l = rw (row-of w n l) (by (set_length (length_at w n)) refl)
  where
    by : (p : Bool) → set_length (length_at w n) ≡ p → (row_at w n).account.known ≡ p
    by true q = rw (row-set w n q)
    by false q = rw (row-unset w n q)

-- the table has the row of the words
pub has-row : (w : List ℕ) (n : ℕ) (f : Bool) (s : List ℕ) → n < account_limit
    → has_name w n f s ≡ ((row_of (table_of w) n).account.known && same_name f (row_of (table_of w) n).name s)
has-row w n f s l = rw (row-of w n l)

-- another length, or one that no row that is set has
row_other : (w : List ℕ) (n : ℕ) (f : Bool) (s : List ℕ) → (set_length (length_at w n) ≡ true → length_at w n ≡ length s → ⊥)
    → ((row_at w n).account.known && same_name f (row_at w n).name s) ≡ false
unfolding same_name
row_other w n f s d = by (set_length (length_at w n)) refl
  where
    by : (p : Bool) → set_length (length_at w n) ≡ p
        → ((row_at w n).account.known && (eqb (length (row_at w n).name) (length s) && agree f (row_at w n).name s (length (row_at w n).name))) ≡ false
    by true q = rw (row-set w n q, name-length, ne_eqb (length_at w n) (length s) (d q))
    by false q = rw (row-unset w n q)

module _ (w : List ℕ) (n : ℕ) (f : Bool) (m : Name) where
  pub length-apart : (length_at w n ≡ m.length → ⊥) → has_name w n f (bytes_of m) ≡ false
  length-apart d = row_other w n f (bytes_of m) (λ q e. d (e ∙ name-length (words_of m) 0 m.length))

  -- the bytes decide
  pub named-bytes : set_length m.length ≡ true → length_at w n ≡ m.length → has_name w n f (bytes_of m) ≡ agree f (name_at w (row_start n) m.length) (bytes_of m) m.length
  unfolding same_name
  named-bytes h e = rw (row-set w n (rw e h), name-length, name-length, eq-eqb (length_at w n) m.length e, e)

-- ---- The search
-- the first row that matches, from a number on, is the account that a name stands for
found_from : (w s : List ℕ) (i n : ℕ) → unwrap_or (find (λ k. matches (row_at w k) s && is_other None k) (range_with_len i n)) (i + n) ≡ number_from i (rows_from w i n) s
unfolding rows_from number_from
found_from w s i zero = omega arith
found_from w s i (suc n) = by (matches (row_at w i) s) _ _ (found_from w s (i + 1) n)
  where
    by : (p : Bool) (r : Option ℕ) (m : ℕ) → unwrap_or r (i + 1 + n) ≡ m → unwrap_or (cond (p && true) (Some i) r) (i + suc n) ≡ cond p i m
    by true r m h = refl
    by false r m h = let e : i + suc n ≡ i + 1 + n = omega arith in rw e h

pub first_found : (w s : List ℕ) → unwrap_or (first_match w s None) account_limit ≡ find_name (table_of w) s
first_found w s = found_from w s 0 account_limit

-- another account has the name where some other row matches
taken_from : (w s : List ℕ) (number i n : ℕ) → is_some (find (λ k. matches (row_at w k) s && is_other (Some number) k) (range_with_len i n)) ≡ name_taken number i (rows_from w i n) s
unfolding rows_from name_taken
taken_from w s number i zero = refl
taken_from w s number i (suc n) = by (matches (row_at w i) s) (not (eqb i number)) _ _ (taken_from w s number (i + 1) n)
  where
    by : (p q : Bool) (r : Option ℕ) (m : Bool) → is_some r ≡ m → is_some (cond (p && q) (Some i) r) ≡ cond (q && p) true m
    by true true r m h = refl
    by true false r m h = h
    by false true r m h = h
    by false false r m h = h

pub first_taken : (w s : List ℕ) (number : ℕ) → is_some (first_match w s (Some number)) ≡ name_taken number 0 (table_of w) s
first_taken w s number = taken_from w s number 0 account_limit

-- ---- The bytes of a packed name
packed_byte : (s : List ℕ) (k : ℕ) → Bytes s → k < name_limit → lane_at byte_bits (words_of (name_of s)) 0 k ≡ get_or s k 0
unfolding lane_at
packed_byte s k b h =
    let e : 8 * (k / 8) + k % 8 ≡ k = omega arith in
    let p = three (λ (j : ℕ). get_or (words_of (name_of s)) (0 + j) 0 ≡ pack_at byte_bits s (8 * j) 8) refl refl refl (k / 8) (omega arith) in
    rw (p, pack-lane byte_bits s (λ i. omega (arith, b i)) (8 * (k / 8)) 8 (k % 8) (omega arith), e)

pub bytes_packed : (s : List ℕ) → Bytes s → length s ≤ name_limit → bytes_of (name_of s) ≡ s
bytes_packed s b h =
    ext_get_or 0 (bytes_of (name_of s)) s (name-length (words_of (name_of s)) 0 (length s))
    (λ k r.
    let q : k < length s = rw (name-length (words_of (name_of s)) 0 (length s)) at r in
    name-byte (words_of (name_of s)) 0 (length s) k q ∙ packed_byte s k b (omega arith))

-- a length that no name has is found nowhere
none_found : (w : List ℕ) (n k : ℕ) (s : List ℕ) → set_length (length s) ≡ false → number_from n (rows_from w n k) s ≡ n + k
unfolding rows_from number_from
none_found w n zero s h = omega arith
none_found w n (suc k) s h =
    let e : n + 1 + k ≡ n + suc k = omega arith in
    rw (row_other w n true s (λ q g. false≢true (sym h ∙ ap set_length (sym g) ∙ q)), none_found w (n + 1) k s h, e)

pub length_none : (w : List ℕ) (m : Name) → set_length m.length ≡ false → find_name (table_of w) (bytes_of m) ≡ account_limit
length_none w m h = none_found w 0 account_limit (bytes_of m) (rw name-length h)

-- the account that a name stands for, of its words
pub find-packed : (w s : List ℕ) → Bytes s → find_name (table_of w) (bytes_of (name_of s)) ≡ find_name (table_of w) s
find-packed w s b = by (set_length (length s)) refl
  where
    by : (p : Bool) → set_length (length s) ≡ p → find_name (table_of w) (bytes_of (name_of s)) ≡ find_name (table_of w) s
    by true q = ap (find_name (table_of w)) (bytes_packed s b (set-most (length s) q))
    by false q = length_none w (name_of s) q ∙ sym (none_found w 0 account_limit s q)
