-- Laws of letter case left out of eight bytes at once: what a word's bytes keep, byte by byte, and so when two words match.
-- Assumes nothing.
use mathlib.Core.Path.{◌≡◌, refl, sym, ap, ◌∙◌}
use mathlib.Core.Bool.{Bool, true, false, ◌&&◌, cond}
use mathlib.Core.Logic.{⊎_elim}
use Prim.Native.Nat.{ℕ, zero, suc, ◌+◌, ◌*◌, ◌/◌, ◌%◌, ◌^◌, ◌<◌}
use native.Mathlib.Nat.{eq-or-lt_of_le, le_of_suc-le-suc, lt_of_le_of_lt, mul-suc, add_comm}
use native.Mathlib.Omega.{arith}
use lib.Bits.{bit_and, bit_xor, and_le_l, and_le_r, and_mod, and_zero_r, and_mask}
use lib.Dec.{eqb, lit<}
use lib.Pow.{shr-shr}
use borrow.Author.Tests.{eq-eqb, eqb-true}
use Rattle.definitions.specs.Limits.{byte_bits}
use Rattle.definitions.specs.Words.{lane_of}
use Rattle.definitions.specs.Names.{lower, words_match}
use Rattle.definitions.proofs.Bools.{and_left, and_right, same_test}
use Rattle.definitions.proofs.Words.{lane-small, lanes-same}
use Rattle.definitions.proofs.Names.{bytes-each, each-bytes}
use Rattle.rules.specs.LetterCase.{letter_bits, from_a, past_z, letters_in, keep_in, eight, keep_of, keep_byte}
use Rattle.rules.proofs.Lanes.{and-lane, xor-lane, add-lane, all-lane, all_most, all_either}

-- ---- One byte
-- all but 0x20 counts
is_letter : ℕ → Bool
is_letter c = eqb (keep_byte c) 0xDF

-- of a letter all but 0x20 is kept, of any other byte all; a letter is the capital one, which has not 0x20, with 0x20 added; and neither leaving 0x20
-- out nor taking the small letter makes a letter of what is none, or the reverse
byte_test : ℕ → Bool
byte_test c =
    eqb (keep_byte c) (cond (is_letter c) 0xDF 0xFF)
    && (eqb (lower c) (cond (is_letter c) (bit_and c 0xDF + 32) c) && (eqb (keep_byte (bit_and c 0xDF)) (keep_byte c) && eqb (keep_byte (lower c)) (keep_byte c)))

-- a test of each number below n, computed
abbrev below : (ℕ → Bool) → ℕ → Bool
below test zero = true
below test (suc n) = test n && below test n

below_each : (test : ℕ → Bool) (n : ℕ) → below test n ≡ true → (k : ℕ) → k < n → test k ≡ true
below_each test zero h k l = absurd (omega arith)
below_each test (suc n) h k l =
    ⊎_elim (λ (e : k ≡ n). ap test e ∙ and_left (test n) (below test n) h) (λ q. below_each test n (and_right (test n) (below test n) h) k q)
    (eq-or-lt_of_le (le_of_suc-le-suc l))

record ByteFacts (c : ℕ) : Type 0 where
  kept : keep_byte c ≡ cond (is_letter c) 0xDF 0xFF
  small : lower c ≡ cond (is_letter c) (bit_and c 0xDF + 32) c
  without : keep_byte (bit_and c 0xDF) ≡ keep_byte c
  folded : keep_byte (lower c) ≡ keep_byte c

all-bytes : below byte_test 256 ≡ true
unfolding byte_test is_letter lower keep_in letters_in
all-bytes = refl

byte_facts : (c : ℕ) → c < 256 → ByteFacts c
unfolding byte_test
byte_facts c l =
    let t = below_each byte_test 256 all-bytes c l in
    let u = and_right (eqb (keep_byte c) (cond (is_letter c) 0xDF 0xFF)) _ t in
    let v = and_right (eqb (lower c) (cond (is_letter c) (bit_and c 0xDF + 32) c)) _ u in
    record {
      kept = eqb-true _ _ (and_left _ _ t);
      small = eqb-true _ _ (and_left _ _ u);
      without = eqb-true _ _ (and_left _ _ v);
      folded = eqb-true _ _ (and_right (eqb (keep_byte (bit_and c 0xDF)) (keep_byte c)) _ v);
    }

letter-same : (c d : ℕ) → keep_byte c ≡ keep_byte d → is_letter c ≡ is_letter d
unfolding is_letter
letter-same c d e = ap (λ (x : ℕ). eqb x 0xDF) e

-- what is kept of two bytes beside the second is the same exactly where they match
module _ (c d : ℕ) (hc : c < 256) (hd : d < 256) where
  of_c : ByteFacts c
  of_c = byte_facts c hc

  of-d : ByteFacts d
  of-d = byte_facts d hd

  byte-told : bit_and c (keep_byte d) ≡ bit_and d (keep_byte d) → lower c ≡ lower d
  byte-told e = by (is_letter d) refl
    where
      by : (p : Bool) → is_letter d ≡ p → lower c ≡ lower d
      by true q =
          let x : bit_and c 0xDF ≡ bit_and d 0xDF = rw (of-d.kept, q) at e in
          let r = letter-same c d (sym of_c.without ∙ ap keep_byte x ∙ of-d.without) ∙ q in
          rw (of_c.small, of-d.small, r, q, x)
      by false q = ap lower (omega (arith, and_mask c 8, and_mask d 8, (rw (of-d.kept, q) at e)))

  byte-same : lower c ≡ lower d → bit_and c (keep_byte d) ≡ bit_and d (keep_byte d)
  byte-same e = by (is_letter d) refl
    where
      r : is_letter c ≡ is_letter d
      r = letter-same c d (sym of_c.folded ∙ ap keep_byte e ∙ of-d.folded)

      by : (p : Bool) → is_letter d ≡ p → bit_and c (keep_byte d) ≡ bit_and d (keep_byte d)
      by true q = rw (of-d.kept, q) (omega (arith, (rw (of_c.small, of-d.small, r, q) at e)))
      by false q = ap (λ (x : ℕ). bit_and x (keep_byte d)) (rw (of_c.small, of-d.small, r, q) at e)

-- ---- Its place in a word
-- a shift by which no bit leaves its byte
shift-lane : (x k : ℕ) → lane_of byte_bits x (suc k) % 4 ≡ 0 → lane_of byte_bits (x / 4) k ≡ lane_of byte_bits x k / 4
unfolding lane_of
shift-lane x k h =
    let y = x / 2 ^ (8 * k) in
    let a : x / 4 / 2 ^ (8 * k) ≡ y / 4 = shr-shr x 2 (8 * k) ∙ ap (λ (n : ℕ). x / 2 ^ n) (add_comm 2 (8 * k)) ∙ sym (shr-shr x (8 * k) 2) in
    let b : x / 2 ^ (8 * suc k) ≡ y / 256 = ap (λ (n : ℕ). x / 2 ^ n) (mul-suc 8 k) ∙ sym (shr-shr x (8 * k) 8) in
    rw a (omega (arith, (rw b at h)))

-- no mark of a letter has one of its two lowest bits
quads : (word k : ℕ) → lane_of byte_bits (letters_in eight word) k % 4 ≡ 0
unfolding letters_in
quads word k =
    let sums = bit_xor (bit_and word (eight letter_bits) + eight from_a) (bit_and word (eight letter_bits) + eight past_z) in
    let v = bit_and sums (bit_xor word (eight 0x80)) in
    let z : lane_of byte_bits (eight 0x80) k % 4 ≡ 0 = all_either byte_bits 0x80 (lit< tt) (λ (x : ℕ). x % 4 ≡ 0) refl refl 8 k in
    rw (and-lane byte_bits v (eight 0x80) k, and_mod (lane_of byte_bits v k) (lane_of byte_bits (eight 0x80) k) 2, z) (and_zero_r (lane_of byte_bits v k % 4))

module _ (word k : ℕ) where
  abbrev lettered : ℕ
  lettered = bit_and word (eight letter_bits)

  sum-stays : (c : ℕ) → letter_bits + c < 256 → (j : ℕ) → lane_of byte_bits lettered j + lane_of byte_bits (eight c) j < 2 ^ byte_bits
  sum-stays c l j =
      rw (and-lane byte_bits word (eight letter_bits) j)
      (omega (arith, and_le_r (lane_of byte_bits word j) (lane_of byte_bits (eight letter_bits) j), all_most byte_bits letter_bits (lit< tt) 8 j, all_most byte_bits c (omega arith) 8 j))

  module _ (h : k < 8) where
    sum-lane : (c : ℕ) → letter_bits + c < 256 → lane_of byte_bits (lettered + eight c) k ≡ bit_and (lane_of byte_bits word k) letter_bits + c
    sum-lane c l =
        add-lane byte_bits lettered (eight c) k (sum-stays c l)
        ∙ rw (and-lane byte_bits word (eight letter_bits) k, all-lane byte_bits letter_bits (lit< tt) 8 k h, all-lane byte_bits c (omega arith) 8 k h)

    letters-lane : lane_of byte_bits (letters_in eight word) k ≡ letters_in (λ number. number) (lane_of byte_bits word k)
    unfolding letters_in
    letters-lane =
        rw (
          and-lane,
          and-lane,
          xor-lane,
          xor-lane,
          sum-lane from_a (omega arith),
          sum-lane past_z (omega arith),
          all-lane byte_bits 0x80 (lit< tt) 8 k h,
        )

    -- the bits that count of a word are those of its bytes, each in its place
    keep-lane : lane_of byte_bits (keep_of word) k ≡ keep_byte (lane_of byte_bits word k)
    unfolding keep_in
    keep-lane =
        xor-lane byte_bits (letters_in eight word / 4) (eight 0xFF) k
        ∙ rw (shift-lane (letters_in eight word) k (quads word (suc k)), letters-lane, all-lane byte_bits 0xFF (lit< tt) 8 k h)

-- ---- Two words
module _ (a b : ℕ) (ha : a < 2 ^ 64) (hb : b < 2 ^ 64) where
  kept-lane : (word k : ℕ) → k < 8 → lane_of byte_bits (bit_and word (keep_of b)) k ≡ bit_and (lane_of byte_bits word k) (keep_byte (lane_of byte_bits b k))
  kept-lane word k h = and-lane byte_bits word (keep_of b) k ∙ ap (bit_and (lane_of byte_bits word k)) (keep-lane b k h)

  -- what the code compares is equal exactly where the words match
  pub kept-match : eqb (bit_and a (keep_of b)) (bit_and b (keep_of b)) ≡ words_match a b
  kept-match = same_test _ _ told same
    where
      told : eqb (bit_and a (keep_of b)) (bit_and b (keep_of b)) ≡ true → words_match a b ≡ true
      told e =
          each-bytes true a b
          (λ k h.
          byte-told (lane_of byte_bits a k) (lane_of byte_bits b k) (lane-small byte_bits a k) (lane-small byte_bits b k)
          (sym (kept-lane a k h) ∙ ap (λ (x : ℕ). lane_of byte_bits x k) (eqb-true _ _ e) ∙ kept-lane b k h))

      same : words_match a b ≡ true → eqb (bit_and a (keep_of b)) (bit_and b (keep_of b)) ≡ true
      same e =
          eq-eqb _ _
          (lanes-same byte_bits 8 (bit_and a (keep_of b)) (bit_and b (keep_of b)) (lt_of_le_of_lt (and_le_l a (keep_of b)) ha) (lt_of_le_of_lt (and_le_l b (keep_of b)) hb)
          (λ k h.
          kept-lane a k h
          ∙ byte-same (lane_of byte_bits a k) (lane_of byte_bits b k) (lane-small byte_bits a k) (lane-small byte_bits b k)
          (bytes-each true a b e k h)
          ∙ sym (kept-lane b k h)))
