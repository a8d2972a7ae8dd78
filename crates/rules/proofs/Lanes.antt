-- Laws of all lanes of a word: and, or, xor and sums that stay in their lanes go lane by lane, and a word whose marks are full has no lane with
-- the number.
-- Assumes nothing.
use mathlib.Core.Path.{◌≡◌, refl, sym, ap, ap₂, ◌∙◌}
use mathlib.Core.Bool.{Bool, true, false}
use Prim.Native.Nat.{ℕ, zero, suc, ◌+◌, ◌-◌, ◌*◌, ◌/◌, ◌%◌, ◌^◌, ◌≤◌, ◌<◌}
use native.Mathlib.Nat.{zero-add, add-mul, pow-suc, mod_self, zero-div, zero-mod}
use native.Mathlib.Omega.{arith}
use lib.Bits.{bit_and, bit_or, bit_xor, and_shr, and_mod, or_shr, or_mod, xor_shr, xor_mod, xor_self, and_zero_l, or_zero_r, and_le_r, and_mask}
use lib.Dec.{ltb}
use lib.Pow.{pow_pos, split}
use borrow.Author.Tests.{ltb-true, ltb-false}
use Rattle.definitions.specs.Words.{lane_of}
use Rattle.definitions.proofs.Words.{lane_first, lane-next, block-first, block-next}
use Rattle.rules.specs.Lanes.{all_lanes, top_bits, low_bits, filled_marks}

-- operations on bits go lane by lane
pub and-lane : (w x y k : ℕ) → lane_of w (bit_and x y) k ≡ bit_and (lane_of w x k) (lane_of w y k)
unfolding lane_of
and-lane w x y k = ap (λ (z : ℕ). z % 2 ^ w) (and_shr x y (w * k)) ∙ and_mod (x / 2 ^ (w * k)) (y / 2 ^ (w * k)) w

or-lane : (w x y k : ℕ) → lane_of w (bit_or x y) k ≡ bit_or (lane_of w x k) (lane_of w y k)
unfolding lane_of
or-lane w x y k = ap (λ (z : ℕ). z % 2 ^ w) (or_shr x y (w * k)) ∙ or_mod (x / 2 ^ (w * k)) (y / 2 ^ (w * k)) w

pub xor-lane : (w x y k : ℕ) → lane_of w (bit_xor x y) k ≡ bit_xor (lane_of w x k) (lane_of w y k)
unfolding lane_of
xor-lane w x y k = ap (λ (z : ℕ). z % 2 ^ w) (xor_shr x y (w * k)) ∙ xor_mod (x / 2 ^ (w * k)) (y / 2 ^ (w * k)) w

-- and so do sums that stay in their lanes
sum-split : (w x y : ℕ) → x + y ≡ (x / 2 ^ w + y / 2 ^ w) * 2 ^ w + (x % 2 ^ w + y % 2 ^ w)
sum-split w x y = rw (add-mul (x / 2 ^ w) (y / 2 ^ w) (2 ^ w)) (omega (arith, split x w, split y w))

pub add-lane : (w x y k : ℕ) → ((j : ℕ) → lane_of w x j + lane_of w y j < 2 ^ w) → lane_of w (x + y) k ≡ lane_of w x k + lane_of w y k
add-lane w x y zero h =
    ap (λ (z : ℕ). lane_of w z 0) (sum-split w x y) ∙ block-first w (x / 2 ^ w + y / 2 ^ w) (x % 2 ^ w + y % 2 ^ w) (rw (lane_first, lane_first) at (h 0))
    ∙ sym (ap₂ ◌+◌ (lane_first w x) (lane_first w y))
add-lane w x y (suc k) h =
    ap (λ (z : ℕ). lane_of w z (suc k)) (sum-split w x y)
    ∙ block-next w (x / 2 ^ w + y / 2 ^ w) (x % 2 ^ w + y % 2 ^ w) k (rw (lane_first, lane_first) at (h 0))
    ∙ add-lane w (x / 2 ^ w) (y / 2 ^ w) k (λ j. rw (lane-next w x j, lane-next w y j) at (h (suc j)))
    ∙ sym (ap₂ ◌+◌ (lane-next w x k) (lane-next w y k))

none-lane : (w k : ℕ) → lane_of w 0 k ≡ 0
unfolding lane_of
none-lane w k = rw (zero-div, zero-mod)

-- the lanes that all have one number
module _ (w c : ℕ) (b : c < 2 ^ w) where
  pub all-lane : (n k : ℕ) → k < n → lane_of w (all_lanes w n c) k ≡ c
  unfolding all_lanes
  all-lane zero k h = absurd (omega arith)
  all-lane (suc n) zero h = block-first w (all_lanes w n c) c b
  all-lane (suc n) (suc k) h = block-next w (all_lanes w n c) c k b ∙ all-lane n k (omega arith)

  pub all_past : (n k : ℕ) → n ≤ k → lane_of w (all_lanes w n c) k ≡ 0
  unfolding all_lanes
  all_past zero k h = none-lane w k
  all_past (suc n) zero h = absurd (omega arith)
  all_past (suc n) (suc k) h = block-next w (all_lanes w n c) c k b ∙ all_past n k (omega arith)

  -- a lane is that number, or 0
  pub all_either : (P : ℕ → Type 0) → P c → P 0 → (n k : ℕ) → P (lane_of w (all_lanes w n c) k)
  all_either P p z n k = by (ltb k n) refl
    where
      by : (t : Bool) → ltb k n ≡ t → P (lane_of w (all_lanes w n c) k)
      by true e = rw (all-lane n k (ltb-true k n e)) p
      by false e = rw (all_past n k (ltb-false k n e)) z

  pub all_most : (n k : ℕ) → lane_of w (all_lanes w n c) k ≤ c
  all_most = all_either (λ (x : ℕ). x ≤ c) (omega arith) (omega arith)

-- where a lane is 0, its top bit is clear in the marks
module _ (m n x k : ℕ) (h : k < n) where
  low_small : 2 ^ m - 1 < 2 ^ suc m
  low_small = omega (arith, pow-suc 2 m, pow_pos m)

  stays : (j : ℕ) → lane_of (suc m) (bit_and x (low_bits m n)) j + lane_of (suc m) (low_bits m n) j < 2 ^ suc m
  stays j =
      let l : lane_of (suc m) (low_bits m n) j ≤ 2 ^ m - 1 = all_most (suc m) (2 ^ m - 1) low_small n j in
      rw and-lane (omega (arith, pow-suc 2 m, pow_pos m, and_le_r (lane_of (suc m) x j) (lane_of (suc m) (low_bits m n) j)))

  mark-clear : lane_of (suc m) x k ≡ 0 → lane_of (suc m) (filled_marks m n x) k ≡ 2 ^ m - 1
  unfolding filled_marks
  mark-clear z =
      or-lane (suc m) (bit_and x (low_bits m n) + low_bits m n) x k
      ∙ rw (add-lane (suc m) (bit_and x (low_bits m n)) (low_bits m n) k stays, and-lane, z, and_zero_l, zero-add, or_zero_r) (all-lane (suc m) (2 ^ m - 1) low_small n k h)

  -- a word whose marks have every top bit has no lane that is 0
  lanes-filled : bit_and (top_bits m n) (filled_marks m n x) ≡ top_bits m n → lane_of (suc m) x k ≡ 0 → ⊥
  lanes-filled e z =
      let t : 2 ^ m < 2 ^ suc m = omega (arith, pow-suc 2 m, pow_pos m) in
      let p = and-lane (suc m) (top_bits m n) (filled_marks m n x) k in
      let q = rw (mark-clear z, all-lane (suc m) (2 ^ m) t n k h, and_mask (2 ^ m) m, mod_self (2 ^ m)) at p in
      omega (arith, pow_pos m, q, ap (λ (y : ℕ). lane_of (suc m) y k) e, all-lane (suc m) (2 ^ m) t n k h)

-- a word of which no lane has a number: the marks of what tells it from the word with that number in all lanes
pub lanes-other : (m n x v k : ℕ) → v < 2 ^ suc m → k < n
    → bit_and (top_bits m n) (filled_marks m n (bit_xor x (all_lanes (suc m) n v))) ≡ top_bits m n → lane_of (suc m) x k ≡ v → ⊥
lanes-other m n x v k b h e q =
    lanes-filled m n (bit_xor x (all_lanes (suc m) n v)) k h e
    (xor-lane (suc m) x (all_lanes (suc m) n v) k ∙ rw (q, all-lane (suc m) v b n k h) (xor_self v))
