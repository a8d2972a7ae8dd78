-- Laws of bytes that are copied as a whole: into an output, and into the bytes of a machine number.
-- Assumes nothing.
use mathlib.Core.Path.{◌≡◌, refl, sym, ap, ◌∙◌}
use mathlib.Core.List.{List, [], ◌∷◌, ◌++◌}
use Prim.Native.Nat.{ℕ, zero, suc, ◌+◌, ◌-◌, ◌≤◌, ◌<◌}
use native.Mathlib.Omega.{arith}
use lib.ListN.{length, take, drop, get_or, replicate, length-take, length-drop, length-append, length-replicate}
use Rattle.std.proofs.lemmas.List.{get_or-take, get_or-drop, drop-replicate}
use Rattle.definitions.proofs.Words.{pack-rest}
use lib.Seq.{take-length}
use native.Mathlib.Nat.{add-sub_cancel_left, zero-lt-suc, add-zero, zero-add}
use Prim.Native.Nat.{◌/◌}
use Rattle.definitions.specs.Limits.{byte_bits}
use Rattle.definitions.specs.Words.{pack_at}
use Rattle.definitions.proofs.Fields.{run_take, length_run, bytes-append, bytes_run, bytes-zeros}
use borrow.Rule.Slice.PartMut.{put_mid}
use Rattle.std.proofs.lemmas.Slice.{put_mid-paste}
use Rattle.std.proofs.lemmas.List.Edits.{sets-eq}
use Rattle.definitions.specs.Words.{lanes_of}
use Rattle.definitions.specs.Fields.{Bytes}
use Rattle.definitions.specs.TicketRecords.{trail_of}
use Rattle.definitions.proofs.Words.{lanes-packed}
use Rattle.std.specs.Int.{w32, w64, to_le_bytes, to_be_bytes, from_be_bytes, from_le_bytes}
use Rattle.definitions.specs.Fields.{number_at, big_endian, run}
use Rattle.record.specs.Cursor.{Wrote}

-- what is copied over a part of an output is put there
pub wrote-part : (o vs ys : List ℕ) (i n : ℕ) → ys ≡ vs → length vs ≡ n → i + n ≤ length o → Wrote o i vs (put_mid i (i + n - i) o ys) (i + n)
wrote-part o vs ys i n e h l =
    let q : i + length vs ≤ length o = omega arith in
    record {
      put = put_mid-paste i (i + n - i) o ys vs (length vs) e (omega arith) refl ∙ rw take-length (sym (sets-eq vs o i q));
      past = omega arith;
    }

-- the last bytes of a number, big-endian
pub last-bytes : (n w : ℕ) → w ≤ 4 → take (4 - (4 - w)) (drop (4 - w) (to_be_bytes w32 n)) ≡ big_endian w n
unfolding big_endian
last-bytes n zero h = refl
last-bytes n (suc zero) h = refl
last-bytes n (suc (suc zero)) h = refl
last-bytes n (suc (suc (suc zero))) h = let e : n / 256 / 256 ≡ n / 65536 = omega arith in rw e
last-bytes n (suc (suc (suc (suc zero)))) h =
    let e : n / 256 / 256 ≡ n / 65536 = omega arith in
    let f : n / 65536 / 256 ≡ n / 16777216 = omega arith in
    rw (e, f)
last-bytes n (suc (suc (suc (suc (suc w))))) h = absurd (omega arith)

-- so many bytes, read behind zeros, are their big-endian number
pub number-copied : (s ys : List ℕ) (i w : ℕ) → w ≤ 4 → i + w ≤ length s → ys ≡ take (i + w - i) (drop i s)
    → from_be_bytes w32 (put_mid (4 - w) (4 - (4 - w)) (0 ∷ 0 ∷ 0 ∷ 0 ∷ []) ys) ≡ number_at s i w
unfolding number_at run
number-copied s ys i w h l e =
    let f : ys ≡ run s i w = e ∙ ap (λ (n : ℕ). take n (drop i s)) (add-sub_cancel_left i w) ∙ sym (run_take s i w l) in
    rw f (by w h)
  where
    by : (w : ℕ) → w ≤ 4 → from_be_bytes w32 (put_mid (4 - w) (4 - (4 - w)) (0 ∷ 0 ∷ 0 ∷ 0 ∷ []) (run s i w)) ≡ number_at s i w
    by zero h = refl
    by (suc zero) h = omega arith
    by (suc (suc zero)) h = omega arith
    by (suc (suc (suc zero))) h = omega arith
    by (suc (suc (suc (suc zero)))) h = omega arith
    by (suc (suc (suc (suc (suc w))))) h = absurd (omega arith)

-- the entries of two lists that agree give the same word
pack-agree : (w : ℕ) (xs ys : List ℕ) (i j n : ℕ) → ((k : ℕ) → k < n → get_or xs (i + k) 0 ≡ get_or ys (j + k) 0) → pack_at w xs i n ≡ pack_at w ys j n
unfolding pack_at
pack-agree w xs ys i j zero h = refl
pack-agree w xs ys i j (suc n) h =
    let e : get_or xs i 0 ≡ get_or ys j 0 = simp add-zero at (h 0 (zero-lt-suc n)) in
    rw (e, pack-agree w xs ys (i + 1) (j + 1) n (λ k l. let p : i + 1 + k ≡ i + suc k = omega arith in let q : j + 1 + k ≡ j + suc k = omega arith in rw (p, q) (h (suc k) (omega arith))))

zeros : (m k : ℕ) → ◌≡◌ {A = ℕ} (get_or (replicate m 0) k 0) 0
zeros zero k = refl
zeros (suc m) zero = refl
zeros (suc m) (suc k) = zeros m k

before-zeros : (xs : List ℕ) (m k : ℕ) → get_or (xs ++ replicate m 0) k 0 ≡ get_or xs k 0
before-zeros [] m k = zeros m k
before-zeros (x ∷ xs) m zero = refl
before-zeros (x ∷ xs) m (suc k) = before-zeros xs m k

-- eight bytes, the first lowest
pub word_eight : (xs : List ℕ) → from_le_bytes w64 xs ≡ pack_at byte_bits xs 0 8
unfolding pack_at
word_eight xs = omega arith

-- so many bytes, read before zeros, are the word of their numbers
pub word-copied : (s ys : List ℕ) (i n : ℕ) → n ≤ 8 → i + n ≤ length s → ys ≡ take (i + n - i) (drop i s)
    → from_le_bytes w64 (ys ++ drop n (0 ∷ 0 ∷ 0 ∷ 0 ∷ 0 ∷ 0 ∷ 0 ∷ 0 ∷ [])) ≡ pack_at byte_bits s i n
word-copied s ys i n h l e =
    let f : ys ≡ take n (drop i s) = e ∙ ap (λ (n : ℕ). take n (drop i s)) (add-sub_cancel_left i n) in
    let g : length (take n (drop i s)) ≤ 0 + n = simp length-take (omega arith) in
    let z : drop {A = ℕ} n (0 ∷ 0 ∷ 0 ∷ 0 ∷ 0 ∷ 0 ∷ 0 ∷ 0 ∷ []) ≡ replicate (8 - n) 0 = drop-replicate n 8 0 in
    rw (f, z)
    (word_eight (take n (drop i s) ++ replicate (8 - n) 0)
    ∙ pack-agree byte_bits (take n (drop i s) ++ replicate (8 - n) 0) (take n (drop i s)) 0 0 8 (λ k m. before-zeros (take n (drop i s)) (8 - n) (0 + k))
    ∙ sym (pack-rest byte_bits (take n (drop i s)) 0 n 8 g h)
    ∙ pack-agree byte_bits (take n (drop i s)) s 0 i n (λ k m. rw zero-add (get_or-take n (drop i s) k 0 m ∙ get_or-drop i s k 0)))

-- the bytes of a word, the lowest first
word-bytes : (x : ℕ) → to_le_bytes w64 x ≡ lanes_of byte_bits x 8
unfolding lanes_of
word-bytes x =
    let e : x / 256 / 256 ≡ x / 65536 = omega arith in
    let f : x / 65536 / 256 ≡ x / 16777216 = omega arith in
    let g : x / 16777216 / 256 ≡ x / 4294967296 = omega arith in
    let h : x / 4294967296 / 256 ≡ x / 1099511627776 = omega arith in
    let k : x / 1099511627776 / 256 ≡ x / 281474976710656 = omega arith in
    let l : x / 281474976710656 / 256 ≡ x / 72057594037927936 = omega arith in
    rw (e, f, g, h, k, l)

-- the word of the last bytes, as a trail
pub trail-packed : (s : List ℕ) → Bytes s → (n : ℕ) → n ≤ 8 → n ≤ length s
    → to_le_bytes w64 (pack_at byte_bits s (length s - n) 8) ≡ trail_of s (length s - n) n
unfolding trail_of
trail-packed s b n h l =
    let i : ℕ = length s - n in
    let places : List ℕ = run s i n ++ replicate (8 - n) 0 in
    let rest : length (drop i s) ≡ n = simp length-drop (omega arith) in
    let last : run s i n ≡ drop i s = run_take s i n (omega arith) ∙ ap (λ (k : ℕ). take k (drop i s)) (sym rest) ∙ take-length (drop i s) in
    let all : 0 + 8 ≡ length places = simp (length-append, length_run, length-replicate) (omega arith) in
    let bytes : Bytes places = bytes-append (run s i n) (replicate (8 - n) 0) (bytes_run s b i n) (bytes-zeros (8 - n)) in
    word-bytes (pack_at byte_bits s i 8)
    ∙ ap (λ (x : ℕ). lanes_of byte_bits x 8) (pack-agree byte_bits s places i 0 8 (λ k m. sym (before-zeros (run s i n) (8 - n) (0 + k) ∙ rw (last, zero-add) (get_or-drop i s k 0))))
    ∙ lanes-packed byte_bits places (λ k. omega (arith, bytes k)) 0 8 all
