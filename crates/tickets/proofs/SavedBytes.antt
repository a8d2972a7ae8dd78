-- Laws of saving and loading as the code goes along: words put one behind the other, the check sum behind them, and words read one by one.
-- Assumes nothing.
use mathlib.Core.Path.{◌≡◌, refl, sym, ap, ◌∙◌}
use mathlib.Core.List.{List, [], ◌∷◌, ◌++◌, append-nil, append_assoc}
use Prim.Native.Nat.{ℕ, suc, ◌+◌, ◌*◌, ◌≤◌, ◌<◌}
use native.Mathlib.Nat.{mul-le-mul, div-div-eq-div-mul}
use Rattle.std.specs.Int.{w64, to_be_bytes, from_be_bytes}
use Rattle.std.proofs.lemmas.List.{take-append-drop}
use Rattle.std.proofs.lemmas.Slice.{take-put_mid}
use borrow.Rule.Slice.PartMut.{put_mid}
use native.Mathlib.Numerals.{add-one}
use native.Mathlib.Omega.{arith}
use lib.ListN.{length, get_or, take, drop, set}
use lib.Seq.{sets, take-suc-set, take-length, length-take-le, get_or-take, get_or-drop}
use borrow.Author.Tests.{le-leb}
use lib.Dec.{leb}
use mathlib.Core.Bool.{true}
use mir.Syntax.{w8}
use mir.Val.{Fits}
use Rattle.definitions.specs.Limits.{accounts_size, ledger_size, word_size, sum_place, saved_size}
use Rattle.definitions.specs.Fields.{number_at, big_endian}
use Rattle.definitions.specs.Services.{Service}
use Rattle.definitions.specs.Saving.{word_bytes, weighted_sum, byte_sum, counted_place, place_sum, saved_body, with_sums, saved_of, words_at}
use Rattle.definitions.proofs.Lists.{sets-append}
use Rattle.definitions.proofs.Fields.{length-big_endian}
use Rattle.definitions.proofs.Saving.{length-words, words_more, sum-front, length-body}

-- ---- The check sum
-- no byte, and a byte more
pub sum_none : (f : ℕ → ℕ) (s : List ℕ) → weighted_sum f s 0 ≡ 0
unfolding weighted_sum
sum_none f s = refl

pub sum_next : (f : ℕ → ℕ) (s : List ℕ) (i : ℕ) → weighted_sum f s (i + 1) ≡ weighted_sum f s i + f i * get_or s i 0
unfolding weighted_sum
sum_next f s i = rw add-one

-- a byte times its place
pub place_times : (i x : ℕ) → i < sum_place → Fits w8 x → (i + 1) * x ≤ sum_place * 255
place_times i x h f =
    let l : i + 1 ≤ sum_place = omega arith in
    let m : x ≤ 255 = omega (arith, f) in
    mul-le-mul {n₂ = sum_place} {m₂ = 255} l m

-- ---- Words as the library's bytes
high_first : (n : ℕ) → to_be_bytes w64 n ≡ big_endian word_size n
unfolding big_endian
high_first n = simp div-div-eq-div-mul

-- a word is read from the bytes that stand there
pub word_read : (s ys : List ℕ) (at n : ℕ) → word_size ≤ n → ys ≡ take word_size (take n (drop at s)) → from_be_bytes w64 ys ≡ number_at s at word_size
unfolding number_at
word_read s ys at n h f =
    let e : (k : ℕ) → k < word_size → get_or ys k 0 ≡ get_or s (at + k) 0 =
    λ k l. rw f (get_or-take word_size (take n (drop at s)) k 0 l ∙ get_or-take n (drop at s) k 0 (omega arith) ∙ get_or-drop at s k 0) in
    rw (← e 0 (omega arith), ← e 1 (omega arith), ← e 2 (omega arith), ← e 3 (omega arith), ← e 4 (omega arith), ← e 5 (omega arith), ← e 6 (omega arith), ← e 7 (omega arith)) (omega arith)

-- ---- Putting
-- a word behind those that were put
pub word_put : (s before bytes ws : List ℕ) (place size next i j : ℕ) → next ≡ place + word_size → j ≡ i + 1 → place ≤ length s → i < length ws
    → bytes ≡ to_be_bytes w64 (get_or ws i 0) → take place s ≡ before ++ word_bytes (take i ws)
    → take next (put_mid place size s bytes) ≡ before ++ word_bytes (take j ws)
word_put s before bytes ws place size next i j m n room h e f =
    let x : ℕ = get_or ws i 0 in
    let put = take-put_mid place size s (to_be_bytes w64 x) (place + word_size) refl room in
    rw (m, n, e) (put ∙ rw (f, high_first x, add-one, words_more ws i h) (append_assoc before (word_bytes (take i ws)) (big_endian word_size x)))

-- the same of words anywhere, and of two words
pub put_next : (l ws : List ℕ) (at i : ℕ) → i < length ws
    → sets (sets l at (word_bytes (take i ws))) (at + word_size * i) (big_endian word_size (get_or ws i 0)) ≡ sets l at (word_bytes (take (suc i) ws))
put_next l ws at i h =
    let le : i ≤ length ws = omega arith in
    sym (rw (words_more ws i h, sets-append l at (word_bytes (take i ws)) (big_endian word_size (get_or ws i 0)), length-words (take i ws), length-take-le i ws le))

pub put_two : (l : List ℕ) (at x y : ℕ) → sets (sets l at (big_endian word_size x)) (at + word_size) (big_endian word_size y) ≡ sets l at (word_bytes (x ∷ y ∷ []))
unfolding word_bytes
put_two l at x y =
    sym (rw (append-nil (big_endian word_size y), sets-append l at (big_endian word_size x) (big_endian word_size y), length-big_endian word_size x))

-- the sum of what was put
sum-put : (f : ℕ → ℕ) (s bytes : List ℕ) (n : ℕ) → take n s ≡ bytes → length bytes ≡ n → weighted_sum f s n ≡ weighted_sum f bytes (length bytes)
sum-put f s bytes n e h =
    let parts : s ≡ bytes ++ drop n s = sym (take-append-drop n s) ∙ ap (λ x. x ++ drop n s) e in
    ap (λ x. weighted_sum f x n) parts ∙ ap (λ k. weighted_sum f (bytes ++ drop n s) k) (sym h) ∙ sum-front f bytes (drop n s)

-- a service, and behind it the check sum of what stands there
pub put_saved : (v : Service) (s t : List ℕ) → length v.accounts ≡ accounts_size → length v.ledger ≡ ledger_size → length t ≡ saved_size
    → take sum_place s ≡ saved_body v → take saved_size t ≡ take sum_place s ++ word_bytes (byte_sum s sum_place ∷ place_sum s sum_place ∷ []) → t ≡ saved_of v
unfolding with_sums
put_saved v s t a b l e f =
    let size = length-body v a b in
    sym (take-length t) ∙ rw l (f ∙ rw (e, sum-put (λ k. 1) s (saved_body v) sum_place e size, sum-put counted_place s (saved_body v) sum_place e size))

-- there is room where a whole array was found
pub room_enough : {n : ℕ} → saved_size ≤ n → leb saved_size n ≡ true
room_enough {n} h = le-leb saved_size n h

-- ---- Loading
-- a word more
pub load_next : (ws s : List ℕ) (at i x : ℕ) → i < length ws → take i ws ≡ words_at s at i → x ≡ number_at s (at + word_size * i) word_size
    → take (i + 1) (set ws i x) ≡ words_at s at (i + 1)
unfolding words_at
load_next ws s at i x h e f = rw add-one (take-suc-set ws i x h ∙ rw (e, f))
