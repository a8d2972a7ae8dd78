-- Laws of saving and loading (R7.8 to R7.10): each undoes the other, and two saved services differ in three places at least.
-- Assumes nothing.
use Rattle.std.specs.Prelude.{Ok, Err, Result}
use mathlib.Core.Path.{◌≡◌, refl, sym, ap, ◌∙◌}
use mathlib.Core.Bool.{Bool, true, false, ◌&&◌, cond}
use mathlib.Core.List.{List, [], ◌∷◌, ◌++◌, append_assoc, append-nil}
use Prim.Native.Nat.{ℕ, zero, suc, ◌+◌, ◌-◌, ◌*◌, ◌≤◌, ◌<◌}
use native.Mathlib.Nat.{zero-add, suc-mul, mul-le-mul, eq_of_mul-eq-mul_left, zero-lt-suc}
use native.Mathlib.Numerals.{add-one}
use native.Mathlib.Omega.{arith}
use lib.ListN.{length, get_or, take, drop, set, length-append, length-set, get_or-append}
use lib.Seq.{take-suc, take-length, split_at, get_or-take, get_or-set_same, get_or-set_other, set-get_or, set-set, set_comm, ext_get_or, length-take-le}
use lib.Dec.{eqb, ltb, lit<}
use borrow.Author.Tests.{eq-eqb, eqb-true, eqb-false, ne_eqb, ltb-true, ltb-false}
use mir.Syntax.{w64}
use mir.Val.{Fits}
use Rattle.definitions.specs.declared.error.Error.{Error}
use Rattle.definitions.specs.Limits.{accounts_size, ledger_size, word_size, saved_magic, layout_number, layout_place, accounts_place, ledger_place, sum_place, saved_size}
use Rattle.definitions.specs.Fields.{Bytes, number_at, big_endian, run}
use Rattle.definitions.specs.declared.error.Error.TheVariants.{KRB_ERR_GENERIC}
use Rattle.definitions.specs.Answers.{Call}
use Rattle.definitions.specs.Services.{Service}
use Rattle.definitions.specs.History.{service_after, replies_to}
use Rattle.definitions.specs.Saving.{Words, Lent, word_bytes, weighted_sum, byte_sum, counted_place, place_sum, saved_body, with_sums, saved_of, words_at, loadable, loaded_from, load_answer, load_service}
use Rattle.definitions.proofs.Bools.{and_left, and_right}
use Rattle.definitions.proofs.Fields.{number-fits, number-bytes, number-back, length_run, run-add, run_take, run-from-start, run-all, bytes-none, bytes-append, bytes-number, length-big_endian}

-- ---- The bytes of words
pub length-words : (xs : List ℕ) → length (word_bytes xs) ≡ word_size * length xs
unfolding word_bytes
length-words [] = refl
length-words (x ∷ xs) = rw (length-append, length-big_endian, length-words xs) (omega arith)

words_append : (xs ys : List ℕ) → word_bytes (xs ++ ys) ≡ word_bytes xs ++ word_bytes ys
unfolding word_bytes
words_append [] ys = refl
words_append (x ∷ xs) ys = rw (words_append xs ys, append_assoc)

words-one : (x : ℕ) → word_bytes (x ∷ []) ≡ big_endian word_size x
unfolding word_bytes
words-one x = append-nil (big_endian word_size x)

-- a word more
pub words_more : (xs : List ℕ) (j : ℕ) → j < length xs → word_bytes (take (suc j) xs) ≡ word_bytes (take j xs) ++ big_endian word_size (get_or xs j 0)
words_more xs j h = rw (take-suc xs j 0 h, words_append, words-one)

bytes-words : (xs : List ℕ) → Bytes (word_bytes xs)
unfolding word_bytes
bytes-words [] = bytes-none
bytes-words (x ∷ xs) = bytes-append (big_endian word_size x) (word_bytes xs) (bytes-number word_size x) (bytes-words xs)

-- ---- Where bytes agree, so does what is read of them
number-agree : (s t : List ℕ) (i w : ℕ) → ((k : ℕ) → k < w → get_or s (i + k) 0 ≡ get_or t (i + k) 0) → number_at s i w ≡ number_at t i w
unfolding number_at
number-agree s t i zero h = refl
number-agree s t i (suc w) h = rw (number-agree s t i w (λ k l. h k (omega arith)), h w (omega arith))

run_agree : (s t : List ℕ) (n : ℕ) → ((k : ℕ) → k < n → get_or s k 0 ≡ get_or t k 0) → run s 0 n ≡ run t 0 n
unfolding run
run_agree s t zero h = refl
run_agree s t (suc n) h = rw (run_agree s t n (λ k l. h k (omega arith)), zero-add, h n (omega arith))

sum-agree : (f : ℕ → ℕ) (s t : List ℕ) (n : ℕ) → ((k : ℕ) → k < n → get_or s k 0 ≡ get_or t k 0) → weighted_sum f s n ≡ weighted_sum f t n
unfolding weighted_sum
sum-agree f s t zero h = refl
sum-agree f s t (suc n) h = rw (sum-agree f s t n (λ k l. h k (omega arith)), h n (omega arith))

-- what stands behind does not count
pub sum-front : (f : ℕ → ℕ) (xs ys : List ℕ) → weighted_sum f (xs ++ ys) (length xs) ≡ weighted_sum f xs (length xs)
sum-front f xs ys = sum-agree f (xs ++ ys) xs (length xs) (λ k l. get_or-append xs ys 0 k l)

-- a sum of bytes with no weight above m
sum-most : (f : ℕ → ℕ) (s : List ℕ) → Bytes s → (m n : ℕ) → ((k : ℕ) → k < n → f k ≤ m) → weighted_sum f s n ≤ n * (m * 255)
unfolding weighted_sum
sum-most f s b m zero h = omega arith
sum-most f s b m (suc n) h =
    let l : get_or s n 0 ≤ 255 = omega (arith, b n) in
    omega (arith, sum-most f s b m n (λ k l. h k (omega arith)), mul-le-mul (h n (omega arith)) l, suc-mul n (m * 255))

-- ---- Loading undoes saving
-- words that were put are read back, as many as are asked for
words-taken : (xs ws ys : List ℕ) → Words ws → (n : ℕ) → n ≤ length ws → words_at (xs ++ word_bytes ws ++ ys) (length xs) n ≡ take n ws
unfolding words_at word_bytes
words-taken xs ws ys f zero h = refl
words-taken xs ws ys f (suc n) h =
    let x : ℕ = get_or ws n 0 in
    let rest : List ℕ = word_bytes (drop (suc n) ws) ++ ys in
    let front : List ℕ = xs ++ word_bytes (take n ws) in
    let l : n ≤ length ws = omega arith in
    let whole : word_bytes ws ≡ word_bytes (take n ws) ++ (big_endian word_size x ++ word_bytes (drop (suc n) ws)) = ap word_bytes (split_at ws n 0 h) ∙ words_append (take n ws) (x ∷ drop (suc n) ws) in
    let parts : xs ++ word_bytes ws ++ ys ≡ front ++ big_endian word_size x ++ rest = rw whole (simp append_assoc) in
    let place : length front ≡ length xs + word_size * n = rw (length-append, length-words, length-take-le n ws l) in
    let back : number_at (xs ++ word_bytes ws ++ ys) (length xs + word_size * n) word_size ≡ x = rw (parts, sym place) (number-back front word_size x rest (f n).fits) in
    rw (words-taken xs ws ys f n l, back, take-suc ws n 0)

words_back : (xs ws ys : List ℕ) → Words ws → (i n : ℕ) → length xs ≡ i → length ws ≡ n → words_at (xs ++ word_bytes ws ++ ys) i n ≡ ws
words_back xs ws ys f i n e g =
    rw (sym e, sym g) (words-taken xs ws ys f (length ws) (omega arith) ∙ take-length ws)

two-words : (x y : ℕ) → Fits w64 x → Fits w64 y → Words (x ∷ y ∷ [])
two-words x y f g zero = f
two-words x y f g (suc zero) = g
two-words x y f g (suc (suc i)) = record { fits = lit< tt }

-- the head of a saved service, and the check sum of its body
abbrev pub head : List ℕ
head = word_bytes (saved_magic ∷ layout_number ∷ [])

abbrev sums : Service → List ℕ
sums v = word_bytes (byte_sum (saved_body v) (length (saved_body v)) ∷ place_sum (saved_body v) (length (saved_body v)) ∷ [])

bytes-body : (v : Service) → Bytes (saved_body v)
unfolding saved_body
bytes-body v =
    bytes-append (head ++ word_bytes v.accounts) (word_bytes v.ledger)
    (bytes-append head (word_bytes v.accounts) (bytes-words (saved_magic ∷ layout_number ∷ [])) (bytes-words v.accounts)) (bytes-words v.ledger)

pub bytes-saved : (v : Service) → Bytes (saved_of v)
unfolding with_sums
bytes-saved v =
    bytes-append (saved_body v) (sums v) (bytes-body v)
    (bytes-words (byte_sum (saved_body v) (length (saved_body v)) ∷ place_sum (saved_body v) (length (saved_body v)) ∷ []))

-- where the parts of a saved service end, by the lengths of its arrays
module _ (v : Service) (a : length v.accounts ≡ accounts_size) where
  pub length_front : length (head ++ word_bytes v.accounts) ≡ ledger_place
  length_front = rw (length-append, length-words (saved_magic ∷ layout_number ∷ []), length-words v.accounts, a)

  pub length-body : length v.ledger ≡ ledger_size → length (saved_body v) ≡ sum_place
  unfolding saved_body
  length-body b = rw (length-append (head ++ word_bytes v.accounts), length_front, length-words, b)

  pub length-saved : length v.ledger ≡ ledger_size → length (saved_of v) ≡ saved_size
  unfolding with_sums
  length-saved b =
      rw (length-append, length-words (byte_sum (saved_body v) (length (saved_body v)) ∷ place_sum (saved_body v) (length (saved_body v)) ∷ []), length-body b)

module _ (v : Service) (l : Lent v) where
  -- the numbers of the head, the words, and the two halves of the check sum are read back
  head-back : words_at (saved_of v) 0 2 ≡ saved_magic ∷ layout_number ∷ []
  unfolding saved_body with_sums
  head-back =
      let fit = two-words saved_magic layout_number (record { fits = lit< tt }) (record { fits = lit< tt }) in
      rw (append_assoc (head ++ word_bytes v.accounts) (word_bytes v.ledger) (sums v), append_assoc head (word_bytes v.accounts) (word_bytes v.ledger ++ sums v))
      (words_back [] (saved_magic ∷ layout_number ∷ []) (word_bytes v.accounts ++ (word_bytes v.ledger ++ sums v)) fit 0 2 refl refl)

  accounts-back : words_at (saved_of v) accounts_place accounts_size ≡ v.accounts
  unfolding saved_body with_sums
  accounts-back =
      rw (append_assoc (head ++ word_bytes v.accounts) (word_bytes v.ledger) (sums v))
      (words_back head v.accounts (word_bytes v.ledger ++ sums v) l.account_words accounts_place accounts_size (length-words (saved_magic ∷ layout_number ∷ [])) l.accounts)

  ledger-back : words_at (saved_of v) ledger_place ledger_size ≡ v.ledger
  unfolding saved_body with_sums
  ledger-back = words_back (head ++ word_bytes v.accounts) v.ledger (sums v) l.ledger_words ledger_place ledger_size (length_front v l.accounts) l.ledger

  -- a half of the check sum has room in a word
  sum_fits : (f : ℕ → ℕ) → ((k : ℕ) → k < sum_place → f k ≤ sum_place) → Fits w64 (weighted_sum f (saved_body v) (length (saved_body v)))
  sum_fits f h = rw (length-body v l.accounts l.ledger) (omega (arith, sum-most f (saved_body v) (bytes-body v) sum_place sum_place h))

  sums-back : words_at (saved_of v) sum_place 2 ≡ byte_sum (saved_body v) (length (saved_body v)) ∷ place_sum (saved_body v) (length (saved_body v)) ∷ []
  unfolding with_sums
  sums-back =
      let first : ℕ = byte_sum (saved_body v) (length (saved_body v)) in
      let second : ℕ = place_sum (saved_body v) (length (saved_body v)) in
      let fit = two-words first second (sum_fits (λ k. 1) (λ k m. omega arith)) (sum_fits counted_place (λ k m. omega arith)) in
      rw append-nil at (words_back (saved_body v) (first ∷ second ∷ []) [] fit sum_place 2 (length-body v l.accounts l.ledger) refl)

-- what a saved service has to have, one by one
pub record Whole (s : List ℕ) : Type 0 where
  pub size : length s ≡ saved_size
  pub magic : number_at s 0 word_size ≡ saved_magic
  pub layout : number_at s layout_place word_size ≡ layout_number
  pub first : number_at s sum_place word_size ≡ byte_sum s sum_place
  pub second : number_at s (sum_place + word_size) word_size ≡ place_sum s sum_place

loadable-whole : (s : List ℕ) → Whole s → loadable s ≡ true
unfolding loadable
loadable-whole s w =
    rw (
      eq-eqb (length s) saved_size w.size,
      eq-eqb (number_at s 0 word_size) saved_magic w.magic,
      eq-eqb (number_at s layout_place word_size) layout_number w.layout,
      eq-eqb (number_at s sum_place word_size) (byte_sum s sum_place) w.first,
      eq-eqb (number_at s (sum_place + word_size) word_size) (place_sum s sum_place) w.second,
    )

pub whole-loadable : (s : List ℕ) → loadable s ≡ true → Whole s
unfolding loadable
whole-loadable s h =
    let size = eqb (length s) saved_size in
    let magic = eqb (number_at s 0 word_size) saved_magic in
    let layout = eqb (number_at s layout_place word_size) layout_number in
    let first = eqb (number_at s sum_place word_size) (byte_sum s sum_place) in
    let second = eqb (number_at s (sum_place + word_size) word_size) (place_sum s sum_place) in
    let h₁ = and_right size (magic && (layout && (first && second))) h in
    let h₂ = and_right magic (layout && (first && second)) h₁ in
    let h₃ = and_right layout (first && second) h₂ in
    record {
      size = eqb-true (length s) saved_size (and_left size (magic && (layout && (first && second))) h);
      magic = eqb-true (number_at s 0 word_size) saved_magic (and_left magic (layout && (first && second)) h₁);
      layout = eqb-true (number_at s layout_place word_size) layout_number (and_left layout (first && second) h₂);
      first = eqb-true (number_at s sum_place word_size) (byte_sum s sum_place) (and_left first second h₃);
      second = eqb-true (number_at s (sum_place + word_size) word_size) (place_sum s sum_place) (and_right first second h₃);
    }

-- R7.9: what was saved is loaded as it was
pub save-loadable : (v : Service) → Lent v → loadable (saved_of v) ≡ true
unfolding words_at with_sums
save-loadable v l =
    let front : (f : ℕ → ℕ) → weighted_sum f (saved_body v) (length (saved_body v)) ≡ weighted_sum f (saved_of v) sum_place = λ f. sym (sum-front f (saved_body v) (sums v)) ∙ ap (weighted_sum f (saved_of v)) (length-body v l.accounts l.ledger) in
    loadable-whole (saved_of v)
    (record {
      size = length-saved v l.accounts l.ledger;
      magic = ap (λ (ws : List ℕ). get_or ws 0 0) (head-back v l);
      layout = ap (λ (ws : List ℕ). get_or ws 1 0) (head-back v l);
      first = ap (λ (ws : List ℕ). get_or ws 0 0) (sums-back v l) ∙ front (λ k. 1);
      second = ap (λ (ws : List ℕ). get_or ws 1 0) (sums-back v l) ∙ front counted_place;
    })

pub load-save : (v : Service) → Lent v → loaded_from (saved_of v) ≡ v
load-save v l = λ i. record { accounts = accounts-back v l i; ledger = ledger-back v l i }

-- R7.9: a service that goes on after it was saved and loaded goes on as the one that was saved, whatever words it was loaded over
pub load-goes-on : (v : Service) → Lent v → (before : Service) (calls : List Call)
    → (service_after (load_service (saved_of v) before) calls ≡ service_after v calls) × (replies_to (load_service (saved_of v) before) calls ≡ replies_to v calls)
load-goes-on v l before calls =
    let e : load_service (saved_of v) before ≡ v = rw (save-loadable v l) (load-save v l) in
    (ap (λ (service : Service). service_after service calls) e, ap (λ (service : Service). replies_to service calls) e)

-- ---- Saving undoes loading
length-words_at : (s : List ℕ) (i n : ℕ) → length (words_at s i n) ≡ n
unfolding words_at
length-words_at s i zero = refl
length-words_at s i (suc n) = simp (length-append, length-words_at s i n, add-one)

-- words that were read are put as the bytes that they were read from
words-bytes : (s : List ℕ) → Bytes s → (i n : ℕ) → word_bytes (words_at s i n) ≡ run s i (word_size * n)
unfolding words_at word_bytes run
words-bytes s b i zero = refl
words-bytes s b i (suc n) =
    let e : word_size * n + word_size ≡ word_size * suc n = omega arith in
    rw (words_append, words-bytes s b i n, words-one, number-bytes s b (i + word_size * n) word_size)
    (rw e at (run-add s i (word_size * n) word_size))

-- and are words
words_snoc : (xs : List ℕ) (x : ℕ) → Words xs → Fits w64 x → Words (xs ++ (x ∷ []))
words_snoc [] x f h zero = h
words_snoc [] x f h (suc i) = f i
words_snoc (y ∷ xs) x f h zero = f 0
words_snoc (y ∷ xs) x f h (suc i) = words_snoc xs x (λ k. f (suc k)) h i

words-fit : (s : List ℕ) → Bytes s → (i n : ℕ) → Words (words_at s i n)
unfolding words_at
words-fit s b i zero = λ k. record { fits = lit< tt }
words-fit s b i (suc n) =
    words_snoc (words_at s i n) (number_at s (i + word_size * n) word_size) (words-fit s b i n)
    (record { fits = number-fits s b (i + word_size * n) word_size })

module _ (s : List ℕ) (b : Bytes s) (w : Whole s) where
  -- a saved service is its body, and the check sum of that
  whole-sums : with_sums (run s 0 sum_place) ≡ s
  unfolding with_sums word_bytes
  whole-sums =
      let room : 0 + sum_place ≤ length s = omega (arith, w.size) in
      let same : (f : ℕ → ℕ) → weighted_sum f (run s 0 sum_place) sum_place ≡ weighted_sum f s sum_place = λ f. sum-agree f (run s 0 sum_place) s sum_place (λ k l. rw (run_take s 0 sum_place room) (get_or-take sum_place s k 0 l)) in
      rw (
        length_run s 0 sum_place,
        same (λ k. 1),
        same counted_place,
        sym w.first,
        sym w.second,
        number-bytes s b sum_place word_size,
        number-bytes s b (sum_place + word_size) word_size,
        append-nil,
        run-add s sum_place word_size word_size,
        run-from-start s sum_place (word_size + word_size),
      )
      (ap (run s 0) (sym w.size) ∙ run-all s)

  -- the body is that of the service that the bytes hold
  body_back : saved_body (loaded_from s) ≡ run s 0 sum_place
  unfolding saved_body word_bytes
  body_back =
      rw (
        sym w.magic,
        sym w.layout,
        number-bytes s b 0 word_size,
        number-bytes s b layout_place word_size,
        append-nil,
        run-from-start s word_size word_size,
        words-bytes s b accounts_place accounts_size,
        words-bytes s b ledger_place ledger_size,
        run-from-start s accounts_place (word_size * accounts_size),
        run-from-start s ledger_place (word_size * ledger_size),
      )

-- R7.9: what is loaded is saved as the same bytes, and is a service in lent words: no other bytes are loaded
pub save-load : (s : List ℕ) → Bytes s → loadable s ≡ true → saved_of (loaded_from s) ≡ s
save-load s b h = let w = whole-loadable s h in ap with_sums (body_back s b w) ∙ whole-sums s b w

pub loaded-lent : (s : List ℕ) → Bytes s → Lent (loaded_from s)
loaded-lent s b =
    record {
      accounts = length-words_at s accounts_place accounts_size;
      ledger = length-words_at s ledger_place ledger_size;
      account_words = words-fit s b accounts_place accounts_size;
      ledger_words = words-fit s b ledger_place ledger_size;
    }

-- ---- What the check sum detects
-- a byte that is altered alters a sum by its weight
sum-set : (f : ℕ → ℕ) (s : List ℕ) (i x n : ℕ) → i < length s → i < n
    → weighted_sum f (set s i x) n + f i * get_or s i 0 ≡ weighted_sum f s n + f i * x
unfolding weighted_sum
sum-set f s i x zero l h = absurd (omega arith)
sum-set f s i x (suc n) l h = by (eqb i n) refl (sum-set f s i x n l)
  where
    by : (t : Bool) → eqb i n ≡ t → (i < n → weighted_sum f (set s i x) n + f i * get_or s i 0 ≡ weighted_sum f s n + f i * x)
        → weighted_sum f (set s i x) n + f n * get_or (set s i x) n 0 + f i * get_or s i 0 ≡ weighted_sum f s n + f n * get_or s n 0 + f i * x
    by true e go =
        let q : i ≡ n = eqb-true i n e in
        let same : weighted_sum f (set s i x) n ≡ weighted_sum f s n = sum-agree f (set s i x) s n (λ k m. get_or-set_other s i k x 0 (λ r. omega arith)) in
        let put : get_or (set s i x) i 0 ≡ x = get_or-set_same s i x 0 l in
        rw (same, sym q, put) (omega arith)
    by false e go =
        let m : i < n = omega (arith, eqb-false i n e) in
        rw (get_or-set_other s i n x 0 (λ r. omega arith)) (omega (arith, go m))

-- two numbers are told by their sum, and by their sum with different weights
two-sums : (p q a b x y : ℕ) → (p ≡ q → ⊥) → a + b ≡ x + y → p * a + q * b ≡ p * x + q * y → (a ≡ x) × (b ≡ y)
two-sums p q a b x y ne e g = by (ltb p q) refl
  where
    higher : (p d a b x y : ℕ) → a + b ≡ x + y → p * a + (p + suc d) * b ≡ p * x + (p + suc d) * y → b ≡ y
    higher p d a b x y e g = eq_of_mul-eq-mul_left (suc d) (zero-lt-suc d) b y (omega (arith, ap (λ (z : ℕ). p * z) e))

    by : (t : Bool) → ltb p q ≡ t → (a ≡ x) × (b ≡ y)
    by true t =
        let r : q ≡ p + suc (q - suc p) = omega (arith, ltb-true p q t) in
        let h : b ≡ y = higher p (q - suc p) a b x y e (rw r at g) in
        (omega arith, h)
    by false t =
        let r : p ≡ q + suc (p - suc q) = omega (arith, ltb-false p q t, ne) in
        let k : q * b + p * a ≡ q * y + p * x = omega arith in
        let h : a ≡ x = higher q (p - suc q) b a y x (omega arith) (rw r at k) in
        (h, omega arith)

-- two saved services with the same body are the same
same_body : (s t : List ℕ) → Bytes s → Bytes t → Whole s → Whole t → ((k : ℕ) → k < sum_place → get_or s k 0 ≡ get_or t k 0) → s ≡ t
same_body s t b c v w h = sym (whole-sums s b v) ∙ ap with_sums (run_agree s t sum_place h) ∙ whole-sums t c w

-- a saved service in which the byte x is put at i, and then y at j
module _ (s : List ℕ) (i j x y : ℕ) (b : Bytes s) (c : Bytes (set (set s i x) j y)) (v : Whole s) (w : Whole (set (set s i x) j y)) where
  -- a number in which neither stands
  kept : (at : ℕ) → ((k : ℕ) → k < word_size → (at + k ≡ i → ⊥) × (at + k ≡ j → ⊥)) → number_at (set (set s i x) j y) at word_size ≡ number_at s at word_size
  kept at h =
      number-agree (set (set s i x) j y) s at word_size (λ k l.
      get_or-set_other (set s i x) j (at + k) y 0 (h k l).1 ∙ get_or-set_other s i (at + k) x 0 (h k l).0)

  -- both in the body
  both-in : i < sum_place → j < sum_place → set (set s i x) j y ≡ s
  both-in l m = by (eqb i j) refl
    where
      first : byte_sum (set (set s i x) j y) sum_place ≡ byte_sum s sum_place
      first = sym w.first ∙ kept sum_place (λ k h. ((λ e. omega arith), (λ e. omega arith))) ∙ v.first

      second : place_sum (set (set s i x) j y) sum_place ≡ place_sum s sum_place
      second = sym w.second ∙ kept (sum_place + word_size) (λ k h. ((λ e. omega arith), (λ e. omega arith))) ∙ v.second

      altered : (f : ℕ → ℕ) → weighted_sum f (set (set s i x) j y) sum_place ≡ weighted_sum f s sum_place
          → f i * get_or s i 0 + f j * get_or (set s i x) j 0 ≡ f i * x + f j * y
      altered f e =
          omega (
            arith,
            sum-set f s i x sum_place (omega (arith, v.size)) l,
            sum-set f (set s i x) j y sum_place (rw (length-set s i x) (omega (arith, v.size))) m,
            e,
          )

      by : (t : Bool) → eqb i j ≡ t → set (set s i x) j y ≡ s
      by true e =
          let q : i ≡ j = eqb-true i j e in
          let put : get_or (set s i x) i 0 ≡ x = get_or-set_same s i x 0 (omega (arith, v.size)) in
          let a = rw (sym q, put) at (altered (λ k. 1) first) in
          let r : y ≡ get_or s i 0 = omega (arith, a) in
          rw (sym q, set-set s i x y, r) (set-get_or s i 0)
      by false e =
          let ne = eqb-false i j e in
          let other : get_or (set s i x) j 0 ≡ get_or s j 0 = get_or-set_other s i j x 0 (λ r. ne (sym r)) in
          let a = rw other at (altered (λ k. 1) first) in
          let d = rw other at (altered counted_place second) in
          let r = two-sums (counted_place i) (counted_place j) (get_or s i 0) (get_or s j 0) x y (λ z. ne (omega arith)) (omega (arith, a)) d in
          rw (sym r.0, sym r.1, set-get_or s i 0) (set-get_or s j 0)

  -- the first in the body, the second in the check sum: the other half of the check sum shows the first
  one_in : i < sum_place → sum_place ≤ j → set (set s i x) j y ≡ s
  one_in l m = by (ltb j (sum_place + word_size)) refl
    where
      body : (k : ℕ) → k < sum_place → get_or (set (set s i x) j y) k 0 ≡ get_or (set s i x) k 0
      body k h = get_or-set_other (set s i x) j k y 0 (λ e. omega arith)

      shown : (f : ℕ → ℕ) → 0 < f i → weighted_sum f (set (set s i x) j y) sum_place ≡ weighted_sum f s sum_place → get_or s i 0 ≡ x
      shown f p e =
          eq_of_mul-eq-mul_left (f i) p (get_or s i 0) x
          (omega (arith, sum-set f s i x sum_place (omega (arith, v.size)) l, sum-agree f (set (set s i x) j y) (set s i x) sum_place body, e))

      close : get_or s i 0 ≡ x → set (set s i x) j y ≡ s
      close e =
          let same : set s i x ≡ s = rw (sym e) (set-get_or s i 0) in
          same_body (set (set s i x) j y) s c b w v (λ k h. body k h ∙ ap (λ (r : List ℕ). get_or r k 0) same)

      by : (t : Bool) → ltb j (sum_place + word_size) ≡ t → set (set s i x) j y ≡ s
      by true t =
          let r = ltb-true j (sum_place + word_size) t in
          close (shown counted_place (omega arith) (sym w.second ∙ kept (sum_place + word_size) (λ k h. ((λ e. omega arith), (λ e. omega arith))) ∙ v.second))
      by false t =
          let r = ltb-false j (sum_place + word_size) t in
          close (shown (λ k. 1) (omega arith) (sym w.first ∙ kept sum_place (λ k h. ((λ e. omega arith), (λ e. omega arith))) ∙ v.first))

  -- neither in the body
  none_in : sum_place ≤ i → sum_place ≤ j → set (set s i x) j y ≡ s
  none_in l m =
      same_body (set (set s i x) j y) s c b w v (λ k h.
      get_or-set_other (set s i x) j k y 0 (λ e. omega arith) ∙ get_or-set_other s i k x 0 (λ e. omega arith))

-- bytes that are loaded, with at most two of them altered, are loaded only where they are the same
altered-same : (s : List ℕ) (i j x y : ℕ) → Bytes s → Bytes (set (set s i x) j y) → loadable s ≡ true → loadable (set (set s i x) j y) ≡ true
    → set (set s i x) j y ≡ s
altered-same s i j x y b c h g = by (ltb i sum_place) refl (ltb j sum_place) refl
  where
    v : Whole s
    v = whole-loadable s h

    w : Whole (set (set s i x) j y)
    w = whole-loadable (set (set s i x) j y) g

    by : (p : Bool) → ltb i sum_place ≡ p → (q : Bool) → ltb j sum_place ≡ q → set (set s i x) j y ≡ s
    by true d true e = both-in s i j x y b c v w (ltb-true i sum_place d) (ltb-true j sum_place e)
    by true d false e = one_in s i j x y b c v w (ltb-true i sum_place d) (ltb-false j sum_place e)
    by false d true e =
        let l = ltb-false i sum_place d in
        let m = ltb-true j sum_place e in
        let turned : set (set s i x) j y ≡ set (set s j y) i x = set_comm s i j x y (λ r. omega arith) in
        turned ∙ one_in s j i y x b (rw turned at c) v (rw turned at w) m l
    by false d false e = none_in s i j x y b c v w (ltb-false i sum_place d) (ltb-false j sum_place e)

-- R7.10: bytes that are loaded and agree at all places but two are the same
pub differ-in-three : (s t : List ℕ) → Bytes s → Bytes t → loadable s ≡ true → loadable t ≡ true → (i j : ℕ)
    → ((k : ℕ) → (k ≡ i → ⊥) → (k ≡ j → ⊥) → get_or s k 0 ≡ get_or t k 0) → s ≡ t
differ-in-three s t b c h g i j agree =
    sym (altered-same s i j (get_or t i 0) (get_or t j 0) b (rw same c) h (rw same g)) ∙ same
  where
    size : (r : List ℕ) → loadable r ≡ true → length r ≡ saved_size
    size r l = (whole-loadable r l).size

    at : (k : ℕ) → k < length s → get_or (set (set s i (get_or t i 0)) j (get_or t j 0)) k 0 ≡ get_or t k 0
    at k l = by (eqb k j) refl (eqb k i) refl
      where
        by : (p : Bool) → eqb k j ≡ p → (q : Bool) → eqb k i ≡ q → get_or (set (set s i (get_or t i 0)) j (get_or t j 0)) k 0 ≡ get_or t k 0
        by true d q e = rw (eqb-true k j d) (get_or-set_same (set s i (get_or t i 0)) j (get_or t j 0) 0 (rw length-set (rw (eqb-true k j d) at l)))
        by false d true e =
            get_or-set_other (set s i (get_or t i 0)) j k (get_or t j 0) 0 (eqb-false k j d)
            ∙ rw (eqb-true k i e) (get_or-set_same s i (get_or t i 0) 0 (rw (eqb-true k i e) at l))
        by false d false e =
            get_or-set_other (set s i (get_or t i 0)) j k (get_or t j 0) 0 (eqb-false k j d) ∙ get_or-set_other s i k (get_or t i 0) 0 (eqb-false k i e)
            ∙ agree k (eqb-false k i e) (eqb-false k j d)

    same : set (set s i (get_or t i 0)) j (get_or t j 0) ≡ t
    same = ext_get_or 0 (set (set s i (get_or t i 0)) j (get_or t j 0)) t (rw (length-set, length-set) (size s h ∙ sym (size t g))) (λ k l. at k (rw (length-set, length-set) at l))

-- R7.10: the bytes of two different services differ in three places at least
pub services-differ : (u v : Service) → Lent u → Lent v → (i j : ℕ)
    → ((k : ℕ) → (k ≡ i → ⊥) → (k ≡ j → ⊥) → get_or (saved_of u) k 0 ≡ get_or (saved_of v) k 0) → u ≡ v
services-differ u v l m i j agree =
    let same = differ-in-three (saved_of u) (saved_of v) (bytes-saved u) (bytes-saved v) (save-loadable u l) (save-loadable v m) i j agree in
    sym (load-save u l) ∙ ap loaded_from same ∙ load-save v m

-- R7.10: bytes that are loaded, and of which one or two were altered, are 60
pub altered-refused : (s : List ℕ) → Bytes s → loadable s ≡ true → (i j x y : ℕ) → Bytes (set (set s i x) j y) → (set (set s i x) j y ≡ s → ⊥)
    → load_answer (set (set s i x) j y) ≡ Err KRB_ERR_GENERIC
altered-refused s b h i j x y c ne = by (loadable (set (set s i x) j y)) refl
  where
    by : (p : Bool) → loadable (set (set s i x) j y) ≡ p → ◌≡◌ {A = Result Unit Error} (cond p (Ok tt) (Err KRB_ERR_GENERIC)) (Err KRB_ERR_GENERIC)
    by true e = absurd (ne (altered-same s i j x y b c h e))
    by false e = refl

-- R7.9: bytes of another length are 60
pub wrong_size : (s : List ℕ) → (length s ≡ saved_size → ⊥) → load_answer s ≡ Err KRB_ERR_GENERIC
unfolding loadable
wrong_size s ne = rw (ne_eqb (length s) saved_size ne)
