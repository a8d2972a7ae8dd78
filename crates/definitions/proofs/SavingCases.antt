-- Cases of saving and loading (R11.11): a fresh service. Its bytes and its check sum are found by a law of zeros, not byte by byte.
-- Assumes nothing.
use Rattle.std.specs.Prelude.{Ok, Err}
use mathlib.Core.Path.{◌≡◌, refl, sym, ap, ap₂, ◌∙◌}
use mathlib.Core.List.{List, [], ◌∷◌, ◌++◌, append_assoc}
use Prim.Native.Nat.{ℕ, zero, suc, ◌+◌, ◌*◌, ◌≤◌, ◌<◌}
use native.Mathlib.Nat.{add-zero, add-suc, mul-zero}
use native.Mathlib.Omega.{arith}
use lib.Dec.{lit<}
use lib.ListN.{length, get_or, take, set, replicate, length-append, length-set, length-replicate, get_or-replicate, replicate-append-replicate}
use lib.Seq.{get_or-append-add, get_or-set_same, set-set, length-take-le}
use mir.Syntax.{w8}
use mir.Val.{Fits}
use Rattle.definitions.specs.Limits.{accounts_size, ledger_size, word_size, saved_size}
use Rattle.definitions.specs.Fields.{Bytes, big_endian}
use Rattle.definitions.specs.Services.{fresh_service}
use Rattle.definitions.specs.declared.error.Error.TheVariants.{KRB_ERR_GENERIC}
use Rattle.definitions.specs.Saving.{Words, Lent, word_bytes, weighted_sum, byte_sum, counted_place, place_sum, saved_body, with_sums, saved_of, load_answer}
use Rattle.definitions.proofs.Fields.{bytes-cons}
use Rattle.definitions.proofs.Saving.{sum-front, length-saved, bytes-saved, save-loadable, altered-refused, wrong_size}

words-zeros : (n : ℕ) → word_bytes (replicate n 0) ≡ replicate (word_size * n) 0
unfolding word_bytes big_endian
words-zeros zero = refl
words-zeros (suc n) =
    let e : word_size + word_size * n ≡ word_size * suc n = omega arith in
    rw (words-zeros n) (rw e at (replicate-append-replicate {A = ℕ} word_size (word_size * n) 0))

-- zeros behind some bytes do not count
sum_zeros : (f : ℕ → ℕ) (xs : List ℕ) (m n : ℕ) → n ≤ m → weighted_sum f (xs ++ replicate m 0) (length xs + n) ≡ weighted_sum f xs (length xs)
unfolding weighted_sum
sum_zeros f xs m zero h = rw add-zero (sum-front f xs (replicate m 0))
sum_zeros f xs m (suc n) h =
    rw (add-suc, sum_zeros f xs m n (omega arith), get_or-append-add xs (replicate m 0) n 0, get_or-replicate {A = ℕ} m n 0 0 h, mul-zero, add-zero)

sum-padded : (f : ℕ → ℕ) (xs : List ℕ) (m : ℕ) → weighted_sum f (xs ++ replicate m 0) (length (xs ++ replicate m 0)) ≡ weighted_sum f xs (length xs)
sum-padded f xs m = rw (length-append xs (replicate m 0), length-replicate {A = ℕ} m 0) (sum_zeros f xs m m (omega arith))

-- R11.11: the head of a saved service, and the check sum of a fresh one: 675 and 2,881
abbrev head : List ℕ
head = 0x89 ∷ 0x54 ∷ 0x49 ∷ 0x43 ∷ 0x4B ∷ 0x45 ∷ 0x54 ∷ 0x53 ∷ 0 ∷ 0 ∷ 0 ∷ 0 ∷ 0 ∷ 0 ∷ 0 ∷ 3 ∷ []

abbrev sums : List ℕ
sums = 0 ∷ 0 ∷ 0 ∷ 0 ∷ 0 ∷ 0 ∷ 0x02 ∷ 0xA3 ∷ 0 ∷ 0 ∷ 0 ∷ 0 ∷ 0 ∷ 0 ∷ 0x0B ∷ 0x41 ∷ []

-- a body whose words are all 0, so many of the accounts and so many of the ledger
body : (m n : ℕ) → saved_body (record { accounts = replicate m 0; ledger = replicate n 0 }) ≡ head ++ replicate (word_size * m + word_size * n) 0
unfolding saved_body word_bytes big_endian
body m n =
    rw (words-zeros m, words-zeros n, append_assoc head (replicate (word_size * m) 0) (replicate (word_size * n) 0))
    (ap (λ (r : List ℕ). head ++ r) (replicate-append-replicate {A = ℕ} (word_size * m) (word_size * n) 0))

head-sums : word_bytes (byte_sum head (length head) ∷ place_sum head (length head) ∷ []) ≡ sums
unfolding word_bytes big_endian weighted_sum
head-sums = refl

zeros-saved : (m : ℕ) → with_sums (head ++ replicate m 0) ≡ head ++ replicate m 0 ++ sums
unfolding with_sums
zeros-saved m =
    ap₂ (λ (a b : ℕ). head ++ replicate m 0 ++ word_bytes (a ∷ b ∷ [])) (sum-padded (λ k. 1) head m) (sum-padded counted_place head m)
    ∙ ap (λ (r : List ℕ). head ++ replicate m 0 ++ r) head-sums

zero-words : (n : ℕ) → Words (replicate n 0)
zero-words zero i = record { fits = lit< tt }
zero-words (suc n) zero = record { fits = lit< tt }
zero-words (suc n) (suc i) = zero-words n i

fresh-lent : Lent fresh_service
fresh-lent =
    record {
      accounts = length-replicate {A = ℕ} accounts_size 0;
      ledger = length-replicate {A = ℕ} ledger_size 0;
      account_words = zero-words accounts_size;
      ledger_words = zero-words ledger_size;
    }

-- the bytes of a fresh service
abbrev saved : List ℕ
saved = saved_of fresh_service

pub record SavingCases : Type 0 where
  -- R11.11: 21,632 bytes of 0 between head and check sum
  pub fresh-saved : saved ≡ head ++ replicate 21632 0 ++ sums
  -- R11.11: loaded as they are, and refused with byte 16 or the last byte altered, or both, without the last byte, and with another behind it
  pub fresh-loaded : load_answer saved ≡ Ok tt
  pub byte-16 : load_answer (set saved 16 0x01) ≡ Err KRB_ERR_GENERIC
  pub last_byte : load_answer (set saved 21663 0x42) ≡ Err KRB_ERR_GENERIC
  pub both_bytes : load_answer (set (set saved 16 0x01) 21663 0x42) ≡ Err KRB_ERR_GENERIC
  pub cut : load_answer (take 21663 saved) ≡ Err KRB_ERR_GENERIC
  pub left_over : load_answer (saved ++ (0 ∷ [])) ≡ Err KRB_ERR_GENERIC

fresh : saved ≡ head ++ replicate 21632 0 ++ sums
fresh = ap with_sums (body accounts_size ledger_size) ∙ zeros-saved 21632

size : length saved ≡ saved_size
size = length-saved fresh_service fresh-lent.accounts fresh-lent.ledger

bytes-set : (s : List ℕ) → Bytes s → (i x : ℕ) → Fits w8 x → Bytes (set s i x)
bytes-set [] b i x f = b
bytes-set (y ∷ s) b zero x f = bytes-cons x s f (λ k. b (suc k))
bytes-set (y ∷ s) b (suc i) x f = bytes-cons y (set s i x) (b 0) (bytes-set s (λ k. b (suc k)) i x f)

-- one or two bytes altered
altered : (i j x y : ℕ) → Fits w8 x → Fits w8 y → j < saved_size → (get_or saved j 0 ≡ y → ⊥) → load_answer (set (set saved i x) j y) ≡ Err KRB_ERR_GENERIC
altered i j x y f g l ne =
    let room : j < length (set saved i x) = rw (length-set saved i x, size) l in
    altered-refused saved (bytes-saved fresh_service) (save-loadable fresh_service fresh-lent) i j x y
    (bytes-set (set saved i x) (bytes-set saved (bytes-saved fresh_service) i x f) j y g)
    (λ e. ne (ap (λ (r : List ℕ). get_or r j 0) (sym e) ∙ get_or-set_same (set saved i x) j y 0 room))

byte_at : (i : ℕ) → get_or saved i 0 ≡ get_or (head ++ replicate 21632 0 ++ sums) i 0
byte_at i = ap (λ (r : List ℕ). get_or r i 0) fresh

pub saving-cases : SavingCases
saving-cases =
    let byte : Fits w8 0x01 = record { fits = lit< tt } in
    let last : Fits w8 0x42 = record { fits = lit< tt } in
    record {
      fresh-saved = fresh;
      fresh-loaded = rw (save-loadable fresh_service fresh-lent);
      byte-16 = rw (set-set saved 16 1 1) at (altered 16 16 1 1 byte byte (omega arith) (λ e. omega (arith, byte_at 16)));
      last_byte = rw (set-set saved 21663 0x42 0x42) at (altered 21663 21663 0x42 0x42 last last (omega arith) (λ e. omega (arith, byte_at 21663)));
      both_bytes = altered 16 21663 1 0x42 byte last (omega arith) (λ e. omega (arith, byte_at 21663));
      cut = wrong_size (take 21663 saved) (λ e. omega (arith, length-take-le 21663 saved (omega (arith, size))));
      left_over = wrong_size (saved ++ (0 ∷ [])) (λ e. omega (arith, length-append saved (0 ∷ []), size));
    }
