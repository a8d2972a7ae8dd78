-- A saved service (R7.8 to R7.10): its bytes, the bytes that are loaded, and what saving and loading answer and leave. Any words can be saved;
-- loading is total, and takes exactly the bytes that saving makes of some words.
-- Assumes nothing.
use Rattle.std.specs.Prelude.{ℕ, zero, suc, ◌+◌, ◌*◌, ◌≡◌, Bool, ◌&&◌, cond, List, [], ◌∷◌, ◌++◌, length, get_or, drop, eqb, leb, Result, Ok, Err}
use Rattle.std.specs.Int.{w64}
use Rattle.std.proofs.Common.{Fits}
use Rattle.definitions.specs.declared.error.Error.{Error}
use Rattle.definitions.specs.Limits.{accounts_size, ledger_size, word_size, saved_magic, layout_number, layout_place, accounts_place, ledger_place, sum_place, saved_size}
use Rattle.definitions.specs.Fields.{number_at, big_endian}
use Rattle.definitions.specs.Services.{Service}
use Rattle.definitions.specs.declared.error.Error.TheVariants.{KRB_ERR_RESPONSE_TOO_BIG, KRB_ERR_GENERIC}

-- every entry is a word, as it is of every array of words
abbrev pub Words : List ℕ → Type 0
Words words = (i : ℕ) → Fits w64 (get_or words i 0)

-- R7.1: a service in lent words, which are as many as the two arrays have; every lent service is so by its type
pub record Lent (service : Service) : Type 0 where
  pub accounts : length service.accounts ≡ accounts_size
  pub ledger : length service.ledger ≡ ledger_size
  pub account_words : Words service.accounts
  pub ledger_words : Words service.ledger

-- ---- Saving
-- R7.8: the bytes of some words, each big-endian
unfoldable pub word_bytes : List ℕ → List ℕ
word_bytes [] = []
word_bytes (word ∷ words) = big_endian word_size word ++ word_bytes words

-- the sum of the first bytes, each times the weight of its place; a byte past the end counts as 0
unfoldable pub weighted_sum : (ℕ → ℕ) → List ℕ → ℕ → ℕ
weighted_sum weight bytes zero = 0
weighted_sum weight bytes (suc n) = weighted_sum weight bytes n + weight n * get_or bytes n 0

-- R7.8: the check sum's first half for so many bytes: their sum
abbrev pub byte_sum : List ℕ → ℕ → ℕ
byte_sum bytes n = weighted_sum (λ place. 1) bytes n

-- R7.8: the place of a byte as the check sum counts it: the first byte is at place 1
abbrev pub counted_place : ℕ → ℕ
counted_place place = place + 1

-- R7.8: the check sum's second half: the same sum, with each byte times its place
abbrev pub place_sum : List ℕ → ℕ → ℕ
place_sum bytes n = weighted_sum counted_place bytes n

-- R7.8: the magic, the layout's number, the words of the accounts and those of the ledger
unfoldable pub saved_body : Service → List ℕ
saved_body service = word_bytes (saved_magic ∷ layout_number ∷ []) ++ word_bytes service.accounts ++ word_bytes service.ledger

-- R7.8: some bytes, and behind them their check sum
unfoldable pub with_sums : List ℕ → List ℕ
with_sums bytes = bytes ++ word_bytes (byte_sum bytes (length bytes) ∷ place_sum bytes (length bytes) ∷ [])

-- R7.8: the bytes of a service
abbrev pub saved_of : Service → List ℕ
saved_of service = with_sums (saved_body service)

-- R7.8: what saving answers to an output of so many bytes: 52, or how many bytes a service takes
abbrev pub save_answer : ℕ → Result ℕ Error
save_answer room = cond (leb saved_size room) (Ok saved_size) (Err KRB_ERR_RESPONSE_TOO_BIG)

-- R7.8: the output afterwards: the service at its start and every other byte as it was; untouched by a refusal
unfoldable pub save_output : Service → List ℕ → List ℕ
save_output service output = cond (leb saved_size (length output)) (saved_of service ++ drop saved_size output) output

-- ---- Loading
-- R7.8: so many words from a position on
unfoldable pub words_at : List ℕ → ℕ → ℕ → List ℕ
words_at bytes at zero = []
words_at bytes at (suc n) = words_at bytes at n ++ (number_at bytes (at + word_size * n) word_size ∷ [])

-- R7.9: the bytes are those of a service: length, magic, the layout's number and both halves of the check sum are right
unfoldable pub loadable : List ℕ → Bool
loadable bytes =
    eqb (length bytes) saved_size
    && (eqb (number_at bytes 0 word_size) saved_magic
    && (eqb (number_at bytes layout_place word_size) layout_number
    && (eqb (number_at bytes sum_place word_size) (byte_sum bytes sum_place)
    && eqb (number_at bytes (sum_place + word_size) word_size) (place_sum bytes sum_place))))

-- R7.9: the service that some bytes hold
abbrev pub loaded_from : List ℕ → Service
loaded_from bytes = record { accounts = words_at bytes accounts_place accounts_size; ledger = words_at bytes ledger_place ledger_size }

-- R7.9: what loading answers: 60 to all other bytes
abbrev pub load_answer : List ℕ → Result Unit Error
load_answer bytes = cond (loadable bytes) (Ok tt) (Err KRB_ERR_GENERIC)

-- R7.9: the service afterwards: the one that was saved; untouched by a refusal
abbrev pub load_service : List ℕ → Service → Service
load_service bytes service = cond (loadable bytes) (loaded_from bytes) service
