-- How the code closes up the places whose tickets stay (R7.6): the numbers that wait for their word to be full, and how far it has come. No
-- exported promise speaks of it; the laws tie it to `clear_tickets`.
-- Assumes nothing.
use Rattle.std.specs.Prelude.{ℕ, ◌+◌, ◌-◌, ◌*◌, ◌/◌, ◌%◌, ◌^◌, ◌≤◌, ◌<◌, ◌≡◌, true, false, List, length, get_or, set, Option, MatchOption}
use Rattle.definitions.specs.Limits.{number_bits, numbers_in_word, numbers_start}
use Rattle.definitions.specs.LedgerWords.{ticket_on, ticket_at}
use Rattle.definitions.specs.Clearing.{stays, staying}
use Rattle.definitions.specs.ClearedWords.{places_from, put_places}
use Rattle.ledger.specs.declared.closing.Closing.{Closing}

-- a word of numbers, its first n lanes as the last n of another's
unfoldable pub lanes_over : ℕ → ℕ → ℕ → ℕ
lanes_over word numbers n = word / 2 ^ (number_bits * n) * 2 ^ (number_bits * n) + numbers / 2 ^ (number_bits * (numbers_in_word - n))

-- the word of numbers to which the next place's belongs
abbrev pub open_word : Closing → ℕ
open_word closing = numbers_start + closing.kept / numbers_in_word

-- the words, with the numbers put that wait
unfoldable pub settled : List ℕ → Closing → List ℕ
settled words closing =
    set words (open_word closing) (lanes_over (get_or words (open_word closing) 0) closing.numbers (closing.kept % numbers_in_word))

-- the tickets at the first places all stay
abbrev pub AllStay : List ℕ → ℕ → ℕ → Type 0
AllStay words clock n = (place : ℕ) → place < n → stays clock (ticket_at words place) ≡ true

-- those at the places from one on up to another all go
abbrev pub AllGo : List ℕ → ℕ → ℕ → ℕ → Type 0
AllGo words clock from to = (place : ℕ) → from ≤ place → place < to → stays clock (ticket_at words place) ≡ false

-- the first place of n whose ticket goes, where one does
abbrev pub IsFirstGone : List ℕ → ℕ → ℕ → Option ℕ → Type 0
IsFirstGone words clock n first =
    MatchOption first (AllStay words clock n) (λ place. (place < n) × AllStay words clock place)

-- the first n places of the words before are closed up in those after
pub record Closed (before : List ℕ) (clock n : ℕ) (after : List ℕ) (closing : Closing) : Type 0 where
  pub count : closing.kept ≡ length (staying ticket_on clock (places_from before 0 n))
  pub words : settled after closing ≡ put_places before 0 (staying ticket_on clock (places_from before 0 n))
