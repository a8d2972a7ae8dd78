-- The ledger's words after ended tickets were cleared out (R7.6): what stands at the places that stay, closed up in its order and word for word as
-- it was; zeros in the places set free; and how many stayed. No other word changes: places that held nothing are left as they are.
-- Assumes nothing.
use Rattle.std.specs.Prelude.{ℕ, zero, suc, ◌+◌, List, [], ◌∷◌, ◌++◌, length, set, replicate}
use Rattle.definitions.specs.Limits.{count_word, place_size}
use Rattle.definitions.specs.LedgerWords.{Place, place_at, put_place, ticket_on, count_held}
use Rattle.definitions.specs.Clearing.{staying, gone_from}

-- what stands at n places from one on
unfoldable pub places_from : List ℕ → ℕ → ℕ → List Place
places_from words place zero = []
places_from words place (suc n) = place_at words place ∷ places_from words (place + 1) n

-- R7.1: what stands at the places that hold tickets
abbrev pub held_places : List ℕ → List Place
held_places words = places_from words 0 (count_held words)

-- a place set free
abbrev pub free_place : Place
free_place = record { number = 0; row = replicate place_size 0 }

-- the words with places put one after the other, from one on
unfoldable pub put_places : List ℕ → ℕ → List Place → List ℕ
put_places words place [] = words
put_places words place (content ∷ contents) = put_places (put_place words place content) (place + 1) contents

-- R7.6: the places whose tickets stay, and behind them as many free ones as go
abbrev pub closed_up : ℕ → List Place → List Place
closed_up clock places = staying ticket_on clock places ++ replicate (gone_from ticket_on clock places) free_place

-- R7.6: the words after a clearing
unfoldable pub clear_tickets : List ℕ → ℕ → List ℕ
clear_tickets words clock =
    set (put_places words 0 (closed_up clock (held_places words))) count_word (length (staying ticket_on clock (held_places words)))
