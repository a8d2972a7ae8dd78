-- The ledger in the words that the caller lends: a header with the stored count and the next number, the tickets' numbers in lanes of 16 bits,
-- and four words for each place (R7.1). Any words are some ledger: a stored count above the places counts as all of them.
-- Assumes nothing.
use Rattle.std.specs.Prelude.{ℕ, zero, suc, ◌+◌, ◌*◌, ◌/◌, ◌%◌, min, Bool, true, false, cond, List, [], ◌∷◌, get_or, set, replicate, eqb}
use Rattle.definitions.specs.Limits.{ticket_limit, trail_limit, byte_bits, number_bits, two4, two8, two16, two32, two40, two48, two56, two60, count_word, next_word, numbers_start, places_start, place_size, window_word, back_word, trail_word, ledger_size}
use Rattle.definitions.specs.TicketRecords.{tgt_of, evidence_of}
use Rattle.definitions.specs.Words.{lanes_of, pack_at, lane_at, put_lane, put_row}
use Rattle.definitions.specs.declared.ticket.Origin.{Origin}
use Rattle.definitions.specs.declared.ticket.Origin.TheVariants.{Initial, Direct, S4U2self, Delegated}
use Rattle.definitions.specs.declared.window.Window.{Window}
use Rattle.definitions.specs.declared.ticket.Ticket.{Ticket}

-- the word at which a place starts
abbrev pub place_start : ℕ → ℕ
place_start place = places_start + place_size * place

-- word k of a place
abbrev pub place_word : List ℕ → ℕ → ℕ → ℕ
place_word words place k = get_or words (place_start place + k) 0

-- what stands at a place: the number in its lane, and its four words
pub record Place : Type 0 where
  pub number : ℕ
  pub row : List ℕ

-- that of the words
abbrev pub place_at : List ℕ → ℕ → Place
place_at words place =
    record {
      number = lane_at number_bits words numbers_start place;
      row = place_word words place 0 ∷ place_word words place window_word ∷ place_word words place back_word ∷ place_word words place trail_word ∷ [];
    }

-- the words with a place put
abbrev pub put_place : List ℕ → ℕ → Place → List ℕ
put_place words place content = put_row (put_lane number_bits words numbers_start place content.number) (place_start place) content.row

-- the origin of a tag: 0, 1, 2, and any other is that of a delegated ticket
unfoldable pub origin_in : ℕ → ℕ → ℕ → Origin
origin_in tag tgt evidence =
    cond (eqb tag 0) Initial (cond (eqb tag 1) (Direct tgt) (cond (eqb tag 2) (S4U2self tgt) (Delegated tgt evidence)))

-- start and end in a place's second word
abbrev pub window_in : ℕ → Window
window_in second = record { start = second % two32; end = second / two32 % two32 }

-- the ticket of a number and a place's four words. The first has flags, client, service and hops, from bit 56 on the origin's tag, and from
-- bit 60 on 1 where the ticket has the barred mark; the third has from bit 32 on the TGT's number, from bit 48 on the evidence's; the fourth has
-- the trail
unfoldable pub ticket_in : ℕ → ℕ → ℕ → ℕ → ℕ → Ticket
ticket_in number first second third fourth =
    record {
      number = number;
      flags = first % two32;
      client = first / two32 % two8;
      service = first / two40 % two8;
      window = window_in second;
      origin = origin_in (first / two56 % two4) (third / two32 % two16) (third / two48 % two16);
      trail = lanes_of byte_bits fourth trail_limit;
      hops = first / two48 % two8;
      barred = eqb (first / two60 % two4) 1;
    }

-- the ticket of what stands at a place
abbrev pub ticket_on : Place → Ticket
ticket_on place =
    ticket_in place.number (get_or place.row 0 0) (get_or place.row window_word 0) (get_or place.row back_word 0) (get_or place.row trail_word 0)

-- the ticket at a place
unfoldable pub ticket_at : List ℕ → ℕ → Ticket
ticket_at words place = ticket_on (place_at words place)

-- R7.1: how many tickets the words hold
abbrev pub count_held : List ℕ → ℕ
count_held words = min (get_or words count_word 0) ticket_limit

-- R5.10: the stored number of the next ticket
abbrev pub next_number : List ℕ → ℕ
next_number words = get_or words next_word 0

-- the tickets of n places from one on
unfoldable pub tickets_from : List ℕ → ℕ → ℕ → List Ticket
tickets_from words place zero = []
tickets_from words place (suc n) = ticket_at words place ∷ tickets_from words (place + 1) n

-- the ledger that the words stand for
unfoldable pub tickets_of : List ℕ → List Ticket
tickets_of words = tickets_from words 0 (count_held words)

-- the tag of an origin
abbrev pub tag_of : Origin → ℕ
tag_of Initial = 0
tag_of (Direct tgt) = 1
tag_of (S4U2self tgt) = 2
tag_of (Delegated tgt evidence) = 3

-- the barred mark, as it is stored
abbrev pub mark_of : Bool → ℕ
mark_of true = 1
mark_of false = 0

-- the four words of a ticket
abbrev pub ticket_words : Ticket → List ℕ
ticket_words ticket =
    (ticket.flags + two32 * ticket.client + two40 * ticket.service + two48 * ticket.hops + two56 * tag_of ticket.origin + two60 * mark_of ticket.barred)
    ∷ (ticket.window.start + two32 * ticket.window.end) ∷ (two32 * tgt_of ticket.origin + two48 * evidence_of ticket.origin)
    ∷ pack_at byte_bits ticket.trail 0 trail_limit ∷ []

-- the words after a ticket is put at a place: the lane of its number, and the four words of the place
abbrev pub put_ticket : List ℕ → ℕ → Ticket → List ℕ
put_ticket words place ticket = put_place words place (record { number = ticket.number; row = ticket_words ticket })

-- R7.3, R5.10: the words after a ticket is put at the end of the ledger: the count and the next number are one more
unfoldable pub store_ticket : List ℕ → Ticket → List ℕ
store_ticket words ticket =
    set (set (put_ticket words (count_held words) ticket) count_word (count_held words + 1)) next_word (next_number words + 1)

-- R7.2: the words of a ledger without tickets, whose first has number 0
abbrev pub no_ticket_words : List ℕ
no_ticket_words = replicate ledger_size 0
