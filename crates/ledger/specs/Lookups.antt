-- How the code looks tickets up: the moment, what a look-up tells, and many places at a time (R5.1, R7.1). Of the exported
-- promises those of `held_at` and `first_held` alone speak of it; the laws of the same name tie it to `holds` and `first_ticket`.
-- Assumes nothing.
use Rattle.std.specs.Prelude.{ℕ, ◌%◌, ◌≤◌, ◌<◌, ◌≡◌, Bool, false, cond, ltb, leb, List, get_or, Option, Some, None, MatchOption}
use Rattle.std.proofs.Math.Option.{Option as Maybe, some as just, none as nothing}
use Rattle.definitions.specs.Limits.{number_bits, numbers_in_word, ticket_limit, last_number, two16}
use Rattle.definitions.specs.Words.{lane_of}
use Rattle.definitions.specs.LedgerWords.{ticket_at, count_held}
use Rattle.definitions.specs.HeldTickets.{first_ticket}
use Rattle.definitions.specs.Equality.{same_ticket}
use Rattle.definitions.specs.declared.ticket.Ticket.{Ticket}
use Rattle.definitions.specs.declared.decision.Moment.{Moment}

-- ---- The moment
-- the moment that the code decides at: where no number is left, that of a full ledger
unfoldable pub moment_at : ℕ → ℕ → ℕ → Moment
moment_at clock count stored =
    record { clock = clock; count = cond (leb stored last_number) count ticket_limit; next = stored % two16 }

-- ---- What a place or a number has, as a look-up tells it
-- what there is, as the code's option tells it
abbrev pub given : {A : Type 0} → Maybe A → Option A
given nothing = None
given (just value) = Some value

-- what a number stands for (R7.1)
unfoldable pub first_held : List Ticket → ℕ → Option Ticket
first_held tickets number = given (first_ticket number tickets)

-- the ticket at a place of those held, nothing past them
unfoldable pub held_at : List ℕ → ℕ → Option Ticket
held_at words place = cond (ltb place (count_held words)) (Some (ticket_at words place)) None

-- what was found is a ticket, the very same
abbrev pub is_found : Ticket → Option Ticket → Bool
is_found ticket None = false
is_found ticket (Some found) = same_ticket found ticket

-- ---- Tickets, many places at a time
-- none of the tickets from a place on and before another has a number
abbrev pub NoneHas : List ℕ → ℕ → ℕ → ℕ → Type 0
NoneHas words number from to = (place : ℕ) → from ≤ place → place < to → (ticket_at words place).number ≡ number → ⊥

-- none of the first lanes of a word of numbers has a number
abbrev pub NoLane : ℕ → ℕ → ℕ → Type 0
NoLane word number n = (k : ℕ) → k < n → lane_of number_bits word k ≡ number → ⊥

-- none of the first of some words of numbers has a number
abbrev pub NoneIn : List ℕ → ℕ → ℕ → Type 0
NoneIn numbers number n = (k : ℕ) → k < n → NoLane (get_or numbers k 0) number numbers_in_word

-- the first lane of a word of numbers that has a number, where one has
abbrev pub FirstLane : ℕ → ℕ → Option ℕ → Type 0
FirstLane word number lane =
    MatchOption lane (NoLane word number numbers_in_word)
    (λ k. (k < numbers_in_word) × NoLane word number k × (lane_of number_bits word k ≡ number))
