-- The ticket of a number: the first that has it (R7.1); and whether a presented ticket is that one (R5.1).
-- Assumes nothing.
use Rattle.std.specs.Prelude.{ℕ, Bool, false, cond, List, [], ◌∷◌, eqb}
use Rattle.std.proofs.Math.Option.{Option, some, none}
use Rattle.definitions.specs.Equality.{same_ticket}
use Rattle.definitions.specs.declared.ticket.Ticket.{Ticket}

-- R7.1: the first entry of a list that has a number, where a function tells an entry's number
abbrev pub first_of : {A : Type 0} → (A → ℕ) → ℕ → List A → Option A
first_of number_in number [] = none
first_of number_in number (entry ∷ entries) = cond (eqb (number_in entry) number) (some entry) (first_of number_in number entries)

-- the number of a ticket
abbrev pub ticket_number : Ticket → ℕ
ticket_number ticket = ticket.number

-- R7.1: the ticket that a number stands for, if there is one
abbrev pub first_ticket : ℕ → List Ticket → Option Ticket
first_ticket number tickets = first_of ticket_number number tickets

-- what a number stands for, if anything, is a ticket, in every part
abbrev pub is_ticket : Option Ticket → Ticket → Bool
is_ticket none ticket = false
is_ticket (some held) ticket = same_ticket held ticket

-- R5.1: whether a list holds a ticket, by what its number stands for
unfoldable pub holds : List Ticket → Ticket → Bool
holds tickets ticket = is_ticket (first_ticket ticket.number tickets) ticket
