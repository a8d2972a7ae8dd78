-- Clearing out ended tickets (R7.6): which tickets stay at a clock reading, and how many go.
-- Assumes nothing.
use Rattle.std.specs.Prelude.{ℕ, ◌-◌, Bool, not, cond, List, [], ◌∷◌, length}
use Rattle.definitions.specs.Validity.{ended}
use Rattle.definitions.specs.declared.ticket.Ticket.{Ticket}

-- R7.6: a ticket stays until the clock reads its end, by its own end alone
abbrev pub stays : ℕ → Ticket → Bool
stays clock ticket = not (ended ticket.window clock)

-- those of a list that a test takes, in their order
abbrev pub only : {A : Type 0} → (A → Bool) → List A → List A
only test [] = []
only test (entry ∷ entries) = cond (test entry) (entry ∷ only test entries) (only test entries)

-- R7.6: the entries of a list whose tickets stay, where a function tells an entry's ticket
abbrev pub staying : {A : Type 0} → (A → Ticket) → ℕ → List A → List A
staying ticket_in clock entries = only (λ entry. stays clock (ticket_in entry)) entries

-- R7.6: how many go
abbrev pub gone_from : {A : Type 0} → (A → Ticket) → ℕ → List A → ℕ
gone_from ticket_in clock entries = length entries - length (staying ticket_in clock entries)

-- R7.6: how many tickets of a list go
abbrev pub gone : ℕ → List Ticket → ℕ
gone clock tickets = gone_from (λ ticket. ticket) clock tickets
