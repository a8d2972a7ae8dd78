-- What is read back of a service (R2.13, R7.7): an account and a ticket in numbers, a name in bytes.
-- Assumes nothing.
use Rattle.std.specs.Prelude.{ℕ, ◌-◌, ◌%◌, Bool, cond, List, [], ◌∷◌, ◌++◌, length, replicate}
use Rattle.definitions.specs.Limits.{name_limit, trail_limit, two4}
use Rattle.definitions.specs.Fields.{run}
use Rattle.definitions.specs.Accounts.{Row}
use Rattle.definitions.specs.TicketRecords.{tgt_of, evidence_of}
use Rattle.definitions.specs.declared.ticket.Origin.{Origin}
use Rattle.definitions.specs.declared.ticket.Origin.TheVariants.{Initial, Direct, S4U2self, Delegated}
use Rattle.definitions.specs.declared.ticket.Ticket.{Ticket}

-- R2.13: a name in the bytes of the longest one, 0 behind it
unfoldable pub padded_name : List ℕ → List ℕ
padded_name name = name ++ replicate (name_limit - length name) 0

-- 1 where it is so, else 0
abbrev pub as_number : Bool → ℕ
as_number it = cond it 1 0

-- R2.13: an account in numbers: whether it is set, the four flags, the send set, the receive set, the lifetime, the length of its name
abbrev pub account_fields : Row → List ℕ
account_fields row =
    as_number row.account.known ∷ row.account.flags % two4 ∷ row.account.send ∷ row.account.receive ∷ row.account.lifetime
    ∷ length row.name ∷ []

-- R3.3: the kind of request that makes a ticket of this origin
abbrev pub origin_kind : Origin → ℕ
origin_kind Initial = 1
origin_kind (Direct tgt) = 2
origin_kind (S4U2self tgt) = 3
origin_kind (Delegated tgt evidence) = 4

-- R7.7: a ticket in numbers: what its record has, in the order of the map's bits, the kind that made it, and the places of its trail
abbrev pub ticket_fields : Ticket → List ℕ
ticket_fields ticket =
    ticket.number ∷ ticket.flags ∷ ticket.client ∷ ticket.service ∷ ticket.window.start ∷ ticket.window.end ∷ tgt_of ticket.origin
    ∷ evidence_of ticket.origin ∷ ticket.hops ∷ as_number ticket.barred ∷ origin_kind ticket.origin ∷ run ticket.trail 0 trail_limit
