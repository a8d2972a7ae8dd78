-- What lawful descent rules out of what a ticket rests on, and of hops (R9.3, R9.5, R9.7): small lists of entries and notes, one with
-- nothing wrong, and others with one thing wrong, over which nothing is lawful.
-- Assumes nothing.
use mathlib.Core.Path.{◌≡◌, refl, sym, ap, ap₂, ◌∙◌}
use mathlib.Core.Bool.{Bool, true, false, false≢true}
use mathlib.Core.List.{List, [], ◌∷◌, map}
use mathlib.Core.Option.{Option, some, none}
use Prim.Native.Nat.{ℕ}
use native.Mathlib.Omega.{arith}
use lib.ListN.{replicate}
use Rattle.definitions.specs.Fields.{has_bit, number_at, big_endian, run, offset_of, field_of, field_bytes, past_field, bytes_to}
use Rattle.definitions.specs.TicketRecords.{blank_ticket, known_map, hops_fit, readable_as, origin_as, trail_of, read_ticket, record_as}
use Rattle.definitions.specs.Requests.{map_fits, path_of, embedded_of, whole_request, request_for, read_request}
use Rattle.definitions.specs.Accounts.{no_row, Table, account_at}
use Rattle.definitions.specs.Names.{lower, agree, same_name, number_from}
use Rattle.definitions.specs.Edits.{edit_of, edit_row}
use Rattle.definitions.specs.Routes.{classic_route, resource_route, has_route}
use Rattle.definitions.specs.Decisions.{is_initial}
use Rattle.definitions.specs.Book.{Note}
use Rattle.definitions.specs.LawfulDescent.{Entry, RestsOnTgt, RestsOnEvidence, Rests}
use Rattle.definitions.specs.Demand.{Asked}
use Rattle.definitions.specs.declared.ticket.Origin.{Origin}
use Rattle.definitions.specs.declared.ticket.Origin.TheVariants.{Initial, Direct, S4U2self, Delegated}
use Rattle.definitions.specs.declared.ticket.Ticket.{Ticket}
use Rattle.definitions.specs.declared.request.Kind.{Kind}
use Rattle.definitions.specs.declared.request.Kind.TheVariants as kind
use Rattle.definitions.proofs.DecisionCases.{tech, web, store}
use Rattle.definitions.proofs.CaseValues.{ticket, nothing, request-2, request-4}

-- an entry of a ticket in a table, without the resource-based option
abbrev pub dated : Table → Ticket → Entry
dated table t = record { ticket = t; table = table; resource = false }

-- the ticket of an entry that is there
abbrev pub got : Option Entry → Ticket
got none = blank_ticket
got (some entry) = entry.ticket

-- ---- R9.3: a self ticket of account 0 to account 1 that ends at 90, on TGT 4
abbrev pub self : ℕ → Ticket
self number = ticket number 0 0 1 10 90 (S4U2self 4) [] false

-- its TGT, with a client, an end and an origin
abbrev pub tgt : ℕ → ℕ → Origin → Ticket
tgt client end origin = ticket 4 0 client 0 10 end origin [] false

-- the self ticket of a number rests on such a TGT
abbrev OnTgt : ℕ → List Ticket → Type 0
OnTgt number tickets = RestsOnTgt (map (dated []) tickets) (dated [] (self number)) 4 1

-- with nothing wrong
pub on-tgt : OnTgt 5 (tgt 1 90 Initial ∷ [])
on-tgt = record { tgt = dated [] (tgt 1 90 Initial); stands = refl; falls = omega arith; is_initial = refl; its_client = refl; end = omega arith }

pub no-tgt : OnTgt 5 [] → ⊥
no-tgt r = let z : ◌≡◌ {A = ℕ} 0 1 = cc in omega arith

pub tgt-not-below : OnTgt 4 (tgt 1 90 Initial ∷ []) → ⊥
tgt-not-below r = let e : ◌≡◌ {A = ℕ} 4 r.tgt.ticket.number = ap (λ o. (got o).number) r.stands in omega (arith, e, r.falls)

pub tgt-ends-before : OnTgt 5 (tgt 1 89 Initial ∷ []) → ⊥
tgt-ends-before r = let e : ◌≡◌ {A = ℕ} 89 r.tgt.ticket.window.end = ap (λ o. (got o).window.end) r.stands in omega (arith, e, r.end)

pub tgt-of-another : OnTgt 5 (tgt 2 90 Initial ∷ []) → ⊥
tgt-of-another r = let e : ◌≡◌ {A = ℕ} 2 r.tgt.ticket.client = ap (λ o. (got o).client) r.stands in omega (arith, e, r.its_client)

pub tgt-not-initial : OnTgt 5 (tgt 1 90 (Direct 0) ∷ []) → ⊥
tgt-not-initial r = false≢true (ap (λ o. is_initial (got o).origin) r.stands ∙ ap is_initial r.is_initial)

-- ---- R9.3, R9.5, R9.7: a delegated ticket of account 0 to account 2, `store`, that ends at 80, on TGT 4 and evidence 5
-- the table of its moment: account 0 sends to `store`, account 1 has this send set, and `store` this receive set
abbrev senders : ℕ → ℕ → Table
senders send receive =
    edit_row (edit_of 0 tech 8 4 0 100) ∷ edit_row (edit_of 1 web 8 send 0 100) ∷ edit_row (edit_of 2 store 8 0 receive 100) ∷ replicate 61 no_row

-- the evidence, with a client, a service, an end and an origin
abbrev evidence : ℕ → ℕ → ℕ → Origin → Ticket
evidence client service end origin = ticket 5 0x40000000 client service 10 end origin [] false

-- the delegated ticket, with its number
abbrev hop : ℕ → Ticket
hop number = ticket number 0 0 2 10 80 (Delegated 4 5) (1 ∷ []) false

-- it rests on such a TGT and evidence, by such a table and resource-based option
abbrev Hops : ℕ → Ticket → Ticket → Table → Bool → Type 0
Hops number t e table resource =
    RestsOnEvidence (map (dated []) (t ∷ e ∷ [])) (record { ticket = hop number; table = table; resource = resource }) 4 5

-- account 1 sends to `store`
abbrev OnEvidence : ℕ → Ticket → Ticket → Type 0
OnEvidence number t e = Hops number t e (senders 4 0) false

-- on this TGT, and on a ticket to its client
abbrev its-tgt : Ticket
its-tgt = tgt 1 90 Initial

abbrev its-evidence : Ticket
its-evidence = evidence 0 1 80 (S4U2self 4)

-- with nothing wrong, where a route holds
abbrev route_of : Table → Bool → Bool
route_of table resource = has_route (account_at table 1) (account_at table 2) resource 1 its-evidence 2

hops-by : (table : Table) (resource : Bool) → route_of table resource ≡ true → Hops 6 its-tgt its-evidence table resource
hops-by table resource h =
    record {
      evidence = dated [] its-evidence;
      stands = refl;
      falls = omega arith;
      not_initial = refl;
      one_client = refl;
      end = omega arith;
      tgt = record { tgt = dated [] its-tgt; stands = refl; falls = omega arith; is_initial = refl; its_client = refl; end = omega arith };
      by-route = h;
    }

pub on-evidence : OnEvidence 6 its-tgt its-evidence
unfolding has_bit classic_route has_route
on-evidence = hops-by (senders 4 0) false refl

pub on-evidence-received : Hops 6 its-tgt its-evidence (senders 0 2) true
unfolding has_bit classic_route resource_route has_route
on-evidence-received = hops-by (senders 0 2) true refl

pub evidence-not-below : OnEvidence 5 its-tgt its-evidence → ⊥
evidence-not-below r =
    let e : ◌≡◌ {A = ℕ} 5 r.evidence.ticket.number = ap (λ o. (got o).number) r.stands in omega (arith, e, r.falls)

pub evidence-ends-before : OnEvidence 6 (tgt 1 90 Initial) (evidence 0 1 79 (S4U2self 4)) → ⊥
evidence-ends-before r =
    let e : ◌≡◌ {A = ℕ} 79 r.evidence.ticket.window.end = ap (λ o. (got o).window.end) r.stands in omega (arith, e, r.end)

pub evidence-of-another : OnEvidence 6 (tgt 1 90 Initial) (evidence 3 1 80 (S4U2self 4)) → ⊥
evidence-of-another r =
    let e : ◌≡◌ {A = ℕ} 3 r.evidence.ticket.client = ap (λ o. (got o).client) r.stands in omega (arith, e, r.one_client)

pub evidence-initial : OnEvidence 6 (tgt 0 90 Initial) (evidence 0 0 80 Initial) → ⊥
evidence-initial r = false≢true (sym (ap (λ o. is_initial (got o).origin) r.stands ∙ r.not_initial))

pub evidence-to-another : OnEvidence 6 (tgt 1 90 Initial) (evidence 0 0 80 (S4U2self 4)) → ⊥
evidence-to-another r =
    let s : ◌≡◌ {A = ℕ} 0 r.evidence.ticket.service = ap (λ o. (got o).service) r.stands in
    let c : ◌≡◌ {A = ℕ} 1 r.tgt.tgt.ticket.client = ap (λ o. (got o).client) r.tgt.stands in omega (arith, s, c, r.tgt.its_client)

no-route : (table : Table) (resource : Bool) → route_of table resource ≡ false → Hops 6 its-tgt its-evidence table resource → ⊥
no-route table resource h r =
    false≢true
    (sym h
    ∙ ap₂ (λ (t e : Ticket). has_route (account_at table t.client) (account_at table 2) resource t.client e 2) (ap got r.tgt.stands) (ap got r.stands)
    ∙ r.by-route)

-- account 1 neither sends to `store` nor is received there
pub hop-by-no-route : Hops 6 its-tgt its-evidence (senders 0 0) true → ⊥
unfolding has_bit classic_route resource_route has_route
hop-by-no-route = no-route (senders 0 0) true refl

-- it is received there, and the resource-based option did not stand
pub hop-not-resource : Hops 6 its-tgt its-evidence (senders 0 2) false → ⊥
unfolding has_bit classic_route resource_route has_route
hop-not-resource = no-route (senders 0 2) false refl

-- R9.3: whose the TGT is, by origin: the client's of a direct ticket, the service's of a self ticket
pub rests-direct : Rests (dated [] its-tgt ∷ []) (dated [] (ticket 5 0 1 2 10 90 (Direct 4) [] false)) (Direct 4)
rests-direct = record { tgt = dated [] its-tgt; stands = refl; falls = omega arith; is_initial = refl; its_client = refl; end = omega arith }

pub rests-self : Rests (dated [] its-tgt ∷ []) (dated [] (self 5)) (S4U2self 4)
rests-self = on-tgt

pub rests-delegated : Rests (map (dated []) (its-tgt ∷ its-evidence ∷ [])) (dated (senders 4 0) (hop 6)) (Delegated 4 5)
rests-delegated = on-evidence

-- ---- R9.7: what the hop's noted request asked, where TGT 4 and evidence 5 are noted
abbrev noted : List ℕ → Ticket → Note
noted bytes t = record { ticket = t; bytes = bytes; table = senders 4 0 }

-- the option of a hop
abbrev cname : List ℕ
cname = 0x00 ∷ 0x02 ∷ 0x00 ∷ 0x00 ∷ []

-- a request of kind 4 to `store` with options, a TGT and evidence
abbrev asks : List ℕ → Ticket → Ticket → List ℕ
asks options t e = request-4 options nothing nothing t e store

-- a delegated ticket to a service, on a TGT and evidence that are held, was given for such bytes
abbrev Asks : List ℕ → ℕ → Ticket → Ticket → Type 0
Asks bytes service t e = Asked (map (noted []) (t ∷ e ∷ [])) (noted bytes (ticket 6 0 0 service 10 80 (Delegated 4 5) (1 ∷ []) false)) 4 5

-- with nothing wrong
pub hop-asked : Asks (asks cname its-tgt its-evidence) 2 its-tgt its-evidence
unfolding has_bit number_at big_endian run past_field bytes_to offset_of field_of field_bytes known_map hops_fit readable_as origin_as trail_of read_ticket record_as map_fits path_of embedded_of whole_request request_for read_request lower agree same_name number_from
hop-asked = record { of_kind_4 = refl; presented_tgt = refl; presented_evidence = refl; to_service = refl; by_option = refl }

abbrev is_proxy : Kind → Bool
is_proxy kind.Initial = false
is_proxy kind.Direct = false
is_proxy kind.S4U2self = false
is_proxy kind.S4U2proxy = true

-- the ticket that is held, if there is one
abbrev held : Option Ticket → Ticket
held none = blank_ticket
held (some t) = t

pub hop-of-kind-2 : Asks (request-2 nothing nothing its-tgt store) 2 its-tgt its-evidence → ⊥
unfolding has_bit number_at big_endian run past_field bytes_to offset_of field_of field_bytes known_map hops_fit readable_as origin_as trail_of read_ticket record_as map_fits path_of embedded_of whole_request request_for read_request
hop-of-kind-2 h = false≢true (ap is_proxy h.of_kind_4)

pub hop-on-another-tgt : Asks (asks cname its-tgt its-evidence) 2 (tgt 1 91 Initial) its-evidence → ⊥
unfolding has_bit number_at big_endian run past_field bytes_to offset_of field_of field_bytes known_map hops_fit readable_as origin_as trail_of read_ticket record_as map_fits path_of embedded_of whole_request request_for read_request
hop-on-another-tgt h = let e : ◌≡◌ {A = ℕ} 91 90 = ap (λ o. (held o).window.end) h.presented_tgt in omega (arith, e)

pub hop-on-other-evidence : Asks (asks cname its-tgt its-evidence) 2 its-tgt (evidence 0 1 81 (S4U2self 4)) → ⊥
unfolding has_bit number_at big_endian run past_field bytes_to offset_of field_of field_bytes known_map hops_fit readable_as origin_as trail_of read_ticket record_as map_fits path_of embedded_of whole_request request_for read_request
hop-on-other-evidence h = let e : ◌≡◌ {A = ℕ} 81 80 = ap (λ o. (held o).window.end) h.presented_evidence in omega (arith, e)

pub hop-to-another : Asks (asks cname its-tgt its-evidence) 3 its-tgt its-evidence → ⊥
unfolding has_bit number_at big_endian run past_field bytes_to offset_of field_of field_bytes known_map hops_fit readable_as origin_as trail_of read_ticket record_as map_fits path_of embedded_of whole_request request_for read_request lower agree same_name number_from
hop-to-another h = let e : ◌≡◌ {A = ℕ} 3 2 = h.to_service in omega (arith, e)

pub hop-without-option : Asks (asks nothing its-tgt its-evidence) 2 its-tgt its-evidence → ⊥
unfolding has_bit number_at big_endian run past_field bytes_to offset_of field_of field_bytes known_map hops_fit readable_as origin_as trail_of read_ticket record_as map_fits path_of embedded_of whole_request request_for read_request
hop-without-option h = false≢true h.by_option
