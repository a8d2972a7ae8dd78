-- Cases of grants (section 5 of the rules): whose flags, lifetime and mark count, window, trail, number, and what makes a presented ticket the
-- held one; over the definitions, by evaluation, from the bytes of requests.
-- Assumes nothing.
use Rattle.std.specs.Prelude.{Result, Ok}
use mathlib.Core.Path.{◌≡◌, refl}
use mathlib.Core.Bool.{Bool, true, false, cond}
use mathlib.Core.List.{List, [], ◌∷◌, ◌++◌, map}
use Prim.Native.Nat.{ℕ, ◌+◌}
use lib.ListN.{replicate}
use Rattle.definitions.specs.declared.error.Error.{Error}
use Rattle.definitions.specs.Errors.{answer_number}
use Rattle.definitions.specs.Equality.{same_ticket}
use Rattle.definitions.specs.Fields.{has_bit, number_at, big_endian, run, past_field, offset_of, field_of, field_bytes, bytes_to}
use Rattle.definitions.specs.TicketRecords.{known_map, hops_fit, readable_as, origin_as, trail_of, read_ticket, record_as, ticket_or_blank}
use Rattle.definitions.specs.Requests.{map_fits, path_of, embedded_of, whole_request, request_for, read_request}
use Rattle.definitions.specs.Accounts.{no_row, Table}
use Rattle.definitions.specs.Names.{lower, agree, same_name, number_from}
use Rattle.definitions.specs.Edits.{edit_of, edit_row}
use Rattle.definitions.specs.Decisions.{tgt_checks, evidence_checks, user_checks, last_checks, hop_checks, initial_checks, direct_checks, s4u2self_checks, s4u2proxy_checks, decide_initial, decide_direct, decide_s4u2self, decide_s4u2proxy, opening_checks}
use Rattle.definitions.specs.Routes.{classic_route, resource_route, is_permitted, has_route}
use Rattle.definitions.specs.Windows.{initial_window, grant_window, hop_window}
use Rattle.definitions.specs.NewTickets.{initial_ticket, direct_ticket, s4u2self_ticket, s4u2proxy_ticket}
use Rattle.definitions.specs.HeldTickets.{holds}
use Rattle.definitions.specs.Answers.{decide_request}
use Rattle.definitions.specs.declared.ticket.Origin.TheVariants.{Initial, Direct, S4U2self, Delegated}
use Rattle.definitions.specs.declared.ticket.Ticket.{Ticket}
use Rattle.definitions.proofs.DecisionCases.{tech, web, store}
use Rattle.definitions.proofs.CaseValues.{ticket, nothing, request-1, request-2, request-3, request-4, enough}

-- `tech`, `web`, `store` with these flags, sets of `web` and of `store`, and a lifetime for each
abbrev table : ℕ → ℕ → ℕ → ℕ → ℕ → Table
table flags0 flags1 flags2 send receive =
    edit_row (edit_of 0 tech flags0 0x7 0x7 100) ∷ edit_row (edit_of 1 web flags1 send 0 200) ∷ edit_row (edit_of 2 store flags2 0 receive 300)
    ∷ replicate 61 no_row

-- every option but FORWARDABLE; FORWARDABLE alone; CNAME-IN-ADDL-TKT alone; every PAC option but the resource-based; that alone
abbrev others : List ℕ
others = 0xBF ∷ 0xFF ∷ 0xFF ∷ 0xFF ∷ []

abbrev asked : List ℕ
asked = 0x40 ∷ 0x00 ∷ 0x00 ∷ 0x00 ∷ []

abbrev cname : List ℕ
cname = 0x00 ∷ 0x02 ∷ 0x00 ∷ 0x00 ∷ []

abbrev no-cname : List ℕ
no-cname = 0xFF ∷ 0xFD ∷ 0xFF ∷ 0xFF ∷ []

abbrev other-pac : List ℕ
other-pac = 0xEF ∷ 0xFF ∷ 0xFF ∷ 0xFF ∷ []

abbrev resource : List ℕ
resource = 0x10 ∷ 0x00 ∷ 0x00 ∷ 0x00 ∷ []

-- a TGT of `web` and evidence of `tech` to it; a third ticket that makes the next number 3
abbrev tgt : ℕ → Bool → Ticket
tgt flags mark = ticket 5 flags 1 0 500 5000 Initial [] mark

abbrev evidence : ℕ → Bool → Ticket
evidence flags mark = ticket 7 flags 0 1 600 5000 (Direct 5) [] mark

-- evidence of `web` to itself
abbrev own-evidence : Ticket
own-evidence = ticket 7 0x40000000 1 1 600 5000 (S4U2self 5) [] false

abbrev third : Ticket
third = ticket 9 0 2 0 0 0 Initial [] false

-- a request of each kind at 1000, for `tech` or to `store`
abbrev kind_1 : ℕ → List ℕ → Result Ticket Error
kind_1 flags0 options = decide_request (table flags0 12 8 0 0) (third ∷ third ∷ third ∷ []) 3 (request-1 options nothing tech) 1000 enough

abbrev kind_2 : ℕ → ℕ → Ticket → List ℕ → Result Ticket Error
kind_2 flags1 flags2 t options = decide_request (table 2 flags1 flags2 0 0) (third ∷ t ∷ third ∷ []) 3 (request-2 options nothing t store) 1000 enough

abbrev kind_3 : ℕ → ℕ → ℕ → Ticket → List ℕ → Result Ticket Error
kind_3 flags0 flags1 send t options =
    decide_request (table flags0 flags1 8 send 0) (third ∷ t ∷ third ∷ []) 3 (request-3 options nothing t tech) 1000 enough

abbrev kind-4 : Table → List ℕ → List ℕ → Ticket → Ticket → Result Ticket Error
kind-4 rows options pac t e = decide_request rows (third ∷ e ∷ t ∷ []) 3 (request-4 options pac nothing t e store) 1000 enough

-- what each gives
abbrev first-ticket : ℕ → Bool → Result Ticket Error
first-ticket flags mark = Ok (ticket 3 flags 0 0 1000 1100 Initial [] mark)

abbrev direct-ticket : ℕ → Bool → Result Ticket Error
direct-ticket flags mark = Ok (ticket 3 flags 1 2 1000 1300 (Direct 5) [] mark)

abbrev self-ticket : ℕ → Bool → Result Ticket Error
self-ticket flags mark = Ok (ticket 3 flags 0 1 1000 1200 (S4U2self 5) [] mark)

abbrev hop-ticket : ℕ → List ℕ → Bool → Result Ticket Error
hop-ticket flags trail mark = Ok (ticket 3 flags 0 2 1000 1300 (Delegated 5 7) trail mark)

-- the classic route alone, and the resource route alone
abbrev classic : Table
classic = table 0 12 8 0x4 0

abbrev by-resource : Table
by-resource = table 0 12 8 0 0x2

-- evidence that came by hops
abbrev hopped : List ℕ → Ticket
hopped trail = ticket 7 0x40000000 0 1 600 5000 (Delegated 5 6) trail false

-- the number of an answer
abbrev number : Result Ticket Error → ℕ
number decision = answer_number decision

-- ---- Truth tables: a list for no and yes
abbrev both : (Bool → List ℕ) → List ℕ
both answers = answers false ++ answers true

-- the flags of a grant, and 1 for its mark
abbrev summary : Result Ticket Error → ℕ
summary decision = (ticket_or_blank decision).flags + cond (ticket_or_blank decision).barred 1 0

-- FORWARDABLE or not, as an option and as a flag
abbrev asking : Bool → List ℕ
asking wish = cond wish asked others

abbrev forwardable : Bool → ℕ
forwardable wish = cond wish 0x40000000 0

-- kind 1: asked, user barred
abbrev table-1 : List ℕ
table-1 = both (λ ask. both (λ bar. summary (kind_1 (cond bar 2 0) (asking ask)) ∷ []))

-- kind 2: asked, TGT FORWARDABLE, TGT marked, client barred
abbrev table-2 : List ℕ
table-2 =
    both (λ ask. both (λ fwd. both (λ mark. both (λ bar. summary (kind_2 (cond bar 2 0) 8 (tgt (forwardable fwd) mark) (asking ask)) ∷ []))))

-- kind 3: Service 1 trusted, it has a send set, asked, TGT FORWARDABLE
abbrev table-3 : Bool → List ℕ
table-3 bar =
    both (λ trust. both (λ sends. both (λ ask. both (λ fwd.
    summary (kind_3 (cond bar 2 0) (cond trust 12 8) (cond sends 1 0) (tgt (forwardable fwd) false) (asking ask)) ∷ []))))

-- kind 4: Service 2 in the send set, evidence FORWARDABLE; Service 1 in the receive set, resource-based asked, evidence marked
abbrev table-4 : Bool → Bool → List ℕ
table-4 bar option =
    both (λ send. both (λ fwd. both (λ receive. both (λ pac. both (λ mark.
    number (kind-4 (table (cond bar 2 0) 12 8 (cond send 4 0) (cond receive 2 0)) (cond option cname nothing) (cond pac resource nothing) (tgt 0 false) (evidence (forwardable fwd) mark)) ∷ [])))))

-- the resource route where the classic one is shut
abbrev resource-only : List ℕ
resource-only = 13 ∷ 13 ∷ 13 ∷ 13 ∷ 13 ∷ 13 ∷ 0 ∷ 13 ∷ []

pub record GrantCases : Type 0 where
  -- R5.4 to R5.7: FORWARDABLE and mark of kinds 1, 2 and 3, and the routes of kind 4, by all that they depend on
  pub all-1 : table-1 ≡ 0x00400000 ∷ 0x00400001 ∷ 0x40400000 ∷ 0x00400001 ∷ []
  pub all-2 : table-2 ≡ 0 ∷ 1 ∷ 1 ∷ 1 ∷ 0 ∷ 1 ∷ 1 ∷ 1 ∷ 0 ∷ 1 ∷ 1 ∷ 1 ∷ 0x40000000 ∷ 1 ∷ 1 ∷ 1 ∷ []
  pub all-3 : table-3 false ≡ 0 ∷ 0 ∷ 0 ∷ 0x40000000 ∷ 0 ∷ 0 ∷ 0 ∷ 0 ∷ replicate 8 0x40000000
  pub all-3-barred : table-3 true ≡ replicate 16 1
  pub all-4 : table-4 false true ≡ resource-only ++ resource-only ++ resource-only ++ replicate 8 0
  pub all-4-barred : table-4 true true ≡ replicate 32 13
  pub all-4-no-option : table-4 false false ≡ replicate 32 13
  -- R5.4: the user's bar gives the mark; FORWARDABLE is asked for and there is no mark; no other option counts, nor another flag
  pub first_plain : kind_1 0 nothing ≡ first-ticket 0x00400000 false
  pub first-asked : kind_1 0 asked ≡ first-ticket 0x40400000 false
  pub first-others : kind_1 12 others ≡ first-ticket 0x00400000 false
  pub first-barred : kind_1 2 asked ≡ first-ticket 0x00400000 true
  -- R5.5: the client's bar or the TGT's mark gives the mark, no bar of the service; FORWARDABLE is asked for and the TGT has it
  pub direct-asked : kind_2 12 8 (tgt 0x40000000 false) asked ≡ direct-ticket 0x40000000 false
  pub direct-not-asked : kind_2 0 8 (tgt 0xFFFFFFFF false) others ≡ direct-ticket 0 false
  pub direct-not-given : kind_2 0 8 (tgt 0xBFFFFFFF false) asked ≡ direct-ticket 0 false
  pub direct-barred : kind_2 2 8 (tgt 0x40000000 false) asked ≡ direct-ticket 0 true
  pub direct-marked : kind_2 0 8 (tgt 0x40000000 true) asked ≡ direct-ticket 0 true
  pub direct-to-barred : kind_2 0 10 (tgt 0x40000000 false) asked ≡ direct-ticket 0x40000000 false
  -- R5.6: the user's bar gives the mark, before trust; no bar of Service 1 and no mark of the TGT does
  pub self-trusted : kind_3 0 12 0 (tgt 0 false) nothing ≡ self-ticket 0x40000000 false
  pub self-trusted-sends : kind_3 0 12 0x4 (tgt 0 false) others ≡ self-ticket 0x40000000 false
  pub self-sends : kind_3 4 8 0x8000000000000000 (tgt 0x40000000 false) asked ≡ self-ticket 0 false
  pub self-asked : kind_3 0 8 0 (tgt 0x40000000 false) asked ≡ self-ticket 0x40000000 false
  pub self-not-asked : kind_3 0 8 0 (tgt 0xFFFFFFFF false) others ≡ self-ticket 0 false
  pub self-not-given : kind_3 0 8 0 (tgt 0xBFFFFFFF false) asked ≡ self-ticket 0 false
  pub self-barred : kind_3 2 12 0 (tgt 0x40000000 false) asked ≡ self-ticket 0 true
  pub self-of-barred : kind_3 0 14 0 (tgt 0x40000000 true) asked ≡ self-ticket 0x40000000 false
  -- R5.7: the send set is of Service 1 and the receive set of Service 2; each route stands alone, and each option is its own bit
  pub route-classic : kind-4 classic cname other-pac (tgt 0 false) (evidence 0x40000000 false) ≡ hop-ticket 0x40000000 (1 ∷ []) false
  pub route-resource : kind-4 by-resource cname resource (tgt 0 false) (evidence 0 false) ≡ hop-ticket 0 (1 ∷ []) false
  pub no-option : number (kind-4 classic no-cname resource (tgt 0 false) (evidence 0x40000000 false)) ≡ 13
  pub no-resource-option : number (kind-4 by-resource cname other-pac (tgt 0 false) (evidence 0x40000000 false)) ≡ 13
  pub no-set : number (kind-4 (table 0 12 8 0xFFFFFFFFFFFFFFFB 0xFFFFFFFFFFFFFFFD) cname resource (tgt 0x40000000 false) (evidence 0x40000000 false)) ≡ 13
  pub no-forwardable : number (kind-4 (table 0 12 8 0x4 0) cname resource (tgt 0x40000000 false) (evidence 0xBFFFFFFF false)) ≡ 13
  pub no-clean-evidence : number (kind-4 (table 0 12 8 0 0x2) cname resource (tgt 0 false) (evidence 0x40000000 true)) ≡ 13
  -- R5.7: the bar is the client's, on either route; that of Service 1 or Service 2 does not count, unless it is the client
  pub bar-of-services : kind-4 (table 0 14 10 0x4 0) cname nothing (tgt 0 false) (evidence 0x40000000 false) ≡ hop-ticket 0x40000000 (1 ∷ []) false
  pub bar-of-services-resource : kind-4 (table 0 14 10 0 0x2) cname resource (tgt 0 false) (evidence 0 false) ≡ hop-ticket 0 (1 ∷ []) false
  pub bar-of-client : number (kind-4 (table 2 12 8 0x4 0) cname nothing (tgt 0 false) (evidence 0x40000000 false)) ∷ number (kind-4 (table 2 12 8 0 0x2) cname resource (tgt 0 false) (evidence 0 false)) ∷ [] ≡ 13 ∷ 13 ∷ []
  pub bar-of-both : map (λ bar. number (kind-4 (table 0 bar 8 0x4 0) cname nothing (tgt 0 false) own-evidence)) (12 ∷ 14 ∷ []) ≡ 0 ∷ 13 ∷ []
  -- R5.8: client, mark and FORWARDABLE are the evidence's, no other flag of it; the TGT's flags and mark do not count
  pub hop-flags : kind-4 classic cname nothing (tgt 0 true) (evidence 0xFFFFFFFF false) ≡ hop-ticket 0x40000000 (1 ∷ []) false
  pub hop-no-flags : kind-4 by-resource (0x40 ∷ 0x02 ∷ 0x00 ∷ 0x00 ∷ []) resource (tgt 0xFFFFFFFF true) (evidence 0xBFFFFFFF false) ≡ hop-ticket 0 (1 ∷ []) false
  pub hop-marked : kind-4 classic cname nothing (tgt 0 false) (evidence 0x40000000 true) ≡ hop-ticket 0x40000000 (1 ∷ []) true
  -- the trail grows behind, up to eight
  pub hop-trail : kind-4 classic cname nothing (tgt 0 false) (hopped (5 ∷ 6 ∷ [])) ≡ hop-ticket 0x40000000 (5 ∷ 6 ∷ 1 ∷ []) false
  pub hop-eighth : kind-4 classic cname nothing (tgt 0 false) (hopped (9 ∷ 8 ∷ 7 ∷ 6 ∷ 5 ∷ 4 ∷ 3 ∷ [])) ≡ hop-ticket 0x40000000 (9 ∷ 8 ∷ 7 ∷ 6 ∷ 5 ∷ 4 ∷ 3 ∷ 1 ∷ []) false
  pub hop-ninth : number (kind-4 classic cname nothing (tgt 0 false) (hopped (replicate 8 1))) ≡ 61

pub grant-cases : GrantCases
unfolding same_ticket has_bit number_at big_endian run offset_of field_of field_bytes known_map hops_fit readable_as origin_as trail_of read_ticket record_as map_fits path_of embedded_of whole_request request_for read_request lower agree same_name number_from tgt_checks evidence_checks user_checks last_checks classic_route resource_route is_permitted hop_checks initial_window grant_window hop_window initial_ticket direct_ticket s4u2self_ticket s4u2proxy_ticket initial_checks direct_checks s4u2self_checks s4u2proxy_checks decide_initial decide_direct decide_s4u2self decide_s4u2proxy holds decide_request opening_checks has_route past_field bytes_to
grant-cases =
    record {
      all-1 = refl;
      all-2 = refl;
      all-3 = refl;
      all-3-barred = refl;
      all-4 = refl;
      all-4-barred = refl;
      all-4-no-option = refl;
      first_plain = refl;
      first-asked = refl;
      first-others = refl;
      first-barred = refl;
      direct-asked = refl;
      direct-not-asked = refl;
      direct-not-given = refl;
      direct-barred = refl;
      direct-marked = refl;
      direct-to-barred = refl;
      self-trusted = refl;
      self-trusted-sends = refl;
      self-sends = refl;
      self-asked = refl;
      self-not-asked = refl;
      self-not-given = refl;
      self-barred = refl;
      self-of-barred = refl;
      route-classic = refl;
      route-resource = refl;
      no-option = refl;
      no-resource-option = refl;
      no-set = refl;
      no-forwardable = refl;
      no-clean-evidence = refl;
      bar-of-services = refl;
      bar-of-services-resource = refl;
      bar-of-client = refl;
      bar-of-both = refl;
      hop-flags = refl;
      hop-no-flags = refl;
      hop-marked = refl;
      hop-trail = refl;
      hop-eighth = refl;
      hop-ninth = refl;
    }
