-- The order of the checks (R6.1, R6.2), over the definitions, by evaluation. Of each kind stands a request in which any of its checks can be
-- made to fail: each alone, each together with the next, and each together with all behind it. So it is of edits (R2.9) and of the
-- writer (R3.7) too.
-- Assumes nothing.
use Rattle.std.specs.Prelude.{Ok, Err}
use mathlib.Core.Path.{◌≡◌, refl}
use mathlib.Core.Bool.{Bool, true, false, not, ◌&&◌, cond}
use mathlib.Core.List.{List, [], ◌∷◌, ◌++◌}
use Prim.Native.Nat.{ℕ, zero, suc, ◌+◌, ◌-◌}
use lib.ListN.{get_or, length, replicate}
use Rattle.definitions.specs.Errors.{answer_number}
use Rattle.definitions.specs.Equality.{same_ticket}
use Rattle.definitions.specs.Fields.{has_bit, number_at, big_endian, run, past_field, offset_of, field_of, field_bytes, bytes_to}
use Rattle.definitions.specs.TicketRecords.{known_map, hops_fit, readable_as, origin_as, trail_of, read_ticket, record_as, all_zero, service_fits, well_formed}
use Rattle.definitions.specs.Output.{written_of}
use Rattle.definitions.specs.Requests.{map_fits, path_of, embedded_of, whole_request, request_for, read_request}
use Rattle.definitions.specs.Accounts.{Table}
use Rattle.definitions.specs.Names.{good_bytes, good_name, lower, agree, same_name, number_from, name_taken}
use Rattle.definitions.specs.Edits.{edit_of, edit_checks, edit_answer}
use Rattle.definitions.specs.Decisions.{tgt_checks, evidence_checks, user_checks, last_checks, hop_checks, initial_checks, direct_checks, s4u2self_checks, s4u2proxy_checks, decide_initial, decide_direct, decide_s4u2self, decide_s4u2proxy, opening_checks}
use Rattle.definitions.specs.Routes.{classic_route, resource_route, is_permitted, has_route}
use Rattle.definitions.specs.Windows.{initial_window, grant_window, hop_window}
use Rattle.definitions.specs.NewTickets.{initial_ticket, direct_ticket, s4u2self_ticket, s4u2proxy_ticket}
use Rattle.definitions.specs.HeldTickets.{holds}
use Rattle.definitions.specs.Answers.{decide_request}
use Rattle.definitions.specs.declared.error.Error.TheVariants.{KRB_ERR_GENERIC, KRB_ERR_RESPONSE_TOO_BIG}
use Rattle.definitions.specs.declared.ticket.Origin.TheVariants.{Initial, Direct, S4U2self, Delegated}
use Rattle.definitions.specs.declared.ticket.Ticket.{Ticket}
use Rattle.definitions.proofs.DecisionCases.{tech, web, store}
use Rattle.definitions.proofs.CaseValues.{ghost, ticket, accounts, nothing, request-1, request-2, request-3, request-4, enough}

-- ---- Which checks fail: a Bool for each, in their order
-- the check of a place fails
abbrev fails : List Bool → ℕ → Bool
fails faults place = get_or faults place false

-- the answers where the checks of a place and of so many behind it fail, at each of n places from a first on
abbrev runs : (List Bool → ℕ) → ℕ → ℕ → ℕ → List ℕ
runs answers behind first zero = []
runs answers behind first (suc n) =
    answers (replicate first false ++ replicate (suc behind) true) ∷ runs answers behind (suc first) n

-- each alone; each together with the next; each together with all behind it
abbrev alone : (List Bool → ℕ) → ℕ → List ℕ
alone answers n = runs answers 0 0 n

abbrev pairs : (List Bool → ℕ) → ℕ → List ℕ
pairs answers n = runs answers 1 0 (n - 1)

abbrev onward : (List Bool → ℕ) → ℕ → List ℕ
onward answers n = runs answers n 0 n

-- ---- What the faults are made of; the clock reads 1020
-- 60: a byte is left over
abbrev spoilt : Bool → List ℕ → List ℕ
spoilt fault bytes = bytes ++ cond fault (0x00 ∷ []) []

-- 52: an output that is a byte short
abbrev room : Bool → ℕ
room fault = cond fault (enough - 1) enough

-- 11: a till that is now
abbrev till : Bool → List ℕ
till fault = cond fault (0x00 ∷ 0x00 ∷ 0x03 ∷ 0xFC ∷ []) nothing

-- 41 of the first and of the second ticket: it is not held; 29: 512 others are
abbrev ledger : Bool → Ticket → Bool → Ticket → Bool → List Ticket
ledger no-first first no_second second full =
    cond no-first [] (first ∷ []) ++ cond no_second [] (second ∷ []) ++ cond full (replicate 512 (ticket 7 0 0 0 0 0 Initial [] false)) []

-- a TGT of `web`: 35, it is direct; 33, it starts 301 seconds after now; 32, it ends now
abbrev tgt : Bool → Bool → Bool → Ticket
tgt other early late =
    ticket 0 0x40400000 1 0 (cond early 1321 1000) (cond late 1020 37000) (cond other (Direct 0) Initial) [] false

-- evidence of `tech` to `web`: 33; 32; 26, it is to `store`; 61, its trail is full
abbrev evidence : Bool → Bool → Bool → Bool → Ticket
evidence early late other long =
    ticket 1 0x40000000 0 (cond other 2 1) (cond early 1321 1010) (cond late 1020 37000) (cond long (Delegated 0 0) (S4U2self 0))
    (cond long (replicate 8 1) []) false

-- the number that a request is answered
abbrev answered : Table → List Ticket → List ℕ → ℕ → ℕ
answered table tickets bytes size = answer_number (decide_request table tickets (length tickets) bytes 1020 size)

-- the options of a hop
abbrev cname : List ℕ
cname = 0x00 ∷ 0x02 ∷ 0x00 ∷ 0x00 ∷ []

-- ---- A request of each kind, with its faults
-- kind 1: 60, 52, 6, 18, 11, 29
abbrev kind_1 : List Bool → ℕ
kind_1 faults =
    answered (accounts (cond (fails faults 3) 1 0) 12 8 4 0 36000) (ledger true (tgt false false false) true (tgt false false false) (fails faults 5))
    (spoilt (fails faults 0) (request-1 nothing (till (fails faults 4)) (cond (fails faults 2) ghost tech))) (room (fails faults 1))

-- kind 2: 60, 52, 41, 35, 33, 32, 18, 7, 11, 29
abbrev kind_2 : List Bool → ℕ
kind_2 faults =
    answered (accounts 0 (cond (fails faults 6) 13 12) (cond (fails faults 7) 0 8) 4 0 36000)
    (ledger (fails faults 2) (tgt (fails faults 3) (fails faults 4) (fails faults 5)) true (tgt false false false) (fails faults 9))
    (spoilt (fails faults 0) (request-2 nothing (till (fails faults 8)) (tgt (fails faults 3) (fails faults 4) (fails faults 5)) store))
    (room (fails faults 1))

-- kind 3: 60, 52, 41, 35, 33, 32, 18, 7, 6, 18, 11, 29
abbrev web-flags : Bool → Bool → ℕ
web-flags disabled no-service = cond disabled (cond no-service 5 13) (cond no-service 4 12)

abbrev kind_3 : List Bool → ℕ
kind_3 faults =
    answered (accounts (cond (fails faults 9) 1 0) (web-flags (fails faults 6) (fails faults 7)) 8 4 0 36000)
    (ledger (fails faults 2) (tgt (fails faults 3) (fails faults 4) (fails faults 5)) true (tgt false false false) (fails faults 11))
    (spoilt (fails faults 0) (request-3 nothing (till (fails faults 10)) (tgt (fails faults 3) (fails faults 4) (fails faults 5)) (cond (fails faults 8) ghost tech)))
    (room (fails faults 1))

-- kind 4: 60, 52, 41, 35, 33, 32, 18, then 41, 33, 32, 26, 18 of the evidence, then 7, 13, 61, 11, 29; 13 where the client is barred, or where the
-- option is missing
abbrev kind-4 : Bool → List Bool → ℕ
kind-4 by-bar faults =
    answered (accounts (cond (fails faults 11) 1 0 + cond (by-bar && fails faults 13) 2 0) (cond (fails faults 6) 13 12) (cond (fails faults 12) 0 8) 4 0 36000)
    (ledger (fails faults 2) (tgt (fails faults 3) (fails faults 4) (fails faults 5)) (fails faults 7) (evidence (fails faults 8) (fails faults 9) (fails faults 10) (fails faults 14)) (fails faults 16))
    (spoilt (fails faults 0) (request-4 (cond (not by-bar && fails faults 13) nothing cname) nothing (till (fails faults 15)) (tgt (fails faults 3) (fails faults 4) (fails faults 5)) (evidence (fails faults 8) (fails faults 9) (fails faults 10) (fails faults 14)) store))
    (room (fails faults 1))

-- an edit with a number, a name and flags
abbrev edited : ℕ → List ℕ → ℕ → ℕ
edited number name flags = answer_number (edit_answer (accounts 0 12 8 4 0 36000) (edit_of number name flags 0 0 36000))

pub record Order : Type 0 where
  -- R6.2, each check alone
  pub alone-1 : alone kind_1 6 ≡ 60 ∷ 52 ∷ 6 ∷ 18 ∷ 11 ∷ 29 ∷ []
  pub alone-2 : alone kind_2 10 ≡ 60 ∷ 52 ∷ 41 ∷ 35 ∷ 33 ∷ 32 ∷ 18 ∷ 7 ∷ 11 ∷ 29 ∷ []
  pub alone-3 : alone kind_3 12 ≡ 60 ∷ 52 ∷ 41 ∷ 35 ∷ 33 ∷ 32 ∷ 18 ∷ 7 ∷ 6 ∷ 18 ∷ 11 ∷ 29 ∷ []
  pub alone-4 : alone (kind-4 false) 17 ≡ 60 ∷ 52 ∷ 41 ∷ 35 ∷ 33 ∷ 32 ∷ 18 ∷ 41 ∷ 33 ∷ 32 ∷ 26 ∷ 18 ∷ 7 ∷ 13 ∷ 61 ∷ 11 ∷ 29 ∷ []
  -- each together with the next: the earlier one is the answer
  pub pairs-1 : pairs kind_1 6 ≡ 60 ∷ 52 ∷ 6 ∷ 18 ∷ 11 ∷ []
  pub pairs-2 : pairs kind_2 10 ≡ 60 ∷ 52 ∷ 41 ∷ 35 ∷ 33 ∷ 32 ∷ 18 ∷ 7 ∷ 11 ∷ []
  pub pairs-3 : pairs kind_3 12 ≡ 60 ∷ 52 ∷ 41 ∷ 35 ∷ 33 ∷ 32 ∷ 18 ∷ 7 ∷ 6 ∷ 18 ∷ 11 ∷ []
  pub pairs-4 : pairs (kind-4 false) 17 ≡ 60 ∷ 52 ∷ 41 ∷ 35 ∷ 33 ∷ 32 ∷ 18 ∷ 41 ∷ 33 ∷ 32 ∷ 26 ∷ 18 ∷ 7 ∷ 13 ∷ 61 ∷ 11 ∷ []
  -- each together with all behind it
  pub onward-1 : onward kind_1 6 ≡ 60 ∷ 52 ∷ 6 ∷ 18 ∷ 11 ∷ 29 ∷ []
  pub onward-2 : onward kind_2 10 ≡ 60 ∷ 52 ∷ 41 ∷ 35 ∷ 33 ∷ 32 ∷ 18 ∷ 7 ∷ 11 ∷ 29 ∷ []
  pub onward-3 : onward kind_3 12 ≡ 60 ∷ 52 ∷ 41 ∷ 35 ∷ 33 ∷ 32 ∷ 18 ∷ 7 ∷ 6 ∷ 18 ∷ 11 ∷ 29 ∷ []
  pub onward-4 : onward (kind-4 false) 17 ≡ 60 ∷ 52 ∷ 41 ∷ 35 ∷ 33 ∷ 32 ∷ 18 ∷ 41 ∷ 33 ∷ 32 ∷ 26 ∷ 18 ∷ 7 ∷ 13 ∷ 61 ∷ 11 ∷ 29 ∷ []
  -- a bar has the place of a missing option, and answers the same
  pub barred-4 : alone (kind-4 true) 17 ∷ pairs (kind-4 true) 17 ∷ onward (kind-4 true) 17 ∷ [] ≡ alone (kind-4 false) 17 ∷ pairs (kind-4 false) 17 ∷ onward (kind-4 false) 17 ∷ []
  -- and where none fails
  pub granted : kind_1 [] ∷ kind_2 [] ∷ kind_3 [] ∷ kind-4 false [] ∷ [] ≡ 0 ∷ 0 ∷ 0 ∷ 0 ∷ []
  -- R2.9: flags 16 are 60 before 12 and before 8; the name of another account is 12 before 8; all three are 60
  pub edit-60-12 : edited 1 ghost 16 ≡ 60
  pub edit-60-8 : edited 3 web 16 ≡ 60
  pub edit-12-8 : edited 1 tech 12 ≡ 12
  pub edit-60-12-8 : edited 1 tech 16 ≡ 60
  -- R3.7: an initial ticket to a service is 60 before 52; with no service it is 52, and then a record of 17 bytes
  pub write-60-52 : written_of (ticket 0 0 1 2 0 0 Initial [] false) (enough - 1) ≡ Err KRB_ERR_GENERIC
  pub write-60 : written_of (ticket 0 0 1 2 0 0 Initial [] false) enough ≡ Err KRB_ERR_GENERIC
  pub write-52 : written_of (ticket 0 0 1 0 0 0 Initial [] false) (enough - 1) ≡ Err KRB_ERR_RESPONSE_TOO_BIG
  pub write-0 : written_of (ticket 0 0 1 0 0 0 Initial [] false) enough ≡ Ok 17

pub order : Order
unfolding same_ticket has_bit number_at big_endian run offset_of field_of field_bytes known_map hops_fit readable_as origin_as trail_of read_ticket record_as all_zero service_fits well_formed written_of map_fits path_of embedded_of whole_request request_for read_request good_bytes good_name lower agree same_name number_from name_taken edit_checks tgt_checks evidence_checks user_checks last_checks classic_route resource_route is_permitted hop_checks initial_window grant_window hop_window initial_ticket direct_ticket s4u2self_ticket s4u2proxy_ticket initial_checks direct_checks s4u2self_checks s4u2proxy_checks decide_initial decide_direct decide_s4u2self decide_s4u2proxy holds decide_request opening_checks has_route past_field bytes_to
order =
    record {
      alone-1 = refl;
      alone-2 = refl;
      alone-3 = refl;
      alone-4 = refl;
      pairs-1 = refl;
      pairs-2 = refl;
      pairs-3 = refl;
      pairs-4 = refl;
      onward-1 = refl;
      onward-2 = refl;
      onward-3 = refl;
      onward-4 = refl;
      barred-4 = refl;
      granted = refl;
      edit-60-12 = refl;
      edit-60-8 = refl;
      edit-12-8 = refl;
      edit-60-12-8 = refl;
      write-60-52 = refl;
      write-60 = refl;
      write-52 = refl;
      write-0 = refl;
    }
