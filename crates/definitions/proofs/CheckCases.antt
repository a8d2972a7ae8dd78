-- Cases of windows (R5.9, R5.2), of what makes a presented ticket the held one (R5.1), and of the edges of the checks (R6.2 to R6.7), over the
-- definitions, by evaluation.
-- Assumes nothing.
use Rattle.std.specs.Prelude.{Result, Ok}
use mathlib.Core.Path.{◌≡◌, refl}
use mathlib.Core.Bool.{true, false}
use mathlib.Core.List.{List, [], ◌∷◌, ◌++◌, map}
use Prim.Native.Nat.{ℕ}
use lib.ListN.{replicate, length}
use Rattle.definitions.specs.declared.error.Error.{Error}
use Rattle.definitions.specs.Errors.{answer_number}
use Rattle.definitions.specs.Validity.{not_yet, ended}
use Rattle.definitions.specs.Equality.{same_list, same_ticket}
use Rattle.definitions.specs.Fields.{has_bit, number_at, big_endian, run, past_field, offset_of, field_of, field_bytes, bytes_to}
use Rattle.definitions.specs.TicketRecords.{known_map, hops_fit, readable_as, origin_as, trail_of, read_ticket, record_as, ticket_or_blank}
use Rattle.definitions.specs.Requests.{map_fits, path_of, embedded_of, whole_request, request_for, read_request}
use Rattle.definitions.specs.Accounts.{no_row, Table}
use Rattle.definitions.specs.Names.{lower, agree, same_name, number_from}
use Rattle.definitions.specs.Edits.{edit_of, edit_row}
use Rattle.definitions.specs.Decisions.{tgt_checks, evidence_checks, user_checks, last_checks, hop_checks, initial_checks, direct_checks, s4u2self_checks, s4u2proxy_checks, decide_initial, decide_direct, decide_s4u2self, decide_s4u2proxy, opening_checks}
use Rattle.definitions.specs.Routes.{classic_route, resource_route, is_permitted, has_route}
use Rattle.definitions.specs.Windows.{initial_window, grant_window, hop_window}
use Rattle.definitions.specs.NewTickets.{initial_ticket, direct_ticket, s4u2self_ticket, s4u2proxy_ticket}
use Rattle.definitions.specs.HeldTickets.{holds}
use Rattle.definitions.specs.Answers.{decide_request}
use Rattle.definitions.specs.declared.window.Window.{Window}
use Rattle.definitions.specs.declared.ticket.Origin.{Origin}
use Rattle.definitions.specs.declared.ticket.Origin.TheVariants.{Initial, Direct, S4U2self, Delegated}
use Rattle.definitions.specs.declared.ticket.Ticket.{Ticket}
use Rattle.definitions.proofs.DecisionCases.{tech, web, store}
use Rattle.definitions.proofs.CaseValues.{ticket, nothing, request-1, request-2, request-3, request-4, enough}

-- lifetimes of `tech`, `web` and `store`; `web` sends to `store`
abbrev table : ℕ → ℕ → ℕ → Table
table life0 life1 life2 =
    edit_row (edit_of 0 tech 0 0 0 life0) ∷ edit_row (edit_of 1 web 12 0x4 0 life1) ∷ edit_row (edit_of 2 store 8 0 0 life2) ∷ replicate 61 no_row

-- the option of a hop
abbrev cname : List ℕ
cname = 0x00 ∷ 0x02 ∷ 0x00 ∷ 0x00 ∷ []

-- a TGT and evidence that end so
abbrev tgt : ℕ → Ticket
tgt end = ticket 0 0 1 0 500 end Initial [] false

abbrev evidence : ℕ → Ticket
evidence end = ticket 1 0x40000000 0 1 600 end (Direct 0) [] false

-- ---- The end of a ticket of each kind, by lifetime, ends and till; 0 where it is refused. The clock reads 1000
abbrev end-1 : ℕ → List ℕ → ℕ
end-1 life till = (ticket_or_blank (decide_request (table life 9000 9000) [] 0 (request-1 nothing till tech) 1000 enough)).window.end

abbrev end-2 : ℕ → ℕ → List ℕ → ℕ
end-2 life end till =
    (ticket_or_blank (decide_request (table 9000 9000 life) (tgt end ∷ []) 1 (request-2 nothing till (tgt end) store) 1000 enough)).window.end

abbrev end-3 : ℕ → ℕ → List ℕ → ℕ
end-3 life end till =
    (ticket_or_blank (decide_request (table 9000 life 9000) (tgt end ∷ []) 1 (request-3 nothing till (tgt end) tech) 1000 enough)).window.end

abbrev end-4 : ℕ → ℕ → ℕ → List ℕ → ℕ
end-4 life end evidence-end till =
    (ticket_or_blank (decide_request (table 9000 9000 life) (tgt end ∷ evidence evidence-end ∷ []) 2
    (request-4 cname nothing till (tgt end) (evidence evidence-end) store) 1000 enough)).window.end

-- tills: two seconds from now, now, and far off
abbrev soon : List ℕ
soon = 0x00 ∷ 0x00 ∷ 0x03 ∷ 0xEA ∷ []

abbrev at_once : List ℕ
at_once = 0x00 ∷ 0x00 ∷ 0x03 ∷ 0xE8 ∷ []

abbrev late : List ℕ
late = 0x01 ∷ 0x00 ∷ 0x03 ∷ 0xE8 ∷ []

-- an initial ticket of `tech` at a clock reading: answer and window
abbrev at-clock : ℕ → ℕ → List ℕ
at-clock clock life =
    answer_number (decide_request (table life 0 0) [] 0 (request-1 nothing nothing tech) clock enough)
    ∷ (ticket_or_blank (decide_request (table life 0 0) [] 0 (request-1 nothing nothing tech) clock enough)).window.start
    ∷ (ticket_or_blank (decide_request (table life 0 0) [] 0 (request-1 nothing nothing tech) clock enough)).window.end ∷ []

-- `store` asks, for `web`, to `tech`, which is a service here: a TGT, and evidence
abbrev roles : Table
roles =
    edit_row (edit_of 0 tech 8 0 0 100) ∷ edit_row (edit_of 1 web 0 0 0 200) ∷ edit_row (edit_of 2 store 8 0x1 0 300) ∷ replicate 61 no_row

abbrev store-tgt : Ticket
store-tgt = ticket 5 0x40400000 2 0 500 9000 Initial [] false

abbrev store-evidence : Ticket
store-evidence = ticket 6 0x40000000 1 2 500 9000 (S4U2self 5) [] false

abbrev role : List ℕ → Result Ticket Error
role bytes = decide_request roles (store-tgt ∷ store-evidence ∷ []) 2 bytes 1000 enough

-- the answers to a request where `tech`, `web` or `store` alone has no lifetime
abbrev lives : List ℕ → List ℕ
lives bytes =
    map (λ rows. answer_number (decide_request rows (tgt 5000 ∷ evidence 5000 ∷ []) 2 bytes 1000 enough))
    (table 0 100 100 ∷ table 100 0 100 ∷ table 100 100 0 ∷ [])

-- ---- Answers
-- kind 2 to a service, with a TGT, by what is held
abbrev answer-2 : List Ticket → Ticket → ℕ → ℕ
answer-2 tickets t clock = answer_number (decide_request (table 9000 9000 9000) tickets (length tickets) (request-2 nothing nothing t store) clock enough)

-- kind 4 at a clock reading, and at 1000
abbrev answer-4-at : Table → List Ticket → Ticket → Ticket → ℕ → ℕ
answer-4-at rows tickets t e clock = answer_number (decide_request rows tickets (length tickets) (request-4 cname nothing nothing t e store) clock enough)

abbrev answer-4 : Table → List Ticket → Ticket → Ticket → ℕ
answer-4 rows tickets t e = answer-4-at rows tickets t e 1000

-- ---- A TGT, and evidence beside a TGT of all times, with a start and an end, at a clock reading
abbrev tgt-of : ℕ → ℕ → Ticket
tgt-of start end = ticket 0 0 1 0 start end Initial [] false

abbrev evidence-of : ℕ → ℕ → Ticket
evidence-of start end = ticket 1 0x40000000 0 1 start end (Direct 0) [] false

abbrev by-tgt : ℕ → ℕ → ℕ → ℕ
by-tgt start end clock = answer-2 (tgt-of start end ∷ []) (tgt-of start end) clock

abbrev by-evidence : ℕ → ℕ → ℕ → ℕ
by-evidence start end clock =
    answer-4-at (table 9000 9000 9000) (tgt-of 0 4294967295 ∷ evidence-of start end ∷ []) (tgt-of 0 4294967295) (evidence-of start end) clock

-- the window of a ticket that is granted at 700, 300 seconds before the start of what it rests on
abbrev early : List ℕ → Window
early bytes = (ticket_or_blank (decide_request (table 9000 9000 9000) (tgt-of 1000 5000 ∷ evidence-of 1000 4000 ∷ []) 2 bytes 700 enough)).window

-- the answer then to a request with a till of 700
abbrev early-answer : ℕ
early-answer =
    answer_number (decide_request (table 9000 9000 9000) (tgt-of 1000 5000 ∷ []) 1
    (request-2 nothing (0x00 ∷ 0x00 ∷ 0x02 ∷ 0xBC ∷ []) (tgt-of 1000 5000) store) 700 enough)

-- kind 1 with so many tickets held and so much room
abbrev answer-1 : ℕ → ℕ → ℕ
answer-1 count room =
    answer_number (decide_request (table 9000 0 0) (replicate count (tgt 0)) count (request-1 nothing nothing tech) 1000 room)

-- tables in which one account has other flags; `store` in all of them is sent to
abbrev flagged : ℕ → ℕ → ℕ → Table
flagged flags0 flags1 flags2 =
    edit_row (edit_of 0 tech flags0 0x4 0 9000) ∷ edit_row (edit_of 1 web flags1 0x4 0 9000) ∷ edit_row (edit_of 2 store flags2 0 0 9000)
    ∷ replicate 61 no_row

-- an answer of kind 2 and of kind 3 in such a table
abbrev flagged-2 : ℕ → ℕ → ℕ
flagged-2 flags1 flags2 = answer_number (decide_request (flagged 1 flags1 flags2) (tgt 5000 ∷ []) 1 (request-2 nothing nothing (tgt 5000) store) 1000 enough)

abbrev flagged-3 : ℕ → ℕ → ℕ
flagged-3 flags0 flags1 = answer_number (decide_request (flagged flags0 flags1 1) (tgt 5000 ∷ []) 1 (request-3 nothing nothing (tgt 5000) tech) 1000 enough)

abbrev flagged-4 : ℕ → ℕ → ℕ → ℕ
flagged-4 flags0 flags1 flags2 = answer-4 (flagged flags0 flags1 flags2) (tgt 5000 ∷ evidence 5000 ∷ []) (tgt 5000) (evidence 5000)

-- a ticket, and one that differs from it in one field
abbrev one : Ticket
one = ticket 1 2 3 4 5 6 (Delegated 7 8) (9 ∷ 10 ∷ []) false

abbrev unlike : List Ticket
unlike =
    ticket 0 2 3 4 5 6 (Delegated 7 8) (9 ∷ 10 ∷ []) false ∷ ticket 1 0 3 4 5 6 (Delegated 7 8) (9 ∷ 10 ∷ []) false
    ∷ ticket 1 2 0 4 5 6 (Delegated 7 8) (9 ∷ 10 ∷ []) false ∷ ticket 1 2 3 0 5 6 (Delegated 7 8) (9 ∷ 10 ∷ []) false
    ∷ ticket 1 2 3 4 0 6 (Delegated 7 8) (9 ∷ 10 ∷ []) false ∷ ticket 1 2 3 4 5 0 (Delegated 7 8) (9 ∷ 10 ∷ []) false
    ∷ ticket 1 2 3 4 5 6 (Delegated 0 8) (9 ∷ 10 ∷ []) false ∷ ticket 1 2 3 4 5 6 (Delegated 7 0) (9 ∷ 10 ∷ []) false
    ∷ ticket 1 2 3 4 5 6 (Direct 7) (9 ∷ 10 ∷ []) false ∷ ticket 1 2 3 4 5 6 (S4U2self 7) (9 ∷ 10 ∷ []) false
    ∷ ticket 1 2 3 4 5 6 Initial (9 ∷ 10 ∷ []) false ∷ ticket 1 2 3 4 5 6 (Delegated 7 8) (0 ∷ 10 ∷ []) false
    ∷ ticket 1 2 3 4 5 6 (Delegated 7 8) (9 ∷ 0 ∷ []) false ∷ ticket 1 2 3 4 5 6 (Delegated 7 8) (9 ∷ 10 ∷ 0 ∷ []) false
    ∷ ticket 1 2 3 4 5 6 (Delegated 7 8) (9 ∷ 10 ∷ []) true ∷ []

-- origins with the same numbers
abbrev of-origin : Origin → Ticket
of-origin origin = ticket 1 2 3 4 5 6 origin [] true

pub record CheckCases : Type 0 where
  -- R5.9: each bound is the least in one line: lifetime, TGT, evidence, till; a till of 0 or a later one counts nothing
  pub ends-1 : end-1 100 nothing ∷ end-1 100 late ∷ end-1 100 soon ∷ end-1 100 at_once ∷ [] ≡ 1100 ∷ 1100 ∷ 1002 ∷ 0 ∷ []
  pub ends-2 : end-2 100 5000 nothing ∷ end-2 100 1050 late ∷ end-2 100 1050 soon ∷ end-2 100 1050 at_once ∷ [] ≡ 1100 ∷ 1050 ∷ 1002 ∷ 0 ∷ []
  pub ends-3 : end-3 100 5000 nothing ∷ end-3 100 1050 late ∷ end-3 100 1050 soon ∷ end-3 100 1050 at_once ∷ [] ≡ 1100 ∷ 1050 ∷ 1002 ∷ 0 ∷ []
  pub ends-4 : end-4 100 5000 5000 nothing ∷ end-4 100 1050 5000 late ∷ end-4 100 5000 1050 late ∷ end-4 100 1050 1040 soon ∷ [] ≡ 1100 ∷ 1050 ∷ 1050 ∷ 1002 ∷ []
  pub ends-4-both : end-4 100 1040 1050 nothing ∷ end-4 100 1050 1040 nothing ∷ end-4 100 1050 1040 at_once ∷ [] ≡ 1040 ∷ 1040 ∷ 0 ∷ []
  -- the start is now, and the end at most 4294967295; with no lifetime, or at the last second, the answer is 11
  pub last-seconds : at-clock 4294967290 4 ∷ at-clock 4294967290 5 ∷ at-clock 4294967290 6 ∷ at-clock 4294967294 4294967295 ∷ []
      ≡ (0 ∷ 4294967290 ∷ 4294967294 ∷ []) ∷ (0 ∷ 4294967290 ∷ 4294967295 ∷ []) ∷ (0 ∷ 4294967290 ∷ 4294967295 ∷ []) ∷ (0 ∷ 4294967294 ∷ 4294967295 ∷ []) ∷ []
  pub no-seconds : at-clock 4294967295 4294967295 ∷ at-clock 1000 0 ∷ at-clock 0 1 ∷ [] ≡ (11 ∷ 0 ∷ 0 ∷ []) ∷ (11 ∷ 0 ∷ 0 ∷ []) ∷ (0 ∷ 0 ∷ 1 ∷ []) ∷ []
  -- whose lifetime it is: the user's, the named service's, Service 1's, Service 2's
  pub lives-1 : lives (request-1 nothing nothing tech) ≡ 11 ∷ 0 ∷ 0 ∷ []
  pub lives-2 : lives (request-2 nothing nothing (tgt 5000) store) ≡ 0 ∷ 0 ∷ 11 ∷ []
  pub lives-3 : lives (request-3 nothing nothing (tgt 5000) tech) ≡ 0 ∷ 11 ∷ 0 ∷ []
  pub lives-4 : lives (request-4 cname nothing nothing (tgt 5000) (evidence 5000) store) ≡ 0 ∷ 0 ∷ 11 ∷ []
  -- R5.2: valid from 300 seconds before the start on, and before the end
  pub not-yet : map (not_yet (record { start = 1000; end = 1002 })) (699 ∷ 700 ∷ 1000 ∷ 1002 ∷ []) ≡ true ∷ false ∷ false ∷ false ∷ []
  pub has_ended : map (ended (record { start = 1000; end = 1002 })) (700 ∷ 1001 ∷ 1002 ∷ 1003 ∷ []) ≡ false ∷ false ∷ true ∷ true ∷ []
  pub tgt-window : map (by-tgt 1000 5000) (0 ∷ 699 ∷ 700 ∷ 1000 ∷ 4999 ∷ 5000 ∷ []) ≡ 33 ∷ 33 ∷ 0 ∷ 0 ∷ 0 ∷ 32 ∷ []
  pub evidence-window : map (by-evidence 1000 5000) (0 ∷ 699 ∷ 700 ∷ 1000 ∷ 4999 ∷ 5000 ∷ []) ≡ 33 ∷ 33 ∷ 0 ∷ 0 ∷ 0 ∷ 32 ∷ []
  -- a start of 300 or less is never too early; the sum goes on past 4294967295
  pub first-seconds : by-tgt 300 5000 0 ∷ by-tgt 301 5000 0 ∷ by-evidence 300 5000 0 ∷ by-evidence 301 5000 0 ∷ [] ≡ 0 ∷ 33 ∷ 0 ∷ 33 ∷ []
  pub tgt-last-seconds : map (by-tgt 4294967295 4294967295) (4294966994 ∷ 4294966995 ∷ 4294966996 ∷ 4294967294 ∷ 4294967295 ∷ []) ≡ 33 ∷ 0 ∷ 0 ∷ 0 ∷ 32 ∷ []
  pub evidence-last-seconds : map (by-evidence 4294967295 4294967295) (4294966994 ∷ 4294966995 ∷ 4294966996 ∷ 4294967294 ∷ []) ≡ 33 ∷ 0 ∷ 0 ∷ 0 ∷ []
  -- 33 before 32 where both hold; where the start is near enough, 32
  pub tgt-both : map (by-tgt 2000 1000) (1000 ∷ 1699 ∷ 1700 ∷ []) ≡ 33 ∷ 33 ∷ 32 ∷ []
  pub evidence-both : map (by-evidence 2000 1000) (1000 ∷ 1699 ∷ 1700 ∷ []) ≡ 33 ∷ 33 ∷ 32 ∷ []
  -- a ticket granted before the start of what it rests on starts now, and ends as any other; 11 goes by now
  pub early-windows : early (request-2 nothing nothing (tgt-of 1000 5000) store) ∷ early (request-3 nothing nothing (tgt-of 1000 5000) tech) ∷ early (request-4 cname nothing nothing (tgt-of 1000 5000) (evidence-of 1000 4000) store) ∷ []
      ≡ record { start = 700; end = 5000 } ∷ record { start = 700; end = 5000 } ∷ record { start = 700; end = 4000 } ∷ []
  pub early-11 : early-answer ≡ 11
  -- R5.3 to R5.10: client, service, origin and number of a ticket where all of them differ
  pub role-1 : role (request-1 nothing nothing web) ≡ Ok (ticket 2 0x00400000 1 0 1000 1200 Initial [] false)
  pub role-2 : role (request-2 nothing nothing store-tgt tech) ≡ Ok (ticket 2 0 2 0 1000 1100 (Direct 5) [] false)
  pub role-3 : role (request-3 nothing nothing store-tgt web) ≡ Ok (ticket 2 0 1 2 1000 1300 (S4U2self 5) [] false)
  pub role-4 : role (request-4 cname nothing nothing store-tgt store-evidence tech) ≡ Ok (ticket 2 0x40000000 1 0 1000 1100 (Delegated 5 6) (2 ∷ []) false)
  -- R5.1: equal in every field, to the first ticket of the number; what is past the list is not held
  pub equal : same_ticket one one ≡ true
  pub unequal : map (same_ticket one) unlike ++ map (λ other. same_ticket other one) unlike ≡ replicate 30 false
  pub equal-origins : map (same_ticket (of-origin (Direct 7))) (map of-origin (Initial ∷ Direct 7 ∷ S4U2self 7 ∷ Delegated 7 0 ∷ Direct 8 ∷ [])) ≡ false ∷ true ∷ false ∷ false ∷ false ∷ []
  pub equal-lists : same_list [] [] ∷ same_list [] (0 ∷ []) ∷ same_list (0 ∷ []) [] ∷ same_list (1 ∷ 2 ∷ []) (1 ∷ 2 ∷ []) ∷ same_list (1 ∷ 2 ∷ []) (1 ∷ []) ∷ [] ≡ true ∷ false ∷ false ∷ true ∷ false ∷ []
  pub first-of-number : answer-2 (tgt 5000 ∷ tgt 6000 ∷ []) (tgt 5000) 1000 ∷ answer-2 (tgt 5000 ∷ tgt 6000 ∷ []) (tgt 6000) 1000 ∷ answer-2 [] (tgt 6000) 1000 ∷ [] ≡ 0 ∷ 41 ∷ 41 ∷ []
  pub each-its-own : answer-4 (table 9000 9000 9000) (tgt 5000 ∷ evidence 5000 ∷ []) (tgt 5000) (evidence 5001) ∷ answer-4 (table 9000 9000 9000) (evidence 5000 ∷ tgt 5000 ∷ []) (tgt 5000) (evidence 5000) ∷ [] ≡ 41 ∷ 0 ∷ []
  pub nothing-is-not-blank : answer-2 [] (ticket 0 0 0 0 0 0 Initial [] false) 1000 ∷ answer-4 (table 9000 9000 9000) (ticket 1 0 1 0 0 5000 Initial [] false ∷ []) (ticket 1 0 1 0 0 5000 Initial [] false) (ticket 0 0 0 0 0 0 Initial [] false) ∷ [] ≡ 41 ∷ 41 ∷ []
  -- R6.3, 35: it goes by the origin, not by the flag INITIAL; 18: a client without an account
  pub by-origin : map (λ t. answer-2 (t ∷ []) t 1000) (ticket 0 0 1 0 500 5000 Initial [] false ∷ ticket 0 0x00400000 1 0 500 5000 (Direct 0) [] false ∷ ticket 0 0x00400000 1 0 500 5000 (S4U2self 0) [] false ∷ ticket 0 0x00400000 1 0 500 5000 (Delegated 0 0) (1 ∷ []) false ∷ []) ≡ 0 ∷ 35 ∷ 35 ∷ 35 ∷ []
  pub no-account : map (λ t. answer-2 (t ∷ []) t 1000) (ticket 0 0 3 0 500 5000 Initial [] false ∷ ticket 0 0 64 0 500 5000 Initial [] false ∷ []) ≡ 18 ∷ 18 ∷ []
  -- R6.4, 26: an initial ticket is no evidence, even where its service 0 is Service 1; self and delegated tickets are
  pub initial-evidence : map (λ t. answer-4 (flagged 8 8 8) (t ∷ []) t t) (ticket 0 0x40000000 0 0 500 5000 Initial [] false ∷ ticket 0 0x40000000 1 0 500 5000 Initial [] false ∷ []) ≡ 26 ∷ 26 ∷ []
  pub evidence-origins : map (λ e. answer-4 (table 9000 9000 9000) (tgt 5000 ∷ e ∷ []) (tgt 5000) e) (ticket 1 0x40000000 0 1 0 5000 (S4U2self 0) [] false ∷ ticket 1 0x40000000 0 1 0 5000 (Delegated 0 0) (1 ∷ []) false ∷ ticket 1 0x40000000 0 2 0 5000 (S4U2self 0) [] false ∷ ticket 1 0x40000000 0 0 0 5000 (S4U2self 0) [] false ∷ ticket 1 0x40000000 63 1 0 5000 (S4U2self 0) [] false ∷ []) ≡ 0 ∷ 0 ∷ 26 ∷ 26 ∷ 18 ∷ []
  -- R6.3 to R6.5: whose flags 1 and 8 count, for 18 and 7, in kinds 2, 3 and 4
  pub flags-2 : flagged-2 0 8 ∷ flagged-2 1 8 ∷ flagged-2 0 0 ∷ flagged-2 0 9 ∷ flagged-2 0 7 ∷ [] ≡ 0 ∷ 18 ∷ 7 ∷ 7 ∷ 7 ∷ []
  pub flags-3 : flagged-3 0 8 ∷ flagged-3 1 8 ∷ flagged-3 0 9 ∷ flagged-3 0 6 ∷ flagged-3 14 14 ∷ [] ≡ 0 ∷ 18 ∷ 18 ∷ 7 ∷ 0 ∷ []
  pub flags-4 : flagged-4 0 0 8 ∷ flagged-4 1 0 8 ∷ flagged-4 0 1 8 ∷ flagged-4 0 0 9 ∷ flagged-4 0 8 6 ∷ flagged-4 0 0 14 ∷ [] ≡ 0 ∷ 18 ∷ 18 ∷ 7 ∷ 7 ∷ 0 ∷ []
  -- R6.4 to R6.6: whose flag 2 counts, for 13; of a client who is disabled too it is 18, and a service that is none is 7
  pub bars-4 : flagged-4 2 0 8 ∷ flagged-4 0 2 8 ∷ flagged-4 0 0 10 ∷ flagged-4 2 2 10 ∷ flagged-4 3 0 8 ∷ flagged-4 2 0 0 ∷ [] ≡ 13 ∷ 0 ∷ 0 ∷ 13 ∷ 18 ∷ 7 ∷ []
  -- R6.7, R6.2: 512 tickets held are 29, 511 are not; 30 bytes of output are 52, 31 are not
  pub places : answer-1 511 31 ∷ answer-1 512 31 ∷ answer-1 513 31 ∷ [] ≡ 0 ∷ 29 ∷ 29 ∷ []
  pub output-room : answer-1 0 30 ∷ answer-1 0 31 ∷ answer-1 0 32 ∷ answer-1 0 0 ∷ [] ≡ 52 ∷ 0 ∷ 0 ∷ 52 ∷ []

pub check-cases : CheckCases
unfolding same_ticket has_bit number_at big_endian run offset_of field_of field_bytes known_map hops_fit readable_as origin_as trail_of read_ticket record_as map_fits path_of embedded_of whole_request request_for read_request lower agree same_name number_from tgt_checks evidence_checks user_checks last_checks classic_route resource_route is_permitted hop_checks initial_window grant_window hop_window initial_ticket direct_ticket s4u2self_ticket s4u2proxy_ticket initial_checks direct_checks s4u2self_checks s4u2proxy_checks decide_initial decide_direct decide_s4u2self decide_s4u2proxy holds decide_request opening_checks has_route past_field bytes_to
check-cases =
    record {
      ends-1 = refl;
      ends-2 = refl;
      ends-3 = refl;
      ends-4 = refl;
      ends-4-both = refl;
      last-seconds = refl;
      no-seconds = refl;
      lives-1 = refl;
      lives-2 = refl;
      lives-3 = refl;
      lives-4 = refl;
      not-yet = refl;
      has_ended = refl;
      tgt-window = refl;
      evidence-window = refl;
      first-seconds = refl;
      tgt-last-seconds = refl;
      evidence-last-seconds = refl;
      tgt-both = refl;
      evidence-both = refl;
      early-windows = refl;
      early-11 = refl;
      role-1 = refl;
      role-2 = refl;
      role-3 = refl;
      role-4 = refl;
      equal = refl;
      unequal = refl;
      equal-origins = refl;
      equal-lists = refl;
      first-of-number = refl;
      each-its-own = refl;
      nothing-is-not-blank = refl;
      by-origin = refl;
      no-account = refl;
      initial-evidence = refl;
      evidence-origins = refl;
      flags-2 = refl;
      flags-3 = refl;
      flags-4 = refl;
      bars-4 = refl;
      places = refl;
      output-room = refl;
    }
