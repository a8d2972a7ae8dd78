-- Cases of clearing and of the next number (R5.10, R6.7, R7.6, R8.5), over the definitions, by evaluation.
-- Assumes nothing.
use mathlib.Core.Path.{◌≡◌, refl, ap}
use mathlib.Core.Bool.{true, false}
use mathlib.Core.List.Memᴰ
use mathlib.Core.List.{List, [], ◌∷◌, ◌++◌, map}
use mathlib.Core.Option.{Option, some, none}
use Prim.Native.Nat.{ℕ}
use native.Mathlib.Omega.{arith}
use lib.ListN.{length, replicate, set, drop}
use Rattle.std.specs.Prelude.{Option as RustOption, Some, None, Result, Ok, Err}
use Rattle.definitions.specs.declared.error.Error.{Error}
use Rattle.definitions.specs.Limits.{ledger_size, next_word, last_number}
use Rattle.definitions.specs.Errors.{answer_number}
use Rattle.definitions.specs.Equality.{same_ticket}
use Rattle.definitions.specs.Fields.{has_bit, number_at, big_endian, run, past_field, offset_of, field_of, field_bytes, bytes_to}
use Rattle.definitions.specs.TicketRecords.{known_map, hops_fit, readable_as, origin_as, trail_of, read_ticket, record_as}
use Rattle.definitions.specs.Requests.{map_fits, path_of, embedded_of, whole_request, request_for, read_request}
use Rattle.definitions.specs.Names.{good_bytes, good_name, lower, agree, same_name, number_from, name_taken}
use Rattle.definitions.specs.Edits.{edit_of, edit_checks}
use Rattle.definitions.specs.Decisions.{tgt_checks, evidence_checks, user_checks, last_checks, hop_checks, initial_checks, direct_checks, s4u2self_checks, s4u2proxy_checks, decide_initial, decide_direct, decide_s4u2self, decide_s4u2proxy, opening_checks}
use Rattle.definitions.specs.Routes.{classic_route, resource_route, is_permitted, has_route}
use Rattle.definitions.specs.Windows.{initial_window, grant_window, hop_window}
use Rattle.definitions.specs.NewTickets.{initial_ticket, direct_ticket, s4u2self_ticket, s4u2proxy_ticket}
use Rattle.definitions.specs.HeldTickets.{holds}
use Rattle.definitions.specs.Clearing.{stays, staying, gone}
use Rattle.definitions.specs.Totals.{day_total}
use Rattle.definitions.specs.Descent.{descent}
use Rattle.definitions.specs.Words.{lane_of, lanes_of, pack_at, set_lane, lane_at, put_lane, put_row}
use Rattle.definitions.specs.AccountWords.{name_at, row_at, rows_from, store_row}
use Rattle.definitions.specs.LedgerWords.{origin_in, ticket_in, ticket_at, next_number, tickets_from, tickets_of, store_ticket, no_ticket_words}
use Rattle.definitions.specs.ClearedWords.{places_from, put_places, clear_tickets}
use Rattle.definitions.specs.Answers.{Call, edit, request, clear, Reply, decide_request}
use Rattle.definitions.specs.Book.{Book, tickets, empty_book, after, replies}
use Rattle.definitions.specs.Services.{fresh_service}
use Rattle.definitions.specs.History.{service_after, replies_to}
use Rattle.definitions.specs.Demand.{granted, grant_ticket, is_left, uncleared, Supported}
use Rattle.definitions.specs.LawfulDescent.{rests_on}
use Rattle.definitions.specs.declared.ticket.Origin.TheVariants.{Initial, Direct, S4U2self, Delegated}
use Rattle.definitions.specs.declared.ticket.Ticket.{Ticket}
use Rattle.definitions.proofs.DecisionCases.{tech, store}
use Rattle.definitions.proofs.CaseValues.{ticket, accounts, nothing, request-1, request-2}

-- a ticket of a number, from a start to an end
abbrev lasting : ℕ → ℕ → ℕ → Ticket
lasting number start end = ticket number 0 0 0 start end Initial [] false

-- ---- Words
-- words of a ledger: six places that differ in every word and lane, of which five are held, and behind these words that mean nothing. The
-- second, the third and the fifth have reached their end at 100
abbrev five-held : List ℕ
five-held =
    5 ∷ 70 ∷ 2 ∷ 3 ∷ 4 ∷ 5 ∷ 6 ∷ 7 ∷ 0x4444333322221111 ∷ 0x8888777766665555 ∷ replicate 126 9
    ++ 0x1A ∷ 0x000000C80000001B ∷ 0x1C ∷ 0x1D ∷ 0x2A ∷ 0x000000640000002B ∷ 0x2C ∷ 0x2D ∷ 0x3A ∷ 0x000000000000003B ∷ 0x3C ∷ 0x3D
    ∷ 0x4A ∷ 0x000000650000004B ∷ 0x4C ∷ 0x4D ∷ 0x5A ∷ 0x000000320000005B ∷ 0x5C ∷ 0x5D ∷ 0x6A ∷ 0x000000010000006B ∷ 0x6C ∷ 0x6D
    ∷ replicate 2024 8

-- the same after a clearing at 100: the first and the fourth are left, three places are free, and the rest is as it was
abbrev two-left : List ℕ
two-left =
    2 ∷ 70 ∷ 2 ∷ 3 ∷ 4 ∷ 5 ∷ 6 ∷ 7 ∷ 0x0000000044441111 ∷ 0x8888777766660000 ∷ replicate 126 9
    ++ 0x1A ∷ 0x000000C80000001B ∷ 0x1C ∷ 0x1D ∷ 0x4A ∷ 0x000000650000004B ∷ 0x4C ∷ 0x4D ∷ replicate 12 0
    ++ 0x6A ∷ 0x000000010000006B ∷ 0x6C ∷ 0x6D ∷ replicate 2024 8

-- ---- Calls
-- kind 1 for `tech`, whose tickets last 100 seconds
abbrev sign-on : ℕ → Call
sign-on clock = request (request-1 nothing nothing tech) clock (replicate 31 0)

-- what a caller sees: the answer's number, the number of a grant's ticket, and how many were taken out
abbrev pub number_given : Result (RustOption Ticket) Error → ℕ
number_given (Ok (Some ticket)) = ticket.number
number_given (Ok None) = 0
number_given (Err error) = 0

abbrev seen : Reply → List ℕ
seen reply = answer_number reply.answer ∷ number_given reply.answer ∷ reply.cleared ∷ []

-- 512 grants, one more, a clearing at the end of all, and a grant
abbrev full : List Call
full = edit (edit_of 0 tech 0 0 0 100) ∷ replicate 512 (sign-on 5) ++ (sign-on 5 ∷ clear 105 ∷ sign-on 5 ∷ [])

-- a TGT and a direct ticket that ends with it; two clearings, one second before that end and at it; a third; both tickets presented again, at
-- an earlier clock
abbrev tgt : Ticket
tgt = ticket 0 0x00400000 0 0 5 105 Initial [] false

abbrev on-tgt : Ticket
on-tgt = ticket 1 0 0 2 50 105 (Direct 0) [] false

abbrev together : List Call
together =
    edit (edit_of 0 tech 0 0 0 100) ∷ edit (edit_of 2 store 8 0 0 100) ∷ sign-on 5
    ∷ request (request-2 nothing nothing tgt store) 50 (replicate 31 0) ∷ clear 104 ∷ clear 105 ∷ clear 105
    ∷ request (request-2 nothing nothing tgt store) 50 (replicate 31 0) ∷ sign-on 6 ∷ []

-- a book, and a service, whose next number is this
abbrev book-from : ℕ → Book
book-from number = record { table = accounts 0 12 8 0 0 100; notes = []; next_number = number }

-- what is answered to kind 1 with so many tickets held and this next number
abbrev answered : ℕ → ℕ → ℕ
answered held number =
    answer_number
    (decide_request (accounts 0 12 8 0 0 100) (replicate held tgt) number (request-1 nothing nothing tech) 5 31)

pub record ClearingCases : Type 0 where
  -- R7.6: a ticket stays until the clock reads its end, whatever its start
  pub until_end : map (λ clock. stays clock (lasting 0 5 100)) (0 ∷ 5 ∷ 99 ∷ 100 ∷ 101 ∷ []) ≡ true ∷ true ∷ true ∷ false ∷ false ∷ []
  pub at_bounds : stays 0 (lasting 0 0 0) ∷ stays 4294967294 (lasting 0 0 4294967295) ∷ stays 4294967295 (lasting 0 0 4294967295) ∷ stays 99 (lasting 0 200 100) ∷ [] ≡ false ∷ true ∷ false ∷ true ∷ []
  pub in_order : staying (λ t. t) 100 (lasting 3 0 200 ∷ lasting 1 0 100 ∷ lasting 4 0 101 ∷ lasting 3 0 99 ∷ lasting 2 0 300 ∷ []) ≡ lasting 3 0 200 ∷ lasting 4 0 101 ∷ lasting 2 0 300 ∷ []
  pub how-many : gone 100 (lasting 3 0 200 ∷ lasting 1 0 100 ∷ lasting 4 0 101 ∷ []) ∷ gone 100 [] ∷ gone 4294967295 (replicate 512 tgt) ∷ [] ≡ 1 ∷ 0 ∷ 512 ∷ []
  -- R7.6: the words, one by one; a clearing that takes none out, and one of a count above 512, where words that are not there are 0
  pub words : clear_tickets five-held 100 ≡ two-left
  pub words-all : length five-held ∷ length two-left ∷ [] ≡ ledger_size ∷ ledger_size ∷ []
  pub none_out : clear_tickets two-left 100 ≡ two-left
  pub count-true : clear_tickets (600 ∷ 7 ∷ []) 0 ≡ 0 ∷ 7 ∷ []
  -- R6.7: 29 where 512 are held, and where no number is left
  pub room-left : map (λ held. answered held 0) (0 ∷ 511 ∷ 512 ∷ 513 ∷ []) ≡ 0 ∷ 0 ∷ 29 ∷ 29 ∷ []
  pub numbers-left : map (λ number. answered 0 number) (0 ∷ 512 ∷ 65535 ∷ 65536 ∷ 0xFFFFFFFFFFFFFFFF ∷ []) ≡ 0 ∷ 0 ∷ 0 ∷ 29 ∷ 29 ∷ []
  -- 512 grants and 29; all end together; then a grant, with number 512
  pub full-replies : map seen (drop 512 (replies empty_book full)) ≡ (0 ∷ 511 ∷ 0 ∷ []) ∷ (29 ∷ 0 ∷ 0 ∷ []) ∷ (0 ∷ 0 ∷ 512 ∷ []) ∷ (0 ∷ 512 ∷ 0 ∷ []) ∷ []
  -- both go together at their end, none before it; again there is nothing to take; they are 41 then, and the next number is 2
  pub together-replies : map seen (replies empty_book together) ≡ (0 ∷ 0 ∷ 0 ∷ []) ∷ (0 ∷ 0 ∷ 0 ∷ []) ∷ (0 ∷ 0 ∷ 0 ∷ []) ∷ (0 ∷ 1 ∷ 0 ∷ []) ∷ (0 ∷ 0 ∷ 0 ∷ []) ∷ (0 ∷ 0 ∷ 2 ∷ []) ∷ (0 ∷ 0 ∷ 0 ∷ []) ∷ (41 ∷ 0 ∷ 0 ∷ []) ∷ (0 ∷ 2 ∷ 0 ∷ []) ∷ []
  pub together-same : map seen (replies_to fresh_service together) ≡ map seen (replies empty_book together)
  pub together-ledger : tickets_of (service_after fresh_service together).ledger ≡ tickets (after empty_book together)
  pub together-next : next_number (service_after fresh_service together).ledger ≡ 3
  pub together-descent : map (descent (tickets (after empty_book together))) (0 ∷ 1 ∷ []) ≡ none ∷ none ∷ []
  pub together-total : day_total (tickets (after empty_book together)) ≡ 100
  -- R10.3: what was granted, and what is left of it
  pub together-granted : map grant_ticket (granted fresh_service together) ≡ tgt ∷ on-tgt ∷ ticket 2 0x00400000 0 0 6 106 Initial [] false ∷ []
  pub together-left : map is_left (granted fresh_service together) ≡ false ∷ false ∷ true ∷ []
  pub together-uncleared : uncleared (granted fresh_service together) ≡ ticket 2 0x00400000 0 0 6 106 Initial [] false ∷ []
  -- 65535 is given; then 29, also where all places are free again
  pub last-given : map seen (replies (book-from last_number) (sign-on 5 ∷ sign-on 5 ∷ clear 105 ∷ sign-on 5 ∷ [])) ≡ (0 ∷ 65535 ∷ 0 ∷ []) ∷ (29 ∷ 0 ∷ 0 ∷ []) ∷ (0 ∷ 0 ∷ 1 ∷ []) ∷ (29 ∷ 0 ∷ 0 ∷ []) ∷ []
  pub last_stored : map (λ number. next_number (store_ticket (set no_ticket_words next_word number) tgt)) (0 ∷ 65535 ∷ []) ≡ 1 ∷ 65536 ∷ []
  pub rests : map rests_on (Initial ∷ Direct 3 ∷ S4U2self 4 ∷ Delegated 5 6 ∷ []) ≡ [] ∷ (3 ∷ []) ∷ (4 ∷ []) ∷ (5 ∷ 6 ∷ []) ∷ []
  pub last-kept : next_number (clear_tickets (set no_ticket_words next_word 65536) 4294967295) ≡ 65536

pub clearing-cases : ClearingCases
unfolding same_ticket has_bit number_at big_endian run offset_of field_of field_bytes known_map hops_fit readable_as origin_as trail_of read_ticket record_as map_fits path_of embedded_of whole_request request_for read_request good_bytes good_name lower agree same_name number_from name_taken edit_checks tgt_checks evidence_checks user_checks last_checks classic_route resource_route is_permitted hop_checks initial_window grant_window hop_window initial_ticket direct_ticket s4u2self_ticket s4u2proxy_ticket initial_checks direct_checks s4u2self_checks s4u2proxy_checks decide_initial decide_direct decide_s4u2self decide_s4u2proxy holds day_total descent pack_at put_row name_at row_at rows_from store_row origin_in ticket_in ticket_at tickets_from tickets_of store_ticket decide_request opening_checks has_route past_field bytes_to lane_of lanes_of set_lane lane_at put_lane places_from put_places clear_tickets
clearing-cases =
    record {
      until_end = refl;
      at_bounds = refl;
      in_order = refl;
      how-many = refl;
      words = refl;
      words-all = refl;
      none_out = refl;
      count-true = refl;
      room-left = refl;
      numbers-left = refl;
      full-replies = refl;
      together-replies = refl;
      together-same = refl;
      together-ledger = refl;
      together-next = refl;
      together-descent = refl;
      together-total = refl;
      together-granted = refl;
      together-left = refl;
      together-uncleared = refl;
      last-given = refl;
      last_stored = refl;
      rests = refl;
      last-kept = refl;
    }

-- R9.3: a ticket whose TGT is not in the ledger, or ends earlier, is not supported there
pub without-tgt : Supported (on-tgt ∷ []) on-tgt → ⊥
without-tgt s =
    let e : ◌≡◌ {A = Option Ticket} none (some (s 0 (Memᴰ.head refl)).ticket) = (s 0 (Memᴰ.head refl)).there in
    let z : ◌≡◌ {A = ℕ} 0 1 = cc in
    omega arith

pub on-earlier-tgt : Supported (lasting 0 5 104 ∷ on-tgt ∷ []) on-tgt → ⊥
on-earlier-tgt s =
    let p = s 0 (Memᴰ.head refl) in
    let e : some (lasting 0 5 104) ≡ some p.ticket = p.there in
    let f : lasting 0 5 104 ≡ p.ticket = cc in
    let g : 104 ≡ p.ticket.window.end = ap (λ (t : Ticket). t.window.end) f in
    omega (arith, p.no_earlier)
