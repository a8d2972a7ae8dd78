-- Cases of the ledger, its descent and total, the lent words and the plain book (sections 7 to 9 of the rules), over the definitions, by
-- evaluation.
-- Assumes nothing.
use Rattle.std.specs.Prelude.{Ok, Err, Some, None}
use mathlib.Core.Path.{◌≡◌, refl}
use mathlib.Core.Bool.{Bool, true, false}
use mathlib.Core.List.{List, [], ◌∷◌, ◌++◌, map}
use mathlib.Core.Option.{some, none}
use Prim.Native.Nat.{ℕ, zero, suc, ◌+◌, ◌-◌}
use lib.ListN.{length, replicate, set}
use Rattle.definitions.specs.Limits.{byte_bits, rows_start, accounts_size, count_word, numbers_start, ledger_size}
use Rattle.definitions.specs.Errors.{answer_number}
use Rattle.definitions.specs.Equality.{same_ticket}
use Rattle.definitions.specs.Fields.{has_bit, number_at, big_endian, run, past_field, offset_of, field_of, field_bytes, bytes_to}
use Rattle.definitions.specs.TicketRecords.{known_map, hops_fit, readable_as, origin_as, trail_of, read_ticket, record_as, record_of, blank_ticket}
use Rattle.definitions.specs.Requests.{map_fits, path_of, embedded_of, whole_request, request_for, read_request, request_or_blank}
use Rattle.definitions.specs.Accounts.{Row, no_row, account_at, no_accounts, is_barred}
use Rattle.definitions.specs.Names.{good_bytes, good_name, lower, agree, same_name, number_from, name_taken}
use Rattle.definitions.specs.Edits.{edit_of, edit_row, edit_checks}
use Rattle.definitions.specs.Decisions.{tgt_checks, evidence_checks, user_checks, last_checks, hop_checks, initial_checks, direct_checks, s4u2self_checks, s4u2proxy_checks, decide_initial, decide_direct, decide_s4u2self, decide_s4u2proxy, opening_checks}
use Rattle.definitions.specs.Routes.{classic_route, resource_route, is_permitted, has_route}
use Rattle.definitions.specs.Windows.{initial_window, grant_window, hop_window}
use Rattle.definitions.specs.NewTickets.{initial_ticket, direct_ticket, s4u2self_ticket, s4u2proxy_ticket}
use Rattle.definitions.specs.HeldTickets.{holds, first_ticket}
use Rattle.definitions.specs.Totals.{day_total}
use Rattle.definitions.specs.Descent.{descent, descended}
use Rattle.definitions.specs.Words.{lane_of, lanes_of, pack_at, set_lane, lane_at, put_lane, put_row}
use Rattle.definitions.specs.AccountWords.{row_word, name_at, row_at, rows_from, table_of, store_row, stored_by, no_account_words}
use Rattle.definitions.specs.LedgerWords.{origin_in, ticket_in, ticket_at, count_held, next_number, tickets_from, tickets_of, store_ticket, no_ticket_words}
use Rattle.definitions.specs.Answers.{Call, edit, request, Reply, decide_request, laid}
use Rattle.definitions.specs.Book.{Note, request_of, tickets, empty_book, after, replies}
use Rattle.definitions.specs.Services.{fresh_service, with_grant}
use Rattle.definitions.specs.History.{service_after, replies_to}
use Rattle.definitions.specs.Demand.{granted, grant_ticket}
use Rattle.definitions.specs.LawfulDescent.{trail_list, service_in, is_delegated}
use Rattle.definitions.specs.declared.error.Error.TheVariants.{KRB_AP_ERR_MODIFIED, KRB_ERR_GENERIC, KDC_ERR_POLICY, KDC_ERR_C_PRINCIPAL_UNKNOWN}
use Rattle.definitions.specs.declared.ticket.Origin.{Origin}
use Rattle.definitions.specs.declared.ticket.Origin.TheVariants.{Initial, Direct, S4U2self, Delegated}
use Rattle.definitions.specs.declared.ticket.Ticket.{Ticket}
use Rattle.definitions.proofs.RecordCases.{W1}
use Rattle.definitions.proofs.DecisionCases.{tech, web}
use Rattle.definitions.proofs.CaseValues.{ticket, nothing, request-1}

-- ---- Descent and total
-- a ticket of a number and an origin, from 100 to 107
abbrev of-origin : ℕ → Origin → Ticket
of-origin number origin = ticket number 0 0 0 100 107 origin [] false

-- a ledger that no calls make: 1 twice, 5 back to itself, 6 to a later one, 8 to 5, 20 to one that is not there, 21
-- to 10, and 10 to a later one than itself
abbrev ledger : List Ticket
ledger =
    of-origin 0 Initial ∷ of-origin 1 (Direct 0) ∷ of-origin 1 Initial ∷ of-origin 2 (S4U2self 1) ∷ of-origin 3 (Delegated 0 2)
    ∷ of-origin 4 (Delegated 0 3) ∷ of-origin 5 (Direct 5) ∷ of-origin 6 (S4U2self 7) ∷ of-origin 7 (Direct 4) ∷ of-origin 8 (Delegated 0 5)
    ∷ of-origin 20 (Direct 19) ∷ of-origin 10 (S4U2self 12) ∷ of-origin 12 (Direct 0) ∷ of-origin 21 (Direct 10) ∷ []

-- tickets n down to 0, each back to the one before it
abbrev chain : ℕ → List Ticket
chain zero = of-origin 0 Initial ∷ []
chain (suc n) = of-origin (suc n) (Direct n) ∷ chain n

-- a ticket with this start and end
abbrev timed : ℕ → ℕ → Ticket
timed start end = ticket 0 0 0 0 start end Initial [] false

-- ---- Words
-- two tickets whose fields all differ
abbrev a : Ticket
a = ticket 0x0102 0x03040506 0x07 0x08 0x090A0B0C 0x0D0E0F10 (Delegated 0x1112 0x1314) (0x15 ∷ 0x16 ∷ 0x17 ∷ []) true

abbrev b : Ticket
b = ticket 0xFFFF 0xFFFFFFFF 0xFF 0xFF 0xFFFFFFFF 0xFFFFFFFF (S4U2self 0xFFFF) [] false

-- more of them, of the other origins
abbrev c : Ticket
c = ticket 3 0 1 2 0 0 (Direct 0x2122) (0xF1 ∷ 0xF2 ∷ 0xF3 ∷ 0xF4 ∷ 0xF5 ∷ 0xF6 ∷ 0xF7 ∷ 0xF8 ∷ []) true

abbrev d : Ticket
d = ticket 4 0 1 0 0 0 Initial [] false

-- eight bytes, of which the one so many places before the last is 0x80
abbrev one_byte : ℕ → List ℕ
one_byte before = replicate (7 - before) 0 ++ (0x80 ∷ replicate before 0)

-- a ledger's words with a stored count
abbrev counting : ℕ → List ℕ
counting count = set no_ticket_words count_word count

-- a row whose fields all differ, one with the longest name, and one never set with words all the same
abbrev row : Row
row = edit_row (edit_of 2 (0x21 ∷ 0x22 ∷ 0x23 ∷ []) 0x0F 0x3132333435363738 0x4142434445464748 0x51525354)

abbrev long : Row
long = edit_row (edit_of 63 (replicate 23 0x61 ++ (0x7A ∷ [])) 1 0xFFFFFFFFFFFFFFFF 0 0xFFFFFFFF)

-- the row in words, with a stored length, flags 8, a lifetime of 7, both sets full, and bits set that mean nothing
abbrev stored : ℕ → List ℕ
stored len =
    replicate rows_start 0xFFFFFFFFFFFFFFFF ++ 0x6162636465666768 ∷ 0x6162636465666768 ∷ 0x6162636465666768 ∷ (len + 0x00000007ABCD0800) ∷ 0xFFFFFFFFFFFFFFFF ∷ 0xFFFFFFFFFFFFFFFF ∷ []

-- ---- The plain book: `tech` is set, gets a ticket, is barred, is refused an edit and a request, and gets another
abbrev calls : List Call
calls =
    edit (edit_of 0 tech 0 0 0 100) ∷ request (request-1 nothing nothing tech) 5 (replicate 32 0xAA) ∷ edit (edit_of 0 tech 2 0 0 100)
    ∷ edit (edit_of 0 web 0 0 0 100) ∷ request W1 6 (replicate 32 0xAA) ∷ request (request-1 nothing nothing tech) 4 (replicate 31 0xAA) ∷ []

-- what a caller sees of them
abbrev seen : Reply → List ℕ
seen reply = answer_number reply.answer ∷ reply.output

-- the two tickets
abbrev first : Ticket
first = ticket 0 0x00400000 0 0 5 105 Initial [] false

abbrev second : Ticket
second = ticket 1 0x00400000 0 0 4 104 Initial [] true

-- the bar of `tech` in a note's table
abbrev noted-bar : Note → Bool
noted-bar note = is_barred (account_at note.table 0)

pub record LedgerCases : Type 0 where
  -- R7.1: the first ticket of a number; nothing of one that no ticket has
  pub first-held : first_ticket 1 ledger ≡ some (of-origin 1 (Direct 0))
  pub none-held : first_ticket 9 ledger ∷ first_ticket 0 [] ∷ [] ≡ none ∷ none ∷ []
  -- R5.1: a ticket is held as it is, and not with another origin, nor under a number that no ticket has
  pub held-so : map (holds ledger) (of-origin 1 (Direct 0) ∷ of-origin 1 Initial ∷ of-origin 9 (Direct 0) ∷ []) ≡ true ∷ false ∷ false ∷ []
  -- R7.4: steps over evidence, or TGT, to an initial ticket; none where a number is not held or does not fall
  pub steps : map (descent ledger) (0 ∷ 1 ∷ 2 ∷ 3 ∷ 4 ∷ 7 ∷ 12 ∷ []) ≡ some 0 ∷ some 1 ∷ some 2 ∷ some 3 ∷ some 4 ∷ some 5 ∷ some 1 ∷ []
  pub no_steps : map (descent ledger) (5 ∷ 6 ∷ 8 ∷ 9 ∷ 20 ∷ 10 ∷ 21 ∷ []) ≡ replicate 7 none
  pub long-way : descent (chain 299) 299 ≡ some 299
  pub descents : descended none ∷ descended (some 3) ∷ [] ≡ Err KRB_AP_ERR_MODIFIED ∷ Ok 3 ∷ []
  -- R7.5: end minus start, 0 where the end is not later
  pub totals : day_total [] ∷ day_total (timed 5 7 ∷ []) ∷ day_total (timed 7 5 ∷ []) ∷ day_total (timed 0 10 ∷ timed 9 9 ∷ timed 7 5 ∷ timed 1 4294967295 ∷ timed 5 7 ∷ []) ∷ [] ≡ 0 ∷ 2 ∷ 0 ∷ 4294967306 ∷ []
  -- R7.1, R7.3: the words hold the tickets put in, in their order; a count beyond the places reads as 512
  pub tickets-stored : tickets_of (store_ticket (store_ticket (store_ticket (store_ticket no_ticket_words a) b) c) d) ≡ a ∷ b ∷ c ∷ d ∷ []
  pub origins-in : map (λ tag. origin_in tag 0xBBBB 0xAAAA) (0 ∷ 1 ∷ 2 ∷ 3 ∷ 4 ∷ 15 ∷ []) ≡ Initial ∷ Direct 0xBBBB ∷ S4U2self 0xBBBB ∷ Delegated 0xBBBB 0xAAAA ∷ Delegated 0xBBBB 0xAAAA ∷ Delegated 0xBBBB 0xAAAA ∷ []
  pub tags-in : map (λ first. (ticket_in 0 first 0 0xAAAABBBBCCDDEEFF 0).origin) (0xF0FFFFFFFFFFFFFF ∷ 0xF1FFFFFFFFFFFFFF ∷ 0x02 ∷ []) ≡ Initial ∷ Direct 0xBBBB ∷ Initial ∷ []
  pub marks-in : map (λ first. (ticket_in 0 first 0 0 0).barred) (0 ∷ 0x1000000000000000 ∷ 0x2000000000000000 ∷ 0xF000000000000000 ∷ 0x1FFFFFFFFFFFFFFF ∷ []) ≡ false ∷ true ∷ false ∷ false ∷ true ∷ []
  pub numbers-in : map (λ place. (ticket_at (replicate numbers_start 0 ++ (0x4444333322221111 ∷ 0x8888777766665555 ∷ [])) place).number) (0 ∷ 1 ∷ 2 ∷ 3 ∷ 4 ∷ 7 ∷ 8 ∷ []) ≡ 0x1111 ∷ 0x2222 ∷ 0x3333 ∷ 0x4444 ∷ 0x5555 ∷ 0x8888 ∷ 0 ∷ []
  pub trails-in : map (λ fourth. (ticket_in 0 0 0 0 fourth).trail) (0xFFFFFFFFFFFFFFFF ∷ 0x8000000000000000 ∷ 0x0080000000000000 ∷ 0x0000800000000000 ∷ 0x0000008000000000 ∷ 0x0000000080000000 ∷ 0x0000000000800000 ∷ 0x0000000000008000 ∷ [])
      ≡ replicate 8 0xFF ∷ one_byte 0 ∷ one_byte 1 ∷ one_byte 2 ∷ one_byte 3 ∷ one_byte 4 ∷ one_byte 5 ∷ one_byte 6 ∷ []
  pub counts : map (λ count. count_held (counting count)) (0 ∷ 1 ∷ 511 ∷ 512 ∷ 513 ∷ 0xFFFFFFFFFFFFFFFF ∷ []) ≡ 0 ∷ 1 ∷ 511 ∷ 512 ∷ 512 ∷ 512 ∷ []
  pub count_cut : count_held [] ≡ 0
  pub next-numbers : next_number no_ticket_words ∷ next_number (store_ticket no_ticket_words a) ∷ [] ≡ 0 ∷ 1 ∷ []
  pub ticket-cut : ticket_at [] 3 ≡ blank_ticket
  pub lengths : map (λ count. length (tickets_of (counting count))) (0 ∷ 3 ∷ 512 ∷ 600 ∷ []) ≡ 0 ∷ 3 ∷ 512 ∷ 512 ∷ []
  pub last-place : ticket_at (store_ticket (counting 511) a) 511 ≡ a
  pub last-count : count_held (store_ticket (counting 511) a) ∷ length (store_ticket (counting 511) a) ∷ [] ≡ 512 ∷ 2184 ∷ []
  -- R2.4, R2.8: the words hold the rows put in; a row is set where its stored length is 1 to 24, whatever else is
  -- stored, and a word that is not there is 0
  pub rows-stored : table_of (store_row (store_row (store_row (store_row no_account_words 3 row) 2 long) 62 long) 63 row) ≡ set (set (set (set no_accounts 3 row) 2 long) 62 long) 63 row
  pub row-unset : row_at (stored 0) 0 ∷ row_at (stored 25) 0 ∷ row_at (stored 255) 0 ∷ row_at [] 5 ∷ [] ≡ no_row ∷ no_row ∷ no_row ∷ no_row ∷ []
  pub row-set : map (λ n. length (row_at (stored n) 0).name) (1 ∷ 24 ∷ []) ≡ 1 ∷ 24 ∷ []
  pub row-flags : row_at (stored 1) 0 ≡ edit_row (edit_of 0 (0x68 ∷ []) 8 0xFFFFFFFFFFFFFFFF 0xFFFFFFFFFFFFFFFF 7)
  pub row_cut : row_at (replicate rows_start 0 ++ (0x61 ∷ 0 ∷ 0 ∷ 1 ∷ [])) 0 ≡ edit_row (edit_of 0 (0x61 ∷ []) 0 0 0 0)
  pub packed : pack_at byte_bits (0x11 ∷ 0x22 ∷ 0x33 ∷ []) 0 8 ∷ pack_at byte_bits (0x11 ∷ 0x22 ∷ 0x33 ∷ []) 1 8 ∷ pack_at byte_bits (0x11 ∷ 0x22 ∷ 0x33 ∷ []) 0 2 ∷ lane_at byte_bits (0 ∷ 0x332211 ∷ 0x44 ∷ []) 1 2 ∷ lane_at byte_bits (0 ∷ 0x332211 ∷ 0x44 ∷ []) 1 8 ∷ lane_at byte_bits [] 1 0 ∷ [] ≡ 0x332211 ∷ 0x3322 ∷ 0x2211 ∷ 0x33 ∷ 0x44 ∷ 0 ∷ []
  pub table-length : length (table_of no_account_words) ∷ length no_account_words ∷ length no_ticket_words ∷ [] ≡ 64 ∷ 520 ∷ 2184 ∷ []
  pub free-kept : map (λ k. row_word (store_row (replicate accounts_size 9) 2 row) 2 k) (6 ∷ 7 ∷ 8 ∷ []) ≡ 9 ∷ 9 ∷ 9 ∷ []
  pub numbers-kept : map (λ place. (ticket_at (store_ticket (set (replicate ledger_size 0xFFFFFFFFFFFFFFFF) count_word 6) d) place).number) (4 ∷ 5 ∷ 6 ∷ 7 ∷ []) ≡ 0xFFFF ∷ 0xFFFF ∷ 4 ∷ 0xFFFF ∷ []
  pub store-edit : stored_by (Ok tt) no_account_words (edit_of 2 (0x21 ∷ 0x22 ∷ 0x23 ∷ []) 0x0F 0x3132333435363738 0x4142434445464748 0x51525354) ≡ store_row no_account_words 2 row
  pub store-refused : stored_by (Err KRB_ERR_GENERIC) (1 ∷ 2 ∷ []) (edit_of 0 tech 0 0 0 0) ≡ 1 ∷ 2 ∷ []
  -- R7.2, R7.3: a fresh service; a grant is put at the end, a refusal leaves the ledger
  pub fresh-accounts : table_of fresh_service.accounts ≡ no_accounts
  pub fresh-ledger : tickets_of fresh_service.ledger ≡ []
  pub with-grant : with_grant (Ok a) no_ticket_words ≡ store_ticket no_ticket_words a
  pub with-refusal : with_grant (Err KRB_ERR_GENERIC) no_ticket_words ≡ no_ticket_words
  pub laid-grant : laid (Ok d) (replicate 32 0xAA) ≡ record_of d ++ replicate 15 0xAA
  pub laid-refusal : laid (Err KRB_ERR_GENERIC) (replicate 32 0xAA) ≡ replicate 32 0xAA
  -- R8.2 to R8.4: the replies, the tickets in their order, and the note of each: what was asked, and the accounts as they then were
  pub book-replies : map seen (replies empty_book calls) ≡ (0 ∷ []) ∷ (0 ∷ record_of first ++ replicate 15 0xAA) ∷ (0 ∷ []) ∷ (12 ∷ []) ∷ (6 ∷ replicate 32 0xAA) ∷ (0 ∷ record_of second ++ replicate 14 0xAA) ∷ []
  pub book-given : map (λ (reply : Reply). reply.answer) (replies empty_book calls) ≡ Ok None ∷ Ok (Some first) ∷ Ok None ∷ Err KDC_ERR_POLICY ∷ Err KDC_ERR_C_PRINCIPAL_UNKNOWN ∷ Ok (Some second) ∷ []
  pub book-tickets : tickets (after empty_book calls) ≡ first ∷ second ∷ []
  pub book-bars : map noted-bar (after empty_book calls).notes ≡ false ∷ true ∷ []
  pub book-requests : map request_of (after empty_book calls).notes ≡ map (λ bytes. request_or_blank (read_request bytes)) (request-1 nothing nothing tech ∷ request-1 nothing nothing tech ∷ [])
  pub book-table : (after empty_book calls).table ≡ set no_accounts 0 (edit_row (edit_of 0 tech 2 0 0 100))
  pub room-fed : map seen (replies empty_book (edit (edit_of 0 tech 0 0 0 100) ∷ request (request-1 nothing nothing tech) 5 (replicate 30 0xAA) ∷ [])) ≡ (0 ∷ []) ∷ (52 ∷ replicate 30 0xAA) ∷ []
  -- R8.1, R10.3: the same calls of a service, from a fresh one on: the tickets that granted requests returned, the replies, and the words left
  pub granted-tickets : map grant_ticket (granted fresh_service calls) ≡ first ∷ second ∷ []
  pub service-replies : map seen (replies_to fresh_service calls) ≡ map seen (replies empty_book calls)
  pub service-tickets : tickets_of (service_after fresh_service calls).ledger ≡ first ∷ second ∷ []
  pub service-table : table_of (service_after fresh_service calls).accounts ≡ set no_accounts 0 (edit_row (edit_of 0 tech 2 0 0 100))
  -- R9.4, R9.6, R9.7: what a hop is, and the accounts of a trail
  pub delegated : map is_delegated (Initial ∷ Direct 0 ∷ S4U2self 0 ∷ Delegated 0 0 ∷ []) ≡ false ∷ false ∷ false ∷ true ∷ []
  pub trails : map trail_list (a ∷ b ∷ []) ≡ (0x15 ∷ 0x16 ∷ 0x17 ∷ []) ∷ [] ∷ []
  pub entry-service : map service_in (record { ticket = a; table = []; resource = false } ∷ []) ≡ 0x08 ∷ []

pub ledger-cases : LedgerCases
unfolding same_ticket has_bit number_at big_endian run offset_of field_of field_bytes known_map hops_fit readable_as origin_as trail_of read_ticket record_as map_fits path_of embedded_of whole_request request_for read_request good_bytes good_name lower agree same_name number_from name_taken edit_checks tgt_checks evidence_checks user_checks last_checks classic_route resource_route is_permitted hop_checks initial_window grant_window hop_window initial_ticket direct_ticket s4u2self_ticket s4u2proxy_ticket initial_checks direct_checks s4u2self_checks s4u2proxy_checks decide_initial decide_direct decide_s4u2self decide_s4u2proxy holds day_total descent pack_at put_row name_at row_at rows_from store_row origin_in ticket_in ticket_at tickets_from tickets_of store_ticket decide_request opening_checks has_route past_field bytes_to lane_of lanes_of set_lane lane_at put_lane
ledger-cases =
    record {
      first-held = refl;
      none-held = refl;
      held-so = refl;
      steps = refl;
      no_steps = refl;
      long-way = refl;
      descents = refl;
      totals = refl;
      tickets-stored = refl;
      origins-in = refl;
      tags-in = refl;
      marks-in = refl;
      numbers-in = refl;
      trails-in = refl;
      counts = refl;
      count_cut = refl;
      next-numbers = refl;
      ticket-cut = refl;
      lengths = refl;
      last-place = refl;
      last-count = refl;
      rows-stored = refl;
      row-unset = refl;
      row-set = refl;
      row-flags = refl;
      row_cut = refl;
      packed = refl;
      table-length = refl;
      free-kept = refl;
      numbers-kept = refl;
      store-edit = refl;
      store-refused = refl;
      fresh-accounts = refl;
      fresh-ledger = refl;
      with-grant = refl;
      with-refusal = refl;
      laid-grant = refl;
      laid-refusal = refl;
      book-replies = refl;
      book-given = refl;
      book-tickets = refl;
      book-bars = refl;
      book-requests = refl;
      book-table = refl;
      room-fed = refl;
      granted-tickets = refl;
      service-replies = refl;
      service-tickets = refl;
      service-table = refl;
      delegated = refl;
      trails = refl;
      entry-service = refl;
    }
