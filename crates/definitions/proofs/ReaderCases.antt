-- Cases of the readers and the writer (sections 3 and 4 of the rules), and of the error numbers (R6.8), over the definitions, by evaluation.
-- Assumes nothing.
use Rattle.std.specs.Prelude.{Result, Ok, Err, Some, None, is_ok}
use mathlib.Core.Path.{◌≡◌, refl}
use mathlib.Core.Bool.{Bool, true, false}
use mathlib.Core.List.{List, [], ◌∷◌, ◌++◌, map}
use Prim.Native.Nat.{ℕ, ◌+◌, ◌-◌}
use lib.ListN.{length, replicate}
use Rattle.definitions.specs.declared.request.Request.{Request}
use Rattle.definitions.specs.declared.error.Error.{Error}
use Rattle.definitions.specs.Errors.{error_number, answer_number}
use Rattle.definitions.specs.Checks.{and_then}
use Rattle.definitions.specs.Fields.{has_bit, number_at, big_endian, run, past_field, offset_of, field_of, field_bytes, bytes_to}
use Rattle.definitions.specs.TicketRecords.{known_map, hops_fit, readable_as, origin_as, trail_of, ticket_or_blank, read_ticket, all_zero, service_fits, well_formed, record_as, record_of, blank_ticket}
use Rattle.definitions.specs.Output.{written_of, output_of}
use Rattle.definitions.specs.Requests.{map_fits, path_of, part_of, embedded_of, whole_request, nowhere, request_or_blank, request_for, read_request}
use Rattle.definitions.specs.declared.error.Error.TheVariants.{KDC_ERR_C_PRINCIPAL_UNKNOWN, KDC_ERR_S_PRINCIPAL_UNKNOWN, KDC_ERR_PRINCIPAL_NOT_UNIQUE, KDC_ERR_NEVER_VALID, KDC_ERR_POLICY, KDC_ERR_BADOPTION, KDC_ERR_CLIENT_REVOKED, KDC_ERR_SERVER_NOMATCH, KDC_ERR_SVC_UNAVAILABLE, KRB_AP_ERR_TKT_EXPIRED, KRB_AP_ERR_TKT_NYV, KRB_AP_ERR_NOT_US, KRB_AP_ERR_MODIFIED, KRB_ERR_RESPONSE_TOO_BIG, KRB_ERR_GENERIC, KRB_ERR_FIELD_TOOLONG}
use Rattle.definitions.specs.declared.ticket.Origin.TheVariants.{Initial, Direct, S4U2self, Delegated}
use Rattle.definitions.specs.declared.ticket.Ticket.{Ticket}
use Rattle.definitions.specs.declared.request.Kind.{Kind}
use Rattle.definitions.specs.declared.request.Kind.TheVariants as kind
use Rattle.definitions.specs.declared.request.Span.{Span}
use Rattle.definitions.proofs.RecordCases.{W1}
use Rattle.definitions.proofs.DecisionCases.{tech, web, store}
use Rattle.definitions.proofs.CaseValues.{ticket, request-1, request-2, request-3, request-4, enough}
use Rattle.definitions.proofs.AccountCases.{span, passing}

-- ---- Records whose bytes all differ
abbrev head : List ℕ
head = 0x01 ∷ 0x02 ∷ 0x03 ∷ 0x04 ∷ 0x05 ∷ 0x06 ∷ 0x07 ∷ []

abbrev times : List ℕ
times = 0x09 ∷ 0x0A ∷ 0x0B ∷ 0x0C ∷ 0x0D ∷ 0x0E ∷ 0x0F ∷ 0x10 ∷ []

-- an initial record, one to a service on a TGT, and one on evidence too, each behind the two bytes of its map
abbrev initial : ℕ → ℕ → List ℕ
initial high low = high ∷ low ∷ head ++ times

abbrev served : ℕ → ℕ → List ℕ
served high low = high ∷ low ∷ head ++ (0x08 ∷ times ++ (0x11 ∷ 0x12 ∷ []))

abbrev delegated : ℕ → ℕ → List ℕ → List ℕ
delegated high low trail = high ∷ low ∷ head ++ (0x08 ∷ times ++ (0x11 ∷ 0x12 ∷ 0x13 ∷ 0x14 ∷ trail))

-- their tickets
abbrev initial-ticket : Bool → Ticket
initial-ticket mark = ticket 0x0102 0x03040506 0x07 0 0x090A0B0C 0x0D0E0F10 Initial [] mark

abbrev direct-ticket : Bool → Ticket
direct-ticket mark = ticket 0x0102 0x03040506 0x07 0x08 0x090A0B0C 0x0D0E0F10 (Direct 0x1112) [] mark

abbrev self-ticket : Bool → Ticket
self-ticket mark = ticket 0x0102 0x03040506 0x07 0x08 0x090A0B0C 0x0D0E0F10 (S4U2self 0x1112) [] mark

abbrev hop-ticket : List ℕ → Bool → Ticket
hop-ticket trail mark = ticket 0x0102 0x03040506 0x07 0x08 0x090A0B0C 0x0D0E0F10 (Delegated 0x1112 0x1314) trail mark

-- the eight records and their tickets
abbrev records : List (List ℕ)
records =
    initial 0x00 0x37 ∷ served 0x00 0x7F ∷ served 0x04 0x7F ∷ delegated 0x01 0xFF (0x02 ∷ 0x15 ∷ 0x16 ∷ []) ∷ initial 0x02 0x37
    ∷ served 0x02 0x7F ∷ served 0x06 0x7F ∷ delegated 0x03 0xFF (0x08 ∷ span 0x15 8) ∷ []

abbrev their-tickets : List Ticket
their-tickets =
    initial-ticket false ∷ direct-ticket false ∷ self-ticket false ∷ hop-ticket (0x15 ∷ 0x16 ∷ []) false ∷ initial-ticket true
    ∷ direct-ticket true ∷ self-ticket true ∷ hop-ticket (span 0x15 8) true ∷ []

-- bytes that are no record: empty; a map alone; a byte missing; a byte left over; a trail of none, of nine, one whose bytes are not there,
-- and one of too many; last, maps of no origin, with the fields that they have
abbrev unreadable : List (List ℕ)
unreadable =
    [] ∷ (0x00 ∷ 0x37 ∷ []) ∷ (0x00 ∷ 0x37 ∷ head ++ (0x09 ∷ 0x0A ∷ 0x0B ∷ 0x0C ∷ 0x0D ∷ 0x0E ∷ 0x0F ∷ []))
    ∷ (initial 0x00 0x37 ++ (0x00 ∷ [])) ∷ delegated 0x01 0xFF (0x00 ∷ []) ∷ delegated 0x01 0xFF (0x09 ∷ span 0x15 9)
    ∷ delegated 0x01 0xFF (0x02 ∷ 0x15 ∷ []) ∷ delegated 0x01 0xFF (0x02 ∷ 0x15 ∷ 0x16 ∷ 0x17 ∷ []) ∷ served 0x00 0x37 ∷ initial 0x04 0x37 ∷ initial 0x08 0x37 ∷ (0x00 ∷ 0x00 ∷ [])
    ∷ delegated 0x00 0xFF [] ∷ delegated 0x05 0xFF (0x01 ∷ 0x15 ∷ []) ∷ []

-- a ticket value with a trail's count and places of its own
abbrev placed : ℕ → ℕ → List ℕ → Ticket
placed service hops trail =
    record {
      number = 1;
      flags = 2;
      client = 3;
      service = service;
      window = record { start = 5; end = 6 };
      origin = Delegated 7 8;
      trail = trail;
      hops = hops;
      barred = false;
    }

-- values that no record has: a service on an initial ticket, a trail on one that is not delegated, none on one that is, nine, stale places
abbrev unwritable : List Ticket
unwritable =
    ticket 1 2 3 4 5 6 Initial [] false ∷ ticket 1 2 3 0 5 6 Initial (9 ∷ []) false ∷ ticket 1 2 3 4 5 6 (Direct 7) (9 ∷ []) false
    ∷ ticket 1 2 3 4 5 6 (S4U2self 7) (9 ∷ []) true ∷ ticket 1 2 3 4 5 6 (Delegated 7 8) [] false ∷ placed 4 9 (replicate 8 1)
    ∷ placed 4 2 (1 ∷ 1 ∷ 1 ∷ replicate 5 0) ∷ placed 4 7 (replicate 8 1) ∷ placed 4 0 (replicate 8 0) ∷ []

-- what the writer answers: the length, or a number that no length is
abbrev outcome : Result ℕ Error → ℕ
outcome (Ok n) = n
outcome (Err error) = 1000 + error_number error

-- ---- Requests
abbrev options : List ℕ
options = 0x01 ∷ 0x02 ∷ 0x03 ∷ 0x04 ∷ []

abbrev pac : List ℕ
pac = 0x05 ∷ 0x06 ∷ 0x07 ∷ 0x08 ∷ []

abbrev till : List ℕ
till = 0x09 ∷ 0x0A ∷ 0x0B ∷ 0x0C ∷ []

-- the reading of a request that has these parts
abbrev reads : Kind → ℕ → ℕ → ℕ → Ticket → Ticket → Span → Span → Result Request Error
reads k opts pac-opts wish tgt evidence user service =
    Ok (record {
      kind = k;
      options = opts;
      pac_options = pac-opts;
      till = wish;
      tgt = tgt;
      evidence = evidence;
      user = user;
      service = service;
    })

abbrev lies : ℕ → ℕ → Span
lies at len = record { at = at; len = len }

-- a request of kind 2 whose TGT is other bytes
abbrev presenting : List ℕ → List ℕ
presenting bytes = 0x00 ∷ 0x91 ∷ 0x02 ∷ length bytes ∷ bytes ++ (0x00 ∷ [])

-- bytes that are no request: empty; no bit 0; kinds 0 and 5; a bit from 8 on; PAC options in kind 1; no options in kind 4; a byte missing or left
-- over; a TGT of no bytes, and one with a byte too many
abbrev no-requests : List (List ℕ)
no-requests =
    [] ∷ (0x00 ∷ 0x40 ∷ 0x00 ∷ []) ∷ (0x00 ∷ 0x41 ∷ 0x00 ∷ 0x00 ∷ []) ∷ (0x00 ∷ 0x41 ∷ 0x05 ∷ 0x00 ∷ []) ∷ (0x01 ∷ 0x41 ∷ 0x01 ∷ 0x00 ∷ [])
    ∷ (0x00 ∷ 0x45 ∷ 0x01 ∷ pac ++ (0x00 ∷ [])) ∷ (0x00 ∷ 0xB1 ∷ 0x04 ∷ 0x11 ∷ initial 0x00 0x37 ++ (0x11 ∷ initial 0x00 0x37 ++ (0x00 ∷ [])))
    ∷ (0x00 ∷ 0x41 ∷ 0x01 ∷ 0x03 ∷ 0x77 ∷ 0x65 ∷ []) ∷ (W1 ++ (0x00 ∷ [])) ∷ presenting [] ∷ presenting (initial 0x00 0x37 ++ (0x00 ∷ []))
    ∷ (0x00 ∷ 0xB3 ∷ 0x04 ∷ options ++ (0x11 ∷ initial 0x00 0x37 ++ (0x11 ∷ initial 0x00 0x38 ++ (0x00 ∷ [])))) ∷ []

-- the two kinds of answer that give no value
abbrev done : Result Unit Error
done = Ok tt

abbrev refusal : Error → Result Unit Error
refusal error = Err error

pub record ReaderCases : Type 0 where
  -- R6.8: the sixteen numbers, and 0 where nothing is refused
  pub error-numbers : map error_number (KDC_ERR_C_PRINCIPAL_UNKNOWN ∷ KDC_ERR_S_PRINCIPAL_UNKNOWN ∷ KDC_ERR_PRINCIPAL_NOT_UNIQUE ∷ KDC_ERR_NEVER_VALID ∷ KDC_ERR_POLICY ∷ KDC_ERR_BADOPTION ∷ KDC_ERR_CLIENT_REVOKED ∷ KDC_ERR_SERVER_NOMATCH ∷ KDC_ERR_SVC_UNAVAILABLE ∷ KRB_AP_ERR_TKT_EXPIRED ∷ KRB_AP_ERR_TKT_NYV ∷ KRB_AP_ERR_NOT_US ∷ KRB_AP_ERR_MODIFIED ∷ KRB_ERR_RESPONSE_TOO_BIG ∷ KRB_ERR_GENERIC ∷ KRB_ERR_FIELD_TOOLONG ∷ [])
      ≡ 6 ∷ 7 ∷ 8 ∷ 11 ∷ 12 ∷ 13 ∷ 18 ∷ 26 ∷ 29 ∷ 32 ∷ 33 ∷ 35 ∷ 41 ∷ 52 ∷ 60 ∷ 61 ∷ []
  pub answer-numbers : answer_number done ∷ answer_number (refusal KRB_ERR_GENERIC) ∷ [] ≡ 0 ∷ 60 ∷ []
  pub answers-accepted : is_ok done ∷ is_ok (refusal KRB_ERR_GENERIC) ∷ [] ≡ true ∷ false ∷ []
  pub then : and_then done done ∷ and_then done (refusal KDC_ERR_POLICY) ∷ and_then (refusal KRB_ERR_GENERIC) (refusal KDC_ERR_POLICY) ∷ and_then (refusal KRB_ERR_GENERIC) done ∷ []
      ≡ done ∷ refusal KDC_ERR_POLICY ∷ refusal KRB_ERR_GENERIC ∷ refusal KRB_ERR_GENERIC ∷ []
  -- R3.3: the eight maps
  pub known-maps : passing known_map (span 0 2048) ≡ 0x0037 ∷ 0x007F ∷ 0x01FF ∷ 0x0237 ∷ 0x027F ∷ 0x03FF ∷ 0x047F ∷ 0x067F ∷ []
  pub no-higher-maps : passing known_map (0x0837 ∷ 0x1037 ∷ 0x2037 ∷ 0x4037 ∷ 0x8037 ∷ 0x8C7F ∷ []) ≡ []
  -- R3.1, R3.2: each of the eight records, read and written, and how long it is
  pub records-read : map read_ticket records ≡ map Ok their-tickets
  pub records-written : map record_of their-tickets ≡ records
  pub record-lengths : map (λ t. outcome (written_of t enough)) their-tickets ≡ 17 ∷ 20 ∷ 20 ∷ 25 ∷ 17 ∷ 20 ∷ 20 ∷ 31 ∷ []
  -- R3.5: any values are read
  pub any-initial : read_ticket (0x00 ∷ 0x37 ∷ replicate 11 0xFF ++ replicate 4 0x00) ≡ Ok (ticket 0xFFFF 0xFFFFFFFF 0xFF 0 0xFFFFFFFF 0 Initial [] false)
  pub any-delegated : read_ticket (0x03 ∷ 0xFF ∷ replicate 20 0xFF ++ (0x01 ∷ 0xFF ∷ [])) ≡ Ok (ticket 0xFFFF 0xFFFFFFFF 0xFF 0xFF 0xFFFFFFFF 0xFFFFFFFF (Delegated 0xFFFF 0xFFFF) (0xFF ∷ []) true)
  -- R3.5: what is no record; a blank ticket stands where there is none
  pub records-refused : map read_ticket unreadable ≡ replicate 14 (Err KRB_ERR_GENERIC)
  pub ticket-blank : ticket_or_blank (Err KRB_ERR_GENERIC) ≡ ticket 0 0 0 0 0 0 Initial [] false
  -- R3.6, R3.7: what has no record is 60; else an output of 30 bytes is 52
  pub unwritten : map (λ t. outcome (written_of t enough)) unwritable ≡ replicate 9 1060
  pub more_room : outcome (written_of (initial-ticket true) 32) ∷ outcome (written_of (initial-ticket true) 1000) ∷ [] ≡ 17 ∷ 17 ∷ []
  pub no_room : map (λ t. outcome (written_of t (enough - 1))) their-tickets ≡ replicate 8 1052
  -- R3.7: the record at the output's start, every byte behind it as it was; nothing is touched by a refusal
  pub output-written : output_of (initial-ticket true) (replicate 33 0xAA) ≡ initial 0x02 0x37 ++ replicate 16 0xAA
  pub output-exact : output_of (initial-ticket true) (replicate 31 0xAA) ≡ initial 0x02 0x37 ++ replicate 14 0xAA
  pub output-no-room : output_of (initial-ticket true) (replicate 30 0xAA) ≡ replicate 30 0xAA
  pub output-unwritten : map (λ t. output_of t (replicate 31 0xAA)) unwritable ≡ replicate 9 (replicate 31 0xAA)
  -- R4.1, R4.2: every field of each kind in its place; what is absent is 0, blank or nowhere
  pub reads-1 : read_request (request-1 options till tech) ≡ reads kind.Initial 0x01020304 0 0x090A0B0C blank_ticket blank_ticket (lies 12 4) nowhere
  pub reads-2 : read_request (request-2 options till (initial-ticket false) store) ≡ reads kind.Direct 0x01020304 0 0x090A0B0C (initial-ticket false) blank_ticket nowhere (lies 30 5)
  pub reads-3 : read_request (request-3 options till (initial-ticket true) web) ≡ reads kind.S4U2self 0x01020304 0 0x090A0B0C (initial-ticket true) blank_ticket (lies 30 3) nowhere
  pub reads-4 : read_request (request-4 options pac till (initial-ticket false) (direct-ticket true) store) ≡ reads kind.S4U2proxy 0x01020304 0x05060708 0x090A0B0C (initial-ticket false) (direct-ticket true) nowhere (lies 55 5)
  pub reads-till : read_request (0x00 ∷ 0x49 ∷ 0x01 ∷ till ++ (0x00 ∷ [])) ≡ reads kind.Initial 0 0 0x090A0B0C blank_ticket blank_ticket (lies 8 0) nowhere
  pub reads-options : read_request (0x00 ∷ 0x43 ∷ 0x01 ∷ options ++ (0x00 ∷ [])) ≡ reads kind.Initial 0x01020304 0 0 blank_ticket blank_ticket (lies 8 0) nowhere
  pub reads-any-record : read_request (presenting (served 0x04 0x7F)) ≡ reads kind.Direct 0 0 0 (self-ticket false) blank_ticket nowhere (lies 25 0)
  pub a-part : part_of W1 (lies 4 3) ∷ part_of W1 (lies 5 2) ∷ part_of W1 nowhere ∷ [] ≡ web ∷ (0x65 ∷ 0x62 ∷ []) ∷ [] ∷ []
  -- R4.2, R4.3: what is no request; a blank one stands where there is none
  pub paths : path_of 0 0 ∷ path_of 5 0 ∷ path_of 1 0x41 ∷ path_of 2 0x91 ∷ path_of 3 0x51 ∷ path_of 4 0xB3 ∷ path_of 1 0x91 ∷ path_of 1 0x141 ∷ [] ≡ None ∷ None ∷ Some kind.Initial ∷ Some kind.Direct ∷ Some kind.S4U2self ∷ Some kind.S4U2proxy ∷ None ∷ None ∷ []
  pub requests-refused : map read_request no-requests ≡ replicate 12 (Err KRB_ERR_GENERIC)
  pub refused-blank : reads kind.Initial 0 0 0 blank_ticket blank_ticket (lies 0 0) (lies 0 0) ≡ Ok (request_or_blank (Err KRB_ERR_GENERIC))

pub reader-cases : ReaderCases
unfolding has_bit number_at big_endian run past_field offset_of field_of field_bytes bytes_to known_map hops_fit readable_as origin_as trail_of read_ticket all_zero service_fits well_formed record_as written_of output_of map_fits path_of embedded_of whole_request request_for read_request
reader-cases =
    record {
      error-numbers = refl;
      answer-numbers = refl;
      answers-accepted = refl;
      then = refl;
      known-maps = refl;
      no-higher-maps = refl;
      records-read = refl;
      records-written = refl;
      record-lengths = refl;
      any-initial = refl;
      any-delegated = refl;
      records-refused = refl;
      ticket-blank = refl;
      unwritten = refl;
      more_room = refl;
      no_room = refl;
      output-written = refl;
      output-exact = refl;
      output-no-room = refl;
      output-unwritten = refl;
      reads-1 = refl;
      reads-2 = refl;
      reads-3 = refl;
      reads-4 = refl;
      reads-till = refl;
      reads-options = refl;
      reads-any-record = refl;
      a-part = refl;
      paths = refl;
      requests-refused = refl;
      refused-blank = refl;
    }
