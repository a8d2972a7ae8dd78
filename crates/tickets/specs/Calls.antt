-- What the exported functions answer, in numbers, and the promises of the calls as a C caller has them.
-- Assumes nothing.
use Rattle.std.specs.Prelude.{ℕ, ◌≡◌, Bool, cond, List, [], ◌∷◌, length, get_or, leb, ltb, Option, Some, None, Result, Ok, Err}
use Rattle.definitions.specs.Errors.{error_number, answer_number}
use Rattle.definitions.specs.Limits.{last_account}
use Rattle.definitions.specs.TicketRecords.{record_of, blank_ticket}
use Rattle.definitions.specs.Requests.{kind_number}
use Rattle.definitions.specs.Accounts.{Table, row_of}
use Rattle.definitions.specs.ReadBack.{padded_name, account_fields, ticket_fields}
use Rattle.definitions.specs.Output.{written_of, output_of}
use Rattle.definitions.specs.Edits.{Edit}
use Rattle.definitions.specs.Answers.{edit as an-edit, request as a-request, clear as a-clearing}
use Rattle.definitions.specs.Services.{Service, perform}
use Rattle.definitions.specs.declared.error.Error.{Error}
use Rattle.definitions.specs.declared.error.Error.TheVariants.{KRB_AP_ERR_MODIFIED, KRB_ERR_GENERIC}
use Rattle.definitions.specs.declared.ticket.Ticket.{Ticket}
use Rattle.definitions.specs.declared.request.Request.{Request}
use Rattle.tickets.specs.declared.TicketsAnswer.{TicketsAnswer}

-- the version of the library, 1.0.0: 10000 for the major number, 100 for the minor
abbrev pub library_version : ℕ
library_version = 10000

-- R6.8: the answer of a refusal: its number, with no value
abbrev pub error_answer : Error → TicketsAnswer
error_answer error = record { error = error_number error; value = 0 }

-- the answer of what gives a number, as a writer its length and a descent its steps: no error and the number, or a refusal
abbrev pub value_answer : Result ℕ Error → TicketsAnswer
value_answer (Ok number) = record { error = 0; value = number }
value_answer (Err error) = error_answer error

-- ---- A record, read and written again

-- the answer to a record that is to be written again to an output of so many bytes: a refusal of the reader stays one
abbrev pub rewrite_answer : Result Ticket Error → ℕ → TicketsAnswer
rewrite_answer (Ok ticket) room = value_answer (written_of ticket room)
rewrite_answer (Err error) room = error_answer error

-- the output after that call: that of the writer, or as it was
abbrev pub rewrite_output : Result Ticket Error → List ℕ → List ℕ
rewrite_output (Ok ticket) output = output_of ticket output
rewrite_output (Err error) output = output

-- ---- Two words, compared
-- R2.12: 1 where they match, 0 where they do not
abbrev pub match_number : Bool → ℕ
match_number matched = cond matched 1 0

-- ---- A request, read
-- kind, options, PAC options, till, the numbers of the TGT and of the evidence, and where the user's and the service's name lie
abbrev pub request_fields : Request → List ℕ
request_fields request =
    kind_number request.kind ∷ request.options ∷ request.pac_options ∷ request.till ∷ request.tgt.number
    ∷ request.evidence.number ∷ request.user.at ∷ request.user.len ∷ request.service.at ∷ request.service.len ∷ []

-- the ten fields after a request was read: its numbers, or what stood there
abbrev pub fields_after : Result Request Error → List ℕ → List ℕ
fields_after (Ok request) before = request_fields request
fields_after (Err error) before = before

-- ---- An edit of the service
-- what an edit promises a C caller: the number of the call's answer, and the words that it leaves, whatever ledger stands beside the accounts
pub record EditCall (before : List ℕ) (change : Edit) (number : ℕ) (after : List ℕ) : Type 0 where
  pub answered : (ledger : List ℕ) → number ≡ answer_number (perform (record { accounts = before; ledger = ledger }) (an-edit change)).reply.answer
  pub left : (ledger : List ℕ)
      → record { accounts = after; ledger = ledger } ≡ (perform (record { accounts = before; ledger = ledger }) (an-edit change)).service

-- ---- A request of the service
-- the answer of a grant: no error, and the length of the ticket's record, which stands at the output's start
abbrev pub length_answer : Ticket → TicketsAnswer
length_answer ticket = record { error = 0; value = length (record_of ticket) }

-- the answer to a request, in numbers: no error and the length of the ticket's record, or the refusal's number
abbrev pub request_answer : Result (Option Ticket) Error → TicketsAnswer
request_answer (Ok (Some ticket)) = length_answer ticket
request_answer (Ok None) = record { error = 0; value = 0 }
request_answer (Err error) = error_answer error

-- what a request promises a C caller: the call's answer in numbers, and the output and the words that it leaves
pub record RequestCall (before : Service) (bytes : List ℕ) (clock : ℕ) (output : List ℕ) (answer : TicketsAnswer) (written : List ℕ) (after : Service) : Type 0 where
  pub answered : answer ≡ request_answer (perform before (a-request bytes clock output)).reply.answer
  pub laid : written ≡ (perform before (a-request bytes clock output)).reply.output
  pub left : after ≡ (perform before (a-request bytes clock output)).service

-- ---- A clearing of the service
-- what a clearing promises a C caller: how many tickets the call took out, and the words that it leaves
pub record ClearCall (before : Service) (clock : ℕ) (taken : ℕ) (after : Service) : Type 0 where
  pub answered : taken ≡ (perform before (a-clearing clock)).reply.cleared
  pub left : after ≡ (perform before (a-clearing clock)).service

-- ---- An account, read
-- R2.13: 60 to a number above the last account's
abbrev pub account_answer : ℕ → ℕ
account_answer number = cond (leb number last_account) 0 (error_number KRB_ERR_GENERIC)

-- the numbers of an account, or what stood there
abbrev pub account_fields_after : Table → ℕ → List ℕ → List ℕ
account_fields_after table number before = cond (leb number last_account) (account_fields (row_of table number)) before

-- its name, or what stood there
abbrev pub account_name_after : Table → ℕ → List ℕ → List ℕ
account_name_after table number before = cond (leb number last_account) (padded_name (row_of table number).name) before

-- ---- A ticket, read by its place
-- R7.7: a ticket is held at a place
abbrev pub is_held_at : List Ticket → ℕ → Bool
is_held_at tickets place = ltb place (length tickets)

-- the ticket that is held there
abbrev pub ticket_of_place : List Ticket → ℕ → Ticket
ticket_of_place tickets place = get_or tickets place blank_ticket

-- R7.7: its record: 41, then what the writer answers to an output of so many bytes
abbrev pub record_at_answer : List Ticket → ℕ → ℕ → TicketsAnswer
record_at_answer tickets place room =
    cond (is_held_at tickets place) (value_answer (written_of (ticket_of_place tickets place) room)) (error_answer KRB_AP_ERR_MODIFIED)

-- the output after that call
abbrev pub record_at_output : List Ticket → ℕ → List ℕ → List ℕ
record_at_output tickets place output = cond (is_held_at tickets place) (output_of (ticket_of_place tickets place) output) output

-- R7.7: its numbers, or 41
abbrev pub ticket_at_answer : List Ticket → ℕ → ℕ
ticket_at_answer tickets place = cond (is_held_at tickets place) 0 (error_number KRB_AP_ERR_MODIFIED)

-- the numbers after that call
abbrev pub ticket_at_fields : List Ticket → ℕ → List ℕ → List ℕ
ticket_at_fields tickets place before = cond (is_held_at tickets place) (ticket_fields (ticket_of_place tickets place)) before
