-- A service as lent words, and what each call makes of it: `perform`, a case for each call (R2.8, R6.1, R7.2, R7.3, R7.6).
-- Assumes nothing.
use Rattle.std.specs.Prelude.{List, [], ℕ, length, None, Result, Ok, Err}
use Rattle.definitions.specs.declared.error.Error.{Error}
use Rattle.definitions.specs.declared.ticket.Ticket.{Ticket}
use Rattle.definitions.specs.AccountWords.{table_of, stored_by, no_account_words}
use Rattle.definitions.specs.Edits.{Edit, edit_answer}
use Rattle.definitions.specs.LedgerWords.{next_number, tickets_of, store_ticket, no_ticket_words}
use Rattle.definitions.specs.Clearing.{gone}
use Rattle.definitions.specs.ClearedWords.{clear_tickets}
use Rattle.definitions.specs.Answers.{decide_request, granted, ungranted, laid, Call, edit, request, clear, Reply}

-- R7.1: the lent words: those of the accounts and those of the ledger
pub record Service : Type 0 where
  pub accounts : List ℕ
  pub ledger : List ℕ

-- R7.2: a fresh service, with no account set and no ticket held
abbrev pub fresh_service : Service
fresh_service = record { accounts = no_account_words; ledger = no_ticket_words }

-- R1.1: what a call leaves: the reply that the caller gets, and the service after it
pub record Outcome : Type 0 where
  pub reply : Reply
  pub service : Service

-- ---- An edit
-- R2.8, R2.9: an edit with this answer: it has no output, a stored one replaces its row, and the ledger stays
abbrev pub edited_service : Service → Edit → Result Unit Error → Outcome
edited_service service change answer =
    record {
      reply = record { answer = ungranted answer; output = []; cleared = 0 };
      service = record { accounts = stored_by answer service.accounts change; ledger = service.ledger };
    }

-- ---- A request
-- R6.2: what a service decides on a request's bytes, at a clock reading and with so many bytes of output
abbrev pub decision_of : Service → List ℕ → ℕ → ℕ → Result Ticket Error
decision_of service bytes clock room =
    decide_request (table_of service.accounts) (tickets_of service.ledger) (next_number service.ledger) bytes clock room

-- R7.3: the accounts' words after a decision: they stay, whatever it is
abbrev pub accounts_after : Result Ticket Error → List ℕ → List ℕ
accounts_after decision words = words

-- R7.3: the ledger's words after a decision: a grant puts its ticket at the end, a refusal leaves them
abbrev pub with_grant : Result Ticket Error → List ℕ → List ℕ
with_grant (Ok ticket) words = store_ticket words ticket
with_grant (Err error) words = words

-- R6.1, R7.3: a request with this decision: its answer, the output with the record of a grant, and the words after it
abbrev pub requested_service : Service → List ℕ → Result Ticket Error → Outcome
requested_service service output decision =
    record {
      reply = record { answer = granted decision; output = laid decision output; cleared = 0 };
      service =
          record {
            accounts = accounts_after decision service.accounts;
            ledger = with_grant decision service.ledger;
          };
    }

-- ---- A clearing
-- R7.6: it is never refused, takes the ended tickets out of the ledger and answers how many; the accounts stay
abbrev pub cleared_service : Service → ℕ → Outcome
cleared_service service clock =
    record {
      reply = record { answer = Ok None; output = []; cleared = gone clock (tickets_of service.ledger) };
      service = record { accounts = service.accounts; ledger = clear_tickets service.ledger clock };
    }

-- ---- A call
-- R1.1: what a call makes of a service: the reply, and the service after it
abbrev pub perform : Service → Call → Outcome
perform service (edit change) = edited_service service change (edit_answer (table_of service.accounts) change)
perform service (request bytes clock output) = requested_service service output (decision_of service bytes clock (length output))
perform service (clear clock) = cleared_service service clock
