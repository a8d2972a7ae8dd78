-- Laws of the calls: what an edit, a refused request, a granted one and a clearing leave is what `perform` says (R2.8, R7.3, R7.6).
-- Assumes nothing.
use Rattle.std.specs.Prelude.{Result, Ok, Err, Some, None}
use mathlib.Core.Path.{◌≡◌, sym, ap, ◌∙◌}
use mathlib.Core.List.{List, []}
use Prim.Native.Nat.{ℕ, ◌≤◌, ◌<◌}
use lib.ListN.{length}
use mir.Syntax.{w32}
use mir.Val.{Fits}
use borrow.Author.Tests.{le-leb}
use Rattle.definitions.specs.declared.error.Error.{Error}
use Rattle.definitions.specs.Limits.{account_limit, longest_record, ticket_limit}
use Rattle.definitions.specs.Fields.{Bytes}
use Rattle.definitions.specs.TicketRecords.{Writable}
use Rattle.definitions.specs.Output.{output_of}
use Rattle.definitions.specs.declared.ticket.Ticket.{Ticket}
use Rattle.definitions.specs.AccountWords.{table_of, stored_by}
use Rattle.definitions.specs.Edits.{Edit, edit_answer}
use Rattle.definitions.proofs.AccountWords.{rows-length}
use Rattle.definitions.proofs.Grants.{Grants}
use Rattle.definitions.specs.LedgerWords.{count_held, tickets_of, store_ticket, next_number}
use Rattle.definitions.specs.Answers.{edit, request, clear, ungranted}
use Rattle.definitions.specs.Clearing.{gone}
use Rattle.definitions.specs.ClearedWords.{clear_tickets}
use Rattle.definitions.specs.Services.{Service, edited_service, decision_of, perform, requested_service}
use Rattle.definitions.proofs.LedgerWords.{tickets-length}
use Rattle.definitions.proofs.Answers.{grant-tells, grant-room, grant-number, grant-writable}

-- ---- An edit
pub performed-edit : (s : Service) (e : Edit) (r : Result Unit Error) (w : List ℕ) → r ≡ edit_answer (table_of s.accounts) e → w ≡ stored_by r s.accounts e
    → record { reply = record { answer = ungranted r; output = []; cleared = 0 }; service = record { accounts = w; ledger = s.ledger } } ≡ perform s (edit e)
performed-edit s e r w q h =
    (λ i. record { reply = record { answer = ungranted r; output = []; cleared = 0 }; service = record { accounts = h i; ledger = s.ledger } })
    ∙ ap (edited_service s e) q

-- ---- A request
-- what holds of a ticket that a service grants: a place is free, it has the next number, the output has room, and the writer accepts it
pub record Granting (s : Service) (room : ℕ) (t : Ticket) : Type 0 where
  pub place : count_held s.ledger < ticket_limit
  pub number : t.number ≡ next_number s.ledger
  pub fits : longest_record ≤ room
  pub writable : Writable t

pub granting : (s : Service) (bytes : List ℕ) (clock room : ℕ) (t : Ticket) → Bytes bytes → Fits w32 clock → Grants (decision_of s bytes clock room) t
    → Granting s room t
granting s bytes clock room t b f h =
    let a = table_of s.accounts in
    let l = tickets_of s.ledger in
    let n = next_number s.ledger in
    let g = grant-tells a l n bytes clock room t h in
    record {
      place = rw (← tickets-length s.ledger) (grant-room a l n bytes clock room t g.by_kind).0;
      number = grant-number a l n bytes clock room t g.by_kind;
      fits = g.fits;
      writable = grant-writable a l n bytes clock room t (rows-length s.accounts 0 account_limit) b f g;
    }

module _ (s : Service) (bytes : List ℕ) (clock : ℕ) (o : List ℕ) where
  -- a refusal leaves words and output
  pub performed-refused : (e : Error) → Err e ≡ decision_of s bytes clock (length o)
      → record { reply = record { answer = Err e; output = o; cleared = 0 }; service = s } ≡ perform s (request bytes clock o)
  performed-refused e h = ap (requested_service s o) h

  -- a grant stores the ticket and lays its record
  pub performed-granted : Bytes bytes → Fits w32 clock → (t : Ticket) → Ok t ≡ decision_of s bytes clock (length o) → (w o' : List ℕ)
      → w ≡ store_ticket s.ledger t → o' ≡ output_of t o
      → record {
        reply = record { answer = Ok (Some t); output = o'; cleared = 0 };
        service = record { accounts = s.accounts; ledger = w };
      }
      ≡ perform s (request bytes clock o)
  unfolding output_of
  performed-granted b f t h w o' ew eo =
      let g = granting s bytes clock (length o) t b f (sym h) in
      rw (ew, eo, g.writable.well_formed, le-leb longest_record (length o) g.fits)
      (ap (requested_service s o) h)

-- ---- A clearing
pub performed-clear : (s : Service) (clock n : ℕ) (w : List ℕ) → n ≡ gone clock (tickets_of s.ledger) → w ≡ clear_tickets s.ledger clock
    → record { reply = record { answer = Ok None; output = []; cleared = n }; service = record { accounts = s.accounts; ledger = w } } ≡ perform s (clear clock)
performed-clear s clock n w e h i =
    record {
      reply = record { answer = Ok None; output = []; cleared = e i };
      service = record { accounts = s.accounts; ledger = h i };
    }
