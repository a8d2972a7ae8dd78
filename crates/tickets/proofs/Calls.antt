-- Laws of the exported calls.
-- The bounds on the lengths of what is written, and the ledger's promises in numbers.
-- Assumes nothing.
use Prim.Native.Nat.{ℕ, ◌≤◌, ◌<◌}
use native.Mathlib.Omega.{arith}
use mathlib.Core.Path.{◌≡◌, refl, ap, ◌∙◌}
use mathlib.Core.Bool.{Bool, true, false, cond}
use mathlib.Core.List.{List, []}
use lib.ListN.{length}
use lib.Dec.{leb}
use mir.Val.{bool_byte}
use Rattle.std.specs.Prelude.{Some, None, Result, Ok, Err, IfOk}
use Rattle.definitions.specs.Limits.{longest_record, trail_limit, two32}
use Rattle.definitions.specs.ReadBack.{as_number}
use Rattle.definitions.specs.Errors.{answer_number}
use Rattle.definitions.specs.Fields.{Bytes}
use Rattle.definitions.specs.TicketRecords.{well_formed, map_of_ticket, record_of, read_ticket}
use Rattle.definitions.specs.Output.{written_of}
use Rattle.definitions.specs.declared.error.Error.{Error}
use Rattle.definitions.specs.declared.error.Error.TheVariants.{KRB_ERR_RESPONSE_TOO_BIG, KRB_ERR_GENERIC}
use Rattle.definitions.specs.declared.ticket.Ticket.{Ticket}
use Rattle.definitions.specs.declared.decision.Granted.{Granted}
use Rattle.definitions.proofs.TicketRecords.{record-most}
use Rattle.definitions.proofs.RoundTrip.{given-writable}
use Rattle.definitions.specs.RequestWriting.{RequestParts, writable, request_of, request_written}
use Rattle.definitions.proofs.RequestWriting.{request-short}
use Rattle.definitions.specs.Edits.{Edit}
use Rattle.definitions.specs.Answers.{edit as an-edit, request as a-request, clear as a-clearing, ungranted, given}
use Rattle.definitions.specs.Services.{Service, Outcome, perform}
use Rattle.ledger.specs.Lookups.{held_at}
use Rattle.ledger.proofs.Lookups.{held-listed}
use Rattle.tickets.specs.declared.TicketsAnswer.{TicketsAnswer}
use Rattle.tickets.specs.Calls.{EditCall, RequestCall, ClearCall, request_answer}

-- a truth value as a number
pub flag_number : (it : Bool) → bool_byte it ≡ as_number it
flag_number true = refl
flag_number false = refl

-- what the writer writes of a ticket has 31 bytes at most
pub length_most : (t : Ticket) → length t.trail ≡ trail_limit → (k : ℕ) → IfOk (written_of t k) (λ n. n ≤ longest_record)
unfolding written_of
length_most t p k = by (well_formed t (map_of_ticket t)) (leb longest_record k)
  where
    by : (p q : Bool) → IfOk (cond p (cond q (Ok (length (record_of t))) (Err KRB_ERR_RESPONSE_TOO_BIG)) (Err KRB_ERR_GENERIC)) (λ n. n ≤ longest_record)
    by true true = record-most t p
    by true false = tt
    by false q = tt

-- what the writer writes of a ticket that was read has 31 bytes at most
pub value-most : (s : List ℕ) → Bytes s → (t : Ticket) → read_ticket s ≡ Ok t → (k : ℕ) → IfOk (written_of t k) (λ n. n ≤ longest_record)
value-most s b t e = length_most t (given-writable t (record { bytes = s; are_bytes = b; read = e })).in_range.places

-- ---- Lengths of 32 bits
-- 31 at most is one
most-fits : (w : Result ℕ Error) → IfOk w (λ n. n ≤ longest_record) → IfOk w (λ n. n < two32)
most-fits (Ok n) h = omega (arith, h)
most-fits (Err error) h = tt

-- so the length of a record is, of a ticket that was read
pub read_fits : (s : List ℕ) → Bytes s → (t : Ticket) → read_ticket s ≡ Ok t → (k : ℕ) → IfOk (written_of t k) (λ n. n < two32)
read_fits s b t e k = most-fits (written_of t k) (value-most s b t e k)

-- and of one that is held
pub held_fits : (w : List ℕ) (i : ℕ) (t : Ticket) → held_at w i ≡ Some t → (k : ℕ) → IfOk (written_of t k) (λ n. n < two32)
held_fits w i t e k = most-fits (written_of t k) (length_most t (held-listed w i t e).2 k)

-- and that of a request
pub request_fits : (p : RequestParts) (k : ℕ) → IfOk (request_written p k) (λ n. n < two32)
unfolding request_written
request_fits p k = by (writable p) refl (leb (length (request_of p)) k)
  where
    by : (g : Bool) → writable p ≡ g → (q : Bool)
        → IfOk (cond g (cond q (Ok (length (request_of p))) (Err KRB_ERR_RESPONSE_TOO_BIG)) (Err KRB_ERR_GENERIC)) (λ n. n < two32)
    by true e true = request-short p e
    by true e false = tt
    by false e q = tt

-- ---- An edit, in numbers
edit-number : (r : Result Unit Error) → answer_number r ≡ answer_number (ungranted r)
edit-number (Ok done) = refl
edit-number (Err error) = refl

pub edit-call : (w w' : List ℕ) (x : Edit) (r : Result Unit Error)
    → ((l : List ℕ) → record { reply = record { answer = ungranted r; output = []; cleared = 0 }; service = record { accounts = w'; ledger = l } } ≡ perform (record { accounts = w; ledger = l }) (an-edit x))
    → (n : ℕ) → n ≡ answer_number r → EditCall w x n w'
edit-call w w' x r p n e =
    record {
      answered = λ l. e ∙ edit-number r ∙ ap (λ (o : Outcome). answer_number o.reply.answer) (p l);
      left = λ l. ap (λ (o : Outcome). o.service) (p l);
    }

-- ---- A request, in numbers
pub request-call : (s s' : Service) (bytes : List ℕ) (clock : ℕ) (o o' : List ℕ) (r : Result Granted Error)
    → record { reply = record { answer = given r; output = o'; cleared = 0 }; service = s' } ≡ perform s (a-request bytes clock o)
    → (x : TicketsAnswer) → x ≡ request_answer (given r) → RequestCall s bytes clock o x o' s'
request-call s s' bytes clock o o' r p x e =
    record {
      answered = e ∙ ap (λ (z : Outcome). request_answer z.reply.answer) p;
      laid = ap (λ (z : Outcome). z.reply.output) p;
      left = ap (λ (z : Outcome). z.service) p;
    }

-- ---- A clearing, in numbers
pub clear-call : (s s' : Service) (clock n : ℕ)
    → record { reply = record { answer = Ok None; output = []; cleared = n }; service = s' } ≡ perform s (a-clearing clock) → ClearCall s clock n s'
clear-call s s' clock n p =
    record { answered = ap (λ (o : Outcome). o.reply.cleared) p; left = ap (λ (o : Outcome). o.service) p }
