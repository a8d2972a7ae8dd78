use mathlib.Core.Path.{refl, sym, ◌∙◌}
use native.Mathlib.Omega.{arith}
use lib.ListN.{length}
use Rattle.definitions.specs.Fields.{Bytes}
use Rattle.definitions.specs.declared.error.Error.TheVariants.{KRB_ERR_GENERIC}
use Rattle.definitions.specs.Services.{Service}
use Rattle.definitions.proofs.Requests.{read-refuse}
use Rattle.std.proofs.lemmas.Result.{err_from_is_err_and}
use Rattle.definitions.proofs.Checks.{ok_same, err_told}
use Rattle.definitions.proofs.Answers.{unread}
use Rattle.definitions.specs.AccountWords.{table_of}
use Rattle.definitions.specs.LedgerWords.{tickets_of, next_number}
use Rattle.definitions.proofs.Services.{performed-refused, granting, performed-granted}
use Rattle.ledger.proofs.Lookups.{granted-length}
use Rattle.ledger.proofs.call.request.Goals as goal

pub returns-in_err-kind-clause-performed : goal.returns-in_err-kind-clause-performed
returns-in_err-kind-clause-performed c =
    let a = c.args in
    let s : Service = record { accounts = a.accounts.now; ledger = a.ledger.now } in
    let p = err_from_is_err_and c.from_residual.result c.from_residual.ensures.1 in
    let none = err_told _ _ c.ok_or.ensures.value c.in_err-kind.was in
    rw (p.1, p.2, none.1)
    (performed-refused s a.bytes.now a.clock a.output.now KRB_ERR_GENERIC
    (unread (table_of a.accounts.now) (tickets_of a.ledger.now) (next_number a.ledger.now) a.bytes.now a.clock (length a.output.now) KRB_ERR_GENERIC
    (sym (read-refuse a.bytes.now (none.0 ∙ c.request_path.ensures)))))

pub store_ticket-requires : goal.store_ticket-requires
store_ticket-requires c =
    let a = c.args in
    let b : Bytes a.bytes.now = λ k. c.type_inv.bytes k in
    let e = sym (rw c.of-held.ensures at c.decide_request.ensures) ∙ c.in_ok-ticket.was in
    let g = granting (record { accounts = a.accounts.now; ledger = a.ledger.now }) a.bytes.now a.clock (length a.output.now) c.in_ok-ticket.ticket b c.ranges.clock e in
    let count = rw c.of-held.ensures at c.of-held.result.counted in
    (count, omega (arith, count, g.place), g.number)

pub unwrap-length-requires : goal.unwrap-length-requires
unwrap-length-requires c =
    let a = c.args in
    let b : Bytes a.bytes.now = λ k. c.type_inv.bytes k in
    let e = sym (rw c.of-held.ensures at c.decide_request.ensures) ∙ c.in_ok-ticket.was in
    let q = granted-length (record { accounts = a.accounts.now; ledger = a.ledger.now }) a.bytes.now a.clock (length a.output.now) c.in_ok-ticket.ticket (sym e) b c.ranges.clock in
    rw (c.write_ticket.ensures.answer ∙ q.0) refl

pub returns-clause-performed : goal.returns-clause-performed
returns-clause-performed c =
    let a = c.args in
    let b : Bytes a.bytes.now = λ k. c.type_inv.bytes k in
    let e = sym (rw c.of-held.ensures at c.decide_request.ensures) ∙ c.in_ok-ticket.was in
    performed-granted (record { accounts = a.accounts.now; ledger = a.ledger.now }) a.bytes.now a.clock a.output.now b c.ranges.clock c.in_ok-ticket.ticket (sym e)
    c.store_ticket.new.words c.write_ticket.new.out c.store_ticket.ensures c.write_ticket.ensures.output

pub returns-clause-measured : goal.returns-clause-measured
returns-clause-measured c =
    let a = c.args in
    let b : Bytes a.bytes.now = λ k. c.type_inv.bytes k in
    let e = sym (rw c.of-held.ensures at c.decide_request.ensures) ∙ c.in_ok-ticket.was in
    let q = granted-length (record { accounts = a.accounts.now; ledger = a.ledger.now }) a.bytes.now a.clock (length a.output.now) c.in_ok-ticket.ticket (sym e) b c.ranges.clock in
    ok_same (sym c.unwrap-length.ensures ∙ c.write_ticket.ensures.answer ∙ q.0)

pub returns-clause-bounded : goal.returns-clause-bounded
returns-clause-bounded c =
    let a = c.args in
    let b : Bytes a.bytes.now = λ k. c.type_inv.bytes k in
    let e = sym (rw c.of-held.ensures at c.decide_request.ensures) ∙ c.in_ok-ticket.was in
    let q = granted-length (record { accounts = a.accounts.now; ledger = a.ledger.now }) a.bytes.now a.clock (length a.output.now) c.in_ok-ticket.ticket (sym e) b c.ranges.clock in
    let n = ok_same (sym c.unwrap-length.ensures ∙ c.write_ticket.ensures.answer ∙ q.0) in
    omega (arith, n, q.1)
