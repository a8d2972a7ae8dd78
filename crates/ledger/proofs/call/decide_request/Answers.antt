use mathlib.Core.Path.{sym, ◌∙◌}
use lib.ListN.{length}
use Rattle.std.proofs.lemmas.Result.{err_from_is_err_and}
use Rattle.definitions.specs.AccountWords.{table_of}
use Rattle.definitions.specs.HeldTickets.{holds}
use Rattle.definitions.specs.LedgerWords.{tickets_of, next_number}
use Rattle.definitions.proofs.LedgerWords.{tickets-length}
use Rattle.definitions.proofs.Requests.{read-along}
use Rattle.definitions.proofs.Answers.{unread, crowded, opened}
use Rattle.ledger.proofs.Lookups.{moment-decides}
use Rattle.ledger.proofs.call.decide_request.Goals as goal
use Rattle.std.specs.Prelude.{Some}

pub returns-in_err-request : goal.returns-in_err-request
returns-in_err-request c =
    let a = c.args in
    let w = a.held.words.now in
    let p = err_from_is_err_and c.from_residual.result c.from_residual.ensures.1 in
    let read = sym (c.read_rest.ensures ∙ read-along a.bytes.now (Some a.kind) c.requires) in
    rw (p.1, p.2) (unread (table_of a.accounts.now) (tickets_of w) (next_number w) a.bytes.now a.clock a.room c.in_err-request.field-0.0 (read ∙ c.in_err-request.was))

pub returns-in_err-check_room : goal.returns-in_err-check_room
returns-in_err-check_room c =
    let a = c.args in
    let w = a.held.words.now in
    let p = err_from_is_err_and c.from_residual-in_err-check_room.result c.from_residual-in_err-check_room.ensures.1 in
    let read = sym (c.read_rest.ensures ∙ read-along a.bytes.now (Some a.kind) c.requires) ∙ c.in_ok-request.was in
    rw (p.1, p.2)
    (crowded (table_of a.accounts.now) (tickets_of w) (next_number w) a.bytes.now a.clock a.room c.in_ok-request.request c.in_err-check_room.field-0.0 read
    (sym c.check_room.ensures ∙ c.in_err-check_room.was))

pub returns : goal.returns
returns c =
    let a = c.args in
    let w = a.held.words.now in
    let t = table_of a.accounts.now in
    let l = tickets_of w in
    let n = next_number w in
    let r = c.in_ok-request.request in
    let read = sym (c.read_rest.ensures ∙ read-along a.bytes.now (Some a.kind) c.requires) ∙ c.in_ok-request.was in
    rw (c.moment.ensures, sym (tickets-length w)) at c.decide_read.ensures
    ∙ moment-decides a.clock (length l) n r.kind t a.bytes.now r (holds l r.tgt) (holds l r.evidence)
    ∙ opened t l n a.bytes.now a.clock a.room r read (sym c.check_room.ensures ∙ c.in_ok-check_room.was)
