use Rattle.std.proofs.Common.{◌∙◌}
use Rattle.std.proofs.lemmas.Result.{err_from_is_err_and}
use Rattle.definitions.proofs.Requests.{read-along, read-refuse}
use Rattle.definitions.proofs.Checks.{ok_told, err_told}
use Rattle.record.proofs.request.read_request.Goals as goal

pub returns-in_err-kind : goal.returns-in_err-kind
returns-in_err-kind c =
    let p = err_from_is_err_and c.from_residual.result c.from_residual.ensures.1 in
    let none = err_told _ _ c.ok_or.ensures.value c.in_err-kind.was in
    rw (p.1, p.2, none.1) (read-refuse c.args.bytes.now (none.0 ∙ c.request_path.ensures))

pub returns : goal.returns
returns c =
    let some = ok_told _ _ c.ok_or.ensures.value c.in_ok-kind.was in
    c.read_rest.ensures ∙ read-along c.args.bytes.now _ (some ∙ c.request_path.ensures)
