use Rattle.std.proofs.Common.{arith, ◌∙◌}
use Rattle.std.proofs.lemmas.Result.{err_from_is_err_and}
use Rattle.definitions.proofs.RequestWriting.{lengths-few}
use Rattle.definitions.specs.RequestWriting.{drafted}
use Rattle.definitions.proofs.Checks.{ok_told, err_told}
use Rattle.record.proofs.Cursor.{some_told, none_told, request-length, request-unwritable, request-short, request-wrote}
use Rattle.record.proofs.request_writer.write_request.Goals as goal

pub returns-in_err-map : goal.returns-in_err-map
returns-in_err-map c =
    let p = err_from_is_err_and c.from_residual.result c.from_residual.ensures.1 in
    let none = err_told _ _ c.ok_or.ensures.value c.in_err-map.was in
    let all = request-unwritable (drafted c.args.draft) c.args.out.now (none_told _ _ (none.0 ∙ c.writable_map.ensures)) in
    rw (p.1, p.2, none.1) (record { answer = all.0; output = all.1 })

pub request_size-requires : goal.request_size-requires
request_size-requires c =
    let found = some_told _ _ _ (ok_told _ _ c.ok_or.ensures.value c.in_ok-map.was ∙ c.writable_map.ensures) in
    let few = lengths-few (drafted c.args.draft) found.0 in
    record { tgt = few.0; evidence = few.1; user = few.2; service = few.3 }

pub put_request-requires-clause-short : goal.put_request-requires-clause-short
put_request-requires-clause-short c =
    let found = some_told _ _ _ (ok_told _ _ c.ok_or.ensures.value c.in_ok-map.was ∙ c.writable_map.ensures) in
    let few = lengths-few (drafted c.args.draft) found.0 in
    record { tgt = few.0; evidence = few.1; user = few.2; service = few.3 }

pub returns-then-out-request_size : goal.returns-then-out-request_size
returns-then-out-request_size c =
    let p = drafted c.args.draft in
    let found = some_told _ _ _ (ok_told _ _ c.ok_or.ensures.value c.in_ok-map.was ∙ c.writable_map.ensures) in
    let all = request-short p c.args.out.now found.0 (omega (arith, request-length p _ found.1, c.request_size.ensures)) in
    record { answer = all.0; output = all.1 }

pub returns : goal.returns
returns c =
    let p = drafted c.args.draft in
    let found = some_told _ _ _ (ok_told _ _ c.ok_or.ensures.value c.in_ok-map.was ∙ c.writable_map.ensures) in
    let all =
    request-wrote p c.args.out.now c.put_request.new.out _ c.put_request.result found.0 found.1
    (omega (arith, request-length p _ found.1, c.request_size.ensures)) c.put_request.ensures in
    record { answer = all.0; output = all.1 }
