use Rattle.std.proofs.Common.{sym, ◌∙◌, arith}
use mathlib.Core.Bool.{false≢true}
use borrow.Author.Tests.{eqb-true, eq-eqb}
use Rattle.std.proofs.lemmas.Result.{err_from_is_err_and}
use Rattle.definitions.specs.Requests.{embedded_of}
use Rattle.definitions.proofs.Requests.{span-within, not-whole, request-no, tgt-unread, evidence-unread, both-read}
use Rattle.definitions.proofs.Checks.{ok_told, err_told}
use Rattle.record.proofs.Cursor.{some_told, none_told}
use Rattle.record.proofs.request.read_rest.Goals as goal

pub returns-in_err-parts : goal.returns-in_err-parts
returns-in_err-parts c =
    let s = c.args.bytes.now in
    let m = c.map_of-map in
    let p = err_from_is_err_and c.from_residual.result c.from_residual.ensures.1 in
    let none = err_told _ _ c.ok_or.ensures.value c.in_err-parts.was in
    rw (p.1, p.2, none.1)
    (request-no s m.result c.args.kind (not-whole s m.result (λ e. false≢true (sym (none_told _ _ (none.0 ∙ c.parts_of.ensures)) ∙ eq-eqb _ _ e)))
    ∙ rw m.ensures)

pub embedded_in-requires : goal.embedded_in-requires
embedded_in-requires c =
    let s = c.args.bytes.now in
    let m = c.map_of-map.result in
    let found = some_told _ _ _ (ok_told _ _ c.ok_or.ensures.value c.in_ok-parts.was ∙ c.parts_of.ensures) in
    rw found.1 (omega arith, span-within s m 4 (omega arith) (omega (arith, eqb-true _ _ found.0)))

pub embedded_in-requires-2 : goal.embedded_in-requires-2
embedded_in-requires-2 c =
    let s = c.args.bytes.now in
    let m = c.map_of-map.result in
    let found = some_told _ _ _ (ok_told _ _ c.ok_or.ensures.value c.in_ok-parts.was ∙ c.parts_of.ensures) in
    rw found.1 (omega arith, span-within s m 5 (omega arith) (omega (arith, eqb-true _ _ found.0)))

pub returns-in_err-tgt : goal.returns-in_err-tgt
unfolding embedded_of
returns-in_err-tgt c =
    let s = c.args.bytes.now in
    let m = c.map_of-map in
    let found = some_told _ _ _ (ok_told _ _ c.ok_or.ensures.value c.in_ok-parts.was ∙ c.parts_of.ensures) in
    let t = rw found.1 at c.embedded_in.ensures in
    let p = err_from_is_err_and c.from_residual-in_err-tgt.result c.from_residual-in_err-tgt.ensures.1 in
    rw (p.1, p.2, sym m.ensures) (tgt-unread s m.result c.args.kind (eqb-true _ _ found.0) c.in_err-tgt.field-0.0 (sym t ∙ c.in_err-tgt.was))

pub returns-in_err-evidence : goal.returns-in_err-evidence
unfolding embedded_of
returns-in_err-evidence c =
    let s = c.args.bytes.now in
    let m = c.map_of-map in
    let found = some_told _ _ _ (ok_told _ _ c.ok_or.ensures.value c.in_ok-parts.was ∙ c.parts_of.ensures) in
    let t = rw found.1 at c.embedded_in.ensures in
    let e = rw found.1 at c.embedded_in-2.ensures in
    let p = err_from_is_err_and c.from_residual-in_err-evidence.result c.from_residual-in_err-evidence.ensures.1 in
    rw (p.1, p.2, sym m.ensures)
    (evidence-unread s m.result c.args.kind (eqb-true _ _ found.0) c.in_ok-tgt.tgt c.in_err-evidence.field-0.0 (sym t ∙ c.in_ok-tgt.was) (sym e ∙ c.in_err-evidence.was))

pub returns : goal.returns
unfolding embedded_of
returns c =
    let s = c.args.bytes.now in
    let m = c.map_of-map in
    let found = some_told _ _ _ (ok_told _ _ c.ok_or.ensures.value c.in_ok-parts.was ∙ c.parts_of.ensures) in
    let t = rw found.1 at c.embedded_in.ensures in
    let e = rw found.1 at c.embedded_in-2.ensures in
    rw (found.1, sym m.ensures)
    (both-read s m.result c.args.kind (eqb-true _ _ found.0) c.in_ok-tgt.tgt c.in_ok-evidence.evidence (sym t ∙ c.in_ok-tgt.was) (sym e ∙ c.in_ok-evidence.was))
