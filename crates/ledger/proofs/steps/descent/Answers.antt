use mathlib.Core.Path.{sym, ap, ◌∙◌}
use Rattle.std.proofs.lemmas.Result.{err_from_is_err_and}
use Rattle.definitions.specs.Descent.{descended}
use Rattle.definitions.proofs.Descent.{steps-above}
use Rattle.ledger.proofs.BackSteps.{or-number, or-none, told-steps}
use Rattle.ledger.proofs.steps.descent.Goals as goal

pub returns-in_err-number : goal.returns-in_err-number
returns-in_err-number c =
    let p = err_from_is_err_and c.from_residual.result c.from_residual.ensures.1 in
    let none = or-none _ c.args.number _ _ c.try_from.ensures (sym c.or.ensures ∙ c.in_err-number.was) in
    rw (p.1, p.2, none.1) (sym (ap descended (steps-above c.args.words.now c.args.number none.0)))

pub returns : goal.returns
returns c =
    let same = or-number _ c.args.number _ _ c.try_from.ensures (sym c.or.ensures ∙ c.in_ok-number.was) in
    rw (← same, ← c.of.ensures) (c.ok_or.ensures.value ∙ rw c.steps_from.ensures.exact (told-steps _))
