-- The ticket's number falls at each step.
use mathlib.Core.Path.{sym, ap, ◌∙◌}
use Rattle.definitions.specs.LedgerWords.{tickets_of}
use Rattle.definitions.specs.Descent.{back_of, descent}
use Rattle.definitions.proofs.Descent.{steps-none, steps-here, steps_on, steps-stuck}
use Rattle.ledger.specs.Lookups.{given}
use Rattle.ledger.proofs.Lookups.{origin-none, origin-some, given-none, given-some}
use Rattle.ledger.proofs.BackSteps.{more-none, more-counted}
use Rattle.ledger.proofs.steps.+steps_from.Goals as goal

pub returns-in_err-origin-clause-exact : goal.returns-in_err-origin-clause-exact
returns-in_err-origin-clause-exact t c =
    let l = tickets_of c.args.held.words.now in
    c.from_residual.ensures ∙ sym (ap given (steps-none l c.args.number (origin-none l c.args.number (sym c.in_err-origin.ensures))))

pub returns-in_default-clause-exact : goal.returns-in_default-clause-exact
returns-in_default-clause-exact t c =
    let l = tickets_of c.args.held.words.now in
    let f = origin-some l c.args.number c.in_ok-origin.origin (sym c.in_ok-origin.ensures) in
    let g = given-none (back_of c.in_ok-origin.origin) (sym c.back_of.ensures ∙ c.in_default.is) in
    sym (ap given (steps-here l c.args.number f.0 f.1 (ap back_of f.2 ∙ g)))

pub returns-else-next-number-clause-exact : goal.returns-else-next-number-clause-exact
returns-else-next-number-clause-exact t c =
    let l = tickets_of c.args.held.words.now in
    let f = origin-some l c.args.number c.in_ok-origin.origin (sym c.in_ok-origin.ensures) in
    let n = c.in-Some.next in
    let g = given-some (back_of c.in_ok-origin.origin) n (sym c.back_of.ensures ∙ c.in-Some.is) in
    sym (ap given (steps-stuck l c.args.number f.0 n f.1 (ap back_of f.2 ∙ g) c.if-next-number.false))

pub returns-in_err-steps_from-clause-exact : goal.returns-in_err-steps_from-clause-exact
returns-in_err-steps_from-clause-exact t c =
    let l = tickets_of c.args.held.words.now in
    let f = origin-some l c.args.number c.in_ok-origin.origin (sym c.in_ok-origin.ensures) in
    let n = c.in-Some.next in
    let g = given-some (back_of c.in_ok-origin.origin) n (sym c.back_of.ensures ∙ c.in-Some.is) in
    c.from_residual-in_err-steps_from.ensures ∙ more-none (descent l n) (sym c.in_err-steps_from.ensures.exact)
    ∙ sym (ap given (steps_on l c.args.number f.0 n f.1 (ap back_of f.2 ∙ g) c.if-next-number.true))

pub returns-in_ok-steps_from-clause-exact : goal.returns-in_ok-steps_from-clause-exact
returns-in_ok-steps_from-clause-exact t c =
    let l = tickets_of c.args.held.words.now in
    let f = origin-some l c.args.number c.in_ok-origin.origin (sym c.in_ok-origin.ensures) in
    let n = c.in-Some.next in
    let g = given-some (back_of c.in_ok-origin.origin) n (sym c.back_of.ensures ∙ c.in-Some.is) in
    more-counted (descent l n) c.in_ok-steps_from.field-0 (sym c.in_ok-steps_from.ensures.exact)
    ∙ sym (ap given (steps_on l c.args.number f.0 n f.1 (ap back_of f.2 ∙ g) c.if-next-number.true))
