-- The ticket's number falls at each step.
use Rattle.ledger.proofs.steps.+steps_from.Given as goal

abbrev pub decreases-steps_from : goal.decreases-steps_from
decreases-steps_from l = l.number
