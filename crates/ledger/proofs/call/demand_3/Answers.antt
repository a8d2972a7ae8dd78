use Rattle.definitions.proofs.Theorem.{demand3}
use Rattle.ledger.proofs.call.demand_3.Goals as goal

pub returns : goal.returns
returns c = demand3
