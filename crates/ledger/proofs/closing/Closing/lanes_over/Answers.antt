use native.Mathlib.Omega.{arith}
use Rattle.ledger.proofs.ClosingUp.{over-shifted}
use Rattle.ledger.proofs.closing.Closing.lanes_over.Goals as goal

pub returns : goal.returns
returns c = let a = c.args in over-shifted a.word a.self.numbers a.n (omega arith)
