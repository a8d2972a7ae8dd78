use mathlib.Core.Path.{sym}
use native.Mathlib.Omega.{arith}
use Rattle.ledger.proofs.ClosingUp.{settled-full}
use Rattle.ledger.proofs.closing.Closing.settle.Goals as goal

pub returns-then-n-eq0 : goal.returns-then-n-eq0
returns-then-n-eq0 c =
    let a = c.args in
    sym (settled-full a.words.now a.self (omega arith) c.if-n-eq0.true)
