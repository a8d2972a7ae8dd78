use mathlib.Core.Path.{sym, ◌∙◌}
use native.Mathlib.Omega.{arith}
use Rattle.ledger.proofs.ClosingUp.{closed-gone, closed-kept}
use Rattle.ledger.proofs.closing.Closing.pass.Goals as goal

pub returns-then-stays-clause-passed : goal.returns-then-stays-clause-passed
returns-then-stays-clause-passed c w n d =
    let a = c.args in
    let k = c.push in
    closed-kept w a.clock a.place.index a.words.now a.self (omega arith) d (omega arith) (sym c.stays.ensures ∙ c.if-stays.true) a.number n k.new.words k.result k.ensures.more
    (rw c.row.ensures at k.ensures.put)

pub returns-else-stays-clause-passed : goal.returns-else-stays-clause-passed
returns-else-stays-clause-passed c w n d =
    let a = c.args in
    closed-gone w a.clock a.place.index a.words.now a.self (omega arith) d (omega arith) (sym c.stays.ensures ∙ c.if-stays.false)
