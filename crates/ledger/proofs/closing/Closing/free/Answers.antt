use mathlib.Core.Path.{sym, ◌∙◌}
use Prim.Native.Nat.{◌-◌, ◌*◌, ◌/◌, ◌%◌}
use native.Mathlib.Omega.{arith}
use Rattle.ledger.specs.ClosingUp.{settled}
use Rattle.ledger.proofs.ClosingUp.{settled-full, free_on}
use Rattle.ledger.proofs.closing.Closing.free.Goals as goal

pub returns-clause-put : goal.returns-clause-put
returns-clause-put c =
    let a = c.args in
    let first = settled a.words.now a.self in
    let kept = a.self.kept in
    let begun = 4 * c.div_ceil-begun.result in
    let ended = 4 * (a.to / 4) in
    let head = c.free_some-2 in
    let words = c.free_words in
    let start = c.whole.result in
    let full = settled-full head.new.words head.result (omega arith) (omega arith) in
    let after = settled-full words.new.words start (omega arith) (omega arith) in
    let some = words.ensures
    ∙ free_on first head.new.words kept begun (begun - kept) (4 * (a.to / 4 - c.div_ceil-begun.result)) (ended - kept) (sym full ∙ head.ensures.put) (omega arith) (omega arith)
    in
    c.free_some-3.ensures.put ∙ free_on first (settled words.new.words start) kept start.kept (ended - kept) (a.to % 4) (a.to - kept) (after ∙ some) (omega arith) (omega arith)
