use mathlib.Core.Path.{refl}
use native.Mathlib.Omega.{arith}
use Rattle.ledger.proofs.ClosingUp.{pushed-on, pushed-full}
use Rattle.ledger.proofs.closing.Closing.push_number.Goals as goal
use Rattle.ledger.proofs.closing.Closing.push_number.Goals.{then-kept-eq0, else-kept-eq0}

pub returns-clause-put : goal.returns-clause-put
returns-clause-put c =
    let a = c.args in
    elim c.if-kept-eq0.branch [
      | then-kept-eq0 w ↦
          rw (w.words-is, w.swap.ensures.put, w.word.ensures)
          (pushed-full a.words.now a.self (omega arith) a.number (omega arith) _ refl refl w.if-kept-eq0.true (omega arith))
      | else-kept-eq0 w ↦ rw w.words-is (pushed-on a.words.now a.self (omega arith) a.number (omega arith) _ refl refl w.if-kept-eq0.false)
    ]
