use native.Mathlib.Omega.{arith}
use Rattle.ledger.proofs.ClosingUp.{settled-put}
use Rattle.ledger.proofs.closing.Closing.push.Goals as goal

pub returns-clause-put : goal.returns-clause-put
returns-clause-put c =
    let a = c.args in
    let put = c.push_number in
    settled-put a.words.now put.new.words a.self put.result (record { number = a.number; row = a.row.now }) (omega arith) (rw c.put_row.ensures at put.ensures.put)
