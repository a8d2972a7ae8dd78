use Rattle.tickets.proofs.Calls.{clear-call}
use Rattle.tickets.proofs.tickets_clear.Goals as goal

pub returns : goal.returns
returns c =
    let a = c.args in
    let e = c.clear in
    clear-call (record { accounts = a.accounts.now; ledger = a.ledger.now }) (record { accounts = a.accounts.now; ledger = e.new.ledger }) a.clock
    e.result (e.ensures.performed a.accounts.now)
