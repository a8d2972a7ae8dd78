use Rattle.definitions.specs.Edits.{edit_of}
use Rattle.tickets.proofs.Calls.{edit-call}
use Rattle.tickets.proofs.tickets_edit.Goals as goal

pub returns : goal.returns
returns c =
    let a = c.args in
    let e = c.edit in
    edit-call a.accounts.now e.new.accounts (edit_of a.number a.name.now a.flags a.send a.receive a.lifetime)
    e.result e.ensures c.answer_number.result c.answer_number.ensures
