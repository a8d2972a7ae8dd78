use Rattle.std.proofs.Common.{sym}
use Rattle.record.proofs.Cursor.{wrote_then, field-there, field-absent}
use Rattle.record.proofs.form.Form.put.Goals as goal

pub returns-then-present-clause-put : goal.returns-then-present-clause-put
returns-then-present-clause-put c =
    let a = c.args in
    field-there a.self.layout.now a.self.map a.bit _ (sym c.if-present.ensures) (wrote_then c.put.ensures.put c.copy.ensures.put)

pub returns-else-present-clause-put : goal.returns-else-present-clause-put
returns-else-present-clause-put c =
    let a = c.args in
    field-absent a.self.layout.now a.self.map a.bit _ (sym c.if-present.ensures)
