use Rattle.std.proofs.Common.{sym, refl}
use Rattle.record.proofs.Cursor.{small_at, taken-there, taken-absent}
use Rattle.record.proofs.form.Form.take.Goals as goal

pub returns-then-not-present : goal.returns-then-not-present
returns-then-not-present c =
    let a = c.args in
    let r = c.requires in
    taken-absent a.self.layout.now a.bytes.now a.self.map a.bit a.at.now _ r.row refl r.start r.bounded (sym c.if-not-present.ensures)

pub returns : goal.returns
returns c =
    let a = c.args in
    let r = c.requires in
    let s = small_at a.self.layout.now a.self.small a.bit in
    taken-there a.self.layout.now a.bytes.now a.self.map a.bit a.at.now _ r.row refl r.start r.bounded c.number-value.result s.0 s.1
    (sym c.if-not-present.ensures) c.number-value.ensures
