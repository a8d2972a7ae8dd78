use mathlib.Core.Path.{◌∙◌}
use native.Mathlib.Omega.{arith}
use Rattle.definitions.proofs.Fields.{number-fits}
use Rattle.record.proofs.Copied.{number-copied}
use Rattle.record.proofs.Cursor.{number-none, number-whole}
use Rattle.record.proofs.number.Goals as goal

pub returns-then-bytes-at : goal.returns-then-bytes-at
returns-then-bytes-at c =
    let a = c.args in
    number-none a.bytes.now a.at a.width c.if-bytes-at.true

pub returns : goal.returns
returns c =
    let a = c.args in
    let e = c.from_be_bytes.ensures ∙ number-copied a.bytes.now _ a.at a.width (omega arith) (omega arith) c.copy_from_slice.ensures.after in
    number-whole a.bytes.now a.at a.width c.from_be_bytes.result e (rw e (number-fits a.bytes.now (λ k. c.type_inv.bytes k) a.at a.width))
