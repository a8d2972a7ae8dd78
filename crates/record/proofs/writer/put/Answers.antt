use mathlib.Core.Path.{◌∙◌}
use Rattle.definitions.proofs.Fields.{length-big_endian}
use Rattle.record.proofs.Copied.{wrote-part, last-bytes}
use Rattle.record.proofs.writer.put.Goals as goal

pub returns-clause-put : goal.returns-clause-put
returns-clause-put c =
    let a = c.args in
    wrote-part a.out.now _ _ a.at.now a.width
    (c.copy_from_slice.ensures.after ∙ rw c.to_be_bytes.ensures (last-bytes a.number a.width c.requires.1))
    (length-big_endian a.width a.number) c.requires.0
