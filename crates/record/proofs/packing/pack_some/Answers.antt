use mathlib.Core.Path.{◌∙◌}
use Rattle.definitions.specs.Limits.{byte_bits}
use native.Mathlib.Omega.{arith}
use Rattle.record.proofs.Copied.{word-copied}
use Rattle.definitions.proofs.Words.{pack-fits}
use Rattle.record.proofs.packing.pack_some.Goals as goal

pub returns : goal.returns
returns c =
    let a = c.args in
    let e = c.from_le_bytes.ensures ∙ word-copied a.bytes.now _ a.from a.count (omega arith) (omega arith) c.copy_from_slice.ensures.after in
    record { exact = e; bounded = rw e (pack-fits byte_bits a.bytes.now (λ k. omega (arith, c.type_inv.bytes k)) a.from a.count) }
