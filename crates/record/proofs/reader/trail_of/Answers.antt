use Rattle.std.proofs.Common.{◌∙◌}
use Rattle.record.proofs.Copied.{trail-packed}
use Rattle.record.proofs.reader.trail_of.Goals as goal

pub returns : goal.returns
returns c =
    c.to_le_bytes.ensures
    ∙ rw c.pack.ensures (trail-packed c.args.bytes.now (λ k. c.type_inv.bytes k) c.args.hops c.requires.0 c.requires.1)
