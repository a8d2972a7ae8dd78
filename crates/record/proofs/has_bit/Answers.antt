use Prim.Native.Nat.{◌/◌, ◌^◌}
use native.Mathlib.Omega.{arith}
use borrow.Author.Tests.{le-leb}
use lib.Bits.{and_mask}
use Rattle.definitions.specs.Fields.{has_bit}
use Rattle.record.proofs.has_bit.Goals as goal

pub returns-then-k-lt64 : goal.returns-then-k-lt64
unfolding has_bit
returns-then-k-lt64 c =
    rw (le-leb c.args.k 63 (omega arith), ← and_mask (c.args.word / 2 ^ c.args.k) 1)
