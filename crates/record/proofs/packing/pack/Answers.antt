use mathlib.Core.Path.{◌≡◌, refl, ◌∙◌}
use mathlib.Core.List.{List}
use Prim.Native.Nat.{ℕ, ◌+◌, ◌-◌, ◌*◌, ◌/◌, ◌^◌, ◌≤◌, ◌<◌}
use native.Mathlib.Omega.{arith}
use lib.ListN.{length}
use Rattle.definitions.specs.Limits.{byte_bits}
use Rattle.definitions.specs.Fields.{Bytes}
use Rattle.definitions.specs.Words.{pack_at}
use Rattle.definitions.proofs.Words.{pack-past, pack-rest, pack-shift}
use Rattle.record.proofs.packing.pack.Goals as goal

-- the bytes from a position on, out of the last eight
tail : (s : List ℕ) → Bytes s → (from n : ℕ) → n ≡ length s - from → from < length s → n < 8 → 8 ≤ length s
    → pack_at byte_bits s (length s - 8) 8 / 2 ^ (64 - 8 * n) ≡ pack_at byte_bits s from 8
tail s b from n e h l m =
    let k : 64 - 8 * n ≡ 8 * (8 - n) = omega arith in
    let t : 8 - n + n ≡ 8 = omega arith in
    let i : length s - 8 + (8 - n) ≡ from = omega arith in
    rw k (rw (t, i) at (pack-shift s b (length s - 8) (8 - n) n)) ∙ pack-rest byte_bits s from n 8 (omega arith) (omega arith)

pub returns-then-end-from : goal.returns-then-end-from
returns-then-end-from c = let a = c.args in pack-past byte_bits a.bytes.now a.from 8 c.if-end-from.true

pub returns-then-end-ge8 : goal.returns-then-end-ge8
returns-then-end-ge8 c =
    let a = c.args in
    let s = a.bytes.now in
    rw c.pack_some-then-end-ge8.ensures.exact
    (tail s (λ k. c.shared_slice_known-1.given k) a.from (length s - a.from) refl (omega arith) (omega arith) (omega arith))

pub returns : goal.returns
returns c =
    let a = c.args in
    let s = a.bytes.now in
    c.pack_some-2.ensures.exact ∙ pack-rest byte_bits s a.from (length s - a.from) 8 (omega arith) (omega arith)
