use Prim.Native.Nat.{◌≤◌}
use mathlib.Core.Path.{◌≡◌}
use Rattle.ledger.specs.Lookups.{NoneIn}
use Rattle.ledger.proofs.search.none_among.Given as goal

abbrev pub invariant-loop-word : goal.invariant-loop-word
invariant-loop-word l =
    (l.marks ≤ 0x8000800080008000) × (l.marks ≡ 0x8000800080008000 → NoneIn l.numbers l.number l.word-index)
