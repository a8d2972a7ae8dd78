use mathlib.Core.Path.{◌≡◌}
use mathlib.Core.List.{◌++◌}
use Prim.Native.Nat.{◌+◌, ◌*◌}
use lib.ListN.{take}
use Rattle.definitions.specs.Limits.{word_size}
use Rattle.definitions.specs.Saving.{word_bytes}
use Rattle.tickets.proofs.saving.put_words.Given as goal

abbrev pub invariant-loop-i : goal.invariant-loop-i
invariant-loop-i l = take (l.at + word_size * l.i) l.saved ≡ take l.at l.initial.saved ++ word_bytes (take l.i l.words)
