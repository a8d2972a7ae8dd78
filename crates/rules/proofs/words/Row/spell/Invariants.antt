use mathlib.Core.Path.{◌≡◌}
use mathlib.Core.List.{◌++◌}
use Prim.Native.Nat.{◌-◌}
use lib.ListN.{replicate}
use Rattle.definitions.specs.AccountWords.{row_start, name_at}
use Rattle.rules.proofs.words.Row.spell.Given as goal

abbrev pub invariant-loop-i : goal.invariant-loop-i
invariant-loop-i l = l.byte-items ≡ name_at l.self.words.now (row_start l.self.number) l.i ++ replicate (l.count - l.i) 0
