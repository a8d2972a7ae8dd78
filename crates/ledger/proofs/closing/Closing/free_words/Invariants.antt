use mathlib.Core.Path.{◌≡◌}
use Prim.Native.Nat.{◌-◌, ◌*◌}
use lib.ListN.{replicate}
use Rattle.definitions.specs.Limits.{numbers_in_word}
use Rattle.definitions.specs.ClearedWords.{free_place, put_places}
use Rattle.ledger.proofs.closing.Closing.free_words.Given as goal

abbrev pub invariant-loop-k : goal.invariant-loop-k
invariant-loop-k l =
    l.words ≡ put_places l.initial.words (numbers_in_word * l.from) (replicate (numbers_in_word * (l.k - l.from)) free_place)
