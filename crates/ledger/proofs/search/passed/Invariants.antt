use mathlib.Core.Path.{◌≡◌}
use Prim.Native.Nat.{◌*◌, ◌≤◌}
use lib.ListN.{length, drop}
use Rattle.ledger.specs.Lookups.{NoneIn}
use Rattle.ledger.proofs.search.passed.Given as goal

abbrev pub invariant-loop-i : goal.invariant-loop-i
invariant-loop-i g l =
    (l.i-iterator.iter.size ≡ g.row.N) × (g.row.N * l.i-iterator.count ≤ length l.numbers) × (l.i-iterator.iter.rest.now ≡ drop (g.row.N * l.i-iterator.count) l.numbers)
    × NoneIn l.numbers l.number (g.row.N * l.i-iterator.count)
