use mathlib.Core.Path.{◌≡◌, sym, ap, ◌∙◌}
use Prim.Native.Nat.{◌+◌, ◌*◌, ◌-◌, ◌%◌, ◌<◌}
use native.Mathlib.Omega.{arith}
use lib.ListN.{length, length-drop}
use Rattle.ledger.proofs.Lookups.{block-long, block-rest, block-none, blocks-end}
use Rattle.ledger.proofs.search.passed.Goals as goal

pub loop-i-preserved : goal.loop-i-preserved
loop-i-preserved g c =
    let xs = c.args.numbers.now in
    let l = c.loop-i in
    let block = c.in-Some.block.now in
    let rest = c.next.new.self.iter.rest.now in
    let n = g.row.N * l.i-iterator.count in
    let s = c.in-Some.ensures.steps in
    let e = sym l.invariant.2 ∙ s.0.1.0 in
    let size : length block ≡ g.row.N = s.0.1.1 ∙ l.invariant.0 in
    let next : n + length block ≡ g.row.N * c.next.new.self.count = rw (size, s.2) (omega arith) in (
      s.0.0 ∙ l.invariant.0,
      rw next at (block-long xs block rest c.args.number n e l.invariant.1),
      rw next at (block-rest xs block rest c.args.number n e l.invariant.1),
      rw next at (block-none xs block rest c.args.number n e l.invariant.1 l.invariant.3 (c.none_among.ensures c.if-not-none_among.false)),
    )

pub returns-clause-passed : goal.returns-clause-passed
returns-clause-passed g c =
    let xs = c.args.numbers.now in
    let l = c.loop-i in
    let s = c.in-None.ensures.steps in
    let left = length l.i-iterator.iter.rest.now in
    let few : left < g.row.N = rw l.invariant.0 at s.0.1.0 in
    let all : length xs ≡ l.i-iterator.count * g.row.N + left = omega (arith, l.invariant.1, ap length l.invariant.2, length-drop (g.row.N * l.i-iterator.count) xs) in
    let e : length xs - length xs % g.row.N ≡ g.row.N * l.i-iterator.count = blocks-end (length xs) l.i-iterator.count g.row.N left all few ∙ omega arith in
    rw e l.invariant.3
