use mathlib.Core.Path.{◌∙◌}
use Prim.Native.Nat.{ℕ}
use native.Mathlib.Omega.{arith}
use borrow.Author.Rules.{rules}
use borrow.Author.Tests.{tests}
use Rattle.std.specs.List.{range_with_len}
use Rattle.std.proofs.lemmas.Iterator.{YieldsList-from_range, YieldsList-from_map}
use Rattle.std.proofs.lemmas.Iterator.Adapters.{fits_from_length, at_most_from_yields_List}
use Rattle.std.proofs.lemmas.Iterator.Consumers.{sum_by_from_yields_List}
use Rattle.std.proofs.lemmas.List.FromFn.{length-range_with_len}
use Rattle.definitions.specs.LedgerWords.{ticket_at}
use Rattle.definitions.specs.Totals.{seconds_of}
use Rattle.ledger.proofs.Lookups.{total-sum}
use Rattle.ledger.proofs.total.day_total.Goals as goal

pub sum-requires-clause-fits : goal.sum-requires-clause-fits
sum-requires-clause-fits c =
    fits_from_length _ _ 512 _
    (at_most_from_yields_List (YieldsList-from_range 0 c.count_held.result c.count_held.result c.map.ensures.source (omega arith)) (omega (arith, length-range_with_len 0 c.count_held.result)))
    c.map.ensures.closure (omega arith) (λ x r q k. search (rules, tests))

pub returns : goal.returns
returns c =
    let w = c.args.words.now in
    let n = c.count_held.result in
    sum_by_from_yields_List (λ (i : ℕ). seconds_of (ticket_at w i).window) (range_with_len 0 n) c.map.result c.sum.result c.sum.ensures.ran
    (YieldsList-from_map _ _ (YieldsList-from_range 0 n n c.map.ensures.source (omega arith)) c.map.ensures.closure (λ x r q k. search rules))
    ∙ total-sum w n c.count_held.ensures.exact
