use mathlib.Core.Path.{◌≡◌}
use Rattle.std.proofs.lemmas.Iterator.{first_from_Range}
use borrow.Author.Rules.{rules}
use borrow.Author.Tests.{tests}
use Rattle.definitions.specs.Limits.{number_bits}
use Rattle.definitions.specs.Words.{lane_of}
use Rattle.ledger.proofs.Lookups.{first-lane}
use Rattle.ledger.proofs.search.lane_of.Goals as goal

pub returns : goal.returns
returns c =
    let a = c.args in
    first-lane a.word a.number c.find.result
    (first_from_Range _ _ _ c.find.result (λ k. lane_of number_bits a.word k ≡ a.number) (λ k. lane_of number_bits a.word k ≡ a.number → ⊥) c.find.ensures.ran
    (λ x q k. search (rules, tests)) (λ x q k. search (rules, tests)))
