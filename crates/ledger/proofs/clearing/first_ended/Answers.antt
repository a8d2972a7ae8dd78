use mathlib.Core.Path.{◌≡◌}
use mathlib.Core.Bool.{true, false}
use Prim.Native.Nat.{◌*◌}
use Rattle.std.proofs.lemmas.Iterator.{first_from_Range}
use borrow.Author.Rules.{rules}
use borrow.Author.Tests.{tests}
use Rattle.definitions.specs.LedgerWords.{ticket_at}
use Rattle.definitions.specs.Clearing.{stays}
use Rattle.ledger.proofs.ClosingUp.{first-gone}
use Rattle.ledger.proofs.clearing.first_ended.Goals as goal

pub returns : goal.returns
returns c =
    let w = c.args.held.words.now in
    let clock = c.args.clock in
    let from = c.words_staying-from in
    first-gone w clock (4 * from.result) c.args.held.count c.find.result from.ensures.passed
    (first_from_Range _ _ _ c.find.result (λ k. stays clock (ticket_at w k) ≡ false) (λ k. stays clock (ticket_at w k) ≡ true) c.find.ensures.ran
    (λ x q k. search (rules, tests)) (λ x q k. search (rules, tests)))
