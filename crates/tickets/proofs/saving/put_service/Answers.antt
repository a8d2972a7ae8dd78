use mathlib.Core.Path.{◌≡◌, ◌∙◌}
use mathlib.Core.List.{◌++◌}
use lib.ListN.{length, take}
use Rattle.definitions.specs.Limits.{accounts_size, ledger_size, ledger_place, sum_place}
use Rattle.definitions.specs.Services.{Service}
use Rattle.definitions.specs.Saving.{word_bytes, saved_body}
use Rattle.definitions.proofs.Saving.{head}
use Rattle.tickets.proofs.SavedBytes.{put_saved}
use borrow.Author.Rules.{rules}
use Rattle.tickets.proofs.saving.put_service.Goals as goal

pub returns : goal.returns
unfolding saved_body
returns c =
    let v : Service = record { accounts = c.args.accounts.now; ledger = c.args.ledger.now } in
    let s = c.put_words-3.new.saved in
    let accounts : length v.accounts ≡ accounts_size = search rules in
    let ledger : length v.ledger ≡ ledger_size = search rules in
    let front : take ledger_place c.put_words-2.new.saved ≡ head ++ word_bytes v.accounts = rw accounts at c.put_words-2.ensures ∙ rw c.put_words.ensures in
    let body : take sum_place s ≡ saved_body v = rw ledger at c.put_words-3.ensures ∙ rw front in
    put_saved v s c.put_words-4.new.saved accounts ledger (search rules) body (c.put_words-4.ensures ∙ rw (c.of-sums.ensures.first, c.of-sums.ensures.second))
