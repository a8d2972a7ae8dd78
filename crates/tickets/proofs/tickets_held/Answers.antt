use mathlib.Core.Path.{sym, ◌∙◌}
use Rattle.definitions.proofs.LedgerWords.{tickets-length}
use Rattle.tickets.proofs.tickets_held.Goals as goal

pub returns : goal.returns
returns c = c.count_held.ensures.exact ∙ sym (tickets-length c.args.ledger.now)
