use mathlib.Core.Path.{sym, ap, ◌∙◌}
use Rattle.definitions.specs.LedgerWords.{tickets_of}
use Rattle.definitions.proofs.Equality.{derived-same}
use Rattle.ledger.specs.Lookups.{is_found}
use Rattle.ledger.proofs.Lookups.{held_found}
use Rattle.ledger.proofs.held.HeldTickets.holds.Goals as goal

pub returns-in-Some : goal.returns-in-Some
returns-in-Some c =
    let a = c.args in
    let t = c.in-Some.found in
    c.eq.ensures ∙ derived-same t a.ticket
    ∙ ap (is_found a.ticket) (sym c.in-Some.is ∙ c.first.ensures) ∙ sym (held_found (tickets_of a.self.words.now) a.ticket)

pub returns-in-None : goal.returns-in-None
returns-in-None c =
    let a = c.args in
    ap (is_found a.ticket) (sym c.in-None.is ∙ c.first.ensures) ∙ sym (held_found (tickets_of a.self.words.now) a.ticket)
