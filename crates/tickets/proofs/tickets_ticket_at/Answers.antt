use mathlib.Core.Path.{sym, ap, ◌∙◌}
use Rattle.definitions.specs.ReadBack.{ticket_fields}
use Rattle.ledger.proofs.Lookups.{held-listed, none-listed}
use Rattle.tickets.proofs.tickets_ticket_at.Goals as goal

pub returns : goal.returns
returns c =
    let l = held-listed c.args.ledger.now c.args.place c.in-Some.ticket (sym c.held_at.ensures ∙ c.in-Some.is) in record {
      answer = rw l.0;
      fields = rw l.0 (c.ticket_fields.ensures ∙ ap ticket_fields l.1);
    }

pub returns-in_default : goal.returns-in_default
returns-in_default c =
    let h = none-listed c.args.ledger.now c.args.place (sym c.held_at.ensures ∙ c.in_default.is) in record {
      answer = rw h c.from.ensures;
      fields = rw h;
    }
