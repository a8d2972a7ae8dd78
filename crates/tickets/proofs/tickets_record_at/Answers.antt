use mathlib.Core.Path.{sym, ap, ◌∙◌}
use lib.ListN.{length}
use Rattle.definitions.specs.Output.{written_of, output_of}
use Rattle.definitions.specs.declared.ticket.Ticket.{Ticket}
use Rattle.ledger.proofs.Lookups.{held-listed, none-listed}
use Rattle.tickets.specs.Calls.{value_answer}
use Rattle.tickets.proofs.tickets_record_at.Goals as goal

pub returns : goal.returns
returns c =
    let a = c.args in
    let w = c.write_ticket in
    let l = held-listed a.ledger.now a.place c.in-Some.ticket (sym c.held_at.ensures ∙ c.in-Some.is) in record {
      answer = rw l.0 (c.value_answer.ensures ∙ ap value_answer w.ensures.answer ∙ ap (λ (x : Ticket). value_answer (written_of x (length a.output.now))) l.1);
      output = rw l.0 (w.ensures.output ∙ ap (λ (x : Ticket). output_of x a.output.now) l.1);
    }

pub returns-in_default : goal.returns-in_default
returns-in_default c =
    let h = none-listed c.args.ledger.now c.args.place (sym c.held_at.ensures ∙ c.in_default.is) in record {
      answer = rw h c.from.ensures;
      output = rw h;
    }
