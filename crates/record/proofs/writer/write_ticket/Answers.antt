use mathlib.Core.Path.{sym, ◌∙◌}
use Rattle.definitions.proofs.TicketRecords.{well-hops}
use Rattle.definitions.proofs.Output.{write-unwritable, write-short}
use Rattle.record.proofs.Cursor.{wrote-record}
use borrow.Author.Rules.{rules}
use Rattle.record.proofs.writer.write_ticket.Goals as goal

pub returns-then-not-well_formed : goal.returns-then-not-well_formed
returns-then-not-well_formed c = let all = (let a = c.args in
    let m = c.map_for-map in
    write-unwritable a.t a.out.now m.result m.ensures
    (sym c.well_formed-2.ensures ∙ c.if-not-well_formed.true)) in record { answer = all.0; output = all.1 }

pub returns-then-out-lt-LONGEST_RECORD : goal.returns-then-out-lt-LONGEST_RECORD
returns-then-out-lt-LONGEST_RECORD c = let all = (let a = c.args in
    let m = c.map_for-map in
    let w = c.well_formed-2 in
    write-short a.t a.out.now m.result m.ensures (sym w.ensures ∙ c.if-not-well_formed.false) c.if-out-lt-LONGEST_RECORD.true) in record { answer = all.0; output = all.1 }

pub put_record-requires : goal.put_record-requires
put_record-requires c =
    let m = c.map_for-map in
    let w = c.well_formed-2 in
    (search rules, well-hops c.args.t m.result (sym w.ensures ∙ c.if-not-well_formed.false))

pub returns : goal.returns
returns c = let all = (let a = c.args in
    let m = c.map_for-map in
    let w = c.well_formed-2 in
    let p = c.put_record in
    wrote-record a.t a.out.now p.new.out m.result p.result m.ensures
    (sym w.ensures ∙ c.if-not-well_formed.false) c.if-out-lt-LONGEST_RECORD.false p.ensures.bounded p.ensures.put) in record { answer = all.0; output = all.1 }
