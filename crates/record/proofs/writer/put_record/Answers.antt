use Rattle.std.proofs.Common.{refl, sym}
use Rattle.definitions.specs.Fields.{bytes_to}
use Rattle.definitions.specs.TicketRecords.{values_of, record_as}
use Rattle.record.proofs.Cursor.{wrote_then, wrote-mark}
use Rattle.record.proofs.writer.put_record.Goals as goal

pub returns-clause-put : goal.returns-clause-put
unfolding record_as bytes_to
returns-clause-put c =
    let a = c.args in
    wrote-mark (values_of a.t) a.map 10 refl refl
    (wrote-mark (values_of a.t) a.map 9 refl refl
    (rw (sym c.tgt_of.ensures, sym c.evidence_of.ensures)
    (wrote_then (wrote_then (wrote_then (wrote_then (wrote_then (wrote_then (wrote_then (wrote_then (wrote_then c.put.ensures.put
    c.put-2.ensures.put)
    c.put-3.ensures.put)
    c.put-4.ensures.put)
    c.put-5.ensures.put)
    c.put-6.ensures.put)
    c.put-7.ensures.put)
    c.put-8.ensures.put)
    c.put-9.ensures.put)
    c.put-10.ensures.put)))
