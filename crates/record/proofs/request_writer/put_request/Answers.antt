use Rattle.definitions.specs.Fields.{bytes_to}
use Rattle.record.proofs.Cursor.{wrote_then}
use Rattle.record.proofs.request_writer.put_request.Goals as goal

pub returns : goal.returns
unfolding bytes_to
returns c =
    wrote_then (wrote_then (wrote_then (wrote_then (wrote_then (wrote_then (wrote_then (wrote_then c.put.ensures.put
    c.put-2.ensures.put)
    c.put-3.ensures.put)
    c.put-4.ensures.put)
    c.put-5.ensures.put)
    c.put-6.ensures.put)
    c.put-7.ensures.put)
    c.put-8.ensures.put)
    c.put-9.ensures.put
