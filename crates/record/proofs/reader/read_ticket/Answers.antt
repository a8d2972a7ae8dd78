use Rattle.std.proofs.Common.{◌≡◌, false, ◌≤◌, length, sym, ◌∙◌, arith}
use mathlib.Core.Path.{ap₂}
use Rattle.definitions.specs.Fields.{end_of}
use Rattle.definitions.specs.TicketRecords.{ticket_layout, readable_as, origin_as}
use Rattle.definitions.proofs.Fields.{offset-first}
use Rattle.definitions.proofs.TicketRecords.{readable-few, readable-length, read-yes, read_no, read-unknown}
use Rattle.record.proofs.Cursor.{trail_within, trail_last, readable_if, trail-unfit, length-unfit}
use Rattle.record.proofs.reader.read_ticket.Goals as goal
use Rattle.record.proofs.reader.read_ticket.Goals.{then-not-hops_fit-via-then-not-hops_fit, then-not-hops_fit-via-else-not-hops_fit+then-bytes-at}

pub returns-then-not-known_map : goal.returns-then-not-known_map
returns-then-not-known_map c =
    read-unknown c.args.bytes.now c.map_of-map.result c.map_of-map.ensures (sym c.if-not-known_map.ensures)

pub take-number-requires-clause-start : goal.take-number-requires-clause-start
take-number-requires-clause-start c = sym (offset-first ticket_layout c.args.bytes.now c.map_of-map.result)

pub returns-then-not-hops_fit : goal.returns-then-not-hops_fit
returns-then-not-hops_fit c =
    let s = c.args.bytes.now in
    let m = c.map_of-map.result in
    let known = sym c.if-not-known_map.ensures in
    let e = c.take-hops.ensures.single (omega arith) in
    let f = c.take-2.ensures.next in
    let no : readable_as s m ≡ false =
    elim c.then-not-hops_fit.branch [
      | then-not-hops_fit-via-then-not-hops_fit w ↦ trail-unfit s m _ _ known e f (sym w.if-not-hops_fit.ensures)
      | then-not-hops_fit-via-else-not-hops_fit+then-bytes-at w ↦ length-unfit s m _ _ known e f w.if-bytes-at.true
    ] in
    read_no s m c.map_of-map.ensures no

pub trail_of-requires : goal.trail_of-requires
trail_of-requires c =
    let s = c.args.bytes.now in
    let m = c.map_of-map.result in
    let e = c.take-hops.ensures.single (omega arith) in
    let r =
    readable_if s m _ _ (sym c.if-not-known_map.ensures) e c.take-2.ensures.next (sym c.if-not-hops_fit.ensures) c.if-bytes-at.false in
    rw e (readable-few s m r, trail_within s m r)

pub returns : goal.returns
returns c =
    let s = c.args.bytes.now in
    let m = c.map_of-map.result in
    let e = c.take-hops.ensures.single (omega arith) in
    let r =
    readable_if s m _ _ (sym c.if-not-known_map.ensures) e c.take-2.ensures.next (sym c.if-not-hops_fit.ensures) c.if-bytes-at.false in
    let w : end_of ticket_layout s m ≤ length s = omega (arith, readable-length s m r) in
    let t = c.trail_of.ensures ∙ rw e (trail_last s m r) in
    let o = c.origin_as.ensures ∙ ap₂ (origin_as m) (c.take-tgt.ensures.value w) (c.take-evidence.ensures.value w) in
    read-yes s m _ c.map_of-map.ensures r
    (λ i.
    record {
      number = c.take-number.ensures.value w i;
      flags = c.take-flags.ensures.value w i;
      client = c.take-client.ensures.value w i;
      service = c.take-service.ensures.value w i;
      window = record { start = c.take-start.ensures.value w i; end = c.take-end.ensures.value w i };
      origin = o i;
      trail = t i;
      hops = e i;
      barred = c.present.ensures i;
    })
