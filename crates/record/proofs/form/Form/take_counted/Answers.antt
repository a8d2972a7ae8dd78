use Rattle.std.proofs.Common.{sym, arith}
use Rattle.definitions.specs.Fields.{field_of}
use Rattle.record.proofs.form.Form.take_counted.Goals as goal

pub returns-then-not-present : goal.returns-then-not-present
unfolding field_of
returns-then-not-present c =
    let h = sym c.if-not-present.ensures in
    let t = c.take-count.ensures in
    record {
      at = λ w. rw h;
      len = λ w. rw h (omega arith);
      next = t.next;
      bounded = t.bounded;
    }
