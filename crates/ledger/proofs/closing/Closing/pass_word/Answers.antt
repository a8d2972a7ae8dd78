use mathlib.Core.Path.{◌≡◌, ap, ◌∙◌}
use Prim.Native.Nat.{ℕ, ◌+◌, ◌*◌}
use native.Mathlib.Omega.{arith}
use Rattle.definitions.specs.Limits.{number_bits}
use Rattle.definitions.specs.Words.{lane_of}
use Rattle.ledger.proofs.ClosingUp.{closed-number}
use Rattle.ledger.proofs.closing.Closing.pass_word.Goals as goal

pub loop-lane-preserved : goal.loop-lane-preserved
loop-lane-preserved c =
    let a = c.args in
    let l = c.loop-lane in
    let passed = c.pass-closing in
    let e : 4 * a.k.index + l.lane + 1 ≡ 4 * a.k.index + (l.lane + 1) = omega arith in (
      omega arith,
      λ w d.
          rw e at
          (passed.ensures.passed w
          (c.number_in.ensures
          ∙ ap (λ (x : ℕ). lane_of number_bits x l.lane) c.read-numbers.ensures
          ∙ closed-number w a.clock (4 * a.k.index) a.words.now a.self (omega arith) d a.k.index l.lane (omega arith) (omega arith) (omega arith))
          (l.invariant.1 w d)),
    )
