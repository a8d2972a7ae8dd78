use native.Mathlib.Omega.{arith}
use Rattle.definitions.specs.Limits.{number_bits}
use Rattle.definitions.specs.Words.{lane_of}
use Rattle.definitions.proofs.Words.{set-shifted, set-fits}
use Rattle.ledger.proofs.words.with_number.Goals as goal

pub overflow_add-result : goal.overflow_add-result
unfolding lane_of
overflow_add-result c =
    let a = c.args in
    omega (
      arith,
      set-shifted 64 number_bits a.word a.k a.number (omega arith) (omega arith),
      set-fits number_bits a.number (omega arith) 4 a.word a.k (omega arith) (omega arith),
    )

pub returns : goal.returns
unfolding lane_of
returns c = let a = c.args in set-shifted 64 number_bits a.word a.k a.number (omega arith) (omega arith)
