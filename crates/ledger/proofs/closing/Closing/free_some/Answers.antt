use mathlib.Core.Path.{refl, ◌∙◌}
use native.Mathlib.Omega.{arith}
use Rattle.definitions.specs.ClearedWords.{put_places}
use Rattle.ledger.specs.ClosingUp.{settled}
use Rattle.ledger.proofs.ClosingUp.{free_more}
use Rattle.ledger.proofs.closing.Closing.free_some.Goals as goal

pub loop-init : goal.loop-init
unfolding put_places
loop-init c = (omega arith, refl)

pub loop-preserved : goal.loop-preserved
loop-preserved c =
    let a = c.args in
    let l = c.loop in
    let put = c.push-closing in (
      omega arith,
      put.ensures.put
          ∙ free_more (settled a.words.now a.self) (settled l.words l.closing) a.self.kept l.closing.kept l.counter l.invariant.1 l.invariant.0,
    )
