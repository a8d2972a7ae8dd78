use Prim.Native.Nat.{◌-◌}
use mathlib.Core.Path.{◌≡◌}
use native.Mathlib.Omega.{arith}
use Rattle.definitions.specs.AccountWords.{row_start}
use Rattle.rules.proofs.Spelling.{spelt-none, spelt-more, spelt-all}
use Rattle.rules.proofs.words.Row.spell.Goals as goal

pub loop-i-init : goal.loop-i-init
loop-i-init c =
    let a = c.args in
    spelt-none a.self.words.now (row_start a.self.number) a.count (a.count - 0) (omega arith) c.requires

pub loop-i-preserved : goal.loop-i-preserved
loop-i-preserved c =
    let a = c.args in
    let l = c.loop-i in
    rw (l.invariant, c.name_byte.ensures) (spelt-more a.self.words.now (row_start a.self.number) l.i (a.count - l.i) _ (omega arith))

pub returns : goal.returns
returns c =
    let a = c.args in
    let l = c.loop-i in
    let e : l.i ≡ a.count = omega arith in
    rw (l.invariant, e) (spelt-all a.self.words.now (row_start a.self.number) a.count (a.count - a.count) (omega arith))
