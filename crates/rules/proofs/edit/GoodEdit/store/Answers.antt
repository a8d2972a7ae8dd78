use mathlib.Core.Path.{sym, ap, ◌∙◌}
use mathlib.Core.List.{[], ◌∷◌}
use Prim.Native.Nat.{◌+◌, ◌*◌}
use Rattle.definitions.specs.Limits.{two8, two32}
use Rattle.definitions.specs.AccountWords.{row_start, store_row}
use Rattle.definitions.specs.Words.{put_row}
use Rattle.definitions.specs.declared.account.Name.{Name}
use Rattle.rules.proofs.edit.GoodEdit.store.Goals as goal

pub returns : goal.returns
unfolding store_row
returns c =
    let g = c.args.self in
    let f = g.settings in
    c.put_row.ensures
    ∙ ap (λ (m : Name). put_row c.args.words.now (row_start g.number) (m.first ∷ m.second ∷ m.third ∷ (m.length + two8 * f.flags + two32 * f.lifetime) ∷ f.send ∷ f.receive ∷ [])) (sym g.packed)
