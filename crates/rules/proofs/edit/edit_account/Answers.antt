use mathlib.Core.Path.{◌≡◌, ap, ◌∙◌}
use borrow.Author.Rules.{rules}
use Rattle.std.specs.Prelude.{Ok}
use Rattle.definitions.specs.AccountWords.{table_of, store_row}
use Rattle.definitions.specs.Edits.{edit_by, edit_checks, edit_answer, edit_row}
use Rattle.definitions.proofs.Edits.{table-edited}
use native.Mathlib.Omega.{arith}
use Rattle.std.proofs.lemmas.Grind.{common_steps}
use Rattle.rules.proofs.edit.edit_account.Goals as goal

pub returns-clause-table : goal.returns-clause-table
unfolding edit_checks
returns-clause-table c =
    let w = c.args.words.now in
    let e = edit_by c.args.edit in
    let q : Ok tt ≡ edit_answer (table_of w) e = grind (arith, common_steps) in
    let s : c.store.new.words ≡ store_row w e.number (edit_row e) = grind (arith, common_steps) in
    ap table_of s ∙ table-edited w e (Ok tt) c.told-words (search rules) q
