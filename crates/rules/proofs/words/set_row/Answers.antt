use mathlib.Core.Path.{sym, ◌∙◌}
use Rattle.definitions.proofs.AccountWords.{row-of, row-above, row-unset}
use Rattle.rules.proofs.words.set_row.Goals as goal

pub returns-then-number-ge-ACCOUNT_LIMIT : goal.returns-then-number-ge-ACCOUNT_LIMIT
returns-then-number-ge-ACCOUNT_LIMIT c = row-above c.args.words.now c.args.number c.if-number-ge-ACCOUNT_LIMIT.true

pub returns-else-set_length : goal.returns-else-set_length
returns-else-set_length c =
    let a = c.args in
    row-of a.words.now a.number c.if-number-ge-ACCOUNT_LIMIT.false ∙ row-unset a.words.now a.number (sym (rw c.length.ensures at c.set_length.ensures) ∙ c.if-set_length.false)
