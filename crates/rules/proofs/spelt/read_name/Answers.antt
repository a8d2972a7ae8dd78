use mathlib.Core.Path.{sym, ap, ◌∙◌}
use Prim.Native.Nat.{◌<◌}
use lib.ListN.{length}
use Rattle.definitions.specs.Limits.{account_limit}
use Rattle.definitions.specs.Accounts.{Row}
use Rattle.definitions.specs.ReadBack.{padded_name}
use Rattle.definitions.proofs.AccountWords.{row-of, row-set}
use Rattle.definitions.proofs.ReadBack.{padded-empty, length-set}
use Rattle.rules.proofs.spelt.read_name.Goals as goal

pub returns-in_default-clause-name : goal.returns-in_default-clause-name
returns-in_default-clause-name c = padded-empty _ (ap (λ (x : Row). length x.name) c.in_default.ensures)

pub returns-clause-length : goal.returns-clause-length
returns-clause-length c =
    let w = c.args.words.now in
    let n = c.args.number in
    let h = c.in-Some.ensures in
    let l : n < account_limit = rw h.1 at c.in-Some.row.within in
    c.length-count.ensures ∙ rw (h.0, h.1) (length-set w n l h.2)

pub returns-clause-name : goal.returns-clause-name
returns-clause-name c =
    let w = c.args.words.now in
    let n = c.args.number in
    let h = c.in-Some.ensures in
    let l : n < account_limit = rw h.1 at c.in-Some.row.within in
    c.spell.ensures ∙ rw (c.length-count.ensures, h.0, h.1) (sym (ap (λ (x : Row). padded_name x.name) (row-of w n l ∙ row-set w n h.2)))
