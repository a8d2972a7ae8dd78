use Prim.Native.Nat.{◌<◌}
use mathlib.Core.Path.{sym, ap, ◌∙◌}
use Rattle.definitions.specs.Limits.{account_limit}
use Rattle.definitions.specs.Accounts.{Row}
use Rattle.definitions.proofs.AccountWords.{row-of, row-set}
use Rattle.rules.proofs.words.account_at.Goals as goal

pub returns-in-Some : goal.returns-in-Some
returns-in-Some c =
    let w = c.args.words.now in
    let n = c.args.number in
    let h = c.in-Some.ensures in
    let l : n < account_limit = rw h.1 at c.in-Some.row.within in
    c.account.ensures ∙ rw (h.0, h.1) (sym (ap (λ (x : Row). x.account) (row-of w n l ∙ row-set w n h.2)))
