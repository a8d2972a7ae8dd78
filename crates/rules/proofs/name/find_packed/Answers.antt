use mathlib.Core.Path.{sym}
use Rattle.rules.proofs.NameSearch.{length_none}
use Rattle.rules.proofs.name.find_packed.Goals as goal

pub returns-in_err-of-clause-exact : goal.returns-in_err-of-clause-exact
returns-in_err-of-clause-exact c =
    rw c.from_residual.ensures (sym (length_none c.args.words.now c.args.name c.in_err-of.ensures))
