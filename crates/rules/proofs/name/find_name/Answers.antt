use mathlib.Core.Path.{ap, ◌∙◌}
use Rattle.definitions.specs.AccountWords.{table_of}
use Rattle.definitions.specs.Names.{find_name}
use Rattle.definitions.specs.declared.account.Name.{Name}
use Rattle.rules.specs.NameSearch.{bytes_of}
use Rattle.rules.proofs.NameSearch.{find-packed}
use Rattle.rules.proofs.name.find_name.Goals as goal

pub returns-clause-exact : goal.returns-clause-exact
returns-clause-exact c =
    let a = c.args in
    let s = a.bytes.now in
    c.unwrap_or.ensures ∙ c.find_packed.ensures.exact ∙ ap (λ (m : Name). find_name (table_of a.words.now) (bytes_of m)) c.pack_name.ensures
    ∙ find-packed a.words.now s c.type_inv.bytes
