use mathlib.Core.Path.{sym, ◌∙◌}
use mathlib.Core.Bool.{true}
use borrow.Author.Tests.{ne_eqb}
use Rattle.rules.proofs.NameSearch.{length-apart, named-bytes}
use Rattle.rules.proofs.words.Row.matches.Goals as goal

pub returns-then-length-name : goal.returns-then-length-name
returns-then-length-name c =
    let a = c.args in
    c.same_name.ensures
    ∙ sym (named-bytes a.self.words.now a.self.number true a.name.name a.name.set (sym c.length.ensures ∙ c.if-length-name.true))

pub returns-else-length-name : goal.returns-else-length-name
returns-else-length-name c =
    let a = c.args in
    ne_eqb _ _ c.if-length-name.false
    ∙ sym (length-apart a.self.words.now a.self.number true a.name.name (λ e. c.if-length-name.false (c.length.ensures ∙ e)))
