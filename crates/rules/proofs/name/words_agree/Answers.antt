use Rattle.rules.proofs.NameSearch.{words-equal}
use borrow.Author.Rules.{rules}
use Rattle.rules.proofs.name.words_agree.Goals as goal

pub returns-else-ignore : goal.returns-else-ignore
returns-else-ignore c = let a = c.args in rw c.if-ignore.false (words-equal a.a a.b (search rules) (search rules))
