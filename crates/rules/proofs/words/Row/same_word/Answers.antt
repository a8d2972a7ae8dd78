use mathlib.Core.Path.{sym}
use Rattle.definitions.specs.AccountWords.{row_word}
use Rattle.rules.proofs.NameSearch.{word-past}
use Rattle.rules.proofs.words.Row.same_word.Goals as goal

pub returns-then-length-k : goal.returns-then-length-k
returns-then-length-k c =
    let a = c.args in
    sym (word-past a.ignore a.length a.k (row_word a.self.words.now a.self.number a.k) a.word c.if-length-k.true)
