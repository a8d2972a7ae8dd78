use mathlib.Core.Path.{sym, ◌∙◌}
use Rattle.definitions.specs.AccountWords.{row_start}
use Rattle.rules.specs.NameSearch.{words_of}
use Rattle.rules.proofs.NameSearch.{name-by-words}
use Rattle.rules.proofs.words.Row.same_name.Goals as goal
use Rattle.rules.proofs.words.Row.same_name.Goals.{then-same_word, else-same_word}

pub returns-then-same_word-2 : goal.returns-then-same_word-2
returns-then-same_word-2 c =
    let a = c.args in
    let n = name-by-words a.ignore a.self.words.now (words_of a.name.name) (row_start a.self.number) 0 a.name.name.length a.name.set in
    elim c.if-same_word.branch [
      | then-same_word w ↦ c.same_word-then-same_word-2.ensures ∙ sym (n ∙ rw (sym c.same_word.ensures ∙ w.if-same_word.true, sym w.same_word-then-same_word.ensures ∙ sym w.value-is ∙ c.if-same_word-2.true))
      | else-same_word w ↦ cc
    ]

pub returns-else-same_word-2 : goal.returns-else-same_word-2
returns-else-same_word-2 c =
    let a = c.args in
    let n = name-by-words a.ignore a.self.words.now (words_of a.name.name) (row_start a.self.number) 0 a.name.name.length a.name.set in
    elim c.if-same_word.branch [
      | then-same_word w ↦ c.if-same_word-2.false ∙ sym (n ∙ rw (sym c.same_word.ensures ∙ w.if-same_word.true, sym w.same_word-then-same_word.ensures ∙ sym w.value-is ∙ c.if-same_word-2.false))
      | else-same_word w ↦ c.if-same_word-2.false ∙ sym (n ∙ rw (sym c.same_word.ensures ∙ w.if-same_word.false))
    ]
