use Rattle.rules.proofs.LetterCase.{kept-match}
use borrow.Author.Rules.{rules}
use Rattle.rules.proofs.letters.words_match.Goals as goal

pub returns : goal.returns
returns c = let a = c.args in rw c.keep-mask.ensures (kept-match a.a a.b (search rules) (search rules))
