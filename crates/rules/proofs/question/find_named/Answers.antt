use mathlib.Core.Path.{◌≡◌, ap, ◌∙◌}
use Rattle.definitions.specs.AccountWords.{table_of}
use Rattle.definitions.specs.Names.{find_name}
use Rattle.definitions.specs.Requests.{part_of}
use Rattle.definitions.proofs.Fields.{bytes_take}
use Rattle.definitions.proofs.Requests.{bytes_drop}
use Rattle.definitions.specs.declared.account.Name.{Name}
use Rattle.rules.specs.NameSearch.{bytes_of}
use Rattle.rules.proofs.NameSearch.{find-packed}
use lib.ListN.{drop}
use Rattle.rules.proofs.question.find_named.Goals as goal

pub returns : goal.returns
returns c =
    let a = c.args in
    let s = a.bytes.now in
    let b = bytes_take a.span.len (drop a.span.at s) (bytes_drop s a.span.at c.type_inv.bytes) in
    let e : c.unwrap_or-number.result ≡ find_name (table_of a.words.now) (part_of s a.span) =
    c.unwrap_or-number.ensures ∙ c.find_packed.ensures.exact ∙ ap (λ (m : Name). find_name (table_of a.words.now) (bytes_of m)) c.name_in.ensures
    ∙ find-packed a.words.now (part_of s a.span) b
    in simp (c.account_at.ensures, e)
