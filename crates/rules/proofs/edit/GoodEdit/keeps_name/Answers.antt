use mathlib.Core.Path.{◌≡◌, refl, sym, ap, ◌∙◌}
use mathlib.Core.Bool.{Bool, true, false, not, ◌&&◌, ◌||◌}
use Rattle.definitions.specs.Accounts.{row_of}
use Rattle.definitions.specs.AccountWords.{set_length, table_of}
use Rattle.definitions.specs.Names.{same_name}
use Rattle.definitions.proofs.Edits.{keeps-known}
use Rattle.rules.specs.NameSearch.{bytes_of}
use Rattle.rules.proofs.NameSearch.{known-set, has-row, length-apart, named-bytes}
use Rattle.rules.proofs.edit.GoodEdit.keeps_name.Goals as goal

-- a row that has not the name
other : (k s : Bool) → (k && s) ≡ false → not k ≡ (not k || s)
other true s h = sym h
other false s h = refl

pub returns-then-stored-self : goal.returns-then-stored-self
returns-then-stored-self c =
    let w = c.args.words.now in
    let g = c.args.self in
    let m = g.name.name in
    let f = g.settings in
    let e = sym c.length-stored.ensures ∙ c.if-stored-self.true in
    c.same_name.ensures ∙ sym (named-bytes w g.number false m g.name.set e) ∙ has-row w g.number false (bytes_of m) g.within
    ∙ keeps-known (table_of w) g.number (bytes_of m) f.flags f.send f.receive f.lifetime (known-set w g.number g.within ∙ ap set_length e ∙ g.name.set)

pub returns-else-stored-self : goal.returns-else-stored-self
returns-else-stored-self c =
    let w = c.args.words.now in
    let g = c.args.self in
    let m = g.name.name in
    let x = row_of (table_of w) g.number in
    let e = c.length-stored.ensures in
    rw (c.set_length.ensures, e, sym (known-set w g.number g.within))
    (other x.account.known (same_name false x.name (bytes_of m))
    (sym (has-row w g.number false (bytes_of m) g.within) ∙ length-apart w g.number false m (λ q. c.if-stored-self.false (e ∙ q))))
