use mathlib.Core.Path.{◌≡◌, sym, ap, ◌∙◌}
use mathlib.Core.Bool.{true}
use mathlib.Core.List.{List}
use Prim.Native.Nat.{ℕ}
use lib.ListN.{length}
use borrow.Author.Tests.{le-leb}
use Rattle.definitions.specs.Names.{good_name, name_of}
use Rattle.definitions.specs.Edits.{edit_of}
use Rattle.definitions.specs.declared.account.Name.{Name}
use Rattle.definitions.proofs.Names.{name-bytes}
use Rattle.rules.specs.NameSearch.{bytes_of}
use Rattle.rules.proofs.NameSearch.{good-set, set-most, bytes_packed}
use Rattle.rules.proofs.edit.GoodEdit.read.Goals as goal

pub invariant_of-name : goal.invariant_of-name
invariant_of-name c = record { set = rw c.pack_name.ensures (good-set c.args.edit.name.now (sym c.if-good_name.ensures)) }

-- the bytes of the packed name
bytes-kept : (s : List ℕ) (m : Name) → good_name s ≡ true → m ≡ name_of s → bytes_of m ≡ s
bytes-kept s m g p = ap bytes_of p ∙ bytes_packed s (name-bytes s g) (set-most (length s) (good-set s g))

pub invariant_of-result-clause-packed : goal.invariant_of-result-clause-packed
invariant_of-result-clause-packed c =
    ap name_of (bytes-kept c.args.edit.name.now c.pack_name.result (sym c.if-good_name.ensures) c.pack_name.ensures) ∙ sym c.pack_name.ensures

pub returns-then-edit-le-ALL_FLAGS : goal.returns-then-edit-le-ALL_FLAGS
returns-then-edit-le-ALL_FLAGS c =
    let a = c.args.edit in
    let f = a.settings in
    let e = bytes-kept a.name.now c.pack_name.result (sym c.if-good_name.ensures) c.pack_name.ensures in (
      ap (λ (t : List ℕ). edit_of a.number t f.flags f.send f.receive f.lifetime) e,
      rw (le-leb a.number 63 c.if-edit-le-LAST_ACCOUNT.true, sym c.if-good_name.ensures, le-leb f.flags 15 c.if-edit-le-ALL_FLAGS.true),
    )
