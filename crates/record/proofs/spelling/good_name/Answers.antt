use Rattle.std.proofs.Common.{◌≡◌, ℕ, ◌<◌, Bool, true, false, List, length, get_or, MatchBool, refl, sym, add-one, arith, rules, tests}
use Prim.Native.Nat.{zero, suc}
use Rattle.std.specs.List.{AllWithin, HoldsAt}
use Rattle.std.proofs.lemmas.Iterator.{cases_from_all, YieldsList-from_slice}
use Rattle.definitions.specs.AccountWords.{set_length}
use Rattle.definitions.specs.Names.{good_byte, good_bytes, good_name}
use Rattle.definitions.proofs.Names.{good_more, good-stop, good_length, good-found, good-all}
use Rattle.record.proofs.spelling.good_name.Goals as goal

good-each : (s : List ℕ) (n : ℕ) → ((k : ℕ) → k < n → good_byte (get_or s k 0) ≡ true) → good_bytes s n ≡ true
unfolding good_bytes
good-each s zero h = refl
good-each s (suc n) h = rw add-one at (good_more s n (good-each s n (λ k l. h k (omega arith))) (h n (omega arith)))

-- what `all` told of the bytes tells whether the name is good
told : (s : List ℕ) (all : Bool) → set_length (length s) ≡ true
    → MatchBool all (AllWithin (λ x. good_byte x ≡ true) s 0 (length s)) ((k : ℕ) × (k < length s) × HoldsAt (λ x. good_byte x ≡ false) s k)
    → all ≡ good_name s
told s true h m = sym (good-all s h (good-each s (length s) (λ k l. m k 0 (omega arith) l)))
told s false h m = sym (good-found s (good-stop s m.0 (length s) m.1 (m.2 0)))

pub returns-then-set_length : goal.returns-then-set_length
returns-then-set_length c =
    let s = c.args.name.now in
    told s c.all.result (sym c.if-set_length.ensures)
    (cases_from_all _ _ _ (λ (x : ℕ). good_byte x ≡ true) (λ (x : ℕ). good_byte x ≡ false) c.all.ensures.ran (YieldsList-from_slice s cc) (λ x q k. search (rules, tests)) (λ x q k. search (rules, tests)))

pub returns-else-set_length : goal.returns-else-set_length
returns-else-set_length c = rw c.if-set_length.false (sym (good_length c.args.name.now (sym c.if-set_length.ensures)))
