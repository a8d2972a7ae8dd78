-- Laws of going back from a ticket: one step more than those of the ticket that it leads back to (R7.4).
-- Assumes nothing.
use mathlib.Core.Path.{◌≡◌, refl, sym, ◌∙◌}
use mathlib.Core.Option.{Option, some, none}
use Prim.Native.Nat.{ℕ, ◌+◌, ◌≤◌, ◌<◌}
use native.Mathlib.Numerals.{add-one}
use native.Mathlib.Omega.{arith}
use Rattle.std.specs.Prelude.{Result, Ok, Err, Some, None, ok_or}
use Rattle.std.specs.Result.{OkIff, result_or}
use Rattle.std.proofs.Math.Nat.{lt_of_not-le}
use Rattle.definitions.specs.declared.error.Error.{Error}
use Rattle.definitions.specs.declared.error.Error.TheVariants.{KRB_AP_ERR_MODIFIED}
use Rattle.ledger.specs.Lookups.{given}
use Rattle.definitions.specs.Descent.{more, descended}
use Rattle.definitions.proofs.Checks.{ok_same}

-- a number that fits, or else a refusal
pub or-number : {D : Type 0} (r : Result ℕ D) (n m : ℕ) (e : Error) → OkIff r (n < 65536) n → result_or r (Err e) ≡ Ok m → m ≡ n
or-number (Ok k) n m e own h = let q : k ≡ m = ok_same h in sym q ∙ own.1
or-number (Err d) n m e own h = absurd cc

pub or-none : {D : Type 0} (r : Result ℕ D) (n : ℕ) (e f : Error) → OkIff r (n < 65536) n → result_or r (Err e) ≡ Err f → (65536 ≤ n) × (f ≡ e)
or-none (Ok k) n e f own h = absurd cc
or-none (Err d) n e f own h = (let l : 65535 < n = lt_of_not-le (λ few. own (omega (arith, few))) in omega (arith, l), cc)

pub more-none : (o : Option ℕ) → given o ≡ None → None ≡ given (more o)
more-none none h = refl
more-none (some k) h = absurd cc

pub more-counted : (o : Option ℕ) (k : ℕ) → given o ≡ Some k → Some (k + 1) ≡ given (more o)
more-counted none k h = absurd cc
more-counted (some j) k h = let e : j ≡ k = cc in rw (← e, add-one)

-- the call's answer, of the steps as the code has them
pub told-steps : (o : Option ℕ) → ok_or (given o) KRB_AP_ERR_MODIFIED ≡ descended o
told-steps none = refl
told-steps (some k) = refl
