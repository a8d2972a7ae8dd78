-- Laws of windows: one that rests on tickets is the window of a lifetime and of till, which ends with each of them too (R5.9).
-- Assumes nothing.
use mathlib.Core.Path.{◌≡◌, refl}
use mathlib.Core.Bool.{Bool, true, false, cond}
use Prim.Native.Nat.{ℕ}
use native.Mathlib.Omega.{arith}
use lib.Dec.{eqb}
use Rattle.definitions.specs.Validity.{until}
use Rattle.definitions.specs.Windows.{full_window, wished, initial_window, grant_window, hop_window}
use Rattle.definitions.specs.declared.window.Window.{Window}

-- which of two ends is looked at first plays no part
until-wished : (w : Window) (till n : ℕ) → until (wished till w) n ≡ wished till (until w n)
until-wished w till n = by (eqb till 0)
  where
    by : (p : Bool) → until (cond p w (until w till)) n ≡ cond p (until w n) (until (until w n) till)
    by true = refl
    by false = search arith

pub until_initial : (clock lifetime till n : ℕ) → until (initial_window clock lifetime till) n ≡ grant_window clock lifetime till n
unfolding initial_window grant_window
until_initial clock lifetime till n = until-wished (full_window clock lifetime) till n

pub until_grant : (clock lifetime till n m : ℕ) → until (grant_window clock lifetime till n) m ≡ hop_window clock lifetime till n m
unfolding grant_window hop_window
until_grant clock lifetime till n m = until-wished (until (full_window clock lifetime) n) till m
