-- Laws of the windows of new tickets: no end is later than those of TGT and evidence, and start and end fit 32 bits.
-- Assumes nothing.
use mathlib.Core.Path.{◌≡◌, refl}
use mathlib.Core.Bool.{Bool, true, false, cond}
use Prim.Native.Nat.{ℕ, ◌+◌, ◌≤◌, ◌<◌, ◌^◌}
use native.Mathlib.Nat.{min-le_left, min-le_right, le_trans}
use native.Mathlib.Omega.{arith}
use lib.Dec.{eqb}
use mir.Syntax.{w32, w16}
use mir.Val.{Fits}
use Rattle.definitions.specs.Validity.{until}
use Rattle.definitions.specs.declared.window.Window.{Window}
use Rattle.definitions.specs.Windows.{full_window, wished, initial_window, grant_window, hop_window}
use Rattle.definitions.specs.declared.decision.Moment.{Moment}

-- ---- The end is no later than those of the tickets that it rests on
pub until-most : (w : Window) (e : ℕ) → (until w e).end ≤ e
until-most w e = min-le_right w.end e

pub until-within : (w : Window) (e : ℕ) → (until w e).end ≤ w.end
until-within w e = min-le_left w.end e

pub wished-within : (till : ℕ) (w : Window) → (wished till w).end ≤ w.end
wished-within till w = by (eqb till 0)
  where
    by : (p : Bool) → (cond p w (until w till)).end ≤ w.end
    by true = omega arith
    by false = until-within w till

pub grant-end : (clock lifetime till end : ℕ) → (grant_window clock lifetime till end).end ≤ end
unfolding grant_window
grant-end clock lifetime till end = le_trans (wished-within till _) (until-most (full_window clock lifetime) end)

pub hop-end-tgt : (clock lifetime till end1 end2 : ℕ) → (hop_window clock lifetime till end1 end2).end ≤ end1
unfolding hop_window
hop-end-tgt clock lifetime till end1 end2 =
    le_trans (wished-within till _) (le_trans (until-within (until (full_window clock lifetime) end1) end2) (until-most (full_window clock lifetime) end1))

pub hop-end-evidence : (clock lifetime till end1 end2 : ℕ) → (hop_window clock lifetime till end1 end2).end ≤ end2
unfolding hop_window
hop-end-evidence clock lifetime till end1 end2 = le_trans (wished-within till _) (until-most (until (full_window clock lifetime) end1) end2)

-- the window starts now and fits 32 bits
pub record WindowFits (clock : ℕ) (w : Window) : Type 0 where
  pub start : w.start ≡ clock
  pub end : w.end < 2 ^ 32

full-fits : (clock lifetime : ℕ) → WindowFits clock (full_window clock lifetime)
full-fits clock lifetime = record { start = refl; end = omega (arith, min-le_right (clock + lifetime) 4294967295) }

until-fits : (clock : ℕ) (w : Window) (e : ℕ) → WindowFits clock w → WindowFits clock (until w e)
until-fits clock w e f = record { start = f.start; end = omega (arith, until-within w e, f.end) }

wished-fits : (clock till : ℕ) (w : Window) → WindowFits clock w → WindowFits clock (wished till w)
wished-fits clock till w f = by (eqb till 0)
  where
    by : (p : Bool) → WindowFits clock (cond p w (until w till))
    by true = f
    by false = until-fits clock w till f

pub initial-fits : (clock lifetime till : ℕ) → WindowFits clock (initial_window clock lifetime till)
unfolding initial_window
initial-fits clock lifetime till = wished-fits clock till _ (full-fits clock lifetime)

pub grant-fits : (clock lifetime till end : ℕ) → WindowFits clock (grant_window clock lifetime till end)
unfolding grant_window
grant-fits clock lifetime till end = wished-fits clock till _ (until-fits clock _ end (full-fits clock lifetime))

pub hop-fits : (clock lifetime till end1 end2 : ℕ) → WindowFits clock (hop_window clock lifetime till end1 end2)
unfolding hop_window
hop-fits clock lifetime till end1 end2 =
    wished-fits clock till _ (until-fits clock _ end2 (until-fits clock _ end1 (full-fits clock lifetime)))

-- what a call brings fits its machine types
pub record MomentFits (m : Moment) : Type 0 where
  pub clock : Fits w32 m.clock
  pub next : Fits w16 m.next
