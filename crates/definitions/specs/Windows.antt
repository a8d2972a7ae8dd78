-- The windows of new tickets, their starts and ends (R5.9).
-- Assumes nothing.
use Rattle.std.specs.Prelude.{ℕ, ◌+◌, min, cond, eqb}
use Rattle.definitions.specs.Limits.{last_second}
use Rattle.definitions.specs.Validity.{until}
use Rattle.definitions.specs.declared.window.Window.{Window}

-- R5.9: from now on for a lifetime, at most to the last second
abbrev pub full_window : ℕ → ℕ → Window
full_window clock lifetime = record { start = clock; end = min (clock + lifetime) last_second }

-- R5.9, R4.5: no later than till; a till of 0 is no wish
abbrev pub wished : ℕ → Window → Window
wished till window = cond (eqb till 0) window (until window till)

-- R5.9: the window of an initial ticket, by the client's lifetime
unfoldable pub initial_window : ℕ → ℕ → ℕ → Window
initial_window clock lifetime till = wished till (full_window clock lifetime)

-- R5.9: the window of a ticket that rests on a TGT with this end, by the service's lifetime
unfoldable pub grant_window : ℕ → ℕ → ℕ → ℕ → Window
grant_window clock lifetime till tgt-end = wished till (until (full_window clock lifetime) tgt-end)

-- R5.9: the window of a ticket that rests on a TGT and on evidence with these ends, by the service's lifetime
unfoldable pub hop_window : ℕ → ℕ → ℕ → ℕ → ℕ → Window
hop_window clock lifetime till tgt-end evidence-end = wished till (until (until (full_window clock lifetime) tgt-end) evidence-end)
