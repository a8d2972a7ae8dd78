-- Laws of the descent call: what it answers at a ticket, from what it answers one step back (R7.4).
-- Assumes nothing.
use mathlib.Core.Path.{◌≡◌, refl, ap}
use mathlib.Core.Bool.{Bool, true, false, cond}
use mathlib.Core.List.{List}
use mathlib.Core.Option.{Option, some, none}
use Prim.Native.Nat.{ℕ, zero, suc, ◌+◌, ◌≤◌, ◌<◌}
use native.Mathlib.Omega.{arith}
use lib.Dec.{ltb}
use borrow.Author.Tests.{lt-ltb, le-ltb, ltb-true, ne_eqb}
use Rattle.definitions.specs.Limits.{number_bits, numbers_start, two16}
use Rattle.definitions.specs.Words.{lane_at}
use Rattle.definitions.proofs.Words.{lane-at-small}
use Rattle.definitions.specs.declared.ticket.Ticket.{Ticket}
use Rattle.definitions.specs.LedgerWords.{ticket_in, ticket_at, count_held, tickets_from, tickets_of}
use Rattle.definitions.specs.HeldTickets.{first_ticket}
use Rattle.definitions.specs.Descent.{back_of, more, back_by, back_from, steps_within, descent}

-- the count does not depend on how many steps are allowed, if they are enough
by_option : (n : ℕ) (f g : ℕ → Option ℕ) (o : Option ℕ) → ((k : ℕ) → k < n → f k ≡ g k) → back_by n f o ≡ back_by n g o
by_option n f g none h = refl
by_option n f g (some k) h = by (ltb k n) refl
  where
    by : (p : Bool) → ltb k n ≡ p → cond p (more (f k)) none ≡ cond p (more (g k)) none
    by true e = ap more (h k (ltb-true k n e))
    by false e = refl

from-option : (n : ℕ) (f g : ℕ → Option ℕ) (o : Option Ticket) → ((k : ℕ) → k < n → f k ≡ g k) → back_from n f o ≡ back_from n g o
from-option n f g none h = refl
from-option n f g (some t) h = by_option n f g (back_of t.origin) h

enough : (l : List Ticket) (f g n : ℕ) → n < f → n < g → steps_within f l n ≡ steps_within g l n
enough l zero g n h k = absurd (omega arith)
enough l (suc f) zero n h k = absurd (omega arith)
enough l (suc f) (suc g) n h k =
    from-option n (λ x. steps_within f l x) (λ x. steps_within g l x) (first_ticket n l) (λ x r. enough l f g x (omega arith) (omega arith))

-- ---- The answer at a ticket
pub steps-none : (l : List Ticket) (n : ℕ) → first_ticket n l ≡ none → descent l n ≡ none
unfolding descent
steps-none l n e = rw e

pub steps-here : (l : List Ticket) (n : ℕ) (t : Ticket) → first_ticket n l ≡ some t → back_of t.origin ≡ none → descent l n ≡ some 0
unfolding descent
steps-here l n t e b = rw (e, b)

pub steps_on : (l : List Ticket) (n : ℕ) (t : Ticket) (g : ℕ) → first_ticket n l ≡ some t → back_of t.origin ≡ some g → g < n → descent l n ≡ more (descent l g)
unfolding descent
steps_on l n t g e b h = rw (e, b, lt-ltb g n h) (ap more (enough l n (suc g) g h (omega arith)))

pub steps-stuck : (l : List Ticket) (n : ℕ) (t : Ticket) (g : ℕ) → first_ticket n l ≡ some t → back_of t.origin ≡ some g → n ≤ g → descent l n ≡ none
unfolding descent
steps-stuck l n t g e b h = rw (e, b, le-ltb g n h)

-- no ticket of the words has a number above 16 bits
number-above : (w : List ℕ) (i k n : ℕ) → two16 ≤ n → first_ticket n (tickets_from w i k) ≡ none
unfolding tickets_from ticket_at ticket_in
number-above w i zero n h = refl
number-above w i (suc k) n h = rw (ne_eqb (lane_at number_bits w numbers_start i) n (λ e. omega (arith, lane-at-small number_bits w numbers_start i))) (number-above w (i + 1) k n h)

pub steps-above : (w : List ℕ) (n : ℕ) → two16 ≤ n → descent (tickets_of w) n ≡ none
unfolding tickets_of
steps-above w n h = steps-none (tickets_from w 0 (count_held w)) n (number-above w 0 (count_held w) n h)
