-- Laws of new tickets: a mark bars FORWARDABLE, the trail grows by Service 1, and the writer accepts each of them.
-- Assumes nothing.
use mathlib.Core.Path.{◌≡◌, refl, ◌∙◌}
use mathlib.Core.Bool.{Bool, true, false, not, ◌&&◌}
use mathlib.Core.List.{List, ◌∷◌, ◌++◌, []}
use Prim.Native.Nat.{ℕ, zero, suc, ◌+◌, ◌≤◌, ◌<◌}
use native.Mathlib.Numerals.{add-one}
use native.Mathlib.Omega.{arith}
use lib.ListN.{length, get_or, take, drop, set, length-set}
use lib.Seq.{take-suc-set, drop-set-lt, drop-cons}
use lib.Dec.{eqb, lit<}
use mir.Syntax.{w8, w16, w32}
use mir.Val.{Fits}
use borrow.Author.Tests.{le-leb}
use Rattle.definitions.specs.declared.decision.Presented.{Presented}
use Rattle.definitions.specs.Limits.{account_limit, trail_limit}
use Rattle.definitions.specs.Fields.{Bytes, has_bit}
use Rattle.definitions.specs.TicketRecords.{InRange, Writable, map_for, map_of_ticket, tgt_of, evidence_of, well_formed, service_fits, hops_fit, all_zero}
use Rattle.definitions.specs.declared.window.Window.{Window}
use Rattle.definitions.specs.declared.ticket.Ticket.{Ticket}
use Rattle.definitions.specs.declared.ticket.Origin.{Origin}
use Rattle.definitions.specs.declared.ticket.Origin.TheVariants.{Initial, Direct, S4U2self, Delegated}
use Rattle.definitions.proofs.Bools.{and_right, and-not, not-and}
use Rattle.definitions.proofs.Fields.{bytes-cons, bytes-zeros}
use Rattle.definitions.proofs.TicketRecords.{well-rest}
use Rattle.definitions.specs.Accounts.{is_barred}
use Rattle.definitions.specs.Options.{is_forwardable, flags_of}
use Rattle.definitions.specs.Windows.{initial_window}
use Rattle.definitions.specs.NewTickets.{direct_mark, s4u2self_forwardable, initial_ticket, direct_ticket, s4u2self_ticket, s4u2proxy_ticket, without_trail}
use Rattle.definitions.specs.declared.account.Account.{Account}
use Rattle.definitions.specs.declared.decision.Moment.{Moment}
use Rattle.definitions.proofs.Windows.{MomentFits, WindowFits, grant-fits, initial-fits}
use Rattle.definitions.specs.declared.account.Named.{Named}
use Rattle.definitions.specs.Decisions.{window_of}

-- ---- A marked ticket is never FORWARDABLE
pub flags-forwardable : (f i : Bool) → has_bit (flags_of f i) 30 ≡ f
unfolding has_bit
flags-forwardable true true = refl
flags-forwardable true false = refl
flags-forwardable false true = refl
flags-forwardable false false = refl

-- a ticket with the mark has no FORWARDABLE
abbrev pub MarkBars : Ticket → Type 0
MarkBars t = t.barred ≡ true → is_forwardable t.flags ≡ false

pub initial-mark : (n : ℕ) (f : Bool) (u : Named) (w : Window) → MarkBars (initial_ticket n f u w)
unfolding initial_ticket
initial-mark n f u w h = flags-forwardable _ true ∙ and-not f (is_barred u.account) h

pub direct-mark : (n : ℕ) (f : Bool) (g : Ticket) (x : Account) (s : ℕ) (w : Window) → MarkBars (direct_ticket n f g x s w)
unfolding direct_ticket
direct-mark n f g x s w h = flags-forwardable _ false ∙ by f (and-not (is_forwardable g.flags) (direct_mark x g) h)
  where
    by : (p : Bool) → (is_forwardable g.flags && not (direct_mark x g)) ≡ false → (p && (is_forwardable g.flags && not (direct_mark x g))) ≡ false
    by true e = e
    by false e = refl

pub s4u2self-mark : (n : ℕ) (f : Bool) (g : Ticket) (y : Account) (u : Named) (w : Window) → MarkBars (s4u2self_ticket n f g y u w)
unfolding s4u2self_ticket
s4u2self-mark n f g y u w h = flags-forwardable _ false ∙ not-and (is_barred u.account) (s4u2self_forwardable y f g) h

-- ---- The trail is the evidence's, and Service 1
pub trail-grows : (n : ℕ) (g e : Ticket) (s : ℕ) (w : Window) → e.hops < length e.trail
    → take (e.hops + 1) (s4u2proxy_ticket n g e s w).trail ≡ take e.hops e.trail ++ (g.client ∷ [])
unfolding s4u2proxy_ticket
trail-grows n g e s w h = rw add-one (take-suc-set e.trail e.hops g.client h)

-- ---- A new ticket is one that the writer accepts, if the tickets that it rests on are
pub flags-fit : (f i : Bool) → Fits w32 (flags_of f i)
flags-fit true true = record { fits = lit< tt }
flags-fit true false = record { fits = lit< tt }
flags-fit false true = record { fits = lit< tt }
flags-fit false false = record { fits = lit< tt }

-- a ticket is well formed whatever its mark, if it is with either
by-mark : (t : Ticket) (o : Origin) (b : Bool) → well_formed t (map_for o true) ≡ true → well_formed t (map_for o false) ≡ true → well_formed t (map_for o b) ≡ true
by-mark t o true x y = x
by-mark t o false x y = y

without-trail-range : (m : Moment) (f c s : ℕ) (w : Window) (o : Origin) (b : Bool) → MomentFits m → WindowFits m.clock w → Fits w32 f → Fits w8 c → Fits w8 s
    → Fits w16 (tgt_of o) → Fits w16 (evidence_of o) → InRange (without_trail m.next f c s w o b)
without-trail-range m f c s w o b k l hf hc hs ht he =
    record {
      number = k.next;
      flags = hf;
      client = hc;
      service = hs;
      start = rw l.start k.clock;
      end = record { fits = l.end };
      tgt = ht;
      evidence = he;
      places = refl;
      trail = bytes-zeros trail_limit;
      hops = record { fits = lit< tt };
    }

pub zero8 : Fits w8 0
zero8 = record { fits = lit< tt }

pub zero16 : Fits w16 0
zero16 = record { fits = lit< tt }

pub number-fits8 : (n : ℕ) → n ≤ account_limit → Fits w8 n
number-fits8 n h = record { fits = omega arith }

pub initial-writable : (m : Moment) (f : Bool) (till : ℕ) (u : Named) → MomentFits m → u.number ≤ account_limit
    → Writable (initial_ticket m.next f u (initial_window m.clock u.account.lifetime till))
unfolding initial_ticket well_formed service_fits hops_fit all_zero has_bit
initial-writable m f till u k h =
    record {
      in_range =
          without-trail-range m _ u.number 0 _ Initial (is_barred u.account) k (initial-fits m.clock u.account.lifetime till)
          (flags-fit (f && not (is_barred u.account)) true) (number-fits8 u.number h) zero8 zero16 zero16;
      well_formed = by-mark (initial_ticket m.next f u (initial_window m.clock u.account.lifetime till)) Initial (is_barred u.account) refl refl;
    }

pub direct-writable : (m : Moment) (f : Bool) (till : ℕ) (g : Presented) (s : Named) → MomentFits m → s.number ≤ account_limit → InRange g.ticket
    → Writable (direct_ticket m.next f g.ticket g.client s.number (window_of m s.account till g))
unfolding direct_ticket well_formed service_fits hops_fit all_zero has_bit
direct-writable m f till g s k h r =
    let b = direct_mark g.client g.ticket in
    record {
      in_range =
          without-trail-range m _ g.ticket.client s.number _ (Direct g.ticket.number) b k
          (grant-fits m.clock s.account.lifetime till g.ticket.window.end)
          (flags-fit (f && (is_forwardable g.ticket.flags && not b)) false) r.client (number-fits8 s.number h) r.number zero16;
      well_formed = by-mark (direct_ticket m.next f g.ticket g.client s.number (window_of m s.account till g)) (Direct g.ticket.number) b refl refl;
    }

pub s4u2self-writable : (m : Moment) (f : Bool) (till : ℕ) (g : Presented) (u : Named) → MomentFits m → u.number ≤ account_limit → InRange g.ticket
    → Writable (s4u2self_ticket m.next f g.ticket g.client u (window_of m g.client till g))
unfolding s4u2self_ticket well_formed service_fits hops_fit all_zero has_bit
s4u2self-writable m f till g u k h r =
    let b = is_barred u.account in
    record {
      in_range =
          without-trail-range m _ u.number g.ticket.client _ (S4U2self g.ticket.number) b k
          (grant-fits m.clock g.client.lifetime till g.ticket.window.end)
          (flags-fit (not b && s4u2self_forwardable g.client f g.ticket) false) (number-fits8 u.number h) r.client r.number zero16;
      well_formed = by-mark (s4u2self_ticket m.next f g.ticket g.client u (window_of m g.client till g)) (S4U2self g.ticket.number) b refl refl;
    }

pub bytes-set : (xs : List ℕ) (i x : ℕ) → Bytes xs → Fits w8 x → Bytes (set xs i x)
bytes-set [] i x b h = b
bytes-set (y ∷ ys) zero x b h = bytes-cons x ys h (λ k. b (suc k))
bytes-set (y ∷ ys) (suc i) x b h = bytes-cons y (set ys i x) (b 0) (bytes-set ys i x (λ k. b (suc k)) h)

pub zero-after : (xs : List ℕ) (i x : ℕ) → i < length xs → all_zero (drop i xs) ≡ true → all_zero (drop (i + 1) (set xs i x)) ≡ true
unfolding all_zero
zero-after xs i x h z =
    rw (add-one, drop-set-lt (suc i) xs i x (omega arith))
    (and_right (eqb (get_or xs i 0) 0) (all_zero (drop (suc i) xs)) (rw (drop-cons xs i 0 h) at z))

-- a delegated ticket's map has a service and a trail
pub delegated-well : (t : Ticket) (g e : ℕ) (b : Bool) → t.hops ≤ trail_limit → 1 ≤ t.hops → all_zero (drop t.hops t.trail) ≡ true → well_formed t (map_for (Delegated g e) b) ≡ true
unfolding well_formed service_fits hops_fit has_bit
delegated-well t g e true h l z = rw (le-leb 1 t.hops l, le-leb t.hops trail_limit h, z)
delegated-well t g e false h l z = rw (le-leb 1 t.hops l, le-leb t.hops trail_limit h, z)

pub s4u2proxy-writable : (m : Moment) (g e : Ticket) (s : ℕ) (w : Window) → MomentFits m → WindowFits m.clock w → s ≤ account_limit → InRange g → Writable e
    → e.hops < trail_limit → Writable (s4u2proxy_ticket m.next g e s w)
unfolding s4u2proxy_ticket
s4u2proxy-writable m g e s w k l h r v few =
    record {
      in_range =
          record {
            number = k.next;
            flags = flags-fit (is_forwardable e.flags) false;
            client = v.in_range.client;
            service = number-fits8 s h;
            start = rw l.start k.clock;
            end = record { fits = l.end };
            tgt = r.number;
            evidence = v.in_range.number;
            places = length-set e.trail e.hops g.client ∙ v.in_range.places;
            trail = bytes-set e.trail e.hops g.client v.in_range.trail r.client;
            hops = record { fits = omega arith };
          };
      well_formed =
          delegated-well (s4u2proxy_ticket m.next g e s w) g.number e.number e.barred (omega arith) (omega arith)
          (zero-after e.trail e.hops g.client (omega (arith, v.in_range.places)) (well-rest e (map_of_ticket e) v.well_formed));
    }
