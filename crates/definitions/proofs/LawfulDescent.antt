-- Laws of lawful descent: the invariant of a list of entries, from which each of them is lawful, and how a new entry comes by it: from what it
-- rests on, and from what it adds to that, by its origin (R9).
-- Assumes nothing.
use mathlib.Core.Path.{◌≡◌, refl, sym, ap, ◌∙◌, subst}
use mathlib.Core.Bool.{Bool, true, false, false≢true}
use mathlib.Core.List.Memᴰ
use mathlib.Core.List.{List, [], ◌∷◌, ◌++◌, map, Memᴰ}
use mathlib.Core.Option.{some, map-eq-some_iff}
use Prim.Native.Nat.{ℕ, suc, ◌≤◌, ◌<◌}
use native.Mathlib.Omega.{arith}
use lib.ListN.{take, length-append}
use Rattle.definitions.specs.Limits.{trail_limit}
use Rattle.definitions.specs.declared.ticket.Origin.{Origin}
use Rattle.definitions.specs.declared.ticket.Origin.TheVariants.{Initial, Direct, S4U2self, Delegated}
use Rattle.definitions.specs.declared.ticket.Ticket.{Ticket}
use Rattle.definitions.specs.Accounts.{account_at, is_barred}
use Rattle.definitions.specs.Routes.{has_route}
use Rattle.definitions.specs.Decisions.{is_initial}
use Rattle.definitions.specs.HeldTickets.{ticket_number, first_ticket}
use Rattle.definitions.specs.Descent.{back_of}
use Rattle.definitions.specs.LawfulDescent.{Entry, entry_ticket, entry_number, first_entry, steps_back, trail_list, service_in, is_delegated, Steps, at_initial, one_back, Along, itself, through, RestsOnTgt, RestsOnEvidence, Rests, NeverBarred, Way, WayOf, Lawful}
use Rattle.definitions.proofs.HeldTickets.{first-is, first-map}
use Rattle.definitions.proofs.Lists.{map-append, each_snoc}

pub true-false : {A : Type 0} {b : Bool} → b ≡ true → b ≡ false → A
true-false p q = absurd (false≢true (sym q ∙ p))

-- what would make b true is false, where it is false
not_so : {b c : Bool} → (b ≡ true → c ≡ true) → c ≡ false → b ≡ false
not_so {b = true} k e = true-false (k refl) e
not_so {b = false} k e = refl

-- the first ticket is among those met along the evidence
pub first-met : {ns : List Entry} {m first : Entry} {us : List Entry} → Along ns m us first → Memᴰ first (us ++ (m ∷ []))
first-met (itself i d) = Memᴰ.head refl
first-met (through {entry = m} o s e a) = Memᴰ.append_left (m ∷ []) (first-met a)

-- the TGT of a client, as a new entry fits it
pub record FitsTgt (m : Entry) (g : Ticket) (c : ℕ) : Type 0 where
  pub is_initial : g.origin ≡ Initial
  pub its_client : g.client ≡ c
  pub end : m.ticket.window.end ≤ g.window.end

-- `shut` tells of a ticket whether no hop may follow it; where the client was barred at the first ticket, none may
module _ (shut : Ticket → Bool) where
  -- ---- The invariant
  -- the way along the evidence, with what carries it on
  pub record Track (ns : List Entry) (m : Entry) : Type 0 where
    pub way : Way ns m
    pub unbarred : shut m.ticket ≡ false → NeverBarred m.ticket.client (way.passed ++ (m ∷ []))
    pub steps : Steps ns m (suc m.ticket.hops)
    pub short : m.ticket.hops ≤ trail_limit

  abbrev pub TrackOf : List Entry → Entry → Origin → Type 0
  TrackOf ns m Initial = m.ticket.hops ≡ 0
  TrackOf ns m (Direct g) = Track ns m
  TrackOf ns m (S4U2self g) = Track ns m
  TrackOf ns m (Delegated g e) = Track ns m

  pub record Good (ns : List Entry) (m : Entry) : Type 0 where
    pub rests : Rests ns m m.ticket.origin
    pub track : TrackOf ns m m.ticket.origin

  -- each entry is good, its number is below n, and the number stands for it
  unfoldable pub AllGood : ℕ → List Entry → Type 0
  AllGood n ns = (m : Entry) → Memᴰ m ns → Good ns m × (m.ticket.number < n) × (first_entry m.ticket.number ns ≡ some m)

  -- ---- A good entry is lawful
  way_of : (ns : List Entry) (m : Entry) (o : Origin) → TrackOf ns m o → WayOf ns m o
  way_of ns m Initial t = t
  way_of ns m (Direct n) t = t.way
  way_of ns m (S4U2self n) t = t.way
  way_of ns m (Delegated n k) t = t.way

  steps_of : (ns : List Entry) (m : Entry) (o : Origin) → m.ticket.origin ≡ o → TrackOf ns m o
      → (k : ℕ) × Steps ns m k × (k ≡ steps_back m.ticket.hops o) × (k ≤ 9)
  steps_of ns m Initial e t = (0, at_initial e, refl, omega arith)
  steps_of ns m (Direct n) e t = (suc m.ticket.hops, t.steps, refl, omega (arith, t.short))
  steps_of ns m (S4U2self n) e t = (suc m.ticket.hops, t.steps, refl, omega (arith, t.short))
  steps_of ns m (Delegated n k) e t = (suc m.ticket.hops, t.steps, refl, omega (arith, t.short))

  pub lawful : (ns : List Entry) (m : Entry) → Good ns m → Lawful ns m
  lawful ns m g =
      let s = steps_of ns m m.ticket.origin refl g.track in
      record {
        steps = s.0;
        back = s.1;
        by_trail = s.2;
        at_most_nine = s.3;
        rests = g.rests;
        way = way_of ns m m.ticket.origin g.track;
      }

  -- ---- What a new entry is founded on: the tickets at its back numbers, and how it goes on from them
  -- evidence, beside the TGT of its service: one client, who is not barred, the trail grown by that service, a route, and no hop that is shut
  pub record FitsEvidence (m : Entry) (g e : Ticket) : Type 0 where
    pub tgt : FitsTgt m g e.service
    pub not_initial : is_initial e.origin ≡ false
    pub one_client : e.client ≡ m.ticket.client
    pub not_barred : is_barred (account_at m.table m.ticket.client) ≡ false
    pub end : m.ticket.window.end ≤ e.window.end
    pub by-route : has_route (account_at m.table g.client) (account_at m.table m.ticket.service) m.resource g.client e m.ticket.service ≡ true
    pub one-more : m.ticket.hops ≡ suc e.hops
    pub few : e.hops < trail_limit
    pub grown : trail_list m.ticket ≡ trail_list e ++ (e.service ∷ [])
    pub unshut : shut e ≡ false

  -- a direct or self ticket: it has no trail, and a barred client shuts it
  pub record OnTgt (ns : List Entry) (m : Entry) (number c : ℕ) : Type 0 where
    pub tgt : Ticket
    pub found : first_ticket number (map entry_ticket ns) ≡ some tgt
    pub fits : FitsTgt m tgt c
    pub no-hops : m.ticket.hops ≡ 0
    pub shuts : is_barred (account_at m.table m.ticket.client) ≡ true → shut m.ticket ≡ true

  -- a delegated ticket
  pub record OnEvidence (ns : List Entry) (m : Entry) (tgt-number number : ℕ) : Type 0 where
    pub tgt : Ticket
    pub tgt-found : first_ticket tgt-number (map entry_ticket ns) ≡ some tgt
    pub evidence : Ticket
    pub found : first_ticket number (map entry_ticket ns) ≡ some evidence
    pub fits : FitsEvidence m tgt evidence

  -- by the origin
  abbrev pub Founded : List Entry → Entry → Origin → Type 0
  Founded ns m Initial = m.ticket.hops ≡ 0
  Founded ns m (Direct g) = OnTgt ns m g m.ticket.client
  Founded ns m (S4U2self g) = OnTgt ns m g m.ticket.service
  Founded ns m (Delegated g e) = OnEvidence ns m g e

  -- ---- A new entry is good over the list before it, all of whose numbers are lower
  module _ (n : ℕ) (ns : List Entry) (m : Entry) (h : AllGood n ns) (l : n ≤ m.ticket.number) where
    -- the entry of a ticket that the list has at a number
    record There (k : ℕ) (t : Ticket) : Type 0 where
      entry : Entry
      stands : first_entry k ns ≡ some entry
      is : entry.ticket ≡ t
      falls : entry.ticket.number < m.ticket.number
      good : Good ns entry

    there : (k : ℕ) (t : Ticket) → first_ticket k (map entry_ticket ns) ≡ some t → There k t
    unfolding AllGood
    there k t e =
        let u = (map-eq-some_iff entry_ticket (first_entry k ns)).0 (sym (first-map ticket_number entry_ticket k ns) ∙ e) in
        let r = h u.0 (first-is entry_number k ns u.0 u.1).1 in
        record { entry = u.0; stands = u.1; is = u.2; falls = omega (arith, r.1, l); good = r.0 }

    abbrev on-tgt : (k c : ℕ) (g : Ticket) (u : There k g) → FitsTgt m u.entry.ticket c → RestsOnTgt ns m k c
    on-tgt k c g u f =
        record { tgt = u.entry; stands = u.stands; falls = u.falls; is_initial = f.is_initial; its_client = f.its_client; end = f.end }

    -- a direct or self ticket is its own first
    begun : (k c : ℕ) → is_initial m.ticket.origin ≡ false → is_delegated m.ticket.origin ≡ false → back_of m.ticket.origin ≡ some k
        → OnTgt ns m k c → RestsOnTgt ns m k c × Track ns m
    begun k c i d b f =
        let u = there k f.tgt f.found in
        let r = on-tgt k c f.tgt u (rw u.is f.fits) in (
          r,
          record {
            way =
                record {
                  passed = [];
                  first = m;
                  along = itself i d;
                  hops = f.no-hops;
                  trail = ap (λ j. take j m.ticket.trail) f.no-hops;
                  clients = λ u i. ap (λ (v : Entry). v.ticket.client) (Memᴰ.eq_of_singleton i);
                  not_barred = λ q. true-false q d;
                };
            unbarred = λ q u i. rw (Memᴰ.eq_of_singleton i) (not_so f.shuts q);
            steps = subst (λ j. Steps ns m (suc j)) (sym f.no-hops) (one_back b r.stands r.falls r.end (at_initial r.is_initial));
            short = omega (arith, f.no-hops);
          },
        )

    track-there : (u : Entry) (o : Origin) → is_initial o ≡ false → TrackOf ns u o → Track ns u
    track-there u Initial e t = true-false refl e
    track-there u (Direct g) e t = t
    track-there u (S4U2self g) e t = t
    track-there u (Delegated g k) e t = t

    -- the way of a delegated ticket is its evidence's, and the evidence
    followed : (j k : ℕ) → m.ticket.origin ≡ Delegated j k → OnEvidence ns m j k → RestsOnEvidence ns m j k × Track ns m
    followed j k o r =
        let v = there j r.tgt r.tgt-found in
        let p = there k r.evidence r.found in
        let u = p.entry in
        let f : FitsEvidence m v.entry.ticket u.ticket = rw (v.is, p.is) r.fits in
        let t = track-there u u.ticket.origin f.not_initial p.good.track in
        let w = t.way in
        let us = w.passed ++ (u ∷ []) in
        let never : NeverBarred m.ticket.client (us ++ (m ∷ [])) =
        each_snoc (λ v. is_barred (account_at v.table m.ticket.client) ≡ false) us m
        (subst (λ c. NeverBarred c us) f.one_client (t.unbarred f.unshut)) f.not_barred
        in (
          record {
            evidence = u;
            stands = p.stands;
            falls = p.falls;
            not_initial = f.not_initial;
            one_client = f.one_client;
            end = f.end;
            tgt = on-tgt j u.ticket.service r.tgt v f.tgt;
            by-route = f.by-route;
          },
          record {
            way =
                record {
                  passed = us;
                  first = w.first;
                  along = through o p.stands f.end w.along;
                  hops = omega (arith, f.one-more, w.hops, length-append w.passed (u ∷ []));
                  trail = f.grown ∙ ap (λ x. x ++ (u.ticket.service ∷ [])) w.trail ∙ sym (map-append service_in w.passed (u ∷ []));
                  clients = each_snoc (λ v. v.ticket.client ≡ m.ticket.client) us m (λ v i. w.clients v i ∙ f.one_client) refl;
                  not_barred = λ q. never;
                };
            unbarred = λ q. never;
            steps = subst (λ i. Steps ns m (suc i)) (sym f.one-more) (one_back (ap back_of o) p.stands p.falls f.end t.steps);
            short = omega (arith, f.one-more, f.few);
          },
        )

    pub good-founded : Founded ns m m.ticket.origin → Good ns m
    good-founded f = let p = by m.ticket.origin refl f in record { rests = p.0; track = p.1 }
      where
        by : (o : Origin) → m.ticket.origin ≡ o → Founded ns m o → Rests ns m o × TrackOf ns m o
        by Initial e f = (tt, f)
        by (Direct k) e f = begun k m.ticket.client (ap is_initial e) (ap is_delegated e) (ap back_of e) f
        by (S4U2self k) e f = begun k m.ticket.service (ap is_initial e) (ap is_delegated e) (ap back_of e) f
        by (Delegated j k) e f = followed j k e f
