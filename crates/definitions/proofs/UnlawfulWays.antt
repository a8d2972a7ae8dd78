-- What lawful descent rules out of steps back and of the way along the evidence (R9.2, R9.4 to R9.6, R9.8): small lists of entries, one with
-- nothing wrong, and others with one thing wrong, over which nothing is lawful.
-- Assumes nothing.
use mathlib.Core.Path.{◌≡◌, refl, sym, ap, ◌∙◌, subst}
use mathlib.Core.Bool.{false, false≢true}
use mathlib.Core.List.Memᴰ
use mathlib.Core.List.{List, [], ◌∷◌, ◌++◌, map, Memᴰ}
use mathlib.Core.Logic.{◌⊎◌, inl, inr}
use mathlib.Core.Option.{Option, some, none}
use Prim.Native.Nat.{ℕ, ◌≤◌}
use native.Mathlib.Omega.{arith}
use lib.ListN.{length}
use Rattle.definitions.specs.Fields.{has_bit}
use Rattle.definitions.specs.Edits.{edit_of, edit_row}
use Rattle.definitions.specs.Decisions.{is_initial}
use Rattle.definitions.specs.LawfulDescent.{Entry, first_entry, service_in, is_delegated, Steps, at_initial, one_back, Along, itself, through, NeverBarred, Way, WayOf}
use Rattle.definitions.specs.declared.ticket.Origin.TheVariants.{Initial, Direct, Delegated}
use Rattle.definitions.specs.declared.ticket.Ticket.{Ticket}
use Rattle.definitions.proofs.LawfulDescent.{first-met}
use Rattle.definitions.proofs.DecisionCases.{tech}
use Rattle.definitions.proofs.CaseValues.{ticket}
use Rattle.definitions.proofs.UnlawfulRests.{dated, got, self, tgt}

-- ---- R9.2: steps back from a direct ticket to TGT 4
abbrev direct : ℕ → Ticket
direct number = ticket number 0 1 2 10 90 (Direct 4) [] false

-- with nothing wrong
pub on-steps : Steps (map (dated []) (tgt 1 90 Initial ∷ [])) (dated [] (direct 5)) 1
on-steps = one_back {entry = dated [] (direct 5)} {back = dated [] (tgt 1 90 Initial)} refl refl (omega arith) (omega arith) (at_initial refl)

-- the number in an option
abbrev told : Option ℕ → ℕ
told none = 0
told (some n) = n

-- the entry one step back, by its ticket
back_is : (tickets : List Ticket) (b : ℕ) (u : Entry) → some 4 ≡ some b → first_entry b (map (dated []) tickets) ≡ some u
    → got (first_entry 4 (map (dated []) tickets)) ≡ u.ticket
back_is tickets b u o s = ap (λ n. got (first_entry n (map (dated []) tickets))) (ap told o) ∙ ap got s

pub steps-not-below : (k : ℕ) → Steps (map (dated []) (tgt 1 90 Initial ∷ [])) (dated [] (direct 4)) k → ⊥
steps-not-below k (at_initial o) = false≢true (ap is_initial o)
steps-not-below k (one_back {back = u} {n = b} o s falls end steps) =
    let e : ◌≡◌ {A = ℕ} 4 u.ticket.number = ap (λ t. t.number) (back_is (tgt 1 90 Initial ∷ []) b u o s) in omega (arith, e, falls)

pub steps-end-before : (k : ℕ) → Steps (map (dated []) (tgt 1 89 Initial ∷ [])) (dated [] (direct 5)) k → ⊥
steps-end-before k (at_initial o) = false≢true (ap is_initial o)
steps-end-before k (one_back {back = u} {n = b} o s falls end steps) =
    let e : ◌≡◌ {A = ℕ} 89 u.ticket.window.end = ap (λ t. t.window.end) (back_is (tgt 1 89 Initial ∷ []) b u o s) in omega (arith, e, end)

-- ---- R9.4 to R9.6: the way of a delegated ticket over self ticket 5; each was given while account 0 had some flags
abbrev with-flags : ℕ → Ticket → Entry
with-flags flags t = dated (edit_row (edit_of 0 tech flags 0 0 0) ∷ []) t

abbrev first-entry : ℕ → Entry
first-entry flags = with-flags flags (self 5)

-- the delegated ticket, with a client, an end and a trail
abbrev hop-entry : ℕ → ℕ → ℕ → List ℕ → Entry
hop-entry flags client end trail = with-flags flags (ticket 6 0 client 2 10 end (Delegated 4 5) trail false)

-- one step of a way: what it passes last is the evidence, which ends no earlier, and before that it is the evidence's way
over : {ns : List Entry} {entry first : Entry} {passed : List Entry} (t e : ℕ) (u : Entry) → entry.ticket.origin ≡ Delegated t e
    → first_entry e ns ≡ some u → Along ns entry passed first
    → (before : List Entry) × Along ns u before first × (passed ≡ before ++ (u ∷ [])) × (entry.ticket.window.end ≤ u.ticket.window.end)
over t e u o s (itself i d) = absurd (false≢true (sym d ∙ ap is_delegated o))
over t e u o s (through {evidence = v} {passed = before} {e = k} o' s' l along) =
    let is : v ≡ u = cc in
    (before, rw is at along, ap (λ n. before ++ (n ∷ [])) is, rw is at l)

-- the self ticket is its own first, and passes nothing
first-is : (flags : ℕ) {ns : List Entry} {entry first : Entry} {passed : List Entry} → entry ≡ first-entry flags → Along ns entry passed first
    → (passed ≡ []) × (first ≡ first-entry flags)
first-is flags q (itself i d) = (refl, q)
first-is flags q (through o s e along) = absurd (false≢true (sym (ap (λ (n : Entry). is_delegated n.ticket.origin) q) ∙ ap is_delegated o))

-- so the way of the delegated ticket passes the self ticket alone, and ends there, no earlier than the ticket
passed_is : (client end : ℕ) (trail : List ℕ) {first : Entry} {passed : List Entry}
    → Along (first-entry 0 ∷ []) (hop-entry 0 client end trail) passed first → (passed ≡ first-entry 0 ∷ []) × (first ≡ first-entry 0) × (end ≤ 90)
passed_is client end trail along =
    let p = over 4 5 (first-entry 0) refl refl along in
    let rest = first-is 0 refl p.1 in
    (p.2 ∙ ap (λ x. x ++ (first-entry 0 ∷ [])) rest.0, rest.1, p.3)

-- what holds of each entry of a list, from the first to the last, holds of whichever is in it
abbrev Listed : (Entry → Type 0) → List Entry → Type 0
Listed P [] = Unit {0}
Listed P (n ∷ ns) = P n × Listed P ns

each : (P : Entry → Type 0) (ns : List Entry) → Listed P ns → (n : Entry) → Memᴰ n ns → P n
each P [] h n i = absurd (Memᴰ.not-nil i)
each P (m ∷ ns) h n i = by (each P ns h.1 n) (Memᴰ.cases_cons i)
  where
    by : (Memᴰ n ns → P n) → (n ≡ m) ⊎ Memᴰ n ns → P n
    by rest (inl e) = rw e h.0
    by rest (inr j) = rest j

-- a ticket with such a client, end and trail has a way
abbrev HasWay : ℕ → ℕ → List ℕ → Type 0
HasWay client end trail = Way (first-entry 0 ∷ []) (hop-entry 0 client end trail)

-- with nothing wrong
pub on-way : HasWay 0 80 (1 ∷ [])
unfolding has_bit
on-way =
    record {
      passed = first-entry 0 ∷ [];
      first = first-entry 0;
      along = through {entry = hop-entry 0 0 80 (1 ∷ [])} {evidence = first-entry 0} refl refl (omega arith) (itself refl refl);
      hops = refl;
      trail = refl;
      clients = each _ _ (refl, (refl, tt));
      not_barred = λ h. each _ _ (refl, (refl, tt));
    }

pub way-ends-before : HasWay 0 91 (1 ∷ []) → ⊥
way-ends-before w = omega (arith, (passed_is 0 91 (1 ∷ []) w.along).2)

pub way-of-another : HasWay 3 80 (1 ∷ []) → ⊥
way-of-another w =
    let c : ◌≡◌ {A = ℕ} w.first.ticket.client 0 = ap (λ (n : Entry). n.ticket.client) (passed_is 3 80 (1 ∷ []) w.along).1 in
    omega (arith, c, w.clients w.first (first-met w.along))

pub way-not-counted : HasWay 0 80 [] → ⊥
way-not-counted w =
    let n : ◌≡◌ {A = ℕ} (length w.passed) 1 = ap length (passed_is 0 80 [] w.along).0 in omega (arith, n, w.hops)

-- the first account of a list
abbrev head : List ℕ → ℕ
head [] = 0
head (x ∷ xs) = x

pub way-by-another : HasWay 0 80 (3 ∷ []) → ⊥
way-by-another w =
    let n : ◌≡◌ {A = ℕ} 3 1 = ap head (w.trail ∙ ap (map service_in) (passed_is 0 80 (3 ∷ []) w.along).0) in omega (arith, n)

-- an initial ticket has no trail, whatever else it says
pub way-initial : WayOf [] (dated [] (ticket 4 0x00400000 1 7 10 90 Initial [] false)) Initial
way-initial = refl

pub way-initial-trail : WayOf [] (dated [] (ticket 4 0x00400000 1 0 10 90 Initial (1 ∷ []) false)) Initial → ⊥
way-initial-trail h = let e : ◌≡◌ {A = ℕ} 1 0 = h in omega (arith, e)

-- ---- R9.8: a ticket of two hops, with the flags of account 0 at the first ticket, at the first hop and at its own
abbrev one-hop : ℕ → Entry
one-hop flags = hop-entry flags 0 80 (1 ∷ [])

abbrev two-hops : ℕ → Entry
two-hops flags = with-flags flags (ticket 7 0 0 3 10 80 (Delegated 4 6) (1 ∷ 2 ∷ []) false)

abbrev HasTwo : ℕ → ℕ → ℕ → Type 0
HasTwo at_first at-hop at_own = Way (first-entry at_first ∷ one-hop at-hop ∷ []) (two-hops at_own)

-- the three are what is met on its way
never-barred : (at_first at-hop at_own : ℕ) → HasTwo at_first at-hop at_own → NeverBarred 0 (first-entry at_first ∷ one-hop at-hop ∷ two-hops at_own ∷ [])
never-barred at_first at-hop at_own w =
    let p = over 4 6 (one-hop at-hop) refl refl w.along in
    let q = over 4 5 (first-entry at_first) refl refl p.1 in
    let e = q.2 ∙ ap (λ x. x ++ (first-entry at_first ∷ [])) (first-is at_first refl q.1).0 in
    subst (λ x. NeverBarred 0 (x ++ (two-hops at_own ∷ []))) (p.2 ∙ ap (λ x. x ++ (one-hop at-hop ∷ [])) e) (w.not_barred refl)

-- with nothing wrong
pub on-two-hops : HasTwo 0 0 0
unfolding has_bit
on-two-hops =
    record {
      passed = first-entry 0 ∷ one-hop 0 ∷ [];
      first = first-entry 0;
      along =
          through {entry = two-hops 0} {evidence = one-hop 0} refl refl (omega arith)
          (through {entry = one-hop 0} {evidence = first-entry 0} refl refl (omega arith) (itself refl refl));
      hops = refl;
      trail = refl;
      clients = each _ _ (refl, (refl, (refl, tt)));
      not_barred = λ h. each _ _ (refl, (refl, (refl, tt)));
    }

pub barred-at-first : HasTwo 2 0 0 → ⊥
unfolding has_bit
barred-at-first w = false≢true (sym (never-barred 2 0 0 w (first-entry 2) (Memᴰ.head refl)))

pub barred-at-hop : HasTwo 0 2 0 → ⊥
unfolding has_bit
barred-at-hop w = false≢true (sym (never-barred 0 2 0 w (one-hop 2) (Memᴰ.tail (Memᴰ.head refl))))

pub barred-at-own : HasTwo 0 0 2 → ⊥
unfolding has_bit
barred-at-own w = false≢true (sym (never-barred 0 0 2 w (two-hops 2) (Memᴰ.tail (Memᴰ.tail (Memᴰ.head refl)))))
