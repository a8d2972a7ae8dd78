-- Laws of the stages: each kind's list of checks, in the rules' order, is its groups of checks one after the other (R6.2).
-- Assumes nothing.
use Rattle.std.specs.Prelude.{Ok}
use mathlib.Core.Path.{◌≡◌, ap, ◌∙◌}
use mathlib.Core.List.{[], ◌∷◌, ◌++◌}
use mathlib.Core.Bool.{Bool}
use Prim.Native.Nat.{ℕ}
use Rattle.definitions.specs.Checks.{and_then, judge}
use Rattle.definitions.specs.declared.account.Named.{Named}
use Rattle.definitions.specs.Windows.{initial_window}
use Rattle.definitions.specs.NewTickets.{initial_ticket, direct_ticket, s4u2self_ticket, s4u2proxy_ticket}
use Rattle.definitions.specs.Decisions.{service_check, s4u2self_check, user_checks, hop_checks, last_checks, tgt_checks, evidence_checks, initial_checks, direct_checks, s4u2self_checks, s4u2proxy_checks, window_of, hop_window_of, hop_permitted, decide_initial, decide_direct, decide_s4u2self, decide_s4u2proxy}
use Rattle.definitions.specs.declared.decision.Presented.{Presented}
use Rattle.definitions.specs.declared.decision.Moment.{Moment}
use Rattle.definitions.proofs.Decisions.{decided-append}

-- kind 1: the user, the last
pub initial_staged : (m : Moment) (f : Bool) (till : ℕ) (u : Named)
    → decide_initial m f till u
    ≡ and_then (judge (user_checks u.account))
    (and_then (judge (last_checks m (initial_window m.clock u.account.lifetime till)))
    (Ok (initial_ticket m.next f u (initial_window m.clock u.account.lifetime till))))
unfolding decide_initial initial_checks
initial_staged m f till u = decided-append (user_checks u.account) _ _

-- kind 2: the TGT, the service, the last
pub direct_staged : (m : Moment) (f : Bool) (till : ℕ) (g : Presented) (s : Named)
    → decide_direct m f till g s
    ≡ and_then (judge (tgt_checks m.clock g))
    (and_then (judge (service_check s.account ∷ []))
    (and_then (judge (last_checks m (window_of m s.account till g)))
    (Ok (direct_ticket m.next f g.ticket g.client s.number (window_of m s.account till g)))))
unfolding decide_direct direct_checks
direct_staged m f till g s =
    let w = window_of m s.account till g in
    let t = direct_ticket m.next f g.ticket g.client s.number w in
    decided-append (tgt_checks m.clock g) (service_check s.account ∷ last_checks m w) t
    ∙ ap (and_then (judge (tgt_checks m.clock g))) (decided-append (service_check s.account ∷ []) (last_checks m w) t)

-- kind 3: the TGT, Service 1, the user, the last
pub s4u2self_staged : (m : Moment) (f : Bool) (till : ℕ) (g : Presented) (u : Named)
    → decide_s4u2self m f till g u
    ≡ and_then (judge (tgt_checks m.clock g))
    (and_then (judge (s4u2self_check g.client ∷ []))
    (and_then (judge (user_checks u.account))
    (and_then (judge (last_checks m (window_of m g.client till g)))
    (Ok (s4u2self_ticket m.next f g.ticket g.client u (window_of m g.client till g))))))
unfolding decide_s4u2self s4u2self_checks
s4u2self_staged m f till g u =
    let w = window_of m g.client till g in
    let t = s4u2self_ticket m.next f g.ticket g.client u w in
    let xs = s4u2self_check g.client ∷ [] in
    let ys = user_checks u.account in
    decided-append (tgt_checks m.clock g) (xs ++ (ys ++ last_checks m w)) t
    ∙ ap (and_then (judge (tgt_checks m.clock g)))
    (decided-append xs (ys ++ last_checks m w) t ∙ ap (and_then (judge xs)) (decided-append ys (last_checks m w) t))

-- kind 4: the TGT, the evidence, the service, the hop, the last
pub s4u2proxy_staged : (m : Moment) (cname resource : Bool) (till : ℕ) (g e : Presented) (s : Named)
    → decide_s4u2proxy m cname resource till g e s
    ≡ and_then (judge (tgt_checks m.clock g))
    (and_then (judge (evidence_checks m.clock e g.ticket.client))
    (and_then (judge (service_check s.account ∷ []))
    (and_then (judge (hop_checks (hop_permitted cname resource g e s) e.ticket))
    (and_then (judge (last_checks m (hop_window_of m s.account till g e)))
    (Ok (s4u2proxy_ticket m.next g.ticket e.ticket s.number (hop_window_of m s.account till g e)))))))
unfolding decide_s4u2proxy s4u2proxy_checks
s4u2proxy_staged m cname resource till g e s =
    let w = hop_window_of m s.account till g e in
    let t = s4u2proxy_ticket m.next g.ticket e.ticket s.number w in
    let xs = tgt_checks m.clock g in
    let ys = evidence_checks m.clock e g.ticket.client in
    let zs = service_check s.account ∷ [] in
    let hs = hop_checks (hop_permitted cname resource g e s) e.ticket in
    decided-append xs (ys ++ (zs ++ (hs ++ last_checks m w))) t
    ∙ ap (and_then (judge xs))
    (decided-append ys (zs ++ (hs ++ last_checks m w)) t
    ∙ ap (and_then (judge ys))
    (decided-append zs (hs ++ last_checks m w) t ∙ ap (and_then (judge zs)) (decided-append hs (last_checks m w) t)))
