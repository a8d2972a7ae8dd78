-- Laws of the look-up: many places at a time, and what a kind presents.
-- Assumes nothing.
use mathlib.Core.Path.{◌≡◌, refl, sym, ap, ◌∙◌}
use mathlib.Core.Bool.{Bool, true, false, cond}
use mathlib.Core.List.{List, ◌++◌}
use Prim.Native.Nat.{ℕ, zero, suc, ◌+◌, ◌-◌, ◌*◌, ◌/◌, ◌%◌, ◌≤◌, ◌<◌}
use native.Mathlib.Nat.{add-zero, zero-add}
use native.Mathlib.Omega.{arith}
use lib.Bits.{bit_and, bit_xor, and_le_l}
use lib.Dec.{ltb, leb}
use borrow.Author.Tests.{ltb-true, ltb-false, le-leb, leb-true}
use Rattle.definitions.specs.Limits.{longest_record, trail_limit, number_bits, two16, numbers_start, ticket_limit, last_number}
use Rattle.definitions.specs.Words.{lane_of, lane_at}
use Rattle.rules.specs.Lanes.{all_lanes, top_bits, filled_marks}
use Rattle.definitions.specs.LedgerWords.{ticket_in, ticket_at, count_held, tickets_from, tickets_of}
use Rattle.definitions.specs.HeldTickets.{first_ticket, is_ticket, holds}
use mathlib.Core.Option.{Option as Maybe, some as just, none as nothing}
use Rattle.std.specs.Prelude.{Option, Some, None, MatchOption, option_map, Ok}
use Rattle.ledger.specs.Lookups.{given, is_found, first_held, held_at, NoneHas, NoLane, NoneIn, FirstLane, moment_at}
use lib.ListN.{length, get_or, take, drop, length-append, length-drop, get_or-append}
use lib.Seq.{drop-append_seam}
use Rattle.std.specs.List.{sum_by, range_with_len}
use Rattle.std.proofs.lemmas.List.Sums.{sum_by-cons}
use Rattle.definitions.specs.Totals.{seconds_of, day_total}
use Rattle.std.proofs.lemmas.List.{get_or-take, get_or-drop, length-take, drop-drop}
use Rattle.std.proofs.lemmas.Nat.{mod-mul-add}
use Rattle.definitions.specs.declared.ticket.Ticket.{Ticket}
use Rattle.definitions.specs.declared.ticket.Origin.{Origin}
use Rattle.definitions.specs.declared.request.Kind.{Kind}
use Rattle.definitions.specs.declared.request.Request.{Request}
use Rattle.definitions.specs.TicketRecords.{blank_ticket, record_of}
use Rattle.definitions.proofs.LedgerWords.{tickets-length}
use Rattle.definitions.proofs.ReadBack.{ticket-listed, trail-places}
use mir.Syntax.{w32}
use Rattle.definitions.proofs.Services.{granting}
use Rattle.definitions.proofs.Bools.{and_no}
use Rattle.definitions.proofs.Decisions.{alike-kind}
use mir.Val.{Fits}
use Rattle.definitions.specs.Accounts.{Table}
use Rattle.definitions.specs.Decisions.{decide_kind}
use Rattle.rules.proofs.Lanes.{lanes-other}
use Rattle.definitions.proofs.LedgerWords.{tickets-start, first-here, first_on, first-end}
use Rattle.definitions.specs.Fields.{Bytes}
use Rattle.definitions.specs.Output.{written_of}
use Rattle.definitions.specs.Services.{Service, decision_of}
use Rattle.definitions.proofs.Services.{granting}
use Rattle.definitions.proofs.TicketRecords.{record-most}

-- marks that have all top bits after another word's had them before, and that word's have them
pub marks-more : (m x t : ℕ) → m ≤ t → bit_and m x ≡ t → (m ≡ t) × (bit_and t x ≡ t)
marks-more m x t h e =
    let q : m ≡ t = omega (arith, and_le_l m x) in
    (q, rw q at e)

-- a number in all lanes, as the code makes it
all_ones : (v : ℕ) → v * 0x0001000100010001 ≡ all_lanes number_bits 4 v
unfolding all_lanes
all_ones v = omega arith

marks-all : (v x : ℕ) → bit_and 0x8000800080008000 (filled_marks 15 4 (bit_xor x (v * 0x0001000100010001))) ≡ 0x8000800080008000
    → bit_and (top_bits 15 4) (filled_marks 15 4 (bit_xor x (all_lanes number_bits 4 v))) ≡ top_bits 15 4
unfolding all_lanes
marks-all v x e = rw (← all_ones v) e

-- none of the lanes of a word that has all marks
pub no-lane : (x v : ℕ) → v < two16 → bit_and 0x8000800080008000 (filled_marks 15 4 (bit_xor x (v * 0x0001000100010001))) ≡ 0x8000800080008000 → NoLane x v 4
no-lane x v b e j l q = lanes-other 15 4 x v j b l (marks-all v x e) q

-- the first lane that a search over all of them finds
pub first-lane : (x v : ℕ) (r : Option ℕ)
    → MatchOption r ((k : ℕ) → 0 ≤ k → k < 4 → lane_of number_bits x k ≡ v → ⊥) (λ k. (0 ≤ k) × (k < 4) × (lane_of number_bits x k ≡ v) × ((j : ℕ) → 0 ≤ j → j < k → lane_of number_bits x j ≡ v → ⊥))
    → FirstLane x v r
first-lane x v None h = λ k l. h k (omega arith) l
first-lane x v (Some k) h = (h.1, (λ j l. h.3 j (omega arith) l), h.2)

-- where it finds none, none has it
pub lane-none : (x v : ℕ) (r : Option ℕ) → r ≡ None → FirstLane x v r → NoLane x v 4
lane-none x v None e h = h
lane-none x v (Some k) e h = absurd cc

-- an entry of a part of a list
pub part-at : (xs : List ℕ) (a m j : ℕ) → j < length (take m (drop a xs)) → get_or (take m (drop a xs)) j 0 ≡ get_or xs (a + j) 0
part-at xs a m j h = get_or-take m (drop a xs) j 0 (omega (arith, length-take m (drop a xs))) ∙ get_or-drop a xs j 0

-- a block more that does not have the number
module _ (xs block rest : List ℕ) (v n : ℕ) (e : drop n xs ≡ block ++ rest) (l : n ≤ length xs) where
  pub block-long : n + length block ≤ length xs
  block-long = omega (arith, length-drop n xs, ap length e, length-append block rest)

  pub block-rest : rest ≡ drop (n + length block) xs
  block-rest = sym (drop-append_seam block rest) ∙ ap (drop (length block)) (sym e) ∙ drop-drop (length block) n xs

  pub block-none : NoneIn xs v n → NoneIn block v (length block) → NoneIn xs v (n + length block)
  block-none h b k i = by (ltb k n) refl
    where
      by : (q : Bool) → ltb k n ≡ q → NoLane (get_or xs k 0) v 4
      by true q = h k (ltb-true k n q)
      by false q =
          let g : n ≤ k = ltb-false k n q in
          let m : n + (k - n) ≡ k = omega arith in
          let f : get_or block (k - n) 0 ≡ get_or xs k 0 =
          sym (get_or-append block rest 0 (k - n) (omega arith)) ∙ ap (λ (ys : List ℕ). get_or ys (k - n) 0) (sym e) ∙ get_or-drop n xs (k - n) 0 ∙ rw m refl
          in
          rw f at (b (k - n) (omega arith))

-- the blocks of a list, where what is left is shorter than one
pub blocks-end : (all n size left : ℕ) → all ≡ n * size + left → left < size → all - all % size ≡ n * size
blocks-end all n size left e l =
    let m : all % size ≡ left = rw e (mod-mul-add n size left l) in
    rw m (omega arith)

-- the lane of a place
lane-of-four : (i : ℕ) → i % 4 < 4
lane-of-four i = omega arith

module _ (w : List ℕ) (number : ℕ) where
  -- so many places and so many more
  pub none_more : (a b c : ℕ) → NoneHas w number a b → NoneHas w number b c → NoneHas w number a c
  none_more a b c p q i h l = by (ltb i b) refl
    where
      by : (t : Bool) → ltb i b ≡ t → (ticket_at w i).number ≡ number → ⊥
      by true e = p i h (ltb-true i b e)
      by false e = q i (ltb-false i b e) l

  -- the places whose numbers stand in some words
  pub none_in : (xs : List ℕ) (k m : ℕ) → ((j : ℕ) → j < m → get_or xs j 0 ≡ get_or w (numbers_start + (k + j)) 0) → NoneIn xs number m → NoneHas w number (4 * k) (4 * (k + m))
  unfolding ticket_at ticket_in lane_at
  none_in xs k m same h i l u q =
      let e : k + (i / 4 - k) ≡ i / 4 = omega arith in
      let f : get_or xs (i / 4 - k) 0 ≡ get_or w (numbers_start + i / 4) 0 = rw e at (same (i / 4 - k) (omega arith)) in
      h (i / 4 - k) (omega arith) (i % 4) (lane-of-four i) (rw f q)

  -- the places of a word of numbers up to a lane
  pub none_before : (k lane : ℕ) → lane ≤ 4 → NoLane (get_or w (numbers_start + k) 0) number lane → NoneHas w number (4 * k) (4 * k + lane)
  unfolding ticket_at ticket_in lane_at
  none_before k lane m h i l u q =
      let e : i / 4 ≡ k = omega arith in
      h (i % 4) (omega arith) (rw e at q)

  -- the place of a lane
  pub lane-found : (k lane : ℕ) → lane < 4 → lane_of number_bits (get_or w (numbers_start + k) 0) lane ≡ number → (ticket_at w (4 * k + lane)).number ≡ number
  unfolding ticket_at ticket_in lane_at
  lane-found k lane l h =
      let d : (4 * k + lane) / 4 ≡ k = omega arith in
      let e : (4 * k + lane) % 4 ≡ lane = omega arith in
      rw (d, e) h

  -- places that have another number are passed
  none_passed : (d i n : ℕ) → i + d ≤ n → NoneHas w number i (i + d) → first_ticket number (tickets_from w i (n - i)) ≡ first_ticket number (tickets_from w (i + d) (n - (i + d)))
  none_passed zero i n l h = rw add-zero refl
  none_passed (suc d) i n l h =
      let e : i + suc d ≡ i + 1 + d = omega arith in
      first_on w i n number (omega arith) (h i (omega arith) (omega arith))
      ∙ rw e (none_passed d (i + 1) n (omega arith) (λ k p q. h k (omega arith) (omega arith)))

  -- none before a place past those held has the number
  pub first-none : (i : ℕ) → count_held w ≤ i → NoneHas w number 0 i → first_held (tickets_of w) number ≡ None
  unfolding first_held
  first-none i l h =
      let n = count_held w in
      ap (λ (ts : List Ticket). first_held ts number) (tickets-start w n refl)
      ∙ ap given (rw zero-add at (none_passed n 0 n (omega arith) (λ k p q. h k p (omega arith))) ∙ first-end w n n number (omega arith))

  -- a place has the number where none before it has
  pub first-at : (i : ℕ) → NoneHas w number 0 i → (ticket_at w i).number ≡ number → first_held (tickets_of w) number ≡ held_at w i
  unfolding held_at first_held
  first-at i h e = by (ltb i (count_held w)) refl
    where
      by : (t : Bool) → ltb i (count_held w) ≡ t → first_held (tickets_of w) number ≡ held_at w i
      by true q =
          let n = count_held w in
          let l : i < n = ltb-true i n q in
          rw q (ap (λ (ts : List Ticket). first_held ts number) (tickets-start w n refl)
          ∙ ap given (rw zero-add at (none_passed i 0 n (omega arith) (rw zero-add h)) ∙ first-here w i n number l e))
      by false q = rw q (first-none i (ltb-false i (count_held w) q) h)

-- ---- What a look-up tells
-- what the code's option tells
pub given-none : {A : Type 0} (o : Maybe A) → given o ≡ None → o ≡ nothing
given-none nothing q = refl
given-none (just x) q = absurd cc

pub given-some : {A : Type 0} (o : Maybe A) (x : A) → given o ≡ Some x → o ≡ just x
given-some nothing x q = absurd cc
given-some (just y) x q = let e : y ≡ x = cc in ap just e

-- the ticket at a place that holds one, and of a number that stands for one, by its origin alone
pub origin-none : (l : List Ticket) (n : ℕ) → option_map (λ (t : Ticket). t.origin) (first_held l n) ≡ None → first_ticket n l ≡ nothing
unfolding first_held
origin-none l n = by (first_ticket n l)
  where
    by : (o : Maybe Ticket) → option_map (λ (t : Ticket). t.origin) (given o) ≡ None → o ≡ nothing
    by nothing q = refl
    by (just t) q = cc

pub origin-some : (l : List Ticket) (n : ℕ) (origin : Origin) → option_map (λ (t : Ticket). t.origin) (first_held l n) ≡ Some origin
    → (t : Ticket) × (first_ticket n l ≡ just t) × (t.origin ≡ origin)
unfolding first_held
origin-some l n origin = by (first_ticket n l)
  where
    by : (o : Maybe Ticket) → option_map (λ (t : Ticket). t.origin) (given o) ≡ Some origin → (t : Ticket) × (o ≡ just t) × (t.origin ≡ origin)
    by nothing q = absurd cc
    by (just t) q = (t, refl, cc)

-- a ticket is held where the look-up finds it
pub held_found : (l : List Ticket) (t : Ticket) → holds l t ≡ is_found t (first_held l t.number)
unfolding holds first_held
held_found l t = by (first_ticket t.number l)
  where
    by : (o : Maybe Ticket) → is_ticket o t ≡ is_found t (given o)
    by nothing = refl
    by (just u) = refl

-- ---- A request on a decision path
-- at the code's moment the same is decided as at the stored next number
pub moment-decides : (clock count stored : ℕ) (k : Kind) (a : Table) (s : List ℕ) (r : Request) (g e : Bool)
    → decide_kind k a s r g e (moment_at clock count stored) ≡ decide_kind k a s r g e (record { clock = clock; count = count; next = stored })
unfolding moment_at
moment-decides clock count stored k a s r g e = by (leb stored last_number) refl
  where
    by : (b : Bool) → leb stored last_number ≡ b
        → decide_kind k a s r g e (record { clock = clock; count = cond b count ticket_limit; next = stored % two16 })
        ≡ decide_kind k a s r g e (record { clock = clock; count = count; next = stored })
    by true q =
        let same : stored % two16 ≡ stored = omega (arith, leb-true stored last_number q) in
        ap (λ (n : ℕ). decide_kind k a s r g e (record { clock = clock; count = count; next = n })) same
    by false q = alike-kind clock ticket_limit (stored % two16) count stored refl (and_no (ltb count ticket_limit) (leb stored last_number) q) k a s r g e

-- ---- The length of a grant's record is what the writer answers, and at most the longest
pub granted-length : (s : Service) (bytes : List ℕ) (clock room : ℕ) (t : Ticket) → Ok t ≡ decision_of s bytes clock room → Bytes bytes → Fits w32 clock
    → (written_of t room ≡ Ok (length (record_of t))) × (length (record_of t) ≤ longest_record)
unfolding written_of
granted-length s bytes clock room t e b f =
    let g = granting s bytes clock room t b f (sym e) in
    rw (g.writable.well_formed, le-leb longest_record room g.fits)
    (refl, record-most t g.writable.in_range.places)

-- ---- A place, and the list of those held
module _ (w : List ℕ) (i : ℕ) where
  pub held-listed : (t : Ticket) → held_at w i ≡ Some t → (ltb i (length (tickets_of w)) ≡ true) × (t ≡ get_or (tickets_of w) i blank_ticket) × (length t.trail ≡ trail_limit)
  unfolding held_at
  held-listed t = by (ltb i (count_held w)) refl
    where
      by : (q : Bool) → ltb i (count_held w) ≡ q → cond q (Some (ticket_at w i)) None ≡ Some t
          → (ltb i (length (tickets_of w)) ≡ true) × (t ≡ get_or (tickets_of w) i blank_ticket) × (length t.trail ≡ trail_limit)
      by true e g =
          let f : ticket_at w i ≡ t = cc in
          (ap (ltb i) (tickets-length w) ∙ e, sym (ticket-listed w i blank_ticket (ltb-true i (count_held w) e) ∙ f), rw f at (trail-places w i))
      by false e g = absurd cc

  pub none-listed : held_at w i ≡ None → ltb i (length (tickets_of w)) ≡ false
  unfolding held_at
  none-listed = by (ltb i (count_held w)) refl
    where
      by : (q : Bool) → ltb i (count_held w) ≡ q → cond q (Some (ticket_at w i)) None ≡ None → ltb i (length (tickets_of w)) ≡ false
      by true e g = absurd cc
      by false e g = ap (ltb i) (tickets-length w) ∙ e

-- ---- The day total, as a sum over the places
total-from : (w : List ℕ) (i n : ℕ) → sum_by (λ k. seconds_of (ticket_at w k).window) (range_with_len i n) ≡ day_total (tickets_from w i n)
unfolding tickets_from day_total
total-from w i zero = refl
total-from w i (suc n) =
    sum_by-cons (λ k. seconds_of (ticket_at w k).window) i (range_with_len (i + 1) n) ∙ ap (λ m. seconds_of (ticket_at w i).window + m) (total-from w (i + 1) n)

pub total-sum : (w : List ℕ) (n : ℕ) → n ≡ count_held w → sum_by (λ k. seconds_of (ticket_at w k).window) (range_with_len 0 n) ≡ day_total (tickets_of w)
total-sum w n e =
    let z : n - 0 ≡ n = omega arith in
    total-from w 0 n ∙ sym (rw z at (ap day_total (tickets-start w n e)))
