-- Laws of the ledger's words: the tickets they hold, a ticket read back from its four words, what storing a ticket leaves.
-- Assumes nothing.
use mathlib.Core.Path.{◌≡◌, refl, sym, ap, ◌∙◌}
use mathlib.Core.Bool.{Bool, true, false}
use mathlib.Core.Option.{some, none}
use mathlib.Core.List.{List, [], ◌∷◌, ◌++◌}
use Prim.Native.Nat.{ℕ, zero, suc, ◌+◌, ◌-◌, ◌*◌, ◌/◌, ◌%◌, ◌≤◌, ◌<◌}
use native.Mathlib.Nat.{add-zero, zero-add, min-eq_right}
use native.Mathlib.Numerals.{add-one}
use native.Mathlib.Omega.{arith}
use lib.Arith.{digits_div, digits_mod}
use lib.ListN.{length, get_or, set, length-set}
use lib.Seq.{get_or-set_same, get_or-set_other}
use lib.Dec.{eqb}
use Rattle.definitions.specs.Limits.{ledger_size, ticket_limit, place_size, two16, two32, two48, trail_limit, byte_bits, number_bits, count_word, next_word, numbers_start, window_word, back_word, trail_word, two4, two8, two40, two56, two60}
use Rattle.definitions.specs.TicketRecords.{InRange, tgt_of, evidence_of}
use Rattle.definitions.specs.declared.ticket.Origin.{Origin}
use Rattle.definitions.specs.declared.ticket.Origin.TheVariants.{Initial, Direct, S4U2self, Delegated}
use Rattle.definitions.specs.declared.ticket.Ticket.{Ticket}
use Rattle.definitions.specs.Words.{word_of_lane, lane_at, put_lane}
use Rattle.definitions.proofs.Words.{put-length, put_other, put-at, lane-length, lane_word, lane-put, lane-kept, lanes-packed}
use Rattle.definitions.specs.LedgerWords.{origin_in, ticket_in, ticket_at, count_held, tickets_from, tickets_of, tag_of, mark_of, ticket_words, store_ticket, no_ticket_words, next_number, place_start, place_word, put_ticket}
use borrow.Author.Tests.{eq-eqb, ne_eqb}
use Rattle.definitions.specs.HeldTickets.{first_ticket}

-- the tickets of n places
tickets-from-length : (w : List ℕ) (i n : ℕ) → length (tickets_from w i n) ≡ n
unfolding tickets_from
tickets-from-length w i zero = refl
tickets-from-length w i (suc n) = ap suc (tickets-from-length w (i + 1) n)

-- R7.1: a stored count above the places counts as all of them
pub count-above : (w : List ℕ) → ticket_limit ≤ get_or w 0 0 → count_held w ≡ ticket_limit
count-above w h = min-eq_right h

pub tickets-length : (w : List ℕ) → length (tickets_of w) ≡ count_held w
unfolding tickets_of
tickets-length w = tickets-from-length w 0 (count_held w)

-- those of the count's places, of which none is passed
pub tickets-start : (w : List ℕ) (n : ℕ) → n ≡ count_held w → tickets_of w ≡ tickets_from w 0 (n - 0)
unfolding tickets_of
tickets-start w n e =
    let f : n - 0 ≡ count_held w = omega arith in
    rw f

-- words that are all 0 hold no tickets
pub tickets-none : tickets_of no_ticket_words ≡ []
unfolding tickets_of tickets_from
tickets-none = refl

-- a field of a packed word: a, of less than k values, above low, which is below m
packed-field : (m k low a high w : ℕ) → low < m → a < k → w ≡ (high * k + a) * m + low → w / m % k ≡ a
packed-field m k low a high w l h e = rw e (ap (λ (q : ℕ). q % k) (digits_div (high * k + a) l) ∙ digits_mod high h)

tag_small : (o : Origin) → tag_of o < 4
tag_small Initial = omega arith
tag_small (Direct t) = omega arith
tag_small (S4U2self t) = omega arith
tag_small (Delegated t e) = omega arith

mark-small : (b : Bool) → mark_of b < 2
mark-small true = omega arith
mark-small false = omega arith

mark-back : (b : Bool) (x : ℕ) → x ≡ mark_of b → eqb x 1 ≡ b
mark-back true x e = rw e
mark-back false x e = rw e

-- the origin read back
origin-back : (o : Origin) (tag tgt evidence : ℕ) → tag ≡ tag_of o → tgt ≡ tgt_of o → evidence ≡ evidence_of o → origin_in tag tgt evidence ≡ o
unfolding origin_in
origin-back Initial tag tgt evidence p q r = simp p
origin-back (Direct t) tag tgt evidence p q r = simp (p, q)
origin-back (S4U2self t) tag tgt evidence p q r = simp (p, q)
origin-back (Delegated t e) tag tgt evidence p q r = simp (p, q, r)

-- the words of a ticket
module _ (t : Ticket) (f : InRange t) where
  abbrev first : ℕ
  first = get_or (ticket_words t) 0 0

  abbrev second : ℕ
  second = get_or (ticket_words t) 1 0

  abbrev third : ℕ
  third = get_or (ticket_words t) 2 0

  flags-back : first % two32 ≡ t.flags
  flags-back = omega arith

  client-back : first / two32 % two8 ≡ t.client
  client-back =
      packed-field two32 two8 t.flags t.client (t.service + two8 * t.hops + two16 * tag_of t.origin + 1048576 * mark_of t.barred) first (omega arith)
      (omega arith) (omega arith)

  service-back : first / two40 % two8 ≡ t.service
  service-back =
      packed-field two40 two8 (t.flags + two32 * t.client) t.service (t.hops + two8 * tag_of t.origin + 4096 * mark_of t.barred) first
      (omega arith) (omega arith) (omega arith)

  hops-back : first / two48 % two8 ≡ t.hops
  hops-back =
      packed-field two48 two8 (t.flags + two32 * t.client + two40 * t.service) t.hops (tag_of t.origin + two4 * mark_of t.barred) first
      (omega arith) (omega arith) (omega arith)

  tag_back : first / two56 % two4 ≡ tag_of t.origin
  tag_back =
      packed-field two56 two4 (t.flags + two32 * t.client + two40 * t.service + two48 * t.hops) (tag_of t.origin) (mark_of t.barred) first
      (omega arith) (omega (arith, tag_small t.origin)) (omega arith)

  mark-stored : first / two60 % two4 ≡ mark_of t.barred
  mark-stored =
      packed-field two60 two4 (t.flags + two32 * t.client + two40 * t.service + two48 * t.hops + two56 * tag_of t.origin) (mark_of t.barred) 0 first
      (omega (arith, tag_small t.origin)) (omega (arith, mark-small t.barred)) (omega arith)

  start_back : second % two32 ≡ t.window.start
  start_back = omega arith

  end_back : second / two32 % two32 ≡ t.window.end
  end_back = packed-field two32 two32 t.window.start t.window.end 0 second (omega arith) (omega arith) (omega arith)

  tgt-back : third / two32 % two16 ≡ tgt_of t.origin
  tgt-back = packed-field two32 two16 0 (tgt_of t.origin) (evidence_of t.origin) third (omega arith) (omega arith) (omega arith)

  evidence-back : third / two48 % two16 ≡ evidence_of t.origin
  evidence-back = packed-field two48 two16 (two32 * tgt_of t.origin) (evidence_of t.origin) 0 third (omega arith) (omega arith) (omega arith)

  -- a ticket read back from its number and its four words
  pub ticket-back : ticket_in t.number (get_or (ticket_words t) 0 0) (get_or (ticket_words t) 1 0) (get_or (ticket_words t) 2 0) (get_or (ticket_words t) 3 0) ≡ t
  unfolding ticket_in
  ticket-back i =
      record {
        number = t.number;
        flags = flags-back i;
        client = client-back i;
        service = service-back i;
        window = record { start = start_back i; end = end_back i };
        origin = origin-back t.origin (first / two56 % two4) (third / two32 % two16) (third / two48 % two16) tag_back tgt-back evidence-back i;
        trail = lanes-packed byte_bits t.trail (λ i. omega (arith, f.trail i)) 0 trail_limit (sym f.places) i;
        hops = hops-back i;
        barred = mark-back t.barred (first / two60 % two4) mark-stored i;
      }

-- storing a ticket keeps the number of words
put-ticket-length : (w : List ℕ) (i : ℕ) (t : Ticket) → length (put_ticket w i t) ≡ length w
put-ticket-length w i t =
    put-length (ticket_words t) (put_lane number_bits w numbers_start i t.number) (place_start i) ∙ lane-length number_bits w numbers_start i t.number

pub length-stored : (w : List ℕ) (t : Ticket) → length (store_ticket w t) ≡ length w
unfolding store_ticket
length-stored w t = simp length-set (put-ticket-length w (count_held w) t)

-- R5.10: the next number is one more
pub next-stored : (w : List ℕ) (t : Ticket) → length w ≡ ledger_size → next_number (store_ticket w t) ≡ next_number w + 1
unfolding store_ticket
next-stored w t l =
    let n = count_held w in
    get_or-set_same (set (put_ticket w n t) count_word (n + 1)) next_word (next_number w + 1) 0 (simp (length-set, put-ticket-length) (omega arith))

-- one place more
tickets-more : (w : List ℕ) (i n : ℕ) → tickets_from w i (suc n) ≡ tickets_from w i n ++ (ticket_at w (i + n) ∷ [])
unfolding tickets_from
tickets-more w i zero = rw add-zero
tickets-more w i (suc n) =
    let e : i + 1 + n ≡ i + suc n = omega arith in
    ap (λ (r : List Ticket). ticket_at w i ∷ r) (tickets-more w (i + 1) n ∙ rw e)

-- places that hold the same words hold the same tickets
tickets-same : (v w : List ℕ) (i n : ℕ) → ((k : ℕ) → k < i + n → ticket_at v k ≡ ticket_at w k) → tickets_from v i n ≡ tickets_from w i n
unfolding tickets_from
tickets-same v w i zero h = refl
tickets-same v w i (suc n) h = rw (h i (omega arith), tickets-same v w (i + 1) n (λ k l. h k (omega arith)))

-- what storing a ticket leaves and puts
module _ (w : List ℕ) (t : Ticket) (l : length w ≡ ledger_size) (h : count_held w < ticket_limit) where
  abbrev count : ℕ
  count = count_held w

  -- the words with the ticket and the count, before the next number is put
  abbrev counted : List ℕ
  counted = set (put_ticket w count t) count_word (count + 1)

  count-stored : count_held (store_ticket w t) ≡ count + 1
  unfolding store_ticket
  count-stored =
      let e : get_or (store_ticket w t) count_word 0 ≡ count + 1 =
      get_or-set_other counted next_word count_word (next_number w + 1) 0 (λ e. omega arith)
      ∙ get_or-set_same (put_ticket w count t) count_word (count + 1) 0 (rw (put-ticket-length w count t) (omega arith))
      in
      rw e (omega arith)

  -- behind the header only the ticket was put
  behind-header : (k : ℕ) → next_word < k → get_or (store_ticket w t) k 0 ≡ get_or (put_ticket w count t) k 0
  unfolding store_ticket
  behind-header k r =
      get_or-set_other counted next_word k (next_number w + 1) 0 (λ e. omega arith)
      ∙ get_or-set_other (put_ticket w count t) count_word k (count + 1) 0 (λ e. omega arith)

  -- the words of a place are those of the row that was put, or as they were
  word_after : (i k : ℕ) → get_or (store_ticket w t) (place_start i + k) 0 ≡ get_or (put_ticket w count t) (place_start i + k) 0
  word_after i k = behind-header (place_start i + k) (omega arith)

  word_kept : (i k : ℕ) → i < count → k < place_size → place_word (store_ticket w t) i k ≡ place_word w i k
  word_kept i k r m =
      word_after i k ∙ put_other (ticket_words t) (put_lane number_bits w numbers_start count t.number) (place_start count) (place_start i + k) (λ q. absurd (omega arith))
      ∙ lane_word number_bits w numbers_start count t.number (place_start i + k) (λ e. omega arith)

  word-stored : (k : ℕ) → k < place_size → place_word (store_ticket w t) count k ≡ get_or (ticket_words t) k 0
  word-stored k r =
      word_after count k
      ∙ put-at (ticket_words t) (put_lane number_bits w numbers_start count t.number) (place_start count) k r (rw lane-length (omega arith))

  -- the numbers are those of the lane that was put, or as they were
  number-after : (i : ℕ) → i < ticket_limit → lane_at number_bits (store_ticket w t) numbers_start i ≡ lane_at number_bits (put_lane number_bits w numbers_start count t.number) numbers_start i
  unfolding lane_at
  number-after i r =
      rw (
        behind-header (word_of_lane number_bits numbers_start i) (omega arith),
        put_other (ticket_words t) (put_lane number_bits w numbers_start count t.number) (place_start count) (word_of_lane number_bits numbers_start i) (λ q. absurd (omega arith)),
      )

  -- the places before stay
  ticket-kept : InRange t → (i : ℕ) → i < count → ticket_at (store_ticket w t) i ≡ ticket_at w i
  unfolding ticket_at
  ticket-kept f i r =
      rw (
        number-after i (omega arith),
        lane-kept number_bits w numbers_start count t.number (omega arith) (omega arith) i (λ e. omega arith),
        word_kept i 0 r (omega arith),
        word_kept i window_word r (omega arith),
        word_kept i back_word r (omega arith),
        word_kept i trail_word r (omega arith),
      )

  -- the place behind them holds the ticket
  ticket-stored : InRange t → ticket_at (store_ticket w t) count ≡ t
  unfolding ticket_at
  ticket-stored f =
      rw (
        number-after count h,
        lane-put number_bits w numbers_start count t.number (omega arith) (omega arith),
        word-stored 0 (omega arith),
        word-stored window_word (omega arith),
        word-stored back_word (omega arith),
        word-stored trail_word (omega arith),
      ) (ticket-back t f)

  -- the ledger with the ticket at its end
  pub tickets-stored : InRange t → tickets_of (store_ticket w t) ≡ tickets_of w ++ (t ∷ [])
  unfolding tickets_of
  tickets-stored f =
      rw (count-stored, add-one, tickets-more (store_ticket w t) 0 (count_held w), zero-add, ticket-stored f, tickets-same (store_ticket w t) w 0 (count_held w) (λ k r. ticket-kept f k (omega arith)))

module _ (w : List ℕ) (i n number : ℕ) where
  -- the place has the number
  pub first-here : i < n → (ticket_at w i).number ≡ number → first_ticket number (tickets_from w i (n - i)) ≡ some (ticket_at w i)
  unfolding tickets_from
  first-here h e =
      let s : n - i ≡ suc (n - (i + 1)) = omega arith in
      rw (s, eq-eqb (ticket_at w i).number number e)

  -- it has another
  pub first_on : i < n → ((ticket_at w i).number ≡ number → ⊥)
      → first_ticket number (tickets_from w i (n - i)) ≡ first_ticket number (tickets_from w (i + 1) (n - (i + 1)))
  unfolding tickets_from
  first_on h e =
      let s : n - i ≡ suc (n - (i + 1)) = omega arith in
      rw (s, ne_eqb (ticket_at w i).number number e)

  -- no place is left
  pub first-end : n ≤ i → first_ticket number (tickets_from w i (n - i)) ≡ none
  unfolding tickets_from
  first-end h =
      let s : n - i ≡ 0 = omega arith in
      rw s
