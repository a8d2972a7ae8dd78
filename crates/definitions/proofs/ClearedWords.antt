-- Laws of the ledger's words after a clearing (R7.6): the words stay as many, the header stays but for the count, and the tickets held are those
-- that stay. Besides, laws of places put one after the other.
-- Assumes nothing.
use mathlib.Core.Path.{◌≡◌, refl, sym, ap, ◌∙◌}
use mathlib.Core.List.Memᴰ
use mathlib.Core.List.{List, [], ◌∷◌, ◌++◌, map, Memᴰ}
use mathlib.Core.Logic.{◌⊎◌, inl, inr}
use Prim.Native.Nat.{ℕ, zero, suc, ◌+◌, ◌≤◌, ◌<◌}
use native.Mathlib.Nat.{add-zero}
use native.Mathlib.Omega.{arith}
use lib.ListN.{length, get_or, set, replicate, length-set, length-replicate}
use lib.Seq.{get_or-set_same, get_or-set_other, set-get_or}
use Rattle.definitions.specs.Limits.{ledger_size, ticket_limit, place_size, two16, number_bits, count_word, numbers_start, places_start, window_word, back_word, trail_word}
use Rattle.definitions.specs.declared.ticket.Ticket.{Ticket}
use Rattle.definitions.specs.Words.{word_of_lane, lane_at, put_lane, put_row}
use Rattle.definitions.specs.LedgerWords.{Place, place_start, place_at, put_place, ticket_on, ticket_at, count_held, tickets_from, tickets_of}
use Rattle.definitions.specs.Clearing.{stays, only, staying, gone_from, gone}
use Rattle.definitions.specs.ClearedWords.{places_from, held_places, free_place, put_places, closed_up, clear_tickets}
use Rattle.definitions.proofs.Words.{put-length, put_other, put-at, lane-length, lane_word, lane-put, lane-other, lane-at-small, lane-again}
use Rattle.definitions.proofs.Clearing.{only-length, only-is, only-map, gone-map}

-- ---- Places put one after the other
length-put : (w : List ℕ) (p : ℕ) (cs : List Place) → length (put_places w p cs) ≡ length w
unfolding put_places
length-put w p [] = refl
length-put w p (c ∷ cs) =
    length-put (put_place w p c) (p + 1) cs ∙ put-length c.row (put_lane number_bits w numbers_start p c.number) (place_start p)
    ∙ lane-length number_bits w numbers_start p c.number

-- the header stays
header-put : (w : List ℕ) (p : ℕ) (cs : List Place) (k : ℕ) → k < numbers_start → get_or (put_places w p cs) k 0 ≡ get_or w k 0
unfolding put_places
header-put w p [] k h = refl
header-put w p (c ∷ cs) k h =
    header-put (put_place w p c) (p + 1) cs k h
    ∙ put_other c.row (put_lane number_bits w numbers_start p c.number) (place_start p) k (λ m. absurd (omega arith))
    ∙ lane_word number_bits w numbers_start p c.number k (λ e. omega arith)

-- some, and others behind them
pub put-append : (w : List ℕ) (p : ℕ) (cs ds : List Place) → put_places w p (cs ++ ds) ≡ put_places (put_places w p cs) (p + length cs) ds
unfolding put_places
put-append w p [] ds = rw add-zero
put-append w p (c ∷ cs) ds =
    let e : p + 1 + length cs ≡ p + suc (length cs) = omega arith in
    put-append (put_place w p c) (p + 1) cs ds ∙ rw e

-- ---- What stands at places
pub places-length : (w : List ℕ) (p n : ℕ) → length (places_from w p n) ≡ n
unfolding places_from
places-length w p zero = refl
places-length w p (suc n) = ap suc (places-length w (p + 1) n)

-- one place more
pub places-more : (w : List ℕ) (p n : ℕ) → places_from w p (suc n) ≡ places_from w p n ++ (place_at w (p + n) ∷ [])
unfolding places_from
places-more w p zero = ap (λ (q : ℕ). place_at w q ∷ []) (sym (add-zero p))
places-more w p (suc n) =
    let e : p + 1 + n ≡ p + suc n = omega arith in
    ap (λ (r : List Place). place_at w p ∷ r) (places-more w (p + 1) n ∙ rw e)

-- places that have the same
places_same : (v w : List ℕ) (p n : ℕ) → ((k : ℕ) → k < p + n → place_at v k ≡ place_at w k) → places_from v p n ≡ places_from w p n
unfolding places_from
places_same v w p zero h = refl
places_same v w p (suc n) h =
    ap (λ (r : List Place). place_at v p ∷ r) (places_same v w (p + 1) n (λ k l. h k (omega arith)))
    ∙ ap (λ (c : Place). c ∷ places_from w (p + 1) n) (h p (omega arith))

-- put again, it changes nothing
row-again : (w : List ℕ) (p : ℕ) → put_row w (place_start p) (place_at w p).row ≡ w
unfolding put_row
row-again w p =
    let a : place_start p + 0 ≡ place_start p = omega arith in
    let b : place_start p + 2 ≡ place_start p + 1 + 1 = omega arith in
    let c : place_start p + 3 ≡ place_start p + 1 + 1 + 1 = omega arith in
    rw (a, b, c, set-get_or w (place_start p) 0, set-get_or w (place_start p + 1) 0, set-get_or w (place_start p + 1 + 1) 0) (set-get_or w (place_start p + 1 + 1 + 1) 0)

place-again : (w : List ℕ) (p : ℕ) → put_place w p (place_at w p) ≡ w
place-again w p =
    ap (λ (l : List ℕ). put_row l (place_start p) (place_at w p).row) (lane-again number_bits w numbers_start p) ∙ row-again w p

pub places-again : (w : List ℕ) (p n : ℕ) → put_places w p (places_from w p n) ≡ w
unfolding places_from put_places
places-again w p zero = refl
places-again w p (suc n) =
    ap (λ (l : List ℕ). put_places l (p + 1) (places_from w (p + 1) n)) (place-again w p) ∙ places-again w (p + 1) n

-- ---- Places as words have them: a number of 16 bits, and four words
record Sound (c : Place) : Type 0 where
  pub small : c.number < two16
  pub four : c.row ≡ get_or c.row 0 0 ∷ get_or c.row window_word 0 ∷ get_or c.row back_word 0 ∷ get_or c.row trail_word 0 ∷ []

abbrev AllSound : List Place → Type 0
AllSound cs = (c : Place) → Memᴰ c cs → Sound c

sound-at : (w : List ℕ) (p : ℕ) → Sound (place_at w p)
sound-at w p = record { small = lane-at-small number_bits w numbers_start p; four = refl }

sound-cons : (d : Place) (cs : List Place) → Sound d → AllSound cs → AllSound (d ∷ cs)
sound-cons d cs s t c m = by (Memᴰ.cases_cons m)
  where
    by : (c ≡ d) ⊎ Memᴰ c cs → Sound c
    by (inl e) = rw e s
    by (inr i) = t c i

sound-from : (w : List ℕ) (p n : ℕ) → AllSound (places_from w p n)
unfolding places_from
sound-from w p zero = λ c m. absurd (Memᴰ.not-nil m)
sound-from w p (suc n) = sound-cons (place_at w p) (places_from w (p + 1) n) (sound-at w p) (sound-from w (p + 1) n)

sound-free : (n : ℕ) → AllSound (replicate n free_place)
sound-free zero = λ c m. absurd (Memᴰ.not-nil m)
sound-free (suc n) = sound-cons free_place (replicate n free_place) (record { small = omega arith; four = refl }) (sound-free n)

sound-staying : (w : List ℕ) (clock p n : ℕ) → AllSound (staying ticket_on clock (places_from w p n))
sound-staying w clock p n c m = sound-from w p n c (only-is (λ e. stays clock (ticket_on e)) (places_from w p n) c m).0

-- one place put
module _ (w : List ℕ) (p : ℕ) (c : Place) (s : Sound c) (room : p < ticket_limit) where
  abbrev numbered : List ℕ
  numbered = put_lane number_bits w numbers_start p c.number

  number-after : (k : ℕ) → k < ticket_limit → lane_at number_bits (put_place w p c) numbers_start k ≡ lane_at number_bits numbered numbers_start k
  unfolding lane_at
  number-after k l = rw (put_other c.row numbered (place_start p) (word_of_lane number_bits numbers_start k) (λ m. absurd (omega arith)))

  word_kept : (j : ℕ) → places_start ≤ j → (place_start p ≤ j → place_start p + place_size ≤ j) → get_or (put_place w p c) j 0 ≡ get_or w j 0
  word_kept j l h =
      put_other c.row numbered (place_start p) j (λ m. omega (arith, h m, ap length s.four))
      ∙ lane_word number_bits w numbers_start p c.number j (λ e. omega arith)

  word-put : length w ≡ ledger_size → (k : ℕ) → k < place_size → get_or (put_place w p c) (place_start p + k) 0 ≡ get_or c.row k 0
  word-put size k l =
      let e : length c.row ≡ 4 = ap length s.four in
      put-at c.row numbered (place_start p) k (omega arith) (rw lane-length (omega arith))

  -- every other place stays
  other-kept : (k : ℕ) → k < ticket_limit → (p ≤ k → p + 1 ≤ k) → place_at (put_place w p c) k ≡ place_at w k
  other-kept k l h i =
      record {
        number =
            (number-after k l
            ∙ lane-other number_bits w numbers_start p c.number s.small k (λ e. omega (arith, h (omega arith)))) i;
        row =
            word_kept (place_start k + 0) (omega arith) (λ m. omega (arith, h (omega arith))) i
            ∷ word_kept (place_start k + 1) (omega arith) (λ m. omega (arith, h (omega arith))) i
            ∷ word_kept (place_start k + 2) (omega arith) (λ m. omega (arith, h (omega arith))) i
            ∷ word_kept (place_start k + 3) (omega arith) (λ m. omega (arith, h (omega arith))) i ∷ [];
      }

  -- what was put stands there
  place-put : length w ≡ ledger_size → place_at (put_place w p c) p ≡ c
  place-put size =
      let r : (place_at (put_place w p c) p).row ≡ c.row =
      (λ i. word-put size 0 (omega arith) i ∷ word-put size 1 (omega arith) i ∷ word-put size 2 (omega arith) i ∷ word-put size 3 (omega arith) i ∷ []) ∙ sym s.four
      in
      λ i.
      record {
        number = (number-after p room ∙ lane-put number_bits w numbers_start p c.number s.small (omega arith)) i;
        row = r i;
      }

-- places that are not put stay
places-kept : (w : List ℕ) (p : ℕ) (cs : List Place) → AllSound cs → p + length cs ≤ ticket_limit
    → (k : ℕ) → k < ticket_limit → (p ≤ k → p + length cs ≤ k) → place_at (put_places w p cs) k ≡ place_at w k
unfolding put_places
places-kept w p [] s room k l h = refl
places-kept w p (c ∷ cs) s room k l h =
    let r : p < ticket_limit = omega arith in
    let sc = s c (Memᴰ.head refl) in
    places-kept (put_place w p c) (p + 1) cs (λ d m. s d (Memᴰ.tail m)) (omega arith) k l (λ m. omega (arith, h (omega arith)))
    ∙ other-kept w p c sc r k l (λ m. omega (arith, h m))

-- those that are put stand there
places-put : (w : List ℕ) (p : ℕ) (cs : List Place) → length w ≡ ledger_size → AllSound cs → p + length cs ≤ ticket_limit
    → places_from (put_places w p cs) p (length cs) ≡ cs
unfolding put_places places_from
places-put w p [] size s room = refl
places-put w p (c ∷ cs) size s room =
    let r : p < ticket_limit = omega arith in
    let sc = s c (Memᴰ.head refl) in
    let z : length (put_place w p c) ≡ ledger_size = length-put w p (c ∷ []) ∙ size in
    let t : AllSound cs = λ d m. s d (Memᴰ.tail m) in
    ap (λ (l : List Place). place_at (put_places (put_place w p c) (p + 1) cs) p ∷ l) (places-put (put_place w p c) (p + 1) cs z t (omega arith))
    ∙ ap (λ (d : Place). d ∷ cs) (places-kept (put_place w p c) (p + 1) cs t (omega arith) p r (λ m. absurd (omega arith)) ∙ place-put w p c sc r size)

module _ (w : List ℕ) (clock n : ℕ) where
  -- at most all stay
  pub staying-few : length (staying ticket_on clock (places_from w 0 n)) ≤ n
  staying-few = omega (arith, only-length (λ e. stays clock (ticket_on e)) (places_from w 0 n), places-length w 0 n)

  -- what stays of the first places, closed up, leaves the places behind those as they are
  pub behind-kept : (k : ℕ) → n ≤ k → k < ticket_limit
      → place_at (put_places w 0 (staying ticket_on clock (places_from w 0 n))) k ≡ place_at w k
  behind-kept k h l =
      places-kept w 0 (staying ticket_on clock (places_from w 0 n)) (sound-staying w clock 0 n) (omega (arith, staying-few)) k l
      (λ m. omega (arith, staying-few))

-- ---- The words after a clearing
pub length-cleared : (w : List ℕ) (clock : ℕ) → length (clear_tickets w clock) ≡ length w
unfolding clear_tickets
length-cleared w clock =
    length-set (put_places w 0 (closed_up clock (held_places w))) count_word _ ∙ length-put w 0 (closed_up clock (held_places w))

pub header-cleared : (w : List ℕ) (clock k : ℕ) → 0 < k → k < numbers_start → get_or (clear_tickets w clock) k 0 ≡ get_or w k 0
unfolding clear_tickets
header-cleared w clock k l h =
    get_or-set_other (put_places w 0 (closed_up clock (held_places w))) count_word k _ 0 (λ e. omega arith)
    ∙ header-put w 0 (closed_up clock (held_places w)) k h

tickets-from : (w : List ℕ) (p n : ℕ) → tickets_from w p n ≡ map ticket_on (places_from w p n)
unfolding tickets_from places_from ticket_at
tickets-from w p zero = refl
tickets-from w p (suc n) = ap (λ (r : List Ticket). ticket_at w p ∷ r) (tickets-from w (p + 1) n)

-- the tickets held are those of what stands at the places
pub tickets-places : (w : List ℕ) → tickets_of w ≡ map ticket_on (held_places w)
unfolding tickets_of
tickets-places w = tickets-from w 0 (count_held w)

-- as many places go as tickets
pub gone-places : (w : List ℕ) (clock : ℕ) → gone_from ticket_on clock (held_places w) ≡ gone clock (tickets_of w)
gone-places w clock = sym (ap (gone clock) (tickets-places w) ∙ gone-map ticket_on clock (held_places w))

module _ (w : List ℕ) (clock : ℕ) (size : length w ≡ ledger_size) where
  abbrev kept : List Place
  kept = staying ticket_on clock (held_places w)

  count-cleared : count_held (clear_tickets w clock) ≡ length kept
  unfolding clear_tickets
  count-cleared =
      let e : get_or (clear_tickets w clock) count_word 0 ≡ length kept =
      get_or-set_same (put_places w 0 (closed_up clock (held_places w))) count_word (length kept) 0
      (rw (length-put w 0 (closed_up clock (held_places w))) (omega arith))
      in
      rw e (omega (arith, staying-few w clock (count_held w)))

  -- the count lies outside of the places
  place-counted : (v : List ℕ) (n k : ℕ) → place_at (set v count_word n) k ≡ place_at v k
  unfolding lane_at
  place-counted v n k =
      rw (
        get_or-set_other v count_word (word_of_lane number_bits numbers_start k) n 0 (λ e. omega arith),
        get_or-set_other v count_word (place_start k + 0) n 0 (λ e. omega arith),
        get_or-set_other v count_word (place_start k + 1) n 0 (λ e. omega arith),
        get_or-set_other v count_word (place_start k + 2) n 0 (λ e. omega arith),
        get_or-set_other v count_word (place_start k + 3) n 0 (λ e. omega arith),
      )

  places-cleared : places_from (clear_tickets w clock) 0 (length kept) ≡ kept
  unfolding clear_tickets
  places-cleared =
      let few = staying-few w clock (count_held w) in
      let s = sound-staying w clock 0 (count_held w) in
      let gone = replicate (gone_from ticket_on clock (held_places w)) free_place in
      let n = length kept in
      places_same (clear_tickets w clock) (put_places w 0 kept) 0 n
      (λ k l.
      place-counted (put_places w 0 (kept ++ gone)) n k ∙ ap (λ (v : List ℕ). place_at v k) (put-append w 0 kept gone)
      ∙ places-kept (put_places w 0 kept) (0 + n) gone (sound-free (gone_from ticket_on clock (held_places w)))
      (omega (arith, length-replicate (gone_from ticket_on clock (held_places w)) free_place, places-length w 0 (count_held w))) k (omega arith) (λ m. absurd (omega arith)))
      ∙ places-put w 0 kept size s (omega arith)

  -- the tickets held are those that stay
  pub tickets-cleared : tickets_of (clear_tickets w clock) ≡ only (stays clock) (tickets_of w)
  tickets-cleared =
      tickets-places (clear_tickets w clock)
      ∙ ap (λ (n : ℕ). map ticket_on (places_from (clear_tickets w clock) 0 n)) count-cleared
      ∙ ap (map ticket_on) places-cleared
      ∙ sym (only-map (stays clock) ticket_on (held_places w))
      ∙ ap (only (stays clock)) (sym (tickets-places w))
