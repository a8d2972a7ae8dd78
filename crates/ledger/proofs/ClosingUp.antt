-- Laws of closing up: the numbers that wait for their word to be full, a number more, and places passed, kept and set free (R7.6).
-- Assumes nothing.
use mathlib.Core.Path.{◌≡◌, refl, sym, ap, ap₂, ◌∙◌}
use mathlib.Core.Bool.{Bool, true, false}
use mathlib.Core.List.{List, [], ◌∷◌, ◌++◌, append-nil}
use Prim.Native.Nat.{ℕ, zero, suc, ◌+◌, ◌-◌, ◌*◌, ◌/◌, ◌%◌, ◌^◌, ◌≤◌, ◌<◌}
use native.Mathlib.Nat.{zero-add, add-zero, mod-eq_of_lt, lt_of_le_of_lt, div-mul-le_self}
use native.Mathlib.Numerals.{add-one}
use native.Mathlib.Omega.{arith}
use Rattle.std.specs.Prelude.{Option, Some, None, MatchOption}
use lib.Dec.{eqb, ltb}
use lib.Pow.{shr-shr, shr_lt, high}
use lib.ListN.{length, get_or, set, replicate, length-append, length-replicate, replicate-append-replicate}
use lib.Seq.{get_or-set_same, get_or-set_other, set-get_or, set-set, set_out}
use borrow.Author.Tests.{eqb-true, eqb-false, ltb-true, ltb-false}
use Rattle.definitions.specs.Limits.{ticket_limit, count_word, number_bits, numbers_in_word, numbers_start, places_start, two16, two48}
use Rattle.definitions.specs.Words.{lane_of, set_lane, lane_at, put_lane, put_row}
use Rattle.definitions.specs.LedgerWords.{Place, place_start, place_at, put_place, ticket_on, ticket_at, count_held, tickets_of}
use Rattle.definitions.specs.Clearing.{stays, staying, gone_from, gone}
use Rattle.definitions.specs.ClearedWords.{places_from, held_places, free_place, put_places, closed_up, clear_tickets}
use Rattle.definitions.proofs.Words.{put_other, row-set, row-lane}
use Rattle.definitions.proofs.Clearing.{only-append}
use Rattle.definitions.proofs.ClearedWords.{put-append, places-length, places-more, places-again, staying-few, behind-kept, gone-places}
use Rattle.ledger.specs.ClosingUp.{lanes_over, open_word, settled, AllStay, AllGo, IsFirstGone, Closed}
use Rattle.ledger.specs.declared.closing.Closing.{Closing}

-- ---- A word of numbers with lanes of another's
-- none of them
over_none : (x numbers : ℕ) → numbers < 2 ^ 64 → lanes_over x numbers 0 ≡ x
unfolding lanes_over
over_none x numbers h = omega arith

-- all of them
over-all : (x numbers : ℕ) → x < 2 ^ 64 → lanes_over x numbers 4 ≡ numbers
unfolding lanes_over
over-all x numbers h = omega arith

-- the numbers with one more on top
abbrev pub pushed : ℕ → ℕ → ℕ
pushed numbers number = numbers / two16 + two48 * number

-- one of them more
over-more : (x numbers number n : ℕ) → numbers < 2 ^ 64 → number < two16 → n < 4
    → set_lane number_bits (lanes_over x numbers n) n number ≡ lanes_over x (pushed numbers number) (suc n)
unfolding lanes_over set_lane lane_of
over-more x numbers number zero h l r = omega arith
over-more x numbers number (suc zero) h l r = omega arith
over-more x numbers number (suc (suc zero)) h l r = omega arith
over-more x numbers number (suc (suc (suc zero))) h l r = omega arith
over-more x numbers number (suc (suc (suc (suc n)))) h l r = absurd (omega arith)

-- the lanes behind them are the word's
over-lane : (x numbers n k : ℕ) → numbers < 2 ^ 64 → n ≤ k → k < 4 → lane_of number_bits (lanes_over x numbers n) k ≡ lane_of number_bits x k
unfolding lanes_over lane_of
over-lane x numbers n k h m l =
    let a = 16 * n in
    let b = 16 * (k - n) in
    let e : 16 * k ≡ a + b = omega arith in
    let f : a + 16 * (4 - n) ≡ 64 = omega arith in
    let small : numbers / 2 ^ (16 * (4 - n)) < 2 ^ a = shr_lt a (16 * (4 - n)) (rw f h) in
    rw (e, ← shr-shr (x / 2 ^ a * 2 ^ a + numbers / 2 ^ (16 * (4 - n))) a b, ← shr-shr x a b, high (x / 2 ^ a) a small)

-- as shifts of words of 64 bits make it
pub over-shifted : (x numbers n : ℕ) → x < 2 ^ 64
    → x / 2 ^ (number_bits * n) * 2 ^ (number_bits * n) % 2 ^ 64 + numbers / 2 ^ (number_bits * (numbers_in_word - n)) ≡ lanes_over x numbers n
unfolding lanes_over
over-shifted x numbers n h =
    let m = 2 ^ (16 * n) in
    let e : x / m * m % 2 ^ 64 ≡ x / m * m = mod-eq_of_lt (lt_of_le_of_lt (div-mul-le_self x m) h) in
    rw e

-- ---- A word set, whether or not the words have it
-- set again, by what was set
set-again : (v : List ℕ) (j x : ℕ) (f : ℕ → ℕ) → set (set v j x) j (f (get_or (set v j x) j 0)) ≡ set v j (f x)
set-again v j x f = by (ltb j (length v)) refl
  where
    by : (t : Bool) → ltb j (length v) ≡ t → set (set v j x) j (f (get_or (set v j x) j 0)) ≡ set v j (f x)
    by true e = rw (get_or-set_same v j x 0 (ltb-true _ _ e)) (set-set v j x (f x))
    by false e =
        let o : length v ≤ j = ltb-false _ _ e in
        rw (set_out v j x o, set_out v j (f (get_or v j 0)) o, set_out v j (f x) o)

-- read again, where what was set tells the same
get-again : (v : List ℕ) (j x : ℕ) (f : ℕ → ℕ) → f x ≡ f (get_or v j 0) → f (get_or (set v j x) j 0) ≡ f (get_or v j 0)
get-again v j x f h = by (ltb j (length v)) refl
  where
    by : (t : Bool) → ltb j (length v) ≡ t → f (get_or (set v j x) j 0) ≡ f (get_or v j 0)
    by true e = rw (get_or-set_same v j x 0 (ltb-true _ _ e)) h
    by false e = rw (set_out v j x (ltb-false _ _ e))

-- ---- The words with the numbers that wait
-- where a word is full, none wait
pub settled-full : (v : List ℕ) (closing : Closing) → closing.numbers < 2 ^ 64 → closing.kept % numbers_in_word ≡ 0 → settled v closing ≡ v
unfolding settled
settled-full v closing h e = rw (e, over_none (get_or v (open_word closing) 0) closing.numbers h) (set-get_or v (open_word closing) 0)

module _ (v : List ℕ) (closing : Closing) where
  -- a row, put before or after
  settled-row : (at : ℕ) (vs : List ℕ) → closing.kept < ticket_limit → places_start ≤ at → settled (put_row v at vs) closing ≡ put_row (settled v closing) at vs
  unfolding settled
  settled-row at vs h l =
      rw (put_other vs v at (open_word closing) (λ m. absurd (omega arith)))
      (sym (row-set vs v at (open_word closing) _ (λ m. absurd (omega arith))))

  module _ (h : closing.numbers < 2 ^ 64) where
    -- one number more
    settled-more : (number : ℕ) → number < two16
        → put_lane number_bits (settled v closing) numbers_start (closing.kept) number
        ≡ set v (open_word closing) (lanes_over (get_or v (open_word closing) 0) (pushed closing.numbers number) (suc (closing.kept % 4)))
    unfolding settled put_lane
    settled-more number b =
        let x = lanes_over (get_or v (open_word closing) 0) closing.numbers (closing.kept % 4) in
        set-again v (open_word closing) x (λ (y : ℕ). set_lane number_bits y (closing.kept % 4) number)
        ∙ ap (set v (open_word closing)) (over-more (get_or v (open_word closing) 0) closing.numbers number (closing.kept % 4) h b (omega arith))

    module _ (number : ℕ) (b : number < two16) (later : Closing) (k : later.kept ≡ closing.kept + 1) (m : later.numbers ≡ pushed closing.numbers number) where
      -- the word is not full
      pub pushed-on : (later.kept % numbers_in_word ≡ 0 → ⊥) → settled v later ≡ put_lane number_bits (settled v closing) numbers_start closing.kept number
      unfolding settled
      pushed-on d =
          let e : later.kept / 4 ≡ closing.kept / 4 = omega (arith, d) in
          let f : later.kept % 4 ≡ suc (closing.kept % 4) = omega (arith, d) in
          rw (e, f, m) (sym (settled-more number b))

      -- it is full, and is put
      pub pushed-full : later.kept % numbers_in_word ≡ 0 → get_or v (open_word closing) 0 < 2 ^ 64
          → settled (set v (open_word closing) (pushed closing.numbers number)) later ≡ put_lane number_bits (settled v closing) numbers_start closing.kept number
      pushed-full e x =
          let f : suc (closing.kept % 4) ≡ 4 = omega arith in
          let all : lanes_over (get_or v (open_word closing) 0) (pushed closing.numbers number) (suc (closing.kept % 4)) ≡ pushed closing.numbers number =
          rw f (over-all (get_or v (open_word closing) 0) (pushed closing.numbers number) x)
          in
          settled-full (set v (open_word closing) (pushed closing.numbers number)) later (omega arith) e
          ∙ ap (set v (open_word closing)) (sym all) ∙ sym (settled-more number b)

    -- the places behind those kept have what they had
    settled-number : (k : ℕ) → closing.kept ≤ k → lane_at number_bits (settled v closing) numbers_start k ≡ lane_at number_bits v numbers_start k
    unfolding settled lane_at
    settled-number k m = by (eqb (numbers_start + k / 4) (open_word closing)) refl
      where
        by : (t : Bool) → eqb (numbers_start + k / 4) (open_word closing) ≡ t → lane_at number_bits (settled v closing) numbers_start k ≡ lane_at number_bits v numbers_start k
        by true e =
            let q : numbers_start + k / 4 ≡ open_word closing = eqb-true _ _ e in
            rw q
            (get-again v (open_word closing) (lanes_over (get_or v (open_word closing) 0) closing.numbers (closing.kept % 4)) (λ (y : ℕ). lane_of number_bits y (k % 4))
            (over-lane (get_or v (open_word closing) 0) closing.numbers (closing.kept % 4) (k % 4) h (omega arith) (omega arith)))
        by false e = rw (get_or-set_other v (open_word closing) (numbers_start + k / 4) _ 0 (eqb-false _ _ e))

    settled-word : (k : ℕ) → k < ticket_limit → closing.kept ≤ k → (j : ℕ) → get_or (settled v closing) (place_start k + j) 0 ≡ get_or v (place_start k + j) 0
    unfolding settled
    settled-word k l m j = get_or-set_other v (open_word closing) (place_start k + j) _ 0 (λ e. omega arith)

    settled-place : (k : ℕ) → closing.kept ≤ k → k < ticket_limit → place_at (settled v closing) k ≡ place_at v k
    settled-place k m l i =
        record {
          number = settled-number k m i;
          row = settled-word k l m 0 i ∷ settled-word k l m 1 i ∷ settled-word k l m 2 i ∷ settled-word k l m 3 i ∷ [];
        }

-- a place more: its number, and its row
pub settled-put : (v after : List ℕ) (closing later : Closing) (content : Place) → closing.kept < ticket_limit
    → settled after later
    ≡ put_lane number_bits (settled (put_row v (place_start (closing.kept)) content.row) closing) numbers_start (closing.kept) content.number
    → settled after later ≡ put_place (settled v closing) (closing.kept) content
settled-put v after closing later content h e =
    e ∙ ap (λ (l : List ℕ). put_lane number_bits l numbers_start (closing.kept) content.number) (settled-row v closing (place_start (closing.kept)) content.row h (omega arith))
    ∙ sym (row-lane number_bits content.row (settled v closing) (place_start (closing.kept)) numbers_start (closing.kept) content.number (λ m. absurd (omega arith)))

-- behind the places that are put
put_last : (w : List ℕ) (cs : List Place) (c : Place) → put_places w 0 (cs ++ (c ∷ [])) ≡ put_place (put_places w 0 cs) (length cs) c
unfolding put_places
put_last w cs c = put-append w 0 cs (c ∷ []) ∙ rw zero-add

-- a word without its first lanes, and without one more
pub lanes_on : (x i from : ℕ) → from ≤ i → x / 2 ^ (number_bits * (i - from)) / two16 ≡ x / 2 ^ (number_bits * (i + 1 - from))
lanes_on x i from h =
    let e : 16 * (i + 1 - from) ≡ 16 * (i - from) + 16 = omega arith in
    rw e (shr-shr x (16 * (i - from)) 16)

-- ---- Places closed up
-- one place more, whose ticket stays or goes
staying-more : (w : List ℕ) (clock i : ℕ)
    → staying ticket_on clock (places_from w 0 (i + 1)) ≡ staying ticket_on clock (places_from w 0 i) ++ staying ticket_on clock (place_at w i ∷ [])
staying-more w clock i =
    rw (add-one, places-more w 0 i, zero-add) (only-append (λ e. stays clock (ticket_on e)) (places_from w 0 i) (place_at w i ∷ []))

-- places that all stay
staying-all : (w : List ℕ) (clock n : ℕ) → AllStay w clock n → staying ticket_on clock (places_from w 0 n) ≡ places_from w 0 n
unfolding ticket_at places_from
staying-all w clock zero h = refl
staying-all w clock (suc n) h =
    let e : staying ticket_on clock (places_from w 0 (suc n)) ≡ staying ticket_on clock (places_from w 0 n) ++ staying ticket_on clock (place_at w n ∷ []) =
    rw add-one at (staying-more w clock n)
    in
    e
    ∙ rw (
      h n (omega arith),
      staying-all w clock n (λ k l. h k (omega arith)),
      places-more w 0 n,
      zero-add,
    )

-- where all stay, the words are closed up as they are
pub closed-start : (w : List ℕ) (clock n : ℕ) → n % numbers_in_word ≡ 0 → AllStay w clock n → (closing : Closing) → closing.kept ≡ n → closing.numbers ≡ 0 → Closed w clock n w closing
closed-start w clock n e h closing k z =
    record {
      count = k ∙ sym (ap (λ (cs : List Place). length cs) (staying-all w clock n h) ∙ places-length w 0 n);
      words = settled-full w closing (omega arith) (omega arith) ∙ sym (ap (put_places w 0) (staying-all w clock n h) ∙ places-again w 0 n);
    }

-- a place more whose ticket goes
closed_on : (w : List ℕ) (clock i : ℕ) (v : List ℕ) (closing : Closing) → Closed w clock i v closing → stays clock (ticket_at w i) ≡ false
    → Closed w clock (i + 1) v closing
unfolding ticket_at
closed_on w clock i v closing c g =
    let e : staying ticket_on clock (places_from w 0 (i + 1)) ≡ staying ticket_on clock (places_from w 0 i) =
    staying-more w clock i ∙ rw g (append-nil (staying ticket_on clock (places_from w 0 i)))
    in
    record { count = rw e c.count; words = rw e c.words }

-- some more whose tickets all go
closed_some : (w : List ℕ) (clock i m : ℕ) (v : List ℕ) (closing : Closing) → Closed w clock i v closing → AllGo w clock i (i + m) → Closed w clock (i + m) v closing
closed_some w clock i zero v closing c h = rw add-zero c
closed_some w clock i (suc m) v closing c h =
    let e : i + suc m ≡ i + m + 1 = omega arith in
    rw e
    (closed_on w clock (i + m) v closing (closed_some w clock i m v closing c (λ k a b. h k a (omega arith))) (h (i + m) (omega arith) (omega arith)))

pub closed-past : (w : List ℕ) (clock i n : ℕ) (v : List ℕ) (closing : Closing) → i ≤ n → Closed w clock i v closing → AllGo w clock i n → Closed w clock n v closing
closed-past w clock i n v closing l c h =
    let e : i + (n - i) ≡ n = omega arith in
    rw e at (closed_some w clock i (n - i) v closing c (rw e h))

module _ (w : List ℕ) (clock i : ℕ) (v : List ℕ) (closing : Closing) (fits : closing.numbers < 2 ^ 64) (c : Closed w clock i v closing) where
  -- what the places to come have is there still
  closed-read : (k : ℕ) → i ≤ k → k < ticket_limit → place_at v k ≡ place_at w k
  closed-read k h l =
      sym (settled-place v closing fits k (omega (arith, c.count, staying-few w clock i)) l)
      ∙ ap (λ (u : List ℕ). place_at u k) c.words ∙ behind-kept w clock i k h l

  -- the numbers of the places to come, of those in one word
  pub closed-number : (k lane : ℕ) → lane < numbers_in_word → i ≤ numbers_in_word * k + lane → numbers_in_word * k + lane < ticket_limit
      → lane_of number_bits (get_or v (numbers_start + k) 0) lane ≡ (place_at w (numbers_in_word * k + lane)).number
  unfolding lane_at
  closed-number k lane b h l =
      let e : (4 * k + lane) / 4 ≡ k = omega arith in
      let f : (4 * k + lane) % 4 ≡ lane = omega arith in
      ap₂ (λ (j m : ℕ). lane_of number_bits (get_or v (numbers_start + j) 0) m) (sym e) (sym f) ∙ ap (λ (p : Place). p.number) (closed-read (4 * k + lane) h l)

  -- a place whose ticket goes
  pub closed-gone : i < ticket_limit → stays clock (ticket_at v i) ≡ false → Closed w clock (i + 1) v closing
  unfolding ticket_at
  closed-gone l g =
      closed_on w clock i v closing c (ap (λ (p : Place). stays clock (ticket_on p)) (sym (closed-read i (omega arith) l)) ∙ g)

  -- a place whose ticket stays
  pub closed-kept : i < ticket_limit → stays clock (ticket_at v i) ≡ true → (number : ℕ) → number ≡ (place_at w i).number → (after : List ℕ) (later : Closing)
      → later.kept ≡ closing.kept + 1
      → settled after later ≡ put_place (settled v closing) (closing.kept) (record { number = number; row = (place_at v i).row })
      → Closed w clock (i + 1) after later
  unfolding ticket_at
  closed-kept l g number n after later k e =
      let r = closed-read i (omega arith) l in
      let q : stays clock (ticket_on (place_at w i)) ≡ true = ap (λ (p : Place). stays clock (ticket_on p)) (sym r) ∙ g in
      let kept = staying ticket_on clock (places_from w 0 i) in
      let f : staying ticket_on clock (places_from w 0 (i + 1)) ≡ kept ++ (place_at w i ∷ []) = staying-more w clock i ∙ rw q in
      let m : closing.kept ≡ length kept = omega (arith, c.count) in
      let p : ◌≡◌ {A = Place} (record { number = number; row = (place_at v i).row }) (place_at w i) = λ j. record { number = n j; row = (r j).row } in
      record {
        count = rw f (k ∙ omega (arith, c.count, length-append kept (place_at w i ∷ [])));
        words =
            rw f
            (e ∙ ap (put_place (settled v closing) (closing.kept)) p
            ∙ ap₂ (λ (l : List ℕ) (at : ℕ). put_place l at (place_at w i)) c.words m ∙ sym (put_last w kept (place_at w i)));
      }

-- ---- The places set free behind those kept
-- some, and others behind them
pub free_on : (w v : List ℕ) (at next m n all : ℕ) → v ≡ put_places w at (replicate m free_place) → next ≡ at + m → all ≡ m + n
    → put_places v next (replicate n free_place) ≡ put_places w at (replicate all free_place)
free_on w v at next m n all e f g =
    let more = replicate n free_place in
    ap₂ (λ (l : List ℕ) (k : ℕ). put_places l k more) e (f ∙ ap (λ (k : ℕ). at + k) (sym (length-replicate m free_place)))
    ∙ sym (put-append w at (replicate m free_place) more) ∙ ap (put_places w at) (replicate-append-replicate m n free_place ∙ rw g)

-- one more
pub free_more : (w v : List ℕ) (at next m : ℕ) → v ≡ put_places w at (replicate m free_place) → next ≡ at + m
    → put_place v next free_place ≡ put_places w at (replicate (m + 1) free_place)
unfolding put_places
free_more w v at next m e f = free_on w v at next m 1 (m + 1) e f refl

-- ---- The words after a clearing
module _ (w : List ℕ) (clock : ℕ) where
  abbrev stayed : List Place
  stayed = staying ticket_on clock (held_places w)

  -- those that stay are closed up, and the others set free
  pub closed_all : (v : List ℕ) (closing : Closing) → Closed w clock (count_held w) v closing
      → put_places (settled v closing) (closing.kept) (replicate (count_held w - closing.kept) free_place) ≡ put_places w 0 (closed_up clock (held_places w))
  closed_all v closing c =
      let m : closing.kept ≡ length stayed = omega (arith, c.count) in
      rw (c.words, m)
      (ap (λ (n : ℕ). put_places (put_places w 0 stayed) (length stayed) (replicate (n - length stayed) free_place)) (sym (places-length w 0 (count_held w)))
      ∙ sym (put-append w 0 stayed (replicate (gone_from ticket_on clock (held_places w)) free_place) ∙ rw zero-add))

  -- as many go as do not stay
  pub gone-count : (kept : ℕ) → kept ≡ length stayed → count_held w - kept ≡ gone clock (tickets_of w)
  gone-count kept e = rw e (ap (λ (n : ℕ). n - length stayed) (sym (places-length w 0 (count_held w))) ∙ gone-places w clock)

  -- with the count put besides, that is the clearing
  pub clear-put : (v : List ℕ) (kept : ℕ) → v ≡ put_places w 0 (closed_up clock (held_places w)) → kept ≡ length stayed
      → set v count_word kept ≡ clear_tickets w clock
  unfolding clear_tickets
  clear-put v kept e f = ap₂ (λ (l : List ℕ) (n : ℕ). set l count_word n) e f

  -- where all stay, the count alone is put
  pub stayed-all : AllStay w clock (count_held w) → count_held w ≡ length stayed
  stayed-all all = sym (ap length (staying-all w clock (count_held w) all) ∙ places-length w 0 (count_held w))

  pub clear_none : AllStay w clock (count_held w) → set w count_word (count_held w) ≡ clear_tickets w clock
  clear_none all =
      let z : length (held_places w) - length (held_places w) ≡ 0 = omega arith in
      let e : put_places w 0 (closed_up clock (held_places w)) ≡ w =
      rw (staying-all w clock (count_held w) all, z, append-nil (held_places w)) (places-again w 0 (count_held w))
      in
      clear-put w (count_held w) (sym e) (stayed-all all)

-- places that all stay, and those behind them
stay-on : (w : List ℕ) (clock from n : ℕ) → AllStay w clock from → ((k : ℕ) → from ≤ k → k < n → stays clock (ticket_at w k) ≡ true) → AllStay w clock n
stay-on w clock from n all h k l = by (ltb k from) refl
  where
    by : (t : Bool) → ltb k from ≡ t → stays clock (ticket_at w k) ≡ true
    by true e = all k (ltb-true _ _ e)
    by false e = h k (ltb-false _ _ e) l

-- the first place that a search behind places that all stay finds
pub first-gone : (w : List ℕ) (clock from n : ℕ) (r : Option ℕ) → AllStay w clock from
    → MatchOption r ((k : ℕ) → from ≤ k → k < n → stays clock (ticket_at w k) ≡ true)
    (λ i. (from ≤ i) × (i < n) × (stays clock (ticket_at w i) ≡ false) × ((k : ℕ) → from ≤ k → k < i → stays clock (ticket_at w k) ≡ true))
    → IsFirstGone w clock n r
first-gone w clock from n None all h = stay-on w clock from n all h
first-gone w clock from n (Some i) all h = (h.1, stay-on w clock from i all h.3)

-- where there is none, all stay
pub none-gone : (w : List ℕ) (clock n : ℕ) (r : Option ℕ) → r ≡ None → IsFirstGone w clock n r → AllStay w clock n
none-gone w clock n None e h = h
none-gone w clock n (Some i) e h = absurd cc
