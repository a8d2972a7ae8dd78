-- Laws of the cursor: what is found at it, and what is put there.
-- Assumes nothing.
use mathlib.Core.Path.{◌≡◌, refl, sym, ap, ◌∙◌}
use mathlib.Core.Bool.{Bool, true, false, ◌&&◌, cond}
use mathlib.Core.List.{List, [], ◌∷◌, ◌++◌}
use Prim.Native.Nat.{ℕ, zero, suc, ◌+◌, ◌-◌, ◌*◌, ◌/◌, ◌%◌, ◌^◌, ◌≤◌, ◌<◌}
use native.Mathlib.Nat.{add-zero, add_assoc, zero-add, mul-le-mul, one-le-pow, zero-lt-suc}
use native.Mathlib.Omega.{arith}
use lib.ListN.{length, get_or, take, drop, drop_of_length-le, length-append, set, get_or-eq_default}
use lib.Seq.{take-suc, sets, sets-eq, length-take-le}
use lib.Dec.{leb, eqb}
use borrow.Author.Tests.{le-leb, leb-true, eq-eqb, ne_eqb}
use Rattle.definitions.specs.Limits.{longest_record, byte_bits}
use Rattle.definitions.specs.Fields.{Bytes, has_bit, number_at, big_endian, Layout, row, field_at, past_field, run, offset_of, end_of, field_of, Value, plain, value_at, field_bytes, bytes_to}
use Rattle.definitions.specs.declared.field.Field.{Field}
use Rattle.record.specs.Cursor.{all_small, cursor_most, field_size, Numbered, Taken, map_with, parts_fit, writable_map, Wrote}
use Rattle.definitions.proofs.Bools.{and_left, and_right, and_no, left-no}
use Rattle.definitions.proofs.Fields.{number-one, offset-mono, offset-next, past-there, past-absent, number-missing, length-big_endian, length_more}
use Rattle.definitions.proofs.TicketRecords.{readable-few, readable-length}
use Rattle.definitions.specs.TicketRecords.{ticket_layout, known_map, hops_of, hops_fit, readable_as, trail_of, all_zero, well_formed, map_of_ticket, record_as, record_of}
use Rattle.definitions.specs.Output.{written_of, output_of}
use Rattle.definitions.specs.RequestWriting.{written_to, output_to}
use Rattle.definitions.specs.declared.ticket.Ticket.{Ticket}
use Rattle.definitions.specs.declared.error.Error.TheVariants.{KRB_ERR_RESPONSE_TOO_BIG, KRB_ERR_GENERIC}
use Rattle.definitions.proofs.Output.{unwritable, too_short}
use Rattle.definitions.specs.Words.{pack_at}
use Rattle.definitions.proofs.Words.{pack-shift, pack-zero}
use Rattle.definitions.proofs.Lists.{sets-append, sets_last}
use lib.Bits.{bit_or, or_add_and, and_le_l}
use Rattle.definitions.specs.Requests.{request_layout, needed_bits, kind_of, path_of}
use Rattle.definitions.specs.declared.request.Kind.{Kind}
use Rattle.record.specs.Drafts.{size_of}
use Rattle.definitions.specs.RequestWriting.{RequestParts, map_of_parts, part_values, writable, request_of, request_written, request_output}
use Rattle.std.specs.Prelude.{Option, Some, None, Ok, Err}
use Rattle.std.specs.Bool.{then_some}
use Rattle.std.specs.Result.{result_ok}
use Rattle.definitions.proofs.Requests.{allowed-small, path_above, path_no_kind, kind_read}

-- ---- Taking
-- a number with a byte missing is taken as 0
pub number-none : (s : List ℕ) (i w : ℕ) → length s < i + w → Numbered s i w 0
unfolding number_at
number-none s i w h =
    record {
      whole = λ l. absurd (omega arith);
      single = by w h;
      counts = sym (number-missing s i w h);
      fits = one-le-pow w 256 (zero-lt-suc 255);
    }
  where
    by : (w : ℕ) → length s < i + w → w ≤ 1 → 0 ≡ number_at s i w
    by zero h l = refl
    by (suc zero) h l = sym (number-one s i ∙ get_or-eq_default s 0 (omega arith))
    by (suc (suc w)) h l = absurd (omega arith)

-- a whole one is taken as it is
pub number-whole : (s : List ℕ) (i w x : ℕ) → x ≡ number_at s i w → x < 256 ^ w → Numbered s i w x
number-whole s i w x e l = record { whole = λ h. e; single = λ h. e; counts = rw e; fits = l }

-- the bytes behind a head are few
pub units_few : (u x : ℕ) → u ≤ 4 → u * (x % 256) ≤ 1020
units_few u x h =
    let l : x % 256 ≤ 255 = omega arith in
    mul-le-mul {n₂ = 4} {m₂ = 255} h l

module _ (L : Layout) (s : List ℕ) (m k i : ℕ) (f : Field) (l : k < length L) (ef : field_at L k ≡ f)
    (ei : i ≡ offset_of L s m k) (li : i ≤ cursor_most k) where
  -- a field that stands, and one that does not
  pub taken-there : (x : ℕ) → f.head ≤ 4 → f.unit ≤ 4 → has_bit m k ≡ true → Numbered s i f.head x → Taken L s m k x (i + f.head + f.unit * (x % 256))
  unfolding field_of
  taken-there x hh hu h n =
      let next : offset_of L s m (k + 1) ≡ i + f.head + f.unit * (x % 256) = offset-next L s m k ∙ rw (sym ei) (past-there L s m k i h ∙ rw (ef, n.counts)) in
      record {
        value = λ w. n.whole (omega (arith, next, offset-mono L s m (k + 1) (length L) (omega arith))) ∙ rw (h, ef, ei);
        single = λ w. n.single (rw ef at w) ∙ rw (h, ef, ei);
        next = sym next;
        fits = rw ef n.fits;
        bounded = omega (arith, units_few f.unit x hu);
      }

  pub taken-absent : has_bit m k ≡ false → Taken L s m k 0 i
  unfolding field_of
  taken-absent h =
      record {
        value = λ w. rw h;
        single = λ w. rw h;
        next = sym (offset-next L s m k ∙ rw (sym ei) (past-absent L s m k i h));
        fits = one-le-pow (field_at L k).head 256 (zero-lt-suc 255);
        bounded = omega arith;
      }

-- so have the rows of a layout
pub small_at : (L : Layout) → all_small L ≡ true → (k : ℕ) → ((field_at L k).head ≤ 4) × ((field_at L k).unit ≤ 4)
small_at [] h k = (omega arith, omega arith)
small_at (f ∷ L) h zero =
    let a = and_left (leb f.head 4 && leb f.unit 4) (all_small L) h in
    (leb-true f.head 4 (and_left (leb f.head 4) (leb f.unit 4) a), leb-true f.unit 4 (and_right (leb f.head 4) (leb f.unit 4) a))
small_at (f ∷ L) h (suc k) = small_at L (and_right (leb f.head 4 && leb f.unit 4) (all_small L) h) k

-- ---- The trail of a record
-- a mark has no bytes
past-mark : (s : List ℕ) (m k i : ℕ) → field_at ticket_layout k ≡ row 0 0 → past_field ticket_layout s m k i ≡ i
unfolding past_field
past-mark s m k i e = rw e (by (has_bit m k) (number_at s i 0))
  where
    by : (p : Bool) (n : ℕ) → i + cond p (0 + 0 * (n % 256)) 0 ≡ i
    by true n = omega arith
    by false n = omega arith

-- a record ends where its trail does
trail-end : (s : List ℕ) (m : ℕ) → end_of ticket_layout s m ≡ offset_of ticket_layout s m 9
trail-end s m =
    offset-next ticket_layout s m 10 ∙ past-mark s m 10 _ refl ∙ offset-next ticket_layout s m 9 ∙ past-mark s m 9 _ refl

trail-place : (p : Bool) (x a n : ℕ) → n ≡ a + cond p (1 + 1 * (x % 256)) 0 → cond p x 0 ≤ 8
    → (0 < cond p x 0 → n - cond p x 0 ≡ a + 1) × (cond p x 0 ≤ n)
trail-place true x a n e f = (λ l. omega arith, omega arith)
trail-place false x a n e f = (λ l. absurd (omega arith), omega arith)

-- an empty trail is the same anywhere
trail-same : (s : List ℕ) (i j n : ℕ) → (0 < n → i ≡ j) → trail_of s i n ≡ trail_of s j n
unfolding trail_of run
trail-same s i j zero e = refl
trail-same s i j (suc n) e = ap (λ (k : ℕ). trail_of s k (suc n)) (e (zero-lt-suc n))

module _ (s : List ℕ) (m : ℕ) (r : readable_as s m ≡ true) where
  place : (0 < hops_of s m → length s - hops_of s m ≡ offset_of ticket_layout s m 8 + 1) × (hops_of s m ≤ length s)
  unfolding field_of offset_of past_field
  place =
      trail-place (has_bit m 8) (number_at s (offset_of ticket_layout s m 8) 1) (offset_of ticket_layout s m 8) (length s)
      (readable-length s m r ∙ trail-end s m) (readable-few s m r)

  pub trail_within : hops_of s m ≤ length s
  trail_within = place.1

  -- the accounts of the trail are the last bytes
  pub trail_last : trail_of s (length s - hops_of s m) (hops_of s m) ≡ trail_of s (offset_of ticket_layout s m 8 + 1) (hops_of s m)
  trail_last = trail-same s _ _ (hops_of s m) place.0

-- what the code tests of a record with a map of the eight makes it readable
module _ (s : List ℕ) (m h n : ℕ) (k : known_map m ≡ true) (e : h ≡ hops_of s m) (f : n ≡ end_of ticket_layout s m) where
  readable_by : (hops_fit m h && eqb (length s) n) ≡ readable_as s m
  unfolding readable_as
  readable_by = rw (k, e, f)

  pub readable_if : hops_fit m h ≡ true → length s ≡ n → readable_as s m ≡ true
  readable_if p q = sym readable_by ∙ rw (p, eq-eqb (length s) n q)

  pub trail-unfit : hops_fit m h ≡ false → readable_as s m ≡ false
  trail-unfit p = sym readable_by ∙ left-no _ _ p

  pub length-unfit : (length s ≡ n → ⊥) → readable_as s m ≡ false
  length-unfit p = sym readable_by ∙ and_no _ _ (ne_eqb (length s) n p)

-- ---- Putting
-- a big-endian number is stored from its last byte on
pub put_step : (l : List ℕ) (i j x : ℕ) → sets (set l (i + j) (x % 256)) i (big_endian j (x / 256)) ≡ sets l i (big_endian (suc j) x)
unfolding big_endian
put_step l i j x = sym (sets_last l i (big_endian j (x / 256)) (x % 256) ∙ rw length-big_endian)

pub copy_step : (l s : List ℕ) (i j : ℕ) → j < length s → set (sets l i (take j s)) (i + j) (get_or s j 0) ≡ sets l i (take (suc j) s)
copy_step l s i j h =
    let le : j ≤ length s = omega arith in
    sym (rw (take-suc s j 0 h, sets-append, length-take-le j s le))

-- what is put behind what was put
pub wrote_then : {o o₁ o₂ : List ℕ} {i a b : ℕ} {vs ws : List ℕ} → Wrote o i vs o₁ a → Wrote o₁ a ws o₂ b → Wrote o i (vs ++ ws) o₂ b
wrote_then {o} {i} {vs} {ws} p q =
    record {
      put = q.put ∙ rw (p.put, p.past) (sym (sets-append o i vs ws));
      past = q.past ∙ rw (p.past, length-append) (add_assoc i (length vs) (length ws));
    }

pub wrote_nothing : {o : List ℕ} {i : ℕ} → Wrote o i [] o i
wrote_nothing {i} = record { put = refl; past = sym (add-zero i) }

-- the field of a bit that stands, and of one that does not
pub field-there : (L : Layout) (m k : ℕ) (v : Value) {o o₁ : List ℕ} {i r : ℕ} → has_bit m k ≡ true
    → Wrote o i (big_endian (field_at L k).head v.number ++ v.counted) o₁ r → Wrote o i (field_bytes L m k v) o₁ r
unfolding field_bytes
field-there L m k v h p = rw h p

pub field-absent : (L : Layout) (m k : ℕ) (v : Value) {o : List ℕ} {i : ℕ} → has_bit m k ≡ false → Wrote o i (field_bytes L m k v) o i
unfolding field_bytes
field-absent L m k v h = rw h wrote_nothing

-- at most its head and what is behind it
pub size-most : (L : Layout) (m k n : ℕ) → field_size L m k n ≤ (field_at L k).head + n
size-most L m k n = by (has_bit m k) ((field_at L k).head + n)
  where
    by : (p : Bool) (x : ℕ) → cond p x 0 ≤ x
    by true x = omega arith
    by false x = omega arith

-- a mark has no bytes
pub wrote-mark : (vs : List Value) (m k : ℕ) {o o₁ : List ℕ} {i r : ℕ} → field_at ticket_layout k ≡ row 0 0 → value_at vs k ≡ plain 0
    → Wrote o i (bytes_to ticket_layout m vs k) o₁ r → Wrote o i (bytes_to ticket_layout m vs (suc k)) o₁ r
unfolding bytes_to field_bytes big_endian
wrote-mark vs m k {o} {o₁} {i} {r} e v p = rw (e, v) (by (has_bit m k))
  where
    by : (b : Bool) → Wrote o i (bytes_to ticket_layout m vs k ++ cond b [] []) o₁ r
    by true = wrote_then p wrote_nothing
    by false = wrote_then p wrote_nothing

-- all that a writer writes
pub wrote-all : (w : Bool) (n : ℕ) (xs o o₁ : List ℕ) (r : ℕ) → w ≡ true → n ≤ length o → length xs ≤ n → Wrote o 0 xs o₁ r
    → (Ok r ≡ written_to w n xs (length o)) × (o₁ ≡ output_to w n xs o)
wrote-all w n xs o o₁ r h l b p =
    let q : 0 + length xs ≤ length o = omega arith in (
      rw (h, le-leb n (length o) l) (ap Ok (p.past ∙ zero-add (length xs))),
      rw (h, le-leb n (length o) l) (p.put ∙ sets-eq xs o 0 q ∙ rw zero-add),
    )

-- the record
pub wrote-record : (t : Ticket) (o o₁ : List ℕ) (m r : ℕ) → m ≡ map_of_ticket t → well_formed t m ≡ true → longest_record ≤ length o
    → r ≤ longest_record → Wrote o 0 (record_as t m) o₁ r → (Ok r ≡ written_of t (length o)) × (o₁ ≡ output_of t o)
unfolding written_of output_of
wrote-record t o o₁ m r e h l b p =
    wrote-all _ longest_record (record_of t) o o₁ r (ap (well_formed t) (sym e) ∙ h) l (omega (arith, (rw e at p.past))) (rw e at p)

-- nothing stands behind the accounts of a trail where the word of its places has nothing there
pub behind-zero : (s : List ℕ) → Bytes s → (n h : ℕ) → length s ≡ n → h ≤ n → eqb (pack_at byte_bits s 0 n / 2 ^ (8 * h)) 0 ≡ all_zero (drop h s)
behind-zero s b n h e l =
    let f : h + (n - h) ≡ n = omega arith in
    ap (λ x. eqb x 0) (rw f at (pack-shift s b 0 h (n - h))) ∙ rw zero-add (pack-zero s h (n - h) (omega arith))

pub behind-none : (s : List ℕ) (h : ℕ) → length s ≤ h → true ≡ all_zero (drop h s)
unfolding all_zero
behind-none s h l = rw (drop_of_length-le s {i = h} l)

-- ---- What the code finds in one case only
pub some_told : {A : Type 0} (b : Bool) (x y : A) → Some x ≡ cond b (Some y) None → (b ≡ true) × (x ≡ y)
some_told true x y e = (refl, cc)
some_told false x y e = cc

pub none_told : {A : Type 0} (b : Bool) (y : A) → ◌≡◌ {A = Option A} None (cond b (Some y) None) → b ≡ false
none_told true y e = cc
none_told false y e = refl

-- ---- The map of a request that is written
-- a number that is no kind
pub map_no_kind : (k f : ℕ) → ◌≡◌ {A = Option Kind} None (result_ok (kind_of k)) → None ≡ map_with k f
unfolding map_with
map_no_kind k f e = rw (sym (path_no_kind k (bit_or (needed_bits k) f) (e ∙ kind_read k)))

-- a mask with bits above those of the fields
pub map_above : (k f : ℕ) → 255 < f → None ≡ map_with k f
unfolding map_with
map_above k f l =
    let e : None ≡ path_of k (bit_or (needed_bits k) f) =
    path_above k k _ refl (omega (arith, allowed-small k, or_add_and (needed_bits k) f, and_le_l (needed_bits k) f)) in
    rw (sym e)

-- the map that the code finds is that of writable parts
pub map-writable : (p : RequestParts) (m : ℕ) → Some m ≡ map_with p.kind p.fields → (fit : Bool) → fit ≡ parts_fit m p
    → then_some fit m ≡ writable_map p
unfolding map_with writable
map-writable p m e fit f =
    let found = some_told _ _ _ e in
    rw (f, found.0, found.1) (by (parts_fit (map_of_parts p) p))
  where
    by : (b : Bool) → then_some b (map_of_parts p) ≡ cond b (Some (map_of_parts p)) None
    by true = refl
    by false = refl

pub map-unwritable : (p : RequestParts) → ◌≡◌ {A = Option ℕ} None (map_with p.kind p.fields) → ◌≡◌ {A = Option ℕ} None (writable_map p)
unfolding map_with writable
map-unwritable p e = rw (none_told _ _ e)

-- as many bytes as the request has
pub request-length : (p : RequestParts) (m : ℕ) → m ≡ map_of_parts p → size_of m p ≡ length (request_of p)
unfolding bytes_to request_of
request-length p m e = rw e (sym (more 7 ∙ rw (more 6, more 5, more 4, more 3, more 2, more 1, more 0, length-big_endian 2 (map_of_parts p))))
  where
    more : (k : ℕ)
        → length (bytes_to request_layout (map_of_parts p) (part_values p) (suc k))
        ≡ length (bytes_to request_layout (map_of_parts p) (part_values p) k) + cond (has_bit (map_of_parts p) k) ((field_at request_layout k).head + length (value_at (part_values p) k).counted) 0
    more k = length_more request_layout (map_of_parts p) (part_values p) k

-- 60, 52, and the request
module _ (p : RequestParts) (o : List ℕ) where
  pub request-unwritable : writable p ≡ false → (Err KRB_ERR_GENERIC ≡ request_written p (length o)) × (o ≡ request_output p o)
  unfolding request_written request_output
  request-unwritable h = unwritable (writable p) (length (request_of p)) (request_of p) o h

  pub request-short : writable p ≡ true → length o < length (request_of p)
      → (Err KRB_ERR_RESPONSE_TOO_BIG ≡ request_written p (length o)) × (o ≡ request_output p o)
  unfolding request_written request_output
  request-short h l = too_short (writable p) (length (request_of p)) (request_of p) o h l

  pub request-wrote : (o₁ : List ℕ) (m r : ℕ) → writable p ≡ true → m ≡ map_of_parts p → length (request_of p) ≤ length o
      → Wrote o 0 (bytes_to request_layout m (part_values p) 8) o₁ r → (Ok r ≡ request_written p (length o)) × (o₁ ≡ request_output p o)
  unfolding request_written request_output request_of
  request-wrote o₁ m r h e l w = wrote-all (writable p) (length (request_of p)) (request_of p) o o₁ r h l (omega arith) (rw e at w)
