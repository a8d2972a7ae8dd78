-- Laws of the writer of requests: the reader gives back what it wrote, and it writes again what the reader took (R4.9).
-- Assumes nothing.
use Rattle.std.specs.Prelude.{Ok, Option, Some, None, Err, is_some, is_ok}
use mathlib.Core.Path.{◌≡◌, refl, sym, ap, ◌∙◌}
use mathlib.Core.Bool.{Bool, true, false, ◌&&◌, cond, false≢true}
use mathlib.Core.List.{List, [], ◌∷◌}
use Prim.Native.Nat.{ℕ, zero, suc, ◌+◌, ◌*◌, ◌^◌, ◌≤◌, ◌<◌}
use native.Mathlib.Nat.{one-le-pow, zero-lt-suc, zero-mul}
use native.Mathlib.Omega.{arith}
use lib.ListN.{length, take, drop}
use lib.Dec.{ltb, eqb}
use lib.Bits.{bit_and, bit_or, or_add_and}
use borrow.Author.Tests.{eqb-true, eqb-false, eq-eqb, ltb-true, lt-ltb}
use Rattle.definitions.specs.declared.request.Request.{Request}
use Rattle.definitions.proofs.Checks.{ok_same}
use Rattle.definitions.specs.declared.error.Error.TheVariants.{KRB_ERR_GENERIC}
use Rattle.definitions.specs.Limits.{two32}
use Rattle.definitions.specs.Fields.{Bytes, Layout, row, field_at, units_size, has_bit, number_at, run, map_of, offset_of, end_of, field_of, counted_of, Value, value_at, bytes_to}
use Rattle.definitions.specs.TicketRecords.{blank_ticket, read_ticket, record_of, ticket_or_blank}
use Rattle.definitions.specs.Requests.{request_layout, needed_bits, map_fits, kind_number, kind_path, path_of, span_of, part_of, embedded_of, whole_request, request_as, request_for, read_request}
use Rattle.definitions.specs.RequestWriting.{RequestParts, map_of_parts, counted, part_values, number_fits, numbers_fit, record_fits, writable, request_of, parts_read, with_map, PartsAreBytes}
use Rattle.definitions.specs.declared.request.Kind.{Kind}
use Rattle.definitions.specs.declared.request.Kind.TheVariants.{Initial, Direct, S4U2self, S4U2proxy}
use Rattle.definitions.proofs.Bools.{and_left, and_right}
use Rattle.definitions.proofs.Fields.{length_run, field_fits, run_take, bytes_take, values_in, value_read, bytes-written, Fit, AllFit, offset-back, field_back, counted_back, map_back, length_most}
use Rattle.definitions.proofs.RoundTrip.{also, kept-or-zero, plain_fits, written-again}
use Rattle.definitions.proofs.Requests.{allowed-small, fits-most, span-within, whole_length, bytes_drop, ticket-read}

-- ---- Kind and map
-- the kind of a number, and its number again
record KindOf (number : ℕ) : Type 0 where
  kind : Kind
  path : kind_path number ≡ Some kind
  back : kind_number kind ≡ number

kind-of : (k : ℕ) → is_some (kind_path k) ≡ true → KindOf k
kind-of zero h = absurd (false≢true h)
kind-of (suc zero) h = record { kind = Initial; path = refl; back = refl }
kind-of (suc (suc zero)) h = record { kind = Direct; path = refl; back = refl }
kind-of (suc (suc (suc zero))) h = record { kind = S4U2self; path = refl; back = refl }
kind-of (suc (suc (suc (suc zero)))) h = record { kind = S4U2proxy; path = refl; back = refl }
kind-of (suc (suc (suc (suc (suc k))))) h = absurd (false≢true h)

-- kind and map pick a path: the map is of the kind
record Decided (number map : ℕ) : Type 0 where
  fits : map_fits number map ≡ true
  kind : Kind
  path : path_of number map ≡ Some kind
  back : kind_number kind ≡ number

decided : (k m : ℕ) → is_some (path_of k m) ≡ true → Decided k m
unfolding path_of
decided k m h = by (map_fits k m) refl h
  where
    by : (q : Bool) → map_fits k m ≡ q → is_some (cond q (kind_path k) None) ≡ true → Decided k m
    by true e g =
        let d = kind-of k g in
        record { fits = e; kind = d.kind; path = rw e d.path; back = d.back }
    by false e g = absurd (false≢true g)

-- a map of a kind has what the kind needs already
needed-there : (k m : ℕ) → map_fits k m ≡ true → bit_or (needed_bits k) m ≡ m
unfolding map_fits
needed-there k m h =
    omega (arith, or_add_and (needed_bits k) m, eqb-true (bit_and (needed_bits k) m) (needed_bits k) (and_left (eqb (bit_and (needed_bits k) m) (needed_bits k)) _ h))

-- ---- What fits
-- what fits in the fields below a bit fits in each of them
fits_each : (L : Layout) (m : ℕ) (vs : List Value) (n : ℕ) → numbers_fit L m vs n ≡ true → (k : ℕ) → k < n → number_fits L m k (value_at vs k).number ≡ true
unfolding numbers_fit
fits_each L m vs zero h k l = absurd (omega arith)
fits_each L m vs (suc n) h k l = by (eqb k n) refl (fits_each L m vs n (and_left (numbers_fit L m vs n) _ h) k)
  where
    by : (q : Bool) → eqb k n ≡ q → (k < n → number_fits L m k (value_at vs k).number ≡ true) → number_fits L m k (value_at vs k).number ≡ true
    by true e r = rw (eqb-true k n e) (and_right (numbers_fit L m vs n) _ h)
    by false e r =
        let d = eqb-false k n e in
        r (omega arith)

each_fits : (L : Layout) (m : ℕ) (vs : List Value) (n : ℕ) → ((k : ℕ) → k < n → number_fits L m k (value_at vs k).number ≡ true) → numbers_fit L m vs n ≡ true
unfolding numbers_fit
each_fits L m vs zero f = refl
each_fits L m vs (suc n) f = rw (each_fits L m vs n (λ k l. f k (omega arith)), f n (omega arith))

-- there is room for what fits
fits-room : (L : Layout) (m k x : ℕ) → number_fits L m k x ≡ true → x < 256 ^ (field_at L k).head
unfolding number_fits
fits-room L m k x h = by (has_bit m k) h
  where
    by : (q : Bool) → cond q (ltb x (256 ^ (field_at L k).head)) (eqb x 0) ≡ true → x < 256 ^ (field_at L k).head
    by true g = ltb-true _ _ g
    by false g = rw (eqb-true x 0 g) (one-le-pow (field_at L k).head 256 (zero-lt-suc 255))

-- what fits is read again: where its bit does not stand it is 0
fits_kept : (L : Layout) (m k x : ℕ) → number_fits L m k x ≡ true → cond (has_bit m k) x 0 ≡ x
unfolding number_fits
fits_kept L m k x h = kept-or-zero (has_bit m k) _ x h

no_bytes : (xs : List ℕ) → length xs ≡ 0 → xs ≡ []
no_bytes [] h = refl
no_bytes (x ∷ xs) h = absurd (omega arith)

fits-bytes : (L : Layout) (m k : ℕ) (xs : List ℕ) → number_fits L m k (length xs) ≡ true → cond (has_bit m k) xs [] ≡ xs
unfolding number_fits
fits-bytes L m k xs h = by (has_bit m k) h
  where
    by : (q : Bool) → cond q (ltb (length xs) (256 ^ (field_at L k).head)) (eqb (length xs) 0) ≡ true → cond q xs [] ≡ xs
    by true g = refl
    by false g = sym (no_bytes xs (eqb-true (length xs) 0 g))

counted-fits : (xs : List ℕ) → Bytes xs → length xs < 256 ^ 1 → Fit (row 1 1) (counted xs)
counted-fits xs b h = record { number = h; counted = omega arith; are_bytes = b }

-- what a field of some bytes holds fits it
field_room : (L : Layout) (s : List ℕ) → Bytes s → (m k : ℕ) → number_fits L m k (field_of L s m k) ≡ true
unfolding number_fits field_of
field_room L s b m k = by (has_bit m k) (field_fits L s b m k)
  where
    by : (q : Bool) → cond q (number_at s (offset_of L s m k) (field_at L k).head) 0 < 256 ^ (field_at L k).head
        → cond q (ltb (cond q (number_at s (offset_of L s m k) (field_at L k).head) 0) (256 ^ (field_at L k).head)) (eqb (cond q (number_at s (offset_of L s m k) (field_at L k).head) 0) 0) ≡ true
    by true l = lt-ltb _ _ l
    by false l = refl

-- ---- Parts of a request
-- what lies where a field counts is what it counts
part-counted : (s : List ℕ) (m k : ℕ) → k < 8 → end_of request_layout s m ≤ length s → part_of s (span_of s m k) ≡ counted_of request_layout s m k
unfolding field_of run
part-counted s m k l h = by (has_bit m k) (span-within s m k l h)
  where
    by : (q : Bool)
        → cond q (offset_of request_layout s m k + (field_at request_layout k).head) 0
        + units_size (field_at request_layout k) (cond q (number_at s (offset_of request_layout s m k) (field_at request_layout k).head) 0) ≤ length s
        → take (units_size (field_at request_layout k) (cond q (number_at s (offset_of request_layout s m k) (field_at request_layout k).head) 0))
        (drop (cond q (offset_of request_layout s m k + (field_at request_layout k).head) 0) s)
        ≡ run s (offset_of request_layout s m k + (field_at request_layout k).head)
        (units_size (field_at request_layout k) (cond q (number_at s (offset_of request_layout s m k) (field_at request_layout k).head) 0))
    by true g = sym (run_take s _ _ g)
    by false g =
        let e : (field_at request_layout k).unit * 0 ≡ 0 = omega arith in
        rw e

-- the ticket of a field whose record is known
embedded-as : (s : List ℕ) (m k : ℕ) (xs : List ℕ) → part_of s (span_of s m k) ≡ xs → embedded_of s m k ≡ cond (has_bit m k) (read_ticket xs) (Ok blank_ticket)
unfolding embedded_of
embedded-as s m k xs e = rw e

-- it is a ticket exactly where the writer takes the record
ticket-fits : (s : List ℕ) (m k : ℕ) (xs : List ℕ) → part_of s (span_of s m k) ≡ xs → is_ok (embedded_of s m k) ≡ record_fits m k xs
unfolding record_fits
ticket-fits s m k xs e = rw (embedded-as s m k xs e) (by (has_bit m k))
  where
    by : (q : Bool) → is_ok (cond q (read_ticket xs) (Ok blank_ticket)) ≡ cond q (is_ok (read_ticket xs)) true
    by true = refl
    by false = refl

-- its record is what was read
record-again : (s : List ℕ) (m k : ℕ) (xs : List ℕ) → Bytes xs → part_of s (span_of s m k) ≡ xs → is_ok (embedded_of s m k) ≡ true
    → cond (has_bit m k) (record_of (ticket_or_blank (embedded_of s m k))) [] ≡ cond (has_bit m k) xs []
record-again s m k xs b e h = rw (embedded-as s m k xs e) (by (has_bit m k) (rw (embedded-as s m k xs e) at h))
  where
    by : (q : Bool) → is_ok (cond q (read_ticket xs) (Ok blank_ticket)) ≡ true
        → cond q (record_of (ticket_or_blank (cond q (read_ticket xs) (Ok blank_ticket)))) [] ≡ cond q xs []
    by true g = written-again xs b (ticket_or_blank (read_ticket xs)) (ticket-read (read_ticket xs) g)
    by false g = refl

-- ---- The reader gives back what was written
pub record ReadBack (parts : RequestParts) : Type 0 where
  pub request : Request
  pub taken : read_request (request_of parts) ≡ Ok request
  pub given : parts_read (request_of parts) request ≡ with_map parts

-- what makes parts writable
record Good (parts : RequestParts) : Type 0 where
  path : Decided parts.kind (map_of_parts parts)
  fits : (k : ℕ) → k < 8 → number_fits request_layout (map_of_parts parts) k (value_at (part_values parts) k).number ≡ true
  tgt : record_fits (map_of_parts parts) 4 parts.tgt ≡ true
  evidence : record_fits (map_of_parts parts) 5 parts.evidence ≡ true

good-parts : (p : RequestParts) → writable p ≡ true → Good p
unfolding writable
good-parts p w =
    let m = map_of_parts p in
    let d = is_some (path_of p.kind m) in
    let n = numbers_fit request_layout m (part_values p) (length request_layout) in
    let r = and_right d _ w in
    let t = and_right n _ r in
    record {
      path = decided p.kind m (and_left d _ w);
      fits = fits_each request_layout m (part_values p) (length request_layout) (and_left n _ r);
      tgt = and_left (record_fits m 4 p.tgt) _ t;
      evidence = and_right (record_fits m 4 p.tgt) _ t;
    }

-- as many bytes stand behind each length as a byte counts
pub lengths-few : (p : RequestParts) → writable p ≡ true
    → (length p.tgt < 256) × (length p.evidence < 256) × (length p.user < 256) × (length p.service < 256)
lengths-few p w = (few 4 (omega arith), few 5 (omega arith), few 6 (omega arith), few 7 (omega arith))
  where
    few : (k : ℕ) → k < 8 → (value_at (part_values p) k).number < 256 ^ (field_at request_layout k).head
    few k l = fits-room request_layout (map_of_parts p) k (value_at (part_values p) k).number ((good-parts p w).fits k l)

-- so a request is short
pub request-short : (p : RequestParts) → writable p ≡ true → length (request_of p) < two32
unfolding request_of
request-short p w =
    let few = lengths-few p w in
    omega (arith, length_most request_layout (map_of_parts p) (part_values p) (length request_layout), few.0, few.1, few.2, few.3)

values-fit : (p : RequestParts) → PartsAreBytes p → Good p → AllFit request_layout (part_values p)
values-fit p b g =
    also (plain_fits (room 0 (omega arith)))
    (also (plain_fits (room 1 (omega arith)))
    (also (plain_fits (room 2 (omega arith)))
    (also (plain_fits (room 3 (omega arith)))
    (also (counted-fits p.tgt b.tgt (room 4 (omega arith)))
    (also (counted-fits p.evidence b.evidence (room 5 (omega arith)))
    (also (counted-fits p.user b.user (room 6 (omega arith)))
    (also (counted-fits p.service b.service (room 7 (omega arith))) tt)))))))
  where
    room : (k : ℕ) → k < 8 → (value_at (part_values p) k).number < 256 ^ (field_at request_layout k).head
    room k l = fits-room request_layout (map_of_parts p) k (value_at (part_values p) k).number (g.fits k l)

module _ (p : RequestParts) (b : PartsAreBytes p) (g : Good p) where
  abbrev written : List ℕ
  written = bytes_to request_layout (map_of_parts p) (part_values p) (length request_layout)

  abbrev map : ℕ
  map = map_of_parts p

  map_read : map_of written ≡ map
  map_read =
      map_back request_layout map (part_values p) (values-fit p b g) (length request_layout)
      (omega (arith, fits-most p.kind map g.path.fits, allowed-small p.kind))

  number_read : (k : ℕ) → k < 8 → field_of request_layout written map k ≡ (value_at (part_values p) k).number
  number_read k l =
      field_back request_layout map (part_values p) (values-fit p b g) (length request_layout) k l
      ∙ fits_kept request_layout map k (value_at (part_values p) k).number (g.fits k l)

  end_read : end_of request_layout written map ≡ length written
  end_read = offset-back request_layout map (part_values p) (values-fit p b g) (length request_layout) (length request_layout) (omega arith)

  part-read : (k : ℕ) → k < 8 → (xs : List ℕ) → value_at (part_values p) k ≡ counted xs → part_of written (span_of written map k) ≡ xs
  part-read k l xs e =
      part-counted written map k l (omega (arith, end_read))
      ∙ counted_back request_layout map (part_values p) (values-fit p b g) (length request_layout) k l
      ∙ rw e (fits-bytes request_layout map k xs (rw e at (g.fits k l)))

  whole-read : whole_request written map ≡ true
  unfolding whole_request
  whole-read =
      rw (
        eq-eqb (length written) (end_of request_layout written map) (sym end_read),
        ticket-fits written map 4 p.tgt (part-read 4 (omega arith) p.tgt refl),
        ticket-fits written map 5 p.evidence (part-read 5 (omega arith) p.evidence refl),
        g.tgt,
        g.evidence,
      )

  reading : read_request written ≡ Ok (request_as written map g.path.kind)
  unfolding read_request request_for
  reading = rw (map_read, number_read 0 (omega arith), g.path.path, whole-read)

  record-read : (k : ℕ) → k < 8 → (xs : List ℕ) → Bytes xs → value_at (part_values p) k ≡ counted xs → record_fits map k xs ≡ true
      → cond (has_bit (map_of written) k) (record_of (ticket_or_blank (embedded_of written map k))) [] ≡ xs
  record-read k l xs c e r =
      rw map_read
      (record-again written map k xs c (part-read k l xs e) (ticket-fits written map k xs (part-read k l xs e) ∙ r)
      ∙ fits-bytes request_layout map k xs (rw e at (g.fits k l)))

  parts-read : parts_read written (request_as written map g.path.kind) ≡ with_map p
  parts-read =
      λ i.
      record {
        kind = g.path.back i;
        options = number_read 1 (omega arith) i;
        pac_options = number_read 2 (omega arith) i;
        till = number_read 3 (omega arith) i;
        tgt = record-read 4 (omega arith) p.tgt b.tgt refl g.tgt i;
        evidence = record-read 5 (omega arith) p.evidence b.evidence refl g.evidence i;
        user = part-read 6 (omega arith) p.user refl i;
        service = part-read 7 (omega arith) p.service refl i;
        fields = map_read i;
      }

-- R4.9: the reader takes what the writer wrote, and gives the same parts again
pub request-read : (p : RequestParts) → PartsAreBytes p → writable p ≡ true → ReadBack p
unfolding request_of
request-read p b w =
    let g = good-parts p w in
    record { request = _; taken = reading p b g; given = parts-read p b g }

-- ---- What the reader took is written again
-- how bytes that the reader takes are read
record Taken (s : List ℕ) : Type 0 where
  path : Decided (field_of request_layout s (map_of s) 0) (map_of s)
  whole : whole_request s (map_of s) ≡ true
  read : read_request s ≡ Ok (request_as s (map_of s) path.kind)

never-taken : (s : List ℕ) (r : Request) → Err KRB_ERR_GENERIC ≡ Ok r → Taken s
never-taken s r e =
    let z : ◌≡◌ {A = ℕ} 0 1 = cc in
    absurd (omega arith)

taken-along : (s : List ℕ) (r : Request) (p : Option Kind) → path_of (field_of request_layout s (map_of s) 0) (map_of s) ≡ p → request_for s (map_of s) p ≡ Ok r → Taken s
unfolding read_request request_for
taken-along s r None e h = never-taken s r h
taken-along s r (Some d) e h = by (whole_request s (map_of s)) refl h
  where
    path : Decided (field_of request_layout s (map_of s) 0) (map_of s)
    path = decided _ _ (ap is_some e)

    by : (q : Bool) → whole_request s (map_of s) ≡ q
        → cond q (Ok (request_as s (map_of s) d)) (Err KRB_ERR_GENERIC) ≡ Ok r → Taken s
    by true w g = record { path = path; whole = w; read = ap (request_for s (map_of s)) path.path ∙ rw w }
    by false w g = never-taken s r g

taken-by : (s : List ℕ) (r : Request) → read_request s ≡ Ok r → Taken s
unfolding read_request
taken-by s r h = taken-along s r _ refl h

module _ (s : List ℕ) (b : Bytes s) (t : Taken s) where
  abbrev read-map : ℕ
  read-map = map_of s

  abbrev parts : RequestParts
  parts = parts_read s (request_as s read-map t.path.kind)

  map-again : map_of_parts parts ≡ read-map
  map-again = rw t.path.back (needed-there _ read-map t.path.fits)

  -- the bytes that a field counts, as many as its head says
  part-again : (k : ℕ) → k < 8 → field_at request_layout k ≡ row 1 1 → length (counted_of request_layout s read-map k) ≡ field_of request_layout s read-map k
  part-again k l e =
      let f = rw e at (field_fits request_layout s b read-map k) in
      length_run s _ _ ∙ rw e (omega arith)

  end-again : end_of request_layout s read-map ≤ length s
  end-again = omega (arith, whole_length s read-map t.whole)

  both-tickets : (is_ok (embedded_of s read-map 4) && is_ok (embedded_of s read-map 5)) ≡ true
  unfolding whole_request
  both-tickets = and_right (eqb (length s) (end_of request_layout s read-map)) _ t.whole

  counted-read : (k : ℕ) → k < 8 → field_at request_layout k ≡ row 1 1 → counted (part_of s (span_of s read-map k)) ≡ record { number = field_of request_layout s read-map k; counted = counted_of request_layout s read-map k }
  counted-read k l e = rw (part-counted s read-map k l end-again, part-again k l e)

  part_bytes : (k : ℕ) → Bytes (part_of s (span_of s read-map k))
  part_bytes k = bytes_take (span_of s read-map k).len _ (bytes_drop s (span_of s read-map k).at b)

  length-read : (k : ℕ) → k < 8 → field_at request_layout k ≡ row 1 1 → length (part_of s (span_of s read-map k)) ≡ field_of request_layout s read-map k
  length-read k l e = ap length (part-counted s read-map k l end-again) ∙ part-again k l e

  -- the record of a ticket that was read
  ticket-again : (k : ℕ) → k < 8 → field_at request_layout k ≡ row 1 1 → is_ok (embedded_of s read-map k) ≡ true
      → cond (has_bit read-map k) (record_of (ticket_or_blank (embedded_of s read-map k))) [] ≡ part_of s (span_of s read-map k)
  ticket-again k l e h =
      record-again s read-map k (part_of s (span_of s read-map k)) (part_bytes k) refl h
      ∙ fits-bytes request_layout read-map k (part_of s (span_of s read-map k)) (rw (length-read k l e) (field_room request_layout s b read-map k))

  tgt-again : parts.tgt ≡ part_of s (span_of s read-map 4)
  tgt-again = ticket-again 4 (omega arith) refl (and_left (is_ok (embedded_of s read-map 4)) _ both-tickets)

  evidence-again : parts.evidence ≡ part_of s (span_of s read-map 5)
  evidence-again = ticket-again 5 (omega arith) refl (and_right (is_ok (embedded_of s read-map 4)) _ both-tickets)

  values-again : part_values parts ≡ values_in request_layout s read-map (length request_layout)
  unfolding run
  values-again =
      rw (
        t.path.back,
        tgt-again,
        evidence-again,
        counted-read 4 (omega arith) refl,
        counted-read 5 (omega arith) refl,
        counted-read 6 (omega arith) refl,
        counted-read 7 (omega arith) refl,
      )
      (simp zero-mul)

  bytes-again : bytes_to request_layout (map_of_parts parts) (part_values parts) (length request_layout) ≡ s
  bytes-again = rw (map-again, values-again) (bytes-written request_layout s b (length request_layout) (whole_length s read-map t.whole))

  numbers-again : numbers_fit request_layout read-map (values_in request_layout s read-map (length request_layout)) (length request_layout) ≡ true
  numbers-again =
      each_fits request_layout read-map _ (length request_layout)
      (λ k l. rw (value_read request_layout s read-map k (length request_layout) l) (field_room request_layout s b read-map k))

  writable-again : writable parts ≡ true
  unfolding writable
  writable-again =
      rw (
        map-again,
        values-again,
        numbers-again,
        tgt-again,
        evidence-again,
        ← ticket-fits s read-map 4 _ refl,
        ← ticket-fits s read-map 5 _ refl,
        both-tickets,
        t.path.back,
        t.path.path,
      )

-- R4.9: what the reader takes the writer makes again of the parts that it gives, byte for byte
pub record WrittenAgain (bytes : List ℕ) (parts : RequestParts) : Type 0 where
  pub writable : writable parts ≡ true
  pub same : request_of parts ≡ bytes

pub request-written : (s : List ℕ) → Bytes s → (r : Request) → read_request s ≡ Ok r → WrittenAgain s (parts_read s r)
unfolding request_of
request-written s b r h =
    let t = taken-by s r h in
    let e : request_as s (map_of s) t.path.kind ≡ r = ok_same (sym t.read ∙ h) in
    rw (← e) (record { writable = writable-again s b t; same = bytes-again s b t })
