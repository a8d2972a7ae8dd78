-- How the code goes through bytes: what a function finds at a cursor, or puts there, and where it leaves the cursor. No exported promise speaks
-- of it; it ties each step of the code to the definitions of records and requests (R3.1, R4.1).
-- Assumes nothing.
use Rattle.std.specs.Prelude.{ℕ, zero, suc, ◌+◌, ◌*◌, ◌%◌, ◌^◌, ◌≤◌, ◌<◌, ◌≡◌, List, [], ◌∷◌, Bool, true, ◌&&◌, cond, length, get_or, leb, Option, Some, None, is_some}
use Rattle.std.specs.Int.Bits.{bit_or}
use Rattle.std.proofs.lemmas.List.Edits.{sets}
use Rattle.definitions.specs.Limits.{trail_limit}
use Rattle.definitions.specs.Fields.{has_bit, number_at, Layout, field_at, units_size, offset_of, end_of, field_of}
use Rattle.definitions.specs.Requests.{request_layout, needed_bits, path_of, span_of}
use Rattle.definitions.specs.RequestWriting.{RequestParts, map_of_parts, part_values, numbers_fit, record_fits, writable}
use Rattle.definitions.specs.declared.request.Span.{Span}
use Rattle.record.specs.declared.request.Parts.{Parts}

-- no field is longer: four bytes, and 255 units of four
abbrev pub field_most : ℕ
field_most = 1024

-- as far as a cursor gets that has not yet taken the field of a bit
abbrev pub cursor_most : ℕ → ℕ
cursor_most bit = 2 + field_most * bit

-- the number found in so many bytes at a position; where one of them is missing it is 0, which has the same last byte
pub record Numbered (bytes : List ℕ) (at width found : ℕ) : Type 0 where
  pub whole : at + width ≤ length bytes → found ≡ number_at bytes at width
  pub single : width ≤ 1 → found ≡ number_at bytes at width
  pub counts : found % 256 ≡ number_at bytes at width % 256
  pub fits : found < 256 ^ width

-- the rows of a layout have few bytes
abbrev pub all_small : Layout → Bool
all_small [] = true
all_small (f ∷ L) = (leb f.head 4 && leb f.unit 4) && all_small L

-- what the field of a bit holds, if the record is whole or the field a single byte, and where the next one starts
pub record Taken (layout : Layout) (bytes : List ℕ) (map bit found past : ℕ) : Type 0 where
  pub value : end_of layout bytes map ≤ length bytes → found ≡ field_of layout bytes map bit
  pub single : (field_at layout bit).head ≤ 1 → found ≡ field_of layout bytes map bit
  pub next : past ≡ offset_of layout bytes map (bit + 1)
  pub fits : found < 256 ^ (field_at layout bit).head
  pub bounded : past ≤ cursor_most (bit + 1)

-- where the bytes lie that the field of a bit counts, if the record is whole, and where the next field starts
pub record Counted (layout : Layout) (bytes : List ℕ) (map bit : ℕ) (span : Span) (past : ℕ) : Type 0 where
  pub at : end_of layout bytes map ≤ length bytes → span.at ≡ cond (has_bit map bit) (offset_of layout bytes map bit + (field_at layout bit).head) 0
  pub len : end_of layout bytes map ≤ length bytes → span.len ≡ units_size (field_at layout bit) (field_of layout bytes map bit)
  pub next : past ≡ offset_of layout bytes map (bit + 1)
  pub bounded : past ≤ cursor_most (bit + 1)

-- the numbers and the parts of a request's bytes
abbrev pub parts_of : List ℕ → ℕ → Parts
parts_of bytes map =
    record {
      options = field_of request_layout bytes map 1;
      pac_options = field_of request_layout bytes map 2;
      till = field_of request_layout bytes map 3;
      tgt = span_of bytes map 4;
      evidence = span_of bytes map 5;
      user = span_of bytes map 6;
      service = span_of bytes map 7;
    }

-- as far as a cursor gets that has put the fields below a bit; no field counts more than a trail does
abbrev pub put_most : Layout → ℕ → ℕ
put_most layout zero = 2
put_most layout (suc bit) = put_most layout bit + (field_at layout bit).head + (field_at layout bit).unit * trail_limit

-- R4.8: the map of a kind with a mask, if kind and map pick a path
unfoldable pub map_with : ℕ → ℕ → Option ℕ
map_with kind fields = cond (is_some (path_of kind (bit_or (needed_bits kind) fields))) (Some (bit_or (needed_bits kind) fields)) None

-- R4.8: the parts fit the fields of a map
abbrev pub parts_fit : ℕ → RequestParts → Bool
parts_fit map parts =
    numbers_fit request_layout map (part_values parts) (length request_layout)
    && (record_fits map 4 parts.tgt && record_fits map 5 parts.evidence)

-- R4.8: the map of parts that a readable request has
abbrev pub writable_map : RequestParts → Option ℕ
writable_map parts = cond (writable parts) (Some (map_of_parts parts)) None

-- the bytes of a field that counts so many behind its head
abbrev pub field_size : Layout → ℕ → ℕ → ℕ → ℕ
field_size layout map bit many = cond (has_bit map bit) ((field_at layout bit).head + many) 0

-- the bytes of a request's map and of its fields below a bit, by what each of them counts
abbrev pub size_to : ℕ → List ℕ → ℕ → ℕ
size_to map counts zero = 2
size_to map counts (suc bit) = size_to map counts bit + field_size request_layout map bit (get_or counts bit 0)

-- bytes put from a position on turn the output before into the output after; the result is the position past them
pub record Wrote (before : List ℕ) (at : ℕ) (bytes : List ℕ) (after : List ℕ) (result : ℕ) : Type 0 where
  pub put : after ≡ sets before at bytes
  pub past : result ≡ at + length bytes
