-- The writer of requests (R4.8): which parts a readable request has, and which bytes it is; and the parts of a request that was read (R4.9).
-- Offsets, bytes and length come from the layout that the reader goes by.
-- Assumes nothing.
use Rattle.std.specs.Prelude.{ℕ, zero, suc, ◌^◌, List, [], ◌∷◌, ◌++◌, Bool, true, ◌&&◌, cond, length, drop, ltb, leb, eqb, Result, Ok, Err, is_some, is_ok}
use Rattle.std.specs.Int.Bits.{bit_or}
use Rattle.definitions.specs.declared.error.Error.{Error}
use Rattle.definitions.specs.Fields.{Bytes, Layout, field_at, has_bit, map_of, Value, plain, value_at, bytes_to}
use Rattle.definitions.specs.TicketRecords.{read_ticket, record_of}
use Rattle.definitions.specs.Requests.{request_layout, needed_bits, kind_number, path_of, part_of}
use Rattle.definitions.specs.declared.request.Draft.{Draft}
use Rattle.definitions.specs.declared.request.Request.{Request}
use Rattle.definitions.specs.declared.error.Error.TheVariants.{KRB_ERR_RESPONSE_TOO_BIG, KRB_ERR_GENERIC}

-- what a writer answers to an output of so many bytes, of which it needs some: 60 where it has no bytes to write, then 52, else their length
abbrev pub written_to : Bool → ℕ → List ℕ → ℕ → Result ℕ Error
written_to writable needed bytes room =
    cond writable (cond (leb needed room) (Ok (length bytes)) (Err KRB_ERR_RESPONSE_TOO_BIG)) (Err KRB_ERR_GENERIC)

-- the output afterwards: the bytes at its start and every other byte as it was; untouched by a refusal
abbrev pub output_to : Bool → ℕ → List ℕ → List ℕ → List ℕ
output_to writable needed bytes output = cond (writable && leb needed (length output)) (bytes ++ drop (length bytes) output) output

-- R4.8: what a request is written from: three numbers, the records of two tickets, two names, and a mask of the optional fields that stand
pub record RequestParts : Type 0 where
  pub kind : ℕ
  pub options : ℕ
  pub pac_options : ℕ
  pub till : ℕ
  pub tgt : List ℕ
  pub evidence : List ℕ
  pub user : List ℕ
  pub service : List ℕ
  pub fields : ℕ

-- the parts, as the writer is given them
abbrev pub request_parts : ℕ → ℕ → ℕ → ℕ → List ℕ → List ℕ → List ℕ → List ℕ → ℕ → RequestParts
request_parts kind options pac_options till tgt evidence user service fields =
    record {
      kind = kind;
      options = options;
      pac_options = pac_options;
      till = till;
      tgt = tgt;
      evidence = evidence;
      user = user;
      service = service;
      fields = fields;
    }

-- the parts of a draft
abbrev pub drafted : Draft → RequestParts
drafted draft =
    request_parts draft.kind draft.options draft.pac_options draft.till draft.tgt.now draft.evidence.now draft.user.now draft.service.now draft.fields

-- R4.8: the map: the bits that the kind needs, together with the mask's
abbrev pub map_of_parts : RequestParts → ℕ
map_of_parts parts = bit_or (needed_bits parts.kind) parts.fields

-- bytes behind their length
abbrev pub counted : List ℕ → Value
counted bytes = record { number = length bytes; counted = bytes }

-- R4.1: what each field of the request holds
abbrev pub part_values : RequestParts → List Value
part_values parts =
    plain parts.kind
    ∷ plain parts.options
    ∷ plain parts.pac_options
    ∷ plain parts.till
    ∷ counted parts.tgt
    ∷ counted parts.evidence
    ∷ counted parts.user
    ∷ counted parts.service
    ∷ []

-- R4.8: a number, or a length, has room in the head of a field that stands; one that does not stand is given nothing
unfoldable pub number_fits : Layout → ℕ → ℕ → ℕ → Bool
number_fits layout map bit number = cond (has_bit map bit) (ltb number (256 ^ (field_at layout bit).head)) (eqb number 0)

-- so it is with each field below a bit
unfoldable pub numbers_fit : Layout → ℕ → List Value → ℕ → Bool
numbers_fit layout map values zero = true
numbers_fit layout map values (suc bit) = numbers_fit layout map values bit && number_fits layout map bit (value_at values bit).number

-- R4.8: the ticket reader takes the record of a field that stands
unfoldable pub record_fits : ℕ → ℕ → List ℕ → Bool
record_fits map bit bytes = cond (has_bit map bit) (is_ok (read_ticket bytes)) true

-- R4.8: some readable request has these parts: kind and map pick a path, what is given fits the fields, and the records are tickets'
unfoldable pub writable : RequestParts → Bool
writable parts =
    is_some (path_of parts.kind (map_of_parts parts))
    && (numbers_fit request_layout (map_of_parts parts) (part_values parts) (length request_layout)
    && (record_fits (map_of_parts parts) 4 parts.tgt && record_fits (map_of_parts parts) 5 parts.evidence))

-- R4.1: the request of these parts: the map, and the fields whose bit it has, in the order of the bits
unfoldable pub request_of : RequestParts → List ℕ
request_of parts = bytes_to request_layout (map_of_parts parts) (part_values parts) (length request_layout)

-- R4.8: what the writer answers to parts and an output of so many bytes: 60, then 52, else the request's length
unfoldable pub request_written : RequestParts → ℕ → Result ℕ Error
request_written parts room = written_to (writable parts) (length (request_of parts)) (request_of parts) room

-- R4.8: the output afterwards: the request at its start and every other byte as it was; untouched by a refusal
unfoldable pub request_output : RequestParts → List ℕ → List ℕ
request_output parts output = output_to (writable parts) (length (request_of parts)) (request_of parts) output

-- R4.9: the parts of a request that was read from some bytes, whose map says which fields stand
abbrev pub parts_read : List ℕ → Request → RequestParts
parts_read bytes request =
    record {
      kind = kind_number request.kind;
      options = request.options;
      pac_options = request.pac_options;
      till = request.till;
      tgt = cond (has_bit (map_of bytes) 4) (record_of request.tgt) [];
      evidence = cond (has_bit (map_of bytes) 5) (record_of request.evidence) [];
      user = part_of bytes request.user;
      service = part_of bytes request.service;
      fields = map_of bytes;
    }

-- the parts with the map as their mask: what the kind needs stands in any case
abbrev pub with_map : RequestParts → RequestParts
with_map parts =
    request_parts parts.kind parts.options parts.pac_options parts.till parts.tgt parts.evidence parts.user parts.service
    (map_of_parts parts)

-- records and names are bytes, as the writer is given them
pub record PartsAreBytes (parts : RequestParts) : Type 0 where
  pub tgt : Bytes parts.tgt
  pub evidence : Bytes parts.evidence
  pub user : Bytes parts.user
  pub service : Bytes parts.service
