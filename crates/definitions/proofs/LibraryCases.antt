-- Cases of requests that are written (R11.9), and of what is read back (R11.10), over the definitions, by evaluation.
-- Assumes nothing.
use Rattle.std.specs.Prelude.{Ok, Err}
use mathlib.Core.Path.{◌≡◌, refl}
use mathlib.Core.Bool.{true}
use mathlib.Core.List.{List, [], ◌∷◌, ◌++◌, map}
use Prim.Native.Nat.{ℕ}
use lib.ListN.{length, replicate, take}
use Rattle.definitions.specs.Fields.{has_bit, number_at, big_endian, run, past_field, offset_of, field_of, field_bytes, bytes_to}
use Rattle.definitions.specs.TicketRecords.{known_map, hops_fit, readable_as, origin_as, trail_of, read_ticket}
use Rattle.definitions.specs.Accounts.{row_of, no_accounts}
use Rattle.definitions.specs.Requests.{map_fits, path_of}
use Rattle.definitions.specs.RequestWriting.{RequestParts, request_parts, number_fits, numbers_fit, record_fits, writable, request_of, request_written, request_output}
use Rattle.definitions.specs.ReadBack.{padded_name, account_fields, ticket_fields}
use Rattle.definitions.specs.declared.error.Error.TheVariants.{KRB_ERR_RESPONSE_TOO_BIG, KRB_ERR_GENERIC}
use Rattle.definitions.proofs.RecordCases.{record-0, record-1, ticket-2, W1}
use Rattle.definitions.proofs.DecisionCases.{tech, web, store}
use Rattle.definitions.proofs.Cases.{W2, W3}

-- ---- Requests that are written
-- parts with no options
abbrev asking : ℕ → List ℕ → List ℕ → RequestParts
asking kind tgt user = request_parts kind 0 0 0 tgt [] user [] 0

-- kind 1 for a user, with a till and a mask
abbrev until : ℕ → ℕ → RequestParts
until till fields = request_parts 1 0 0 till [] [] web [] fields

-- W1 to W3, W3 with a needed bit in the mask too; till at 1000, and at 0; no user
abbrev good : List RequestParts
good =
    asking 1 [] web ∷ asking 3 record-0 tech ∷ request_parts 4 0x00020000 0 0 record-0 record-1 [] store 0
    ∷ request_parts 4 0x00020000 0 0 record-0 record-1 [] store 2 ∷ until 1000 8 ∷ until 0 8 ∷ asking 1 [] [] ∷ []

abbrev their-bytes : List (List ℕ)
their-bytes =
    W1 ∷ W2 ∷ W3 ∷ W3 ∷ (0x00 ∷ 0x49 ∷ 0x01 ∷ 0x00 ∷ 0x00 ∷ 0x03 ∷ 0xe8 ∷ 0x03 ∷ web) ∷ (0x00 ∷ 0x49 ∷ 0x01 ∷ 0x00 ∷ 0x00 ∷ 0x00 ∷ 0x00 ∷ 0x03 ∷ web)
    ∷ (0x00 ∷ 0x41 ∷ 0x01 ∷ 0x00 ∷ []) ∷ []

-- a till that does not stand; a service in kind 1; PAC options in kind 1; kinds 0, 5 and 257; a user of 256 bytes; a TGT without its last byte;
-- a TGT in kind 1; a mask above the map's bits
abbrev bad : List RequestParts
bad =
    until 1000 0 ∷ request_parts 1 0 0 0 [] [] web store 0 ∷ until 0 4 ∷ asking 0 [] web ∷ asking 5 [] web ∷ asking 257 [] web
    ∷ asking 1 [] (replicate 256 0x61) ∷ asking 3 (take 16 record-0) tech ∷ asking 1 record-0 web ∷ until 0 0x100 ∷ until 0 0x10008 ∷ []

pub record RequestsWritten : Type 0 where
  pub bytes : map request_of good ≡ their-bytes
  pub good-answers : map (λ p. request_written p 256) good ≡ map (λ xs. Ok (length xs)) their-bytes
  pub bad-answers : map (λ p. request_written p 0) bad ≡ replicate 11 (Err KRB_ERR_GENERIC)
  pub room : map (request_written (asking 1 [] web)) (6 ∷ 7 ∷ []) ≡ Err KRB_ERR_RESPONSE_TOO_BIG ∷ Ok 7 ∷ []
  pub long : map (request_written (asking 1 [] (replicate 255 0x61))) (256 ∷ 258 ∷ 259 ∷ []) ≡ Err KRB_ERR_RESPONSE_TOO_BIG ∷ Err KRB_ERR_RESPONSE_TOO_BIG ∷ Ok 259 ∷ []
  pub behind : request_output (asking 1 [] web) (replicate 9 0xee) ≡ W1 ++ (0xee ∷ 0xee ∷ [])
  pub untouched : request_output (asking 1 [] web) (replicate 6 0xee) ≡ replicate 6 0xee

pub requests-written : RequestsWritten
unfolding has_bit number_at big_endian run past_field offset_of field_of field_bytes bytes_to known_map hops_fit readable_as origin_as trail_of read_ticket map_fits path_of number_fits numbers_fit record_fits writable request_of request_written request_output
requests-written =
    record {
      bytes = refl;
      good-answers = refl;
      bad-answers = refl;
      room = refl;
      long = refl;
      behind = refl;
      untouched = refl;
    }

-- ---- What is read back
pub record ReadBackCases : Type 0 where
  pub ticket : ticket_fields ticket-2 ≡ 2 ∷ 0x40000000 ∷ 0 ∷ 2 ∷ 1020 ∷ 37000 ∷ 0 ∷ 1 ∷ 1 ∷ 0 ∷ 4 ∷ 1 ∷ 0 ∷ 0 ∷ 0 ∷ 0 ∷ 0 ∷ 0 ∷ 0 ∷ []
  pub set : account_fields (record { name = web; account = record { known = true; flags = 0x5C; send = 4; receive = 0; lifetime = 36000 } }) ≡ 1 ∷ 12 ∷ 4 ∷ 0 ∷ 36000 ∷ 3 ∷ []
  pub never-set : account_fields (row_of no_accounts 3) ≡ 0 ∷ 1 ∷ 0 ∷ 0 ∷ 0 ∷ 0 ∷ []
  pub name : padded_name web ≡ web ++ replicate 21 0

pub read-back-cases : ReadBackCases
unfolding run padded_name
read-back-cases = record { ticket = refl; set = refl; never-set = refl; name = refl }
