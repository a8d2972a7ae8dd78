-- Cases of the fields that records and requests are made of (R1.2, R3.1 to R3.3, R3.6, R4.1), over the definitions, by evaluation.
-- Assumes nothing.
use mathlib.Core.Path.{◌≡◌, refl}
use mathlib.Core.Bool.{true, false}
use mathlib.Core.List.{List, [], ◌∷◌, map}
use Rattle.definitions.specs.Fields.{field_at, plain, has_bit, number_at, big_endian, run, past_field, offset_of, field_of, field_bytes}
use Rattle.definitions.specs.TicketRecords.{ticket_layout, map_for, hops_fit, origin_as, trail_of, tgt_of, evidence_of, all_zero, service_fits}
use Rattle.definitions.specs.Requests.{request_layout, span_of}
use Rattle.definitions.specs.declared.ticket.Origin.{Origin}
use Rattle.definitions.specs.declared.ticket.Origin.TheVariants.{Initial, Direct, S4U2self, Delegated}
use Rattle.definitions.proofs.AccountCases.{span}

-- the four origins
abbrev origins : List Origin
origins = Initial ∷ Direct 1 ∷ S4U2self 2 ∷ Delegated 3 4 ∷ []

pub record FieldCases : Type 0 where
  -- R3.2, R4.1: the bytes of each field; a mark has none
  pub ticket-heads : map (λ k. (field_at ticket_layout k).head) (span 0 12) ≡ 2 ∷ 4 ∷ 1 ∷ 1 ∷ 4 ∷ 4 ∷ 2 ∷ 2 ∷ 1 ∷ 0 ∷ 0 ∷ 0 ∷ []
  pub ticket-units : map (λ k. (field_at ticket_layout k).unit) (span 0 12) ≡ 0 ∷ 0 ∷ 0 ∷ 0 ∷ 0 ∷ 0 ∷ 0 ∷ 0 ∷ 1 ∷ 0 ∷ 0 ∷ 0 ∷ []
  pub request-heads : map (λ k. (field_at request_layout k).head) (span 0 9) ≡ 1 ∷ 4 ∷ 4 ∷ 4 ∷ 1 ∷ 1 ∷ 1 ∷ 1 ∷ 0 ∷ []
  pub request-units : map (λ k. (field_at request_layout k).unit) (span 0 9) ≡ 0 ∷ 0 ∷ 0 ∷ 0 ∷ 1 ∷ 1 ∷ 1 ∷ 1 ∷ 0 ∷ []
  -- R1.2: numbers are big-endian, and a byte past the end is 0
  pub numbers : number_at (1 ∷ 2 ∷ 3 ∷ []) 1 2 ∷ number_at (1 ∷ 2 ∷ 3 ∷ []) 2 2 ∷ number_at [] 0 4 ∷ [] ≡ 0x0203 ∷ 0x0300 ∷ 0 ∷ []
  pub parts : run (1 ∷ 2 ∷ 3 ∷ []) 1 2 ∷ run (1 ∷ 2 ∷ 3 ∷ []) 2 3 ∷ [] ≡ (2 ∷ 3 ∷ []) ∷ (3 ∷ 0 ∷ 0 ∷ []) ∷ []
  pub to-bytes : big_endian 2 0x0102 ∷ big_endian 1 0x0102 ∷ big_endian 4 0x0102 ∷ [] ≡ (1 ∷ 2 ∷ []) ∷ (2 ∷ []) ∷ (0 ∷ 0 ∷ 1 ∷ 2 ∷ []) ∷ []
  pub bits : map (has_bit 0x8005) (0 ∷ 1 ∷ 2 ∷ 14 ∷ 15 ∷ 16 ∷ []) ≡ true ∷ false ∷ true ∷ false ∷ true ∷ false ∷ []
  -- R3.2: back numbers, 0 where an origin has none
  pub tgts-of : map tgt_of origins ≡ 0 ∷ 1 ∷ 2 ∷ 3 ∷ []
  pub evidence-of : map evidence_of origins ≡ 0 ∷ 0 ∷ 0 ∷ 4 ∷ []
  -- R3.3: the map of each origin without and with the mark, and the origin of each map
  pub maps-of : map (λ origin. map_for origin false) origins ≡ 0x0037 ∷ 0x007F ∷ 0x047F ∷ 0x01FF ∷ []
  pub marked-maps-of : map (λ origin. map_for origin true) origins ≡ 0x0237 ∷ 0x027F ∷ 0x067F ∷ 0x03FF ∷ []
  pub origins-of : map (λ m. origin_as m 5 6) (0x0037 ∷ 0x007F ∷ 0x047F ∷ 0x01FF ∷ 0x0237 ∷ 0x027F ∷ 0x067F ∷ 0x03FF ∷ [])
      ≡ Initial ∷ Direct 5 ∷ S4U2self 5 ∷ Delegated 5 6 ∷ Initial ∷ Direct 5 ∷ S4U2self 5 ∷ Delegated 5 6 ∷ []
  -- R3.1: where a field starts, and what it holds; a field whose bit does not stand has no bytes and holds 0
  pub starts : map (offset_of ticket_layout (0 ∷ 0 ∷ 3 ∷ []) 0x0105) (0 ∷ 1 ∷ 2 ∷ 3 ∷ 8 ∷ 9 ∷ []) ≡ 2 ∷ 4 ∷ 4 ∷ 5 ∷ 5 ∷ 6 ∷ []
  pub no-bytes-of-marks : map (offset_of ticket_layout (0 ∷ 0 ∷ 1 ∷ 9 ∷ 9 ∷ 9 ∷ []) 0x0700) (8 ∷ 9 ∷ 10 ∷ 11 ∷ []) ≡ 2 ∷ 4 ∷ 4 ∷ 4 ∷ []
  pub counted-starts : map (offset_of request_layout (0 ∷ 0 ∷ 3 ∷ 7 ∷ 7 ∷ 7 ∷ 2 ∷ 8 ∷ 8 ∷ []) 0x00C0) (6 ∷ 7 ∷ 8 ∷ []) ≡ 2 ∷ 6 ∷ 9 ∷ []
  pub holds : map (field_of ticket_layout (0 ∷ 0 ∷ 1 ∷ 2 ∷ 3 ∷ 4 ∷ 5 ∷ 6 ∷ 7 ∷ []) 0x000B) (0 ∷ 1 ∷ 2 ∷ 3 ∷ 4 ∷ []) ≡ 0x0102 ∷ 0x03040506 ∷ 0 ∷ 7 ∷ 0 ∷ []
  pub written : field_bytes ticket_layout 0x0001 0 (plain 0x0102) ∷ field_bytes ticket_layout 0x0001 1 (plain 0x0102) ∷ field_bytes ticket_layout 0x0002 1 (plain 0x0102) ∷ [] ≡ (1 ∷ 2 ∷ []) ∷ [] ∷ (0 ∷ 0 ∷ 1 ∷ 2 ∷ []) ∷ []
  pub spans : map (span_of (0 ∷ 0 ∷ 3 ∷ 7 ∷ 7 ∷ 7 ∷ 2 ∷ 8 ∷ 8 ∷ []) 0x00C0) (5 ∷ 6 ∷ 7 ∷ []) ≡ record { at = 0; len = 0 } ∷ record { at = 3; len = 3 } ∷ record { at = 7; len = 2 } ∷ []
  -- R3.2, R3.6: a trail of 1 to 8 where the map has one, none elsewhere; a service where the map has one, else 0
  pub hops-fit : map (hops_fit 0x0100) (0 ∷ 1 ∷ 8 ∷ 9 ∷ []) ≡ false ∷ true ∷ true ∷ false ∷ []
  pub hops-none : map (hops_fit 0x00FF) (0 ∷ 1 ∷ 8 ∷ []) ≡ true ∷ false ∷ false ∷ []
  pub services : service_fits 0x0008 4 ∷ service_fits 0x0008 0 ∷ service_fits 0x0037 8 ∷ service_fits 0x0037 1 ∷ service_fits 0x0037 0 ∷ [] ≡ true ∷ true ∷ false ∷ false ∷ true ∷ []
  pub zeros : all_zero [] ∷ all_zero (0 ∷ 0 ∷ []) ∷ all_zero (1 ∷ 0 ∷ []) ∷ all_zero (0 ∷ 1 ∷ []) ∷ [] ≡ true ∷ true ∷ false ∷ false ∷ []
  pub trails : trail_of (9 ∷ 8 ∷ 7 ∷ 6 ∷ []) 1 2 ∷ trail_of (9 ∷ 8 ∷ []) 1 0 ∷ [] ≡ (8 ∷ 7 ∷ 0 ∷ 0 ∷ 0 ∷ 0 ∷ 0 ∷ 0 ∷ []) ∷ (0 ∷ 0 ∷ 0 ∷ 0 ∷ 0 ∷ 0 ∷ 0 ∷ 0 ∷ []) ∷ []
  pub trails-written : field_bytes ticket_layout 0x0100 8 (record { number = 2; counted = 5 ∷ 6 ∷ [] }) ∷ field_bytes ticket_layout 0x0080 8 (record { number = 2; counted = 5 ∷ 6 ∷ [] }) ∷ [] ≡ (2 ∷ 5 ∷ 6 ∷ []) ∷ [] ∷ []

pub field-cases : FieldCases
unfolding has_bit number_at big_endian run past_field offset_of field_of field_bytes hops_fit origin_as trail_of all_zero service_fits
field-cases =
    record {
      ticket-heads = refl;
      ticket-units = refl;
      request-heads = refl;
      request-units = refl;
      numbers = refl;
      parts = refl;
      to-bytes = refl;
      bits = refl;
      tgts-of = refl;
      evidence-of = refl;
      maps-of = refl;
      marked-maps-of = refl;
      origins-of = refl;
      starts = refl;
      no-bytes-of-marks = refl;
      counted-starts = refl;
      holds = refl;
      written = refl;
      spans = refl;
      hops-fit = refl;
      hops-none = refl;
      services = refl;
      zeros = refl;
      trails = refl;
      trails-written = refl;
    }
