-- The parts of a request, as the writer counts them (R4.8).
-- Assumes nothing.
use Rattle.std.specs.Prelude.{ℕ, ◌<◌, [], ◌∷◌, length}
use Rattle.definitions.specs.RequestWriting.{RequestParts}
use Rattle.record.specs.Cursor.{size_to}

-- records and names are short enough for the byte that says their length
pub record ShortParts (parts : RequestParts) : Type 0 where
  pub tgt : length parts.tgt < 256
  pub evidence : length parts.evidence < 256
  pub user : length parts.user < 256
  pub service : length parts.service < 256

-- the bytes of the request of parts with a map
abbrev pub size_of : ℕ → RequestParts → ℕ
size_of map parts = size_to map (0 ∷ 0 ∷ 0 ∷ 0 ∷ length parts.tgt ∷ length parts.evidence ∷ length parts.user ∷ length parts.service ∷ []) 8
