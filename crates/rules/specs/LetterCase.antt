-- How the code leaves letter case out of eight bytes at once (R2.12): which bits of a word count beside another one. It is said once for a byte and for
-- a word, where every number of a byte stands in all eight. No exported promise speaks of it; the laws of the same name tie it to `words_match`.
-- Assumes nothing.
use Rattle.std.specs.Prelude.{ℕ, ◌+◌, ◌/◌}
use Rattle.std.specs.Int.Bits.{bit_and, bit_xor}
use Rattle.definitions.specs.Limits.{byte_bits}
use Rattle.rules.specs.Lanes.{all_lanes}

-- the bits of a byte that tell a letter, whichever its case; under them the letters are 0x41 to 0x5A
abbrev pub letter_bits : ℕ
letter_bits = 0x5F

-- what takes 0x41 to 0x80, and what takes 0x5B there
abbrev pub from_a : ℕ
from_a = 0x3F

abbrev pub past_z : ℕ
past_z = 0x25

-- 0x80 where there is a letter: under its bits it is from A on and not past Z, and it has no 0x80 itself; no sum leaves its byte
unfoldable pub letters_in : (ℕ → ℕ) → ℕ → ℕ
letters_in spread bits =
    bit_and
    (bit_and (bit_xor (bit_and bits (spread letter_bits) + spread from_a) (bit_and bits (spread letter_bits) + spread past_z)) (bit_xor bits (spread 0x80)))
    (spread 0x80)

-- 0xDF where there is a letter, else 0xFF
unfoldable pub keep_in : (ℕ → ℕ) → ℕ → ℕ
keep_in spread bits = bit_xor (letters_in spread bits / 4) (spread 0xFF)

-- a byte in all eight bytes of a word
abbrev pub eight : ℕ → ℕ
eight byte = all_lanes byte_bits 8 byte

-- the bits that count of a word, and of a byte
abbrev pub keep_of : ℕ → ℕ
keep_of word = keep_in eight word

abbrev pub keep_byte : ℕ → ℕ
keep_byte byte = keep_in (λ number. number) byte
