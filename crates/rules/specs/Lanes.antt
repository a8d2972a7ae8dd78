-- All lanes of a word at once (specs/Words.antt of definitions): how the code finds, without a branch, whether one of them has a number. No exported
-- promise speaks of it.
-- Assumes nothing.
use Rattle.std.specs.Prelude.{ℕ, zero, suc, ◌+◌, ◌-◌, ◌*◌, ◌^◌}
use Rattle.std.specs.Int.Bits.{bit_and, bit_or}

-- the word of n lanes that all have one number
unfoldable pub all_lanes : ℕ → ℕ → ℕ → ℕ
all_lanes width zero number = 0
all_lanes width (suc n) number = all_lanes width n number * 2 ^ width + number

-- the top bits of n lanes that have some bits below them
abbrev pub top_bits : ℕ → ℕ → ℕ
top_bits below n = all_lanes (suc below) n (2 ^ below)

-- all bits below them
abbrev pub low_bits : ℕ → ℕ → ℕ
low_bits below n = all_lanes (suc below) n (2 ^ below - 1)

-- the word that has the top bit of each of n lanes which is not 0 in a word, and of no other; no sum leaves its lane
unfoldable pub filled_marks : ℕ → ℕ → ℕ → ℕ
filled_marks below n word = bit_or (bit_and word (low_bits below n) + low_bits below n) word
