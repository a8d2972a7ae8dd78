-- How the code compares a row with a name, word by word (R2.6, R2.7, R2.9). No exported promise speaks of it; the laws of the same name tie it to
-- `find_name` and `name_taken`.
-- Assumes nothing.
use Rattle.std.specs.Prelude.{ℕ, ◌-◌, ◌*◌, min, Bool, true, not, ◌&&◌, List, [], ◌∷◌, Option, None, Some, eqb}
use Rattle.std.specs.List.{find, range_with_len}
use Rattle.std.specs.Int.Bits.{bit_and}
use Rattle.definitions.specs.Limits.{account_limit, byte_bits}
use Rattle.definitions.specs.AccountWords.{name_at, row_at}
use Rattle.definitions.specs.Names.{agree, same_name, word_bytes, matches}
use Rattle.definitions.specs.declared.account.Name.{Name}
use Rattle.rules.specs.Lanes.{all_lanes}

-- the words of a name, as they stand in a row
abbrev pub words_of : Name → List ℕ
words_of name = name.first ∷ name.second ∷ name.third ∷ []

-- its bytes
abbrev pub bytes_of : Name → List ℕ
bytes_of name = name_at (words_of name) 0 name.length

-- the bytes of two words agree, with letter case ignored or not
abbrev pub words_agree : Bool → ℕ → ℕ → Bool
words_agree ignore word other = agree ignore (word_bytes word) (word_bytes other) 8

-- all bits of the first n bytes of a word, which has eight
abbrev pub first_bytes : ℕ → ℕ
first_bytes n = all_lanes byte_bits (min n 8) 0xFF

-- what of word k of a name's words belongs to a name of a length
abbrev pub cut_word : ℕ → ℕ → ℕ → ℕ
cut_word length k word = bit_and word (first_bytes (length - 8 * k))

-- a row of the words is set and has a name, with letter case ignored or not
abbrev pub has_name : List ℕ → ℕ → Bool → List ℕ → Bool
has_name words number ignore name = (row_at words number).account.known && same_name ignore (row_at words number).name name

-- a number is not the one that is left out
abbrev pub is_other : Option ℕ → ℕ → Bool
is_other None number = true
is_other (Some except) number = not (eqb number except)

-- the lowest number of a row that matches, other than one that may be left out
abbrev pub first_match : List ℕ → List ℕ → Option ℕ → Option ℕ
first_match words name except = find (λ number. matches (row_at words number) name && is_other except number) (range_with_len 0 account_limit)
