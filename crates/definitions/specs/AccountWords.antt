-- The table in the words that the caller lends: a header of eight words, and eight for each account, three of name, one of length, flags and
-- lifetime, the send set, the receive set, two that are free. Any words are some table: a row is set exactly when its stored length is
-- that of a name.
-- Assumes nothing.
use Rattle.std.specs.Prelude.{ℕ, zero, suc, ◌+◌, ◌*◌, ◌/◌, ◌%◌, Bool, true, ◌&&◌, cond, List, [], ◌∷◌, ◌++◌, length, get_or, replicate, leb, Result, Ok, Err}
use Rattle.definitions.specs.declared.error.Error.{Error}
use Rattle.definitions.specs.Limits.{account_limit, name_limit, byte_bits, two8, two32, rows_start, row_size, detail_word, send_word, receive_word, accounts_size}
use Rattle.definitions.specs.Accounts.{Row, no_row, Table}
use Rattle.definitions.specs.Words.{lane_at, pack_at, put_row}
use Rattle.definitions.specs.Edits.{Edit, edit_row}
use Rattle.definitions.specs.declared.account.Account.{Account}

-- the word at which an account's row starts
abbrev pub row_start : ℕ → ℕ
row_start number = rows_start + row_size * number

-- word k of an account's row
abbrev pub row_word : List ℕ → ℕ → ℕ → ℕ
row_word words number k = get_or words (row_start number + k) 0

-- the first n bytes of the name whose words start at a place
unfoldable pub name_at : List ℕ → ℕ → ℕ → List ℕ
name_at words at zero = []
name_at words at (suc n) = name_at words at n ++ (lane_at byte_bits words at n ∷ [])

-- the word of an account that holds the length of its name, its flags and its lifetime
abbrev pub detail_at : List ℕ → ℕ → ℕ
detail_at words number = row_word words number detail_word

-- the stored length of an account's name, the lowest byte of that word
abbrev pub length_at : List ℕ → ℕ → ℕ
length_at words number = detail_at words number % two8

-- a stored length is that of a name, 1 to 24
abbrev pub set_length : ℕ → Bool
set_length stored = leb 1 stored && leb stored name_limit

-- the account in the words of a row that is set
abbrev pub account_in : List ℕ → ℕ → Account
account_in words number =
    record {
      known = true;
      flags = detail_at words number / two8 % two8;
      send = row_word words number send_word;
      receive = row_word words number receive_word;
      lifetime = detail_at words number / two32 % two32;
    }

-- the row of an account's number
unfoldable pub row_at : List ℕ → ℕ → Row
row_at words number =
    cond (set_length (length_at words number))
    (record { name = name_at words (row_start number) (length_at words number); account = account_in words number }) no_row

-- the rows of k accounts from a number on
unfoldable pub rows_from : List ℕ → ℕ → ℕ → Table
rows_from words number zero = []
rows_from words number (suc k) = row_at words number ∷ rows_from words (number + 1) k

-- the table that the words stand for
abbrev pub table_of : List ℕ → Table
table_of words = rows_from words 0 account_limit

-- the word of a name's length, the flags and the lifetime
abbrev pub detail_of : Row → ℕ
detail_of row = length row.name + two8 * row.account.flags + two32 * row.account.lifetime

-- the six words of a row that an edit sets
abbrev pub row_words : Row → List ℕ
row_words row =
    pack_at byte_bits row.name 0 8 ∷ pack_at byte_bits row.name 8 8 ∷ pack_at byte_bits row.name 16 8 ∷ detail_of row
    ∷ row.account.send ∷ row.account.receive ∷ []

-- the words after an account is set to a row: the row's free words, and all others, stay
unfoldable pub store_row : List ℕ → ℕ → Row → List ℕ
store_row words number row = put_row words (row_start number) (row_words row)

-- the words after an edit that was so answered
abbrev pub stored_by : Result Unit Error → List ℕ → Edit → List ℕ
stored_by (Ok _) words edit = store_row words edit.number (edit_row edit)
stored_by (Err error) words edit = words

-- R7.2: the words of a table with no account set
abbrev pub no_account_words : List ℕ
no_account_words = replicate accounts_size 0
