-- Cases of accounts, names and edits (section 2 of the rules), over the definitions, by evaluation.
-- Assumes nothing.
use mathlib.Core.Path.{◌≡◌, refl}
use mathlib.Core.Bool.{Bool, true, false, cond}
use mathlib.Core.List.{List, [], ◌∷◌, ◌++◌, map}
use Prim.Native.Nat.{ℕ, zero, suc, ◌+◌, ◌-◌, ◌*◌, ◌^◌}
use lib.ListN.{length, replicate}
use Rattle.definitions.specs.Errors.{answer_number}
use Rattle.definitions.specs.Fields.{has_bit}
use Rattle.definitions.specs.Words.{lanes_of}
use Rattle.definitions.specs.Accounts.{no_row, Table, row_of, account_at, no_accounts, is_disabled, is_enabled, is_barred, is_trusted, is_service, in_set}
use Rattle.definitions.specs.Names.{good_byte, good_bytes, good_name, lower, agree, same_name, words_match, matches, number_from, find_name, name_taken}
use Rattle.definitions.specs.Edits.{Edit, edit_of, edit_row, edit_checks, edit_answer, edited}
use Rattle.definitions.specs.declared.account.Account.{Account}
use Rattle.definitions.proofs.DecisionCases.{tech, web, store}
use Rattle.definitions.proofs.CaseValues.{ghost, accounts}

-- n numbers from a first on
abbrev pub span : ℕ → ℕ → List ℕ
span first zero = []
span first (suc n) = first ∷ span (suc first) n

-- those of a list that pass a test
abbrev pub passing : (ℕ → Bool) → List ℕ → List ℕ
passing test [] = []
passing test (first ∷ rest) = cond (test first) (first ∷ passing test rest) (passing test rest)

-- disabled, barred, trusted, service
abbrev traits : Account → List Bool
traits account = is_disabled account ∷ is_barred account ∷ is_trusted account ∷ is_service account ∷ []

-- send set, receive set, lifetime
abbrev numbers : Account → List ℕ
numbers account = account.send ∷ account.receive ∷ account.lifetime ∷ []

-- an account with these flags
abbrev flagged : ℕ → Account
flagged flags = (edit_row (edit_of 5 ghost flags 1 2 3)).account

-- the table of the cases, with all flags on `web`
abbrev table : Table
table = accounts 0 15 8 4 2 36000

-- `web` in capital letters
abbrev WEB : List ℕ
WEB = 0x57 ∷ 0x45 ∷ 0x42 ∷ []

-- a table with one name, of one byte
abbrev named : ℕ → Table
named byte = edit_row (edit_of 0 (byte ∷ []) 0 0 0 0) ∷ []

-- a byte of a name in a request finds a byte of an account's name: 0 where it does, 1 where none is found
abbrev found : ℕ → ℕ → ℕ
found byte asked = find_name (named byte) (asked ∷ [])

-- whether two bytes match, in words that are 0 but for them, at each of the eight places
abbrev placed : ℕ → ℕ → List Bool
placed byte other = map (λ place. words_match (byte * 256 ^ place) (other * 256 ^ place)) (span 0 8)

-- a name of n bytes, equal but for the last one
abbrev ending : ℕ → ℕ → ℕ → List ℕ
ending n byte last = replicate (n - 1) byte ++ (last ∷ [])

-- which account is found among `..b` and `..c`, names of n bytes: that of `..c`, of `..C` in capitals, of `..d`, and of `..c` with a byte more
abbrev found-ending : ℕ → List ℕ
found-ending n =
    map (find_name (edit_row (edit_of 0 (ending n 0x61 0x62) 0 0 0 0) ∷ edit_row (edit_of 1 (ending n 0x61 0x63) 0 0 0 0) ∷ []))
    (ending n 0x61 0x63 ∷ ending n 0x41 0x43 ∷ ending n 0x61 0x64 ∷ (ending n 0x61 0x63 ++ (0 ∷ [])) ∷ [])

-- two accounts with one name but for letter case, and one never set before them
abbrev twins : Table
twins = no_row ∷ edit_row (edit_of 1 web 1 0 0 0) ∷ edit_row (edit_of 2 WEB 8 0 0 0) ∷ []

-- an edit of the table, answered
abbrev answers : Table → ℕ → List ℕ → ℕ → ℕ
answers rows number name flags = answer_number (edit_answer rows (edit_of number name flags 0 0 0))

-- an edit of account 1 with other flags, sets and lifetime, and a refused one
abbrev change : Edit
change = edit_of 1 web 2 0x10 0x20 7

abbrev refused-change : Edit
refused-change = edit_of 1 WEB 2 0x10 0x20 7

pub record AccountCases : Type 0 where
  -- R2.2: each flag is its own bit, and bits above the four are no flag
  pub flag-none : traits (flagged 0) ≡ false ∷ false ∷ false ∷ false ∷ []
  pub flag-1 : traits (flagged 1) ≡ true ∷ false ∷ false ∷ false ∷ []
  pub flag-2 : traits (flagged 2) ≡ false ∷ true ∷ false ∷ false ∷ []
  pub flag-4 : traits (flagged 4) ≡ false ∷ false ∷ true ∷ false ∷ []
  pub flag-8 : traits (flagged 8) ≡ false ∷ false ∷ false ∷ true ∷ []
  pub flag-others : traits (flagged 0xF0) ≡ false ∷ false ∷ false ∷ false ∷ []
  pub enabled : map (λ flags. is_enabled (flagged flags)) (0 ∷ 1 ∷ 14 ∷ 15 ∷ []) ≡ true ∷ false ∷ true ∷ false ∷ []
  -- R2.3: members by their bits, the last account among them; 64 is in no set
  pub set-members : passing (in_set 0x8000000000000005) (span 0 70) ≡ 0 ∷ 2 ∷ 63 ∷ []
  pub set-64 : in_set 0x10000000000000000 64 ∷ in_set 0x1FFFFFFFFFFFFFFFF 64 ∷ in_set 0x1FFFFFFFFFFFFFFFF 63 ∷ [] ≡ false ∷ false ∷ true ∷ []
  pub set_full : passing (in_set 0xFFFFFFFFFFFFFFFF) (span 0 70) ≡ span 0 64
  -- R2.4: never set: disabled, no other flag, empty sets, no lifetime; so is a number above 63, and an account without a row
  pub unset-flags : map (λ number. traits (account_at table number)) (3 ∷ 63 ∷ 64 ∷ 255 ∷ []) ≡ replicate 4 (true ∷ false ∷ false ∷ false ∷ [])
  pub unset-numbers : map (λ number. numbers (account_at table number)) (3 ∷ 63 ∷ 64 ∷ 255 ∷ []) ≡ replicate 4 (0 ∷ 0 ∷ 0 ∷ [])
  pub unset-unknown : map (λ number. (account_at table number).known) (0 ∷ 1 ∷ 2 ∷ 3 ∷ 64 ∷ []) ≡ true ∷ true ∷ true ∷ false ∷ false ∷ []
  pub unset-nameless : (row_of table 3).name ∷ (row_of table 64).name ∷ (row_of table 1).name ∷ [] ≡ [] ∷ [] ∷ web ∷ []
  pub fresh-table : length no_accounts ≡ 64
  pub fresh-rows : map (λ number. row_of no_accounts number) (0 ∷ 63 ∷ []) ≡ no_row ∷ no_row ∷ []
  -- R2.5: the bytes of good names are 0x21 to 0x3F and 0x41 to 0x7E
  pub good-bytes : passing good_byte (span 0 256) ≡ span 0x21 31 ++ span 0x41 62
  pub good-lengths : map (λ n. good_name (replicate n 0x61)) (0 ∷ 1 ∷ 24 ∷ 25 ∷ []) ≡ false ∷ true ∷ true ∷ false ∷ []
  pub good-edges : map good_name ((0x21 ∷ []) ∷ (0x7E ∷ []) ∷ (0x3F ∷ 0x41 ∷ []) ∷ []) ≡ true ∷ true ∷ true ∷ []
  pub bad-edges : map good_name ((0x20 ∷ []) ∷ (0x7F ∷ []) ∷ (0x40 ∷ []) ∷ []) ≡ false ∷ false ∷ false ∷ []
  pub bad-places : map good_name ((0x40 ∷ 0x61 ∷ 0x61 ∷ []) ∷ (0x61 ∷ 0x40 ∷ 0x61 ∷ []) ∷ (0x61 ∷ 0x61 ∷ 0x40 ∷ []) ∷ []) ≡ false ∷ false ∷ false ∷ []
  -- R2.6: A to Z count as a to z, and every other byte as itself
  pub letters : map lower (span 0 256) ≡ span 0 0x41 ++ span 0x61 26 ++ span 0x5B 165
  pub case-letters : found 0x41 0x61 ∷ found 0x61 0x41 ∷ found 0x5A 0x7A ∷ found 0x7A 0x5A ∷ [] ≡ 0 ∷ 0 ∷ 0 ∷ 0 ∷ []
  pub case-others : found 0x40 0x60 ∷ found 0x60 0x40 ∷ found 0x5B 0x7B ∷ found 0x7B 0x5B ∷ found 0xC1 0xE1 ∷ [] ≡ 1 ∷ 1 ∷ 1 ∷ 1 ∷ 1 ∷ []
  -- R2.12: two bytes at each place of a word, and whole words
  pub letters-placed : map (λ byte. placed byte (byte + 0x20)) (0x41 ∷ 0x5A ∷ []) ≡ replicate 2 (replicate 8 true)
  pub others-placed : map (λ byte. placed byte (byte + 0x20)) (0x40 ∷ 0x5B ∷ 0xC1 ∷ 0x00 ∷ 0x21 ∷ []) ≡ replicate 5 (replicate 8 false)
  pub words-whole : words_match 0x2000000000626557 0x2000000000426577 ∷ words_match 0xFF41FF41FF41FF41 0xFF61FF61FF61FF61 ∷ words_match 0x6162636465666768 0x6162636465666769 ∷ [] ≡ true ∷ true ∷ false ∷ []
  pub case-of-all : find_name table WEB ∷ find_name table (0x77 ∷ 0x45 ∷ 0x62 ∷ []) ∷ [] ≡ 1 ∷ 1 ∷ []
  pub each-byte : map (find_name table) ((0x78 ∷ 0x65 ∷ 0x62 ∷ []) ∷ (0x77 ∷ 0x66 ∷ 0x62 ∷ []) ∷ (0x77 ∷ 0x65 ∷ 0x63 ∷ []) ∷ []) ≡ 64 ∷ 64 ∷ 64 ∷ []
  pub each-length : map (find_name table) ((web ++ (0 ∷ [])) ∷ (0x77 ∷ 0x65 ∷ []) ∷ [] ∷ []) ≡ 64 ∷ 64 ∷ 64 ∷ []
  pub lengths-found : map found-ending (1 ∷ 7 ∷ 8 ∷ 9 ∷ 16 ∷ 17 ∷ 24 ∷ []) ≡ replicate 7 (1 ∷ 1 ∷ 2 ∷ 2 ∷ [])
  pub exact : same_name false web web ∷ same_name false web WEB ∷ same_name true web WEB ∷ same_name false WEB web ∷ [] ≡ true ∷ false ∷ true ∷ false ∷ []
  pub past_the_end : agree false (0 ∷ []) [] 1 ∷ agree false [] (0 ∷ []) 1 ∷ agree false (1 ∷ []) [] 1 ∷ [] ≡ true ∷ true ∷ false ∷ []
  -- R2.7: the lowest account that matches, a disabled one too; nothing finds an account that is not set
  pub lowest : find_name twins WEB ∷ find_name twins web ∷ [] ≡ 1 ∷ 1 ∷ []
  pub disabled-found : find_name table web ∷ find_name table store ∷ find_name table tech ∷ [] ≡ 1 ∷ 2 ∷ 0 ∷ []
  pub none_found : find_name table ghost ∷ find_name no_accounts [] ∷ find_name no_accounts web ∷ [] ≡ 64 ∷ 64 ∷ 64 ∷ []
  pub unset-unmatched : matches no_row [] ≡ false
  -- R2.9, 60: the last account and flags 15 are good, 64 and 16 are not, nor is a bad name
  pub edit-numbers : answers table 63 ghost 15 ∷ answers table 64 ghost 15 ∷ answers table 3 ghost 16 ∷ answers table 3 (0x40 ∷ []) 0 ∷ answers table 3 [] 0 ∷ [] ≡ 0 ∷ 60 ∷ 60 ∷ 60 ∷ 60 ∷ []
  -- 12: the name that is set, byte for byte
  pub edit-names : answers table 1 web 0 ∷ answers table 1 WEB 0 ∷ answers table 1 ghost 0 ∷ answers table 3 ghost 0 ∷ [] ≡ 0 ∷ 12 ∷ 12 ∷ 0 ∷ []
  -- 8: any other account, before or behind it, a disabled one too, and not the account itself
  pub edit-taken : answers table 3 web 0 ∷ answers table 63 WEB 0 ∷ answers twins 0 web 0 ∷ answers twins 1 web 0 ∷ answers twins 2 WEB 0 ∷ [] ≡ 8 ∷ 8 ∷ 8 ∷ 8 ∷ 8 ∷ []
  pub edit-own : name_taken 1 0 table web ∷ name_taken 0 0 table web ∷ name_taken 2 0 table web ∷ name_taken 3 0 table ghost ∷ [] ≡ false ∷ true ∷ true ∷ false ∷ []
  -- R2.8: an accepted edit sets its account whole and no other; a refused one sets nothing
  pub edit-whole : row_of (edited table change) 1
      ≡ record { name = web; account = record { known = true; flags = 2; send = 0x10; receive = 0x20; lifetime = 7 } }
  pub edit-others : map (λ number. row_of (edited table change) number) (0 ∷ 2 ∷ 3 ∷ []) ≡ map (λ number. row_of table number) (0 ∷ 2 ∷ 3 ∷ [])
  pub edit-refused : edited table refused-change ≡ table
  pub edit-length : length (edited table change) ≡ 64

pub account-cases : AccountCases
unfolding has_bit lanes_of good_bytes good_name lower agree same_name number_from name_taken edit_checks
account-cases =
    record {
      flag-none = refl;
      flag-1 = refl;
      flag-2 = refl;
      flag-4 = refl;
      flag-8 = refl;
      flag-others = refl;
      enabled = refl;
      set-members = refl;
      set-64 = refl;
      set_full = refl;
      unset-flags = refl;
      unset-numbers = refl;
      unset-unknown = refl;
      unset-nameless = refl;
      fresh-table = refl;
      fresh-rows = refl;
      good-bytes = refl;
      good-lengths = refl;
      good-edges = refl;
      bad-edges = refl;
      bad-places = refl;
      letters = refl;
      case-letters = refl;
      case-others = refl;
      letters-placed = refl;
      others-placed = refl;
      words-whole = refl;
      case-of-all = refl;
      each-byte = refl;
      each-length = refl;
      lengths-found = refl;
      exact = refl;
      past_the_end = refl;
      lowest = refl;
      disabled-found = refl;
      none_found = refl;
      unset-unmatched = refl;
      edit-numbers = refl;
      edit-names = refl;
      edit-taken = refl;
      edit-own = refl;
      edit-whole = refl;
      edit-others = refl;
      edit-refused = refl;
      edit-length = refl;
    }
