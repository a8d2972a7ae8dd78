-- The sizes and limits of the service, each by its name. The code has the same in `limits.rt`.
-- Assumes nothing.
use Rattle.std.specs.Prelude.{ℕ}

-- R2.1: how many accounts there are, numbered from 0 on
abbrev pub account_limit : ℕ
account_limit = 64

-- R2.1: the highest number of an account
abbrev pub last_account : ℕ
last_account = 63

-- R2.5: the bytes of the longest name
abbrev pub name_limit : ℕ
name_limit = 24

-- R2.2: the four flags of an account, all set
abbrev pub all_flags : ℕ
all_flags = 15

-- R3.2: how many accounts the longest trail has
abbrev pub trail_limit : ℕ
trail_limit = 8

-- R3.7: the bytes of the longest ticket record, and so the shortest output that a grant needs
abbrev pub longest_record : ℕ
longest_record = 31

-- R7.1: how many tickets the ledger has places for
abbrev pub ticket_limit : ℕ
ticket_limit = 512

-- R5.10: the last number that a ticket is given
abbrev pub last_number : ℕ
last_number = 65535

-- R5.2: the seconds by which a clock reading may be before the start of a presented ticket
abbrev pub clock_skew : ℕ
clock_skew = 300

-- R1.2: the last second that a clock reading or an end can name
abbrev pub last_second : ℕ
last_second = 4294967295

-- ---- Widths of numbers
-- the bits of a word
abbrev pub word_bits : ℕ
word_bits = 64

-- the bits of a byte
abbrev pub byte_bits : ℕ
byte_bits = 8

-- the bits of a ticket's number
abbrev pub number_bits : ℕ
number_bits = 16

-- what 4 bits count to
abbrev pub two4 : ℕ
two4 = 16

-- what a byte counts to
abbrev pub two8 : ℕ
two8 = 256

-- what 16 bits count to
abbrev pub two16 : ℕ
two16 = 65536

-- what 32 bits count to
abbrev pub two32 : ℕ
two32 = 4294967296

-- what 40 bits count to
abbrev pub two40 : ℕ
two40 = 1099511627776

-- what 48 bits count to
abbrev pub two48 : ℕ
two48 = 281474976710656

-- what 56 bits count to
abbrev pub two56 : ℕ
two56 = 72057594037927936

-- what 60 bits count to
abbrev pub two60 : ℕ
two60 = 1152921504606846976

-- ---- The accounts' words: a header of eight words, all free, then a row for each account
-- the word at which the rows start
abbrev pub rows_start : ℕ
rows_start = 8

-- the words of an account's row: three of name, those below, and two that are free
abbrev pub row_size : ℕ
row_size = 8

-- the word of a row that holds the length of the name, the flags and the lifetime
abbrev pub detail_word : ℕ
detail_word = 3

-- the word of a row that holds the send set
abbrev pub send_word : ℕ
send_word = 4

-- the word of a row that holds the receive set
abbrev pub receive_word : ℕ
receive_word = 5

-- the words of the header and of all rows
abbrev pub accounts_size : ℕ
accounts_size = 520

-- ---- The ledger's words: a header of eight words, of which one holds the stored count, another the next number, and six are free; the
-- numbers of all places, a column of lanes; then a row for each place
-- the word that holds the stored count
abbrev pub count_word : ℕ
count_word = 0

-- the word that holds the next number
abbrev pub next_word : ℕ
next_word = 1

-- the word at which the numbers start
abbrev pub numbers_start : ℕ
numbers_start = 8

-- how many numbers stand in a word
abbrev pub numbers_in_word : ℕ
numbers_in_word = 4

-- the words of all numbers
abbrev pub number_words : ℕ
number_words = 128

-- the word at which the places start
abbrev pub places_start : ℕ
places_start = 136

-- the words of a ticket's place: flags, client, service, hops, tag and mark, and the three below
abbrev pub place_size : ℕ
place_size = 4

-- the word of a place that holds start and end
abbrev pub window_word : ℕ
window_word = 1

-- the word of a place that holds the numbers of the TGT and the evidence
abbrev pub back_word : ℕ
back_word = 2

-- the word of a place that holds the trail
abbrev pub trail_word : ℕ
trail_word = 3

-- the words of the header, of all numbers and of all places
abbrev pub ledger_size : ℕ
ledger_size = 2184

-- ---- A saved service: a magic, the number of the words' layout, the words, and a check sum in two halves
-- R7.8: the bytes of each of its numbers
abbrev pub word_size : ℕ
word_size = 8

-- R7.8: the magic, 0x89 and `TICKETS`
abbrev pub saved_magic : ℕ
saved_magic = 0x895449434B455453

-- R7.8: the number of the layout that the words have
abbrev pub layout_number : ℕ
layout_number = 3

-- R7.8: where the number of the layout stands, behind the magic
abbrev pub layout_place : ℕ
layout_place = 8

-- R7.8: where the words of the accounts start
abbrev pub accounts_place : ℕ
accounts_place = 16

-- R7.8: where the words of the ledger start
abbrev pub ledger_place : ℕ
ledger_place = 4176

-- R7.8: where the check sum stands; it is that of all bytes before
abbrev pub sum_place : ℕ
sum_place = 21648

-- R7.8: the bytes of a saved service
abbrev pub saved_size : ℕ
saved_size = 21664
