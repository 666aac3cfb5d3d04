-- The limits of document 01, each named once. The crates' code uses the constants of the same names.
use Rattle.std.specs.Prelude.{ℕ, ◌*◌}

-- "Members are 1 to 63; account 0 is the house."
abbrev pub MEMBERS : ℕ
MEMBERS = 63

abbrev pub ACCOUNTS : ℕ
ACCOUNTS = 64

-- "Count is 1 to 32; securities are numbered from 1."
abbrev pub SECURITIES : ℕ
SECURITIES = 32

-- "512 trades a book make at most 1,024 positions."
abbrev pub TRADES : ℕ
TRADES = 512

abbrev pub POSITIONS : ℕ
POSITIONS = 1024

-- "The sheet has under 1,024 places"
abbrev pub PLACES : ℕ
PLACES = 1024

-- "Sixteen attempts were opened today", "Sixteen offers are in."
abbrev pub ATTEMPTS : ℕ
ATTEMPTS = 16

abbrev pub OFFERS : ℕ
OFFERS = 16

-- sixteen awards for each of sixteen attempts
abbrev pub AWARDS : ℕ
AWARDS = 256

-- "It is day 9,999"
abbrev pub LAST_DAY : ℕ
LAST_DAY = 9999

-- "The quantity is 0, or in a trade or offer above 1,000,000."
abbrev pub MOST_QUANTITY : ℕ
MOST_QUANTITY = 1000000

-- "The price is 0 or above 10,000,000."
abbrev pub MOST_PRICE : ℕ
MOST_PRICE = 10000000

-- the most that a position can be: every trade of a book at the greatest quantity
abbrev pub MOST_NETTED : ℕ
MOST_NETTED = 512000000

-- "A file is a count (u16, at most 2,048)"
abbrev pub EVENTS : ℕ
EVENTS = 2048

-- how many numbers a row of each lent table of the machine's book has, and all of its rows; the late open shorts are counted in one number for each security
-- and account
abbrev pub POSITION_WIDTH : ℕ
POSITION_WIDTH = 12

abbrev pub POSITION_CELLS : ℕ
POSITION_CELLS = POSITION_WIDTH * POSITIONS

abbrev pub TRADE_WIDTH : ℕ
TRADE_WIDTH = 7

abbrev pub TRADE_CELLS : ℕ
TRADE_CELLS = TRADE_WIDTH * TRADES

abbrev pub AWARD_WIDTH : ℕ
AWARD_WIDTH = 5

abbrev pub AWARD_CELLS : ℕ
AWARD_CELLS = AWARD_WIDTH * AWARDS

abbrev pub PIECE_WIDTH : ℕ
PIECE_WIDTH = 5

abbrev pub SHEET_CELLS : ℕ
SHEET_CELLS = PIECE_WIDTH * PLACES

abbrev pub COUNT_CELLS : ℕ
COUNT_CELLS = SECURITIES * ACCOUNTS
