-- Document 01, 'Event files and the player': the lines that the player prints. Letters and signs are ASCII bytes.
use Rattle.std.specs.Prelude.{ℕ, zero, suc, ◌-◌, ◌≡◌, refl, List, [], ◌∷◌, ◌++◌, Bool, true, false, cond, length, get_or, ltb, ℤ, pos, negsuc, neg_ℤ}
use Rattle.std.proofs.lemmas.List.Edits.{sets}
use Rattle.std.proofs.Math.IntN.{sub_ℕ}
use Rattle.laws.specs.Limits.{ACCOUNTS}
use Rattle.laws.specs.Lists.{range, filter, each}
use Rattle.plain.specs.declared.Position.{Position}
use Rattle.plain.specs.declared.Piece.{Piece}
use Rattle.plain.specs.declared.Ledger.{Ledger}
use Rattle.plain.specs.Book.{Book, nth, no_position}
use Rattle.plain.specs.Histories.{balance}
use Rattle.report.specs.Digits.{digits, digits_from}

-- a field stands after a blank
abbrev pub field : List ℕ → List ℕ
field text = 32 ∷ text

-- a letter, each field after a blank, and "Each line ends with a line feed"
abbrev pub line : ℕ → List (List ℕ) → List ℕ
line letter fields = letter ∷ (each field fields ++ (10 ∷ []))

-- a number as a field, and several of them
abbrev pub number : ℕ → List ℕ
number n = field (digits n)

abbrev pub numbers : List ℕ → List ℕ
numbers ns = each number ns

-- "a negative amount has a minus sign before its digits"
unfoldable pub signed : ℤ → List ℕ
signed (pos n) = digits n
signed (negsuc n) = 45 ∷ digits (suc n)

-- an amount by its sign and its magnitude
abbrev pub amount : Bool → ℕ → ℤ
amount negative cents = cond negative (neg_ℤ (pos cents)) (pos cents)

-- "Each event prints `e`, its number, refusal or 0, quantity"
unfoldable pub event_line : ℕ → ℕ → ℕ → List ℕ
event_line number refusal quantity = line 101 (digits number ∷ digits refusal ∷ digits quantity ∷ [])

-- "each piece `p`, short, long, quantity, cents"
unfoldable pub piece_line : Piece → List ℕ
piece_line p = line 112 (digits p.short ∷ digits p.long ∷ digits p.quantity ∷ digits p.cents ∷ [])

-- "D (short) or R (long)"
abbrev pub side : Bool → ℕ
side short = cond short 68 82

-- "positions `s`, number, member, D (short) or R (long), netted, delivered, bought in, cash, open"; "`s` lines gain a paired figure before open"
-- (document 02, Slip 7)
unfoldable pub position_line : ℕ → Position → List ℕ
position_line number p =
    line 115
    (digits number
    ∷ digits p.member
    ∷ (side p.short ∷ [])
    ∷ digits p.netted
    ∷ digits p.delivered
    ∷ digits p.bought
    ∷ digits p.cash
    ∷ digits p.paired
    ∷ digits p.unsettled
    ∷ [])

-- "`a`, account, cents"
unfoldable pub account_line : ℕ → ℤ → List ℕ
account_line account cents = line 97 (digits account ∷ signed cents ∷ [])

-- "Input refused by 1 to 7 prints `f` and the number only."
unfoldable pub refusal_line : ℕ → List ℕ
refusal_line number = line 102 (digits number ∷ [])

-- a page that a line is written into has at least 80 bytes. The longest line, a position's, has 80.
abbrev pub LINE : ℕ
LINE = 80

-- A text that ends where a column of so many places ends; the column begins where the page does. The places before the text are kept. Where the
-- text does not fit the column, or the column the page, the page is left as it is.
abbrev pub ending_at : ℕ → List ℕ → List ℕ → List ℕ
ending_at width text page = cond (ltb (length page) width) page (cond (ltb width (length text)) page (sets page (width - length text) text))

-- ---- blocks of lines

unfoldable pub piece_lines : List Piece → List ℕ
piece_lines ps = each piece_line ps

-- an event's line, and the lines of its pieces
unfoldable pub event_lines : ℕ → ℕ → ℕ → List Piece → List ℕ
event_lines number refusal quantity ps = event_line number refusal quantity ++ piece_lines ps

-- "At the end, both by rising number: positions"; "Positions are numbered from 1"
unfoldable pub position_lines : List Position → List ℕ
position_lines ps = each (λ n. position_line n (nth no_position ps n)) (range 1 (length ps))

-- the cents of an account: "a credit is positive"
unfoldable pub cents : Ledger → ℕ → ℤ
cents ledger account = sub_ℕ (get_or ledger.credits account 0) (get_or ledger.debits account 0)

-- they are the balance of the plain book
pub balance_cents : (b : Book) (account : ℕ) → balance b account ≡ cents b.ledger account
unfolding balance cents
balance_cents b account = refl

abbrev pub non_zero : ℤ → Bool
non_zero (pos zero) = false
non_zero (pos (suc n)) = true
non_zero (negsuc n) = true

-- the line of an account with these cents, if they are not zero
abbrev pub balance_text : ℕ → ℤ → List ℕ
balance_text account z = cond (non_zero z) (account_line account z) []

-- the accounts: the house, 0, and the members, 1 to 63
unfoldable pub accounts : List ℕ
accounts = range 0 ACCOUNTS

-- "non-zero accounts"
unfoldable pub account_lines : Ledger → List ℕ
account_lines ledger = each (λ k. account_line k (cents ledger k)) (filter (λ k. non_zero (cents ledger k)) accounts)

-- Unfolding this unfolds all of it, for worked examples.
unfoldable pub computing : Unit {0}
unfolding digits_from digits signed event_line piece_line position_line account_line refusal_line piece_lines event_lines position_lines cents accounts account_lines
computing = tt
