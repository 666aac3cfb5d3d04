-- The layout of a body: how long it is, where its fields stand, and which of its bytes each kind uses.
-- Document 01, 'Event files and the player'. The code's constants have the same names.
use Rattle.std.specs.Prelude.{ℕ, List, [], ◌∷◌, Bool, get_or, replicate}
use Rattle.laws.specs.WordLaws.{nonzero}

-- "body width (u16, 16)": the bytes of a body
abbrev pub BODY : ℕ
BODY = 16

-- "An event is one of nine kinds"; "Refusal 6 admits kind 10" (document 02, Slip 7)
abbrev pub KINDS : ℕ
KINDS = 10

-- "Body: u16 position, award or security; u8 seller or offerer; u8 buyer; u32 quantity; u32 price; four spare bytes."
abbrev pub SUBJECT_AT : ℕ
SUBJECT_AT = 0

abbrev pub FIRST_AT : ℕ
FIRST_AT = 2

abbrev pub SECOND_AT : ℕ
SECOND_AT = 3

abbrev pub QUANTITY_AT : ℕ
QUANTITY_AT = 4

abbrev pub PRICE_AT : ℕ
PRICE_AT = 8

-- "body byte 12 for the seller, 13 for the buyer" (document 02, Slip 5): the kinds of a trade's two sides
abbrev pub FIRST_KIND_AT : ℕ
FIRST_KIND_AT = 12

abbrev pub SECOND_KIND_AT : ℕ
SECOND_KIND_AT = 13

abbrev pub LAST_AT : ℕ
LAST_AT = 14

-- a body as two words: the bytes of each, and where they begin
abbrev pub WORD : ℕ
WORD = 8

abbrev pub LOW_AT : ℕ
LOW_AT = 0

abbrev pub HIGH_AT : ℕ
HIGH_AT = 8

-- a row of marks in which no byte is used
abbrev pub unmarked : List ℕ
unmarked = replicate BODY 0

-- the bytes of a body that a kind uses, marked 1, a row for each number from 0, which is no kind, to 10;
-- "A field the kind has no use for is spare", and its bytes are marked 0. No other row would do: an event's fields stand in
-- bytes that its kind uses (`told` of Inverse.antt), and what is read from used bytes is written again (`body_back` of Passing.antt).
abbrev pub used_bytes : List (List ℕ)
used_bytes =
    (0 ∷ 0 ∷ 0 ∷ 0 ∷ 0 ∷ 0 ∷ 0 ∷ 0 ∷ 0 ∷ 0 ∷ 0 ∷ 0 ∷ 0 ∷ 0 ∷ 0 ∷ 0 ∷ [])
    -- 1 trade, 2 price, 3 delivery
    ∷ (1 ∷ 1 ∷ 1 ∷ 1 ∷ 1 ∷ 1 ∷ 1 ∷ 1 ∷ 1 ∷ 1 ∷ 1 ∷ 1 ∷ 1 ∷ 1 ∷ 0 ∷ 0 ∷ [])
    ∷ (1 ∷ 1 ∷ 0 ∷ 0 ∷ 0 ∷ 0 ∷ 0 ∷ 0 ∷ 1 ∷ 1 ∷ 1 ∷ 1 ∷ 0 ∷ 0 ∷ 0 ∷ 0 ∷ [])
    ∷ (1 ∷ 1 ∷ 0 ∷ 0 ∷ 1 ∷ 1 ∷ 1 ∷ 1 ∷ 0 ∷ 0 ∷ 0 ∷ 0 ∷ 0 ∷ 0 ∷ 0 ∷ 0 ∷ [])
    -- 4 attempt, 5 offer, 6 award
    ∷ (1 ∷ 1 ∷ 0 ∷ 0 ∷ 0 ∷ 0 ∷ 0 ∷ 0 ∷ 0 ∷ 0 ∷ 0 ∷ 0 ∷ 0 ∷ 0 ∷ 0 ∷ 0 ∷ [])
    ∷ (1 ∷ 1 ∷ 1 ∷ 0 ∷ 1 ∷ 1 ∷ 1 ∷ 1 ∷ 1 ∷ 1 ∷ 1 ∷ 1 ∷ 0 ∷ 0 ∷ 0 ∷ 0 ∷ [])
    ∷ (1 ∷ 1 ∷ 0 ∷ 0 ∷ 0 ∷ 0 ∷ 0 ∷ 0 ∷ 0 ∷ 0 ∷ 0 ∷ 0 ∷ 0 ∷ 0 ∷ 0 ∷ 0 ∷ [])
    -- 7 confirm, 8 cash, 9 close, 10 pair-off
    ∷ (1 ∷ 1 ∷ 0 ∷ 0 ∷ 0 ∷ 0 ∷ 0 ∷ 0 ∷ 0 ∷ 0 ∷ 0 ∷ 0 ∷ 0 ∷ 0 ∷ 0 ∷ 0 ∷ [])
    ∷ (1 ∷ 1 ∷ 0 ∷ 0 ∷ 0 ∷ 0 ∷ 0 ∷ 0 ∷ 0 ∷ 0 ∷ 0 ∷ 0 ∷ 0 ∷ 0 ∷ 0 ∷ 0 ∷ [])
    ∷ (0 ∷ 0 ∷ 0 ∷ 0 ∷ 0 ∷ 0 ∷ 0 ∷ 0 ∷ 0 ∷ 0 ∷ 0 ∷ 0 ∷ 0 ∷ 0 ∷ 0 ∷ 0 ∷ [])
    ∷ (1 ∷ 1 ∷ 0 ∷ 0 ∷ 1 ∷ 1 ∷ 1 ∷ 1 ∷ 1 ∷ 1 ∷ 1 ∷ 1 ∷ 0 ∷ 0 ∷ 0 ∷ 0 ∷ [])
    ∷ []

-- the marks of a kind; a byte that is no kind uses none
unfoldable pub marks_of : ℕ → List ℕ
marks_of kind = get_or used_bytes kind unmarked

-- whether marks say that the byte at a place is used
abbrev pub used : List ℕ → ℕ → Bool
used marks j = nonzero (get_or marks j 0)
