-- One event: its kind byte, its body, and the spare bytes of the body.
-- Document 01, 'Event files and the player'.
use Rattle.std.specs.Prelude.{ℕ, ◌+◌, ◌-◌, ◌<◌, List, [], ◌∷◌, ◌++◌, map, Bool, not, ◌&&◌, leb, get_or, replicate}
use Rattle.laws.specs.Lists.{only, some, range}
use Rattle.laws.specs.Words.{word16_at, word32_at, bytes16, bytes32}
use Rattle.laws.specs.WordLaws.{nonzero}
use Rattle.events.specs.declared.Event.{Event}
use Rattle.events.specs.declared.Fields.{Fields}
use Rattle.events.specs.Layout.{BODY, KINDS, SUBJECT_AT, FIRST_AT, SECOND_AT, QUANTITY_AT, PRICE_AT, FIRST_KIND_AT, SECOND_KIND_AT, LAST_AT, marks_of, used}

-- "1 trade, 2 price, 3 delivery, 4 attempt, 5 offer, 6 award, 7 confirm, 8 cash, 9 close"; kind 10 is a pair-off (document 02, Slip 7)
unfoldable pub kind_of : Event → ℕ
kind_of (Event.Trade t) = 1
kind_of (Event.Price p) = 2
kind_of (Event.Delivery d) = 3
kind_of (Event.Attempt a) = 4
kind_of (Event.Offer o) = 5
kind_of (Event.Award a) = 6
kind_of (Event.Confirm c) = 7
kind_of (Event.Cash c) = 8
kind_of Event.Close = 9
kind_of (Event.PairOff p) = 10

abbrev pub is_kind : ℕ → Bool
is_kind kind = leb 1 kind && leb kind KINDS

abbrev pub fields : ℕ → ℕ → ℕ → ℕ → ℕ → ℕ → ℕ → Fields
fields subject one two quantity price kind_one kind_two =
    record {
      subject = subject;
      first = one;
      second = two;
      quantity = quantity;
      price = price;
      firstkind = kind_one;
      secondkind = kind_two;
    }

-- what an event writes into each field; a field that its kind has no use for is 0. "Kind 10 names the short, a quantity, and the long in the price
-- field." (document 02, Slip 7)
unfoldable pub fields_of : Event → Fields
fields_of (Event.Trade t) = fields t.security t.seller t.buyer t.quantity t.price t.sellerkind t.buyerkind
fields_of (Event.Price p) = fields p.security 0 0 0 p.price 0 0
fields_of (Event.Delivery d) = fields d.position 0 0 d.quantity 0 0 0
fields_of (Event.Attempt a) = fields a.position 0 0 0 0 0 0
fields_of (Event.Offer o) = fields o.position o.offerer 0 o.quantity o.price 0 0
fields_of (Event.Award a) = fields a.position 0 0 0 0 0 0
fields_of (Event.Confirm c) = fields c.award 0 0 0 0 0 0
fields_of (Event.Cash c) = fields c.position 0 0 0 0 0 0
fields_of Event.Close = fields 0 0 0 0 0 0 0
fields_of (Event.PairOff p) = fields p.short 0 0 p.quantity p.long 0 0

-- "Body: u16 position, award or security; u8 seller or offerer; u8 buyer; u32 quantity; u32 price; four spare bytes." Of the four, a trade
-- has its seller's kind in byte 12 and its buyer's in byte 13 (document 02, Slip 5).
unfoldable pub body : Fields → List ℕ
body f =
    bytes16 f.subject
    ++ f.first
    ∷ f.second
    ∷ bytes32 f.quantity
    ++ bytes32 f.price
    ++ f.firstkind
    ∷ f.secondkind
    ∷ replicate (BODY - LAST_AT) 0

-- the bytes that the marks say are used; "Writing sets spare bytes to zero"
unfoldable pub masked : List ℕ → List ℕ → List ℕ
masked marks bytes = map (λ j. only (used marks j) (get_or bytes j 0)) (range 0 BODY)

abbrev pub body_of : Event → List ℕ
body_of e = masked (marks_of (kind_of e)) (body (fields_of e))

-- the fields of the body that begins at a place; a byte past the end counts 0
unfoldable pub fields_at : List ℕ → ℕ → Fields
fields_at bytes at =
    fields (word16_at bytes (at + SUBJECT_AT)) (get_or bytes (at + FIRST_AT) 0) (get_or bytes (at + SECOND_AT) 0) (word32_at bytes (at + QUANTITY_AT)) (word32_at bytes (at + PRICE_AT)) (get_or bytes (at + FIRST_KIND_AT) 0) (get_or bytes (at + SECOND_KIND_AT) 0)

-- the event of each kind with these fields, by number from 0, which is no kind, to 10
abbrev pub event_rows : Fields → List Event
event_rows f =
    Event.Close
    ∷ Event.Trade (record { seller = f.first; buyer = f.second; security = f.subject; quantity = f.quantity; price = f.price; sellerkind = f.firstkind; buyerkind = f.secondkind })
    ∷ Event.Price (record { security = f.subject; price = f.price })
    ∷ Event.Delivery (record { position = f.subject; quantity = f.quantity })
    ∷ Event.Attempt (record { position = f.subject })
    ∷ Event.Offer (record { position = f.subject; offerer = f.first; quantity = f.quantity; price = f.price })
    ∷ Event.Award (record { position = f.subject })
    ∷ Event.Confirm (record { award = f.subject })
    ∷ Event.Cash (record { position = f.subject })
    ∷ Event.Close
    ∷ Event.PairOff (record { short = f.subject; long = f.price; quantity = f.quantity })
    ∷ []

-- a byte that is no kind would give `Close`; no file that passes has one
unfoldable pub event_from : ℕ → Fields → Event
event_from kind f = get_or (event_rows f) kind Event.Close

-- the event that a kind byte and a body are read as
abbrev pub event_read : ℕ → List ℕ → Event
event_read kind bytes = event_from kind (fields_at bytes 0)

-- a byte that is spare and yet not zero
abbrev pub spare_byte : ℕ → ℕ → Bool
spare_byte mark byte = not (nonzero mark) && nonzero byte

-- "A spare byte is not zero.", of the bytes that the marks leave spare
unfoldable pub spare_in : List ℕ → List ℕ → Bool
spare_in marks bytes = some (λ j. spare_byte (get_or marks j 0) (get_or bytes j 0)) (range 0 BODY)

abbrev pub spare_set : ℕ → List ℕ → Bool
spare_set kind bytes = spare_in (marks_of kind) bytes

-- the fields of an event are as wide as a body has room for: a word of 16 bits, two bytes, two words of 32 bits, two
-- bytes more
pub record InWidth (f : Fields) : Type 0 where
  pub subject : f.subject < 65536
  pub first : f.first < 256
  pub second : f.second < 256
  pub quantity : f.quantity < 4294967296
  pub price : f.price < 4294967296
  pub firstkind : f.firstkind < 256
  pub secondkind : f.secondkind < 256

abbrev pub Fits : Event → Type 0
Fits e = InWidth (fields_of e)
