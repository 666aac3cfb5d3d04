-- Document 01, 'The plain book', and document 02, Slip 7: what each of the ten calls does where it is accepted.
use Rattle.std.specs.Prelude.{ℕ, suc, ◌+◌, ◌-◌, List, [], ◌∷◌, ◌++◌, map, Bool, true, false, length, set}
use Rattle.laws.specs.Lists.{sum, number}
use Rattle.rules.specs.Prices.{ceiling}
use Rattle.events.specs.declared.PairOff.{PairOff}
use Rattle.events.specs.declared.Event.{Event}
use Rattle.events.specs.declared.Event.TheVariants as event
use Rattle.plain.specs.declared.Piece.{Piece}
use Rattle.plain.specs.declared.Award.{Award}
use Rattle.plain.specs.declared.Manner.{Manner}
use Rattle.plain.specs.declared.Manner.TheVariants.{Delivered, BoughtIn, Cash, Paired}
use Rattle.plain.specs.Book.{Book, no_auction, given_on, position_of, award_of, class_of, latest_of}
use Rattle.plain.specs.Changing.{with_day, with_past, with_trades, with_prices, with_positions, with_auction, with_awards, with_marks, with_ledger}
use Rattle.plain.specs.Netting.{keys, netted}
use Rattle.plain.specs.Dealing.{takers, deal_to, lowering}
use Rattle.plain.specs.Auction.{by_price, awarded, confirmed_award}
use Rattle.plain.specs.Charging.{Charge, posted, buy_in_charges, settlement_price, priced_at, cash_charges, close_charges}

-- One of the ten calls: what an event says, with the length of the sheet that is lent. "of a sheet, its length"
pub data Call : Type 0 where
  call : Event → ℕ → Call

-- the pieces of a quantity of a short, dealt out by the rules over this book's open quantities
unfoldable pub dealt : Book → Manner → ℕ → ℕ → List Piece
dealt b manner n quantity = deal_to manner n (takers b.day (position_of b n).security b.positions) quantity

-- document 02, Slip 7: "one piece of manner paired and 0 cents is handed out"
abbrev pub paired_piece : PairOff → Piece
paired_piece x = record { short = x.short; long = x.long; quantity = x.quantity; manner = Paired; cents = 0 }

-- "A discharge (delivery, confirm, cash) deals its quantity .. out by the rules above over this book's open quantities, which fall by each piece on both sides, and books its charges"
unfoldable pub discharged : Book → List Piece → List Charge → Book
discharged b xs cs = with_ledger (with_positions b (lowering xs b.positions)) (posted b.ledger cs)

-- the awards that end the auction: out of the short's open quantity
unfoldable pub auction_awards : Book → List Award
auction_awards b = awarded (position_of b b.auction.position).unsettled (by_price [] b.auction.offers)

-- the pieces that an accepted call hands out: "(stated, the award's, all open)"
unfoldable pub hands_out : Book → Event → List Piece
hands_out b (event.Trade t) = []
hands_out b (event.Price p) = []
hands_out b (event.Delivery d) = dealt b Delivered d.position d.quantity
hands_out b (event.Attempt a) = []
hands_out b (event.Offer o) = []
hands_out b (event.Award a) = []
hands_out b (event.Confirm c) =
    let a = award_of b c.award in
    dealt b BoughtIn a.position a.quantity
hands_out b (event.Cash c) =
    let xs = dealt b Cash c.position (position_of b c.position).unsettled in
    map (priced_at (settlement_price b c.position xs)) xs
hands_out b event.Close = []
hands_out b (event.PairOff x) = paired_piece x ∷ []

-- the charges that an accepted call books
unfoldable pub charges : Book → Event → List Charge
charges b (event.Trade t) = []
charges b (event.Price p) = []
charges b (event.Delivery d) = []
charges b (event.Attempt a) = []
charges b (event.Offer o) = []
charges b (event.Award a) = []
charges b (event.Confirm c) = buy_in_charges b (award_of b c.award)
charges b (event.Cash c) = cash_charges b c.position (hands_out b (event.Cash c))
charges b event.Close = close_charges b
charges b (event.PairOff x) = []

-- document 01, 'The player': "quantity (trade, offer, delivery: its own; confirm: the award's; cash: what was open; award: total awarded; attempt, price, close, refused: 0)"; "The reported
-- quantity is the event's own." (document 02, Slip 7)
unfoldable pub amount : Book → Event → ℕ
amount b (event.Trade t) = t.quantity
amount b (event.Price p) = 0
amount b (event.Delivery d) = d.quantity
amount b (event.Attempt a) = 0
amount b (event.Offer o) = o.quantity
amount b (event.Award a) = sum (λ x. x.quantity) (auction_awards b)
amount b (event.Confirm c) = (award_of b c.award).quantity
amount b (event.Cash c) = (position_of b c.position).unsettled
amount b event.Close = 0
amount b (event.PairOff x) = x.quantity

-- "A trade, offer or price is added. An attempt sets its mark and starts an auction, an award ends it in awards."; "a confirmed award is marked. A close does all under Close."
-- Of a pair-off "Both fall by the quantity" (document 02, Slip 7), by its one piece.
unfoldable pub done : Book → Event → Book
done b (event.Trade t) = with_trades b (b.trades ++ t ∷ [])
done b (event.Price p) = with_prices b (set b.prices (p.security - 1) (given_on b.day p.price))
done b (event.Delivery d) = discharged b (hands_out b (event.Delivery d)) (charges b (event.Delivery d))
done b (event.Attempt a) =
    let security = (position_of b a.position).security in
    with_auction (with_marks b (b.marks ++ a.position ∷ []))
    (record { position = a.position; ceiling = ceiling (class_of b security) (latest_of b security); offers = [] })
done b (event.Offer o) =
    with_auction b
    (record { position = b.auction.position; ceiling = b.auction.ceiling; offers = b.auction.offers ++ o ∷ [] })
done b (event.Award a) = with_awards (with_auction b no_auction) (b.awards ++ auction_awards b)
done b (event.Confirm c) =
    with_awards (discharged b (hands_out b (event.Confirm c)) (charges b (event.Confirm c)))
    (number (confirmed_award c.award) 1 b.awards)
done b (event.Cash c) = discharged b (hands_out b (event.Cash c)) (charges b (event.Cash c))
done b event.Close =
    let fined = with_ledger b (posted b.ledger (charges b event.Close)) in
    let made = netted b.day b.trades (keys b.opening.register.count) in
    let netted' = with_trades (with_past (with_positions fined (b.positions ++ made)) (b.past + length b.trades)) [] in
    with_day (with_marks (with_awards netted' []) []) (suc b.day)
done b (event.PairOff x) = discharged b (hands_out b (event.PairOff x)) (charges b (event.PairOff x))

-- "A discharge (delivery, confirm, cash)", and a pair-off "as a discharge with that one piece" (document 02, Slip 7): the events whose calls have
-- a sheet
abbrev pub is_discharge : Event → Bool
is_discharge (event.Trade t) = false
is_discharge (event.Price p) = false
is_discharge (event.Delivery d) = true
is_discharge (event.Attempt a) = false
is_discharge (event.Offer o) = false
is_discharge (event.Award a) = false
is_discharge (event.Confirm c) = true
is_discharge (event.Cash c) = true
is_discharge event.Close = false
is_discharge (event.PairOff x) = true

-- the short that a discharge discharges; 0 for an event that is none
unfoldable pub short_of : Book → Event → ℕ
short_of b (event.Trade t) = 0
short_of b (event.Price p) = 0
short_of b (event.Delivery d) = d.position
short_of b (event.Attempt a) = 0
short_of b (event.Offer o) = 0
short_of b (event.Award a) = 0
short_of b (event.Confirm c) = (award_of b c.award).position
short_of b (event.Cash c) = c.position
short_of b event.Close = 0
short_of b (event.PairOff x) = x.short
