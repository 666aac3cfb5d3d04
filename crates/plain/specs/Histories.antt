-- Document 01, 'The plain book': calls one after the other. "A refused call changes nothing."
use Rattle.plain.specs.declared.Latest.{Latest}
use Rattle.std.specs.Prelude.{ℕ, suc, ◌+◌, List, [], ◌∷◌, ◌++◌, map, get_or, ℤ, eqb, cond, None, Option, Some}
use Rattle.std.proofs.Math.IntN.{sub_ℕ}
use Rattle.laws.specs.Limits.{PLACES}
use Rattle.laws.specs.Refusals.{accepted}
use Rattle.events.specs.declared.Trade.{Trade}
use Rattle.events.specs.declared.Offer.{Offer}
use Rattle.events.specs.declared.Event.{Event}
use Rattle.events.specs.declared.Event.TheVariants as event
use Rattle.plain.specs.declared.Opening.{Opening}
use Rattle.plain.specs.declared.Position.{Position}
use Rattle.plain.specs.declared.Piece.{Piece}
use Rattle.plain.specs.Book.{Book, first_day, given_on, new}
use Rattle.plain.specs.Netting.{Key, keys, units, highest_price, made, net_of, net, netted}
use Rattle.plain.specs.Dealing.{due, long_of, longs_on, takers, share, deal_to, names, taken, taken_by, lowered, lowering, fresh}
use Rattle.plain.specs.Auction.{failing, insert, by_price, awarded, unconfirmed, confirmed_award}
use Rattle.plain.specs.Charging.{Charge, credited, debited, posted, charge, buy_in_charges, settlement_price, priced_at, payment, cash_charges_by, cash_charges, award_fines, late_fines, close_charges}
use Rattle.plain.specs.Calls.{Call, call, dealt, discharged, auction_awards, hands_out, charges, amount, done}
use Rattle.plain.specs.Refusals.{step_today, free, reasons, refusal}

abbrev pub event_of : Call → Event
event_of (call e sheet) = e

-- what one call makes of the book, and the pieces, the quantity and the charges that it gives
unfoldable pub next : Book → Call → Book
next b c = let after = done b (event_of c) in accepted (refusal b c) after b

unfoldable pub pieces : Book → Call → List Piece
pieces b c = let given = hands_out b (event_of c) in accepted (refusal b c) given []

unfoldable pub quantity : Book → Call → ℕ
quantity b c = let given = amount b (event_of c) in accepted (refusal b c) given 0

unfoldable pub charged : Book → Call → List Charge
charged b c = let given = charges b (event_of c) in accepted (refusal b c) given []

-- what the plain book gives the calls one after the other: the refusal number, the quantity
unfoldable pub along : {A : Type 0} → (Book → Call → A) → Book → List Call → List A
along f b [] = []
along f b (c ∷ cs) = f b c ∷ along f (next b c) cs

abbrev pub refusals : Book → List Call → List ℕ
refusals = along refusal

abbrev pub quantities : Book → List Call → List ℕ
quantities = along quantity

-- the calls that events make, each with a sheet of 1,024 places
abbrev pub calls_of : List Event → List Call
calls_of es = map (λ e. call e PLACES) es

-- the same over a list of calls: the book after it, all pieces handed out, all charges, and the events that were accepted
unfoldable pub run : Book → List Call → Book
run b [] = b
run b (c ∷ cs) = run (next b c) cs

unfoldable pub handed : Book → List Call → List Piece
handed b [] = []
handed b (c ∷ cs) = pieces b c ++ handed (next b c) cs

unfoldable pub all_charges : Book → List Call → List Charge
all_charges b [] = []
all_charges b (c ∷ cs) = charged b c ++ all_charges (next b c) cs

unfoldable pub accepted_events : Book → List Call → List Event
accepted_events b [] = []
accepted_events b (c ∷ cs) =
    let given = event_of c ∷ [] in
    accepted (refusal b c) given [] ++ accepted_events (next b c) cs

-- the positions that the accepted trades and closes alone make, from a day and the trades of that day so far
unfoldable pub formed : List Key → ℕ → List Trade → List Event → List Position
formed ks day trades [] = []
formed ks day trades (event.Trade t ∷ es) = formed ks day (trades ++ t ∷ []) es
formed ks day trades (event.Price p ∷ es) = formed ks day trades es
formed ks day trades (event.Delivery d ∷ es) = formed ks day trades es
formed ks day trades (event.Attempt a ∷ es) = formed ks day trades es
formed ks day trades (event.Offer o ∷ es) = formed ks day trades es
formed ks day trades (event.Award a ∷ es) = formed ks day trades es
formed ks day trades (event.Confirm c ∷ es) = formed ks day trades es
formed ks day trades (event.Cash c ∷ es) = formed ks day trades es
formed ks day trades (event.Close ∷ es) = netted day trades ks ++ formed ks (suc day) [] es
formed ks day trades (event.PairOff x ∷ es) = formed ks day trades es

-- those that they make of a new book
abbrev pub formed_by : Opening → List Event → List Position
formed_by opening es = formed (keys opening.register.count) (first_day opening) [] es

-- the trades accepted on a day that was closed, from a day and the trades of that day so far: those that the close of day d netted
unfoldable pub traded_on : ℕ → ℕ → List Trade → List Event → List Trade
traded_on d day trades [] = []
traded_on d day trades (event.Trade t ∷ es) = traded_on d day (trades ++ t ∷ []) es
traded_on d day trades (event.Price p ∷ es) = traded_on d day trades es
traded_on d day trades (event.Delivery x ∷ es) = traded_on d day trades es
traded_on d day trades (event.Attempt a ∷ es) = traded_on d day trades es
traded_on d day trades (event.Offer o ∷ es) = traded_on d day trades es
traded_on d day trades (event.Award a ∷ es) = traded_on d day trades es
traded_on d day trades (event.Confirm c ∷ es) = traded_on d day trades es
traded_on d day trades (event.Cash c ∷ es) = traded_on d day trades es
traded_on d day trades (event.Close ∷ es) =
    let later = traded_on d (suc day) [] es in
    cond (eqb day d) trades later
traded_on d day trades (event.PairOff x ∷ es) = traded_on d day trades es

-- those of a new book
abbrev pub trades_on : Opening → List Event → ℕ → List Trade
trades_on opening es d = traded_on d (first_day opening) [] es

-- the latest price of a security that the accepted prices and closes alone make, from a day and what was given up to then
unfoldable pub last_given : ℕ → ℕ → Option Latest → List Event → Option Latest
last_given security day latest [] = latest
last_given security day latest (event.Trade t ∷ es) = last_given security day latest es
last_given security day latest (event.Price p ∷ es) =
    let given = cond (eqb p.security security) (Some (given_on day p.price)) latest in
    last_given security day given es
last_given security day latest (event.Delivery d ∷ es) = last_given security day latest es
last_given security day latest (event.Attempt a ∷ es) = last_given security day latest es
last_given security day latest (event.Offer o ∷ es) = last_given security day latest es
last_given security day latest (event.Award a ∷ es) = last_given security day latest es
last_given security day latest (event.Confirm c ∷ es) = last_given security day latest es
last_given security day latest (event.Cash c ∷ es) = last_given security day latest es
last_given security day latest (event.Close ∷ es) = last_given security (suc day) latest es
last_given security day latest (event.PairOff x ∷ es) = last_given security day latest es

-- that which they make of a new book
abbrev pub latest_by : Opening → List Event → ℕ → Option Latest
latest_by opening es security = last_given security (first_day opening) None es

-- the offers of the running auction that the accepted attempts, offers and awards alone make, from those that were in up to then
unfoldable pub offered : List Offer → List Event → List Offer
offered offers [] = offers
offered offers (event.Trade t ∷ es) = offered offers es
offered offers (event.Price p ∷ es) = offered offers es
offered offers (event.Delivery d ∷ es) = offered offers es
offered offers (event.Attempt a ∷ es) = offered [] es
offered offers (event.Offer o ∷ es) = offered (offers ++ o ∷ []) es
offered offers (event.Award a ∷ es) = offered [] es
offered offers (event.Confirm c ∷ es) = offered offers es
offered offers (event.Cash c ∷ es) = offered offers es
offered offers (event.Close ∷ es) = offered offers es
offered offers (event.PairOff x ∷ es) = offered offers es

-- those that they make of a new book
abbrev pub offers_by : List Event → List Offer
offers_by es = offered [] es

-- "a credit is positive": the balance of an account
unfoldable pub balance : Book → ℕ → ℤ
balance b k = sub_ℕ (get_or b.ledger.credits k 0) (get_or b.ledger.debits k 0)

-- Unfolding this unfolds the whole book, for worked examples.
unfoldable pub computing : Unit {0}
unfolding along new keys units highest_price made net_of net netted due long_of longs_on takers share deal_to names taken taken_by lowered lowering fresh failing insert by_price awarded unconfirmed confirmed_award credited debited posted charge buy_in_charges settlement_price priced_at payment cash_charges_by cash_charges award_fines late_fines close_charges dealt discharged auction_awards hands_out charges amount done step_today free reasons refusal next pieces quantity charged run handed all_charges accepted_events formed traded_on last_given offered balance
computing = tt
