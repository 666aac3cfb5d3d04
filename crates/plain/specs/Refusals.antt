-- Document 01, 'Why a call is turned down', 8 to 26, and document 02, 32 to 34: each reason over the values that it looks at, the reasons of each call
-- in the order of the papers' list, and what they say on the plain book. A reason is named after what turns the call down.
use Rattle.plain.specs.declared.Latest.{Latest}
use Rattle.std.specs.Prelude.{ℕ, ◌+◌, ◌-◌, List, [], ◌∷◌, ◌++◌, Bool, true, false, not, ◌&&◌, length, ltb, leb, eqb, None, Option, Some}
use Rattle.laws.specs.Asked.{within}
use Rattle.laws.specs.Limits.{MEMBERS, MOST_QUANTITY, MOST_PRICE, TRADES, PLACES, ATTEMPTS, OFFERS, LAST_DAY}
use Rattle.laws.specs.Lists.{some}
use Rattle.laws.specs.Refusals.{Reason, ◌⇒◌, first}
use Rattle.rules.specs.Windows.{step_on, step_kind}
use Rattle.rules.specs.declared.Step.{Step}
use Rattle.rules.specs.declared.Step.TheVariants as step
use Rattle.events.specs.declared.Trade.{Trade}
use Rattle.events.specs.declared.Price.{Price}
use Rattle.events.specs.declared.Delivery.{Delivery}
use Rattle.events.specs.declared.Offer.{Offer}
use Rattle.events.specs.declared.PairOff.{PairOff}
use Rattle.events.specs.declared.Event.TheVariants as event
use Rattle.plain.specs.declared.Kind.TheVariants.{Client}
use Rattle.plain.specs.declared.Position.{Position}
use Rattle.plain.specs.declared.Award.{Award}
use Rattle.plain.specs.Book.{Book, position_of, award_of, class_of, latest_price}
use Rattle.plain.specs.Netting.{kind_number}
use Rattle.plain.specs.Dealing.{due}
use Rattle.plain.specs.Auction.{failing, unconfirmed}
use Rattle.plain.specs.Calls.{Call, call}

-- The reasons

-- 8. "The sheet has under 1,024 places (delivery, confirm, cash)." And of a pair-off: "Refusals 8, 11, 12, 16 to 18 and 24 apply as in a delivery, 11
-- also to the long and 24 also to the long's open quantity." (document 02, Slip 7)
abbrev pub small_sheet : ℕ → Reason
small_sheet sheet = ltb sheet PLACES ⇒ 8

-- 9. "A member is not 1 to 63." Of a trade both its members, of an offer its offerer.
abbrev pub is_member : ℕ → Bool
is_member member = within 1 MEMBERS member

abbrev pub no_member : ℕ → Reason
no_member member = not (is_member member) ⇒ 9

-- 10. "The security is not registered." Of a trade and a price.
abbrev pub not_registered : ℕ → ℕ → Reason
not_registered securities security = not (within 1 securities security) ⇒ 10

-- 11. "The position, or today's award, is not there." Of a delivery, an attempt, an offer, an award and a cash settlement the position, of a
-- confirmation the award, of a pair-off both positions: number n of those held.
abbrev pub not_there : ℕ → ℕ → Reason
not_there held n = not (within 1 held n) ⇒ 11

-- 12. "The quantity is 0, or in a trade or offer above 1,000,000." Besides these two of a delivery and a pair-off.
abbrev pub is_quantity : ℕ → Bool
is_quantity quantity = within 1 MOST_QUANTITY quantity

abbrev pub wrong_quantity : ℕ → Reason
wrong_quantity quantity = not (is_quantity quantity) ⇒ 12

abbrev pub no_quantity : ℕ → Reason
no_quantity quantity = eqb quantity 0 ⇒ 12

-- 13. "The price is 0 or above 10,000,000." Of a trade, a price and an offer.
abbrev pub is_price : ℕ → Bool
is_price price = within 1 MOST_PRICE price

abbrev pub wrong_price : ℕ → Reason
wrong_price price = not (is_price price) ⇒ 13

-- 14. "Seller is buyer." Of a trade; "Refusal 14 now needs equal kinds too" (document 02, Slip 5), by the bytes as they are.
abbrev pub is_one_party : Trade → Bool
is_one_party t = eqb t.seller t.buyer && eqb t.sellerkind t.buyerkind

abbrev pub seller_is_buyer : Trade → Reason
seller_is_buyer t = is_one_party t ⇒ 14

-- 33. "It refuses with 33, after 14, a trade with another kind byte." (document 02, Slip 5) Of both its sides.
abbrev pub own_or_client : ℕ → Bool
own_or_client kind = leb kind (kind_number Client)

abbrev pub has_kinds : Trade → Bool
has_kinds t = own_or_client t.sellerkind && own_or_client t.buyerkind

abbrev pub wrong_kind : Trade → Reason
wrong_kind t = not (has_kinds t) ⇒ 33

-- 15. "512 trades are held." Of a trade.
abbrev pub trades_full : ℕ → Reason
trades_full held = leb TRADES held ⇒ 15

-- 16. "The position is long (delivery, attempt, cash)." Of a pair-off its first position.
abbrev pub is_long : Position → Reason
is_long p = not p.short ⇒ 16

-- 17. "Today is outside the step's window." Of an attempt and a cash settlement, by the step that today allows; and of a delivery and a pair-off,
-- by its day.
abbrev pub outside_window : Step → Step → Reason
outside_window asked today = not (eqb (step_kind today) (step_kind asked)) ⇒ 17

abbrev pub not_due : ℕ → Position → Reason
not_due day p = not (due day p) ⇒ 17

-- 34. "It refuses with 34, after 17, a second position that is not a due long of the same member, kind and security." (document 02, Slip 7) Of a
-- pair-off: whether its short p can be set off against its second position q.
abbrev pub is_pairable : ℕ → Position → Position → Bool
is_pairable day p q =
    not q.short
    && due day q
    && eqb q.member p.member
    && eqb (kind_number q.kind) (kind_number p.kind)
    && eqb q.security p.security

abbrev pub not_pairable : ℕ → Position → Position → Reason
not_pairable day p q = not (is_pairable day p q) ⇒ 34

-- 18. "An auction runs (attempt, close), runs on this short (delivery), or doesn't run on this position (offer, award)." Of a pair-off as of a
-- delivery. Of the position that it is on, 0 where none runs.
abbrev pub runs_on : ℕ → ℕ → Bool
runs_on auction n = ltb 0 auction && eqb auction n

abbrev pub auction_runs : ℕ → Reason
auction_runs auction = ltb 0 auction ⇒ 18

abbrev pub auction_on_this : ℕ → ℕ → Reason
auction_on_this auction n = runs_on auction n ⇒ 18

abbrev pub no_auction_on_this : ℕ → ℕ → Reason
no_auction_on_this auction n = not (runs_on auction n) ⇒ 18

-- 19. "The security never had a price (attempt, cash)."
abbrev pub is_never : Option Latest → Bool
is_never None = true
is_never (Some latest) = false

abbrev pub never_priced : Option Latest → Reason
never_priced latest = is_never latest ⇒ 19

-- 32. "It refuses with 32, after 19, an attempt or cash whose latest price was given before today." (document 02, Slip 3)
abbrev pub is_given_before : ℕ → Option Latest → Bool
is_given_before day None = false
is_given_before day (Some latest) = ltb latest.day.0 day

abbrev pub old_price : ℕ → Option Latest → Reason
old_price day latest = is_given_before day latest ⇒ 32

-- 20. "Sixteen attempts were opened today, or one on this short." Of an attempt.
abbrev pub attempts_full : ℕ → Reason
attempts_full attempts = leb ATTEMPTS attempts ⇒ 20

abbrev pub attempted_today : Bool → Reason
attempted_today marked = marked ⇒ 20

-- 21. "The offerer is failing in the security." Of an offer.
abbrev pub offerer_fails : Bool → Reason
offerer_fails fails = fails ⇒ 21

-- 22. "The offer exceeds the ceiling." Of an offer.
abbrev pub above_ceiling : ℕ → ℕ → Reason
above_ceiling ceiling price = ltb ceiling price ⇒ 22

-- 23. "Sixteen offers are in." Of an offer.
abbrev pub offers_full : ℕ → Reason
offers_full offers = leb OFFERS offers ⇒ 23

-- 24. "Delivery exceeds free, or open is 0 (attempt, cash)." And a pair-off exceeds its short's free, or its long's open quantity.
abbrev pub above_free : ℕ → ℕ → Reason
above_free free quantity = ltb free quantity ⇒ 24

abbrev pub above_open : Position → ℕ → Reason
above_open p quantity = ltb p.unsettled quantity ⇒ 24

abbrev pub nothing_open : Position → Reason
nothing_open p = eqb p.unsettled 0 ⇒ 24

-- 25. "The award is confirmed already." Of a confirmation.
abbrev pub confirmed_already : Award → Reason
confirmed_already award = award.confirmed ⇒ 25

-- 26. "It is day 9,999 (close)."
abbrev pub last_day : ℕ → Reason
last_day day = leb LAST_DAY day ⇒ 26

-- The lists: "Checks that don't concern the call are skipped."

-- of the number of securities registered, the number of trades held, and the trade
unfoldable pub trade_reasons : ℕ → ℕ → Trade → List Reason
trade_reasons securities held t =
    no_member t.seller
    ∷ no_member t.buyer
    ∷ not_registered securities t.security
    ∷ wrong_quantity t.quantity
    ∷ wrong_price t.price
    ∷ seller_is_buyer t
    ∷ wrong_kind t
    ∷ trades_full held
    ∷ []

-- of the number of securities registered, and the price
unfoldable pub price_reasons : ℕ → Price → List Reason
price_reasons securities p = not_registered securities p.security ∷ wrong_price p.price ∷ []

-- the first reasons of a discharge, before its position or award is looked at: of the sheet's length, how many there are, and the number named
unfoldable pub lookup_reasons : ℕ → ℕ → ℕ → List Reason
lookup_reasons sheet held n = small_sheet sheet ∷ not_there held n ∷ []

-- a delivery's after them: of its position, the day, the auction's position, what is free, and the delivery
unfoldable pub delivery_reasons : Position → ℕ → ℕ → ℕ → Delivery → List Reason
delivery_reasons p day auction free d =
    no_quantity d.quantity
    ∷ is_long p
    ∷ not_due day p
    ∷ auction_on_this auction d.position
    ∷ above_free free d.quantity
    ∷ []

-- a pair-off's, before its positions are looked at: of the sheet's length, how many positions there are, and the numbers of both
unfoldable pub both_lookup_reasons : ℕ → ℕ → ℕ → ℕ → List Reason
both_lookup_reasons sheet held short long = small_sheet sheet ∷ not_there held short ∷ not_there held long ∷ []

-- and after them: of its short and its long, the day, the auction's position, what is free of the short, and the pair-off
unfoldable pub pair_off_reasons : Position → Position → ℕ → ℕ → ℕ → PairOff → List Reason
pair_off_reasons p q day auction free x =
    no_quantity x.quantity
    ∷ is_long p
    ∷ not_due day p
    ∷ not_pairable day p q
    ∷ auction_on_this auction x.short
    ∷ above_free free x.quantity
    ∷ above_open q x.quantity
    ∷ []

-- a confirmation's after them: of its award
unfoldable pub confirm_reasons : Award → List Reason
confirm_reasons award = confirmed_already award ∷ []

-- a cash settlement's after them: of its position, the day, the step that today allows on the position, and the latest price of its security
unfoldable pub cash_reasons : Position → ℕ → Step → Option Latest → List Reason
cash_reasons p day today latest =
    is_long p
    ∷ outside_window step.Cash today
    ∷ never_priced latest
    ∷ old_price day latest
    ∷ nothing_open p
    ∷ []

-- an attempt's after 11: of its position, the day, the step that today allows on the position, the auction's position, the latest price of its
-- security, how many attempts were opened today, and whether one was on this position
unfoldable pub attempt_reasons : Position → ℕ → Step → ℕ → Option Latest → ℕ → Bool → List Reason
attempt_reasons p day today auction latest attempts marked =
    is_long p
    ∷ outside_window step.Attempt today
    ∷ auction_runs auction
    ∷ never_priced latest
    ∷ old_price day latest
    ∷ attempts_full attempts
    ∷ attempted_today marked
    ∷ nothing_open p
    ∷ []

-- an offer's that its fields decide, with the number of positions and the auction's position
unfoldable pub offer_reasons : ℕ → ℕ → Offer → List Reason
offer_reasons held auction o =
    no_member o.offerer
    ∷ not_there held o.position
    ∷ wrong_quantity o.quantity
    ∷ wrong_price o.price
    ∷ no_auction_on_this auction o.position
    ∷ []

-- an offer's after them, which the auction decides: of whether its offerer is failing, the ceiling, how many offers are in, and the price
unfoldable pub auction_reasons : Bool → ℕ → ℕ → ℕ → List Reason
auction_reasons fails ceiling offers price = offerer_fails fails ∷ above_ceiling ceiling price ∷ offers_full offers ∷ []

-- of the number of positions, the auction's position, and the position named
unfoldable pub award_reasons : ℕ → ℕ → ℕ → List Reason
award_reasons held auction n = not_there held n ∷ no_auction_on_this auction n ∷ []

-- of the auction's position, and the day
unfoldable pub close_reasons : ℕ → ℕ → List Reason
close_reasons auction day = auction_runs auction ∷ last_day day ∷ []

-- On the plain book

-- the step that today allows on a position besides delivery: r is today minus S, and at r 0 no class allows one
unfoldable pub step_today : Book → Position → Step
step_today b p = step_on (class_of b p.security) (b.day - p.settlement.0)

-- "Free is open minus today's unconfirmed awards on that position"
unfoldable pub free : Book → ℕ → ℕ
free b n = (position_of b n).unsettled - unconfirmed n b.awards

-- Unfolding this unfolds the lists too.
unfoldable pub reasons : Book → Call → List Reason
unfolding trade_reasons price_reasons lookup_reasons delivery_reasons both_lookup_reasons pair_off_reasons confirm_reasons cash_reasons attempt_reasons offer_reasons auction_reasons award_reasons close_reasons
reasons b (call (event.Trade t) sheet) = trade_reasons b.opening.register.count (b.past + length b.trades) t
reasons b (call (event.Price p) sheet) = price_reasons b.opening.register.count p
reasons b (call (event.Delivery d) sheet) =
    lookup_reasons sheet (length b.positions) d.position
    ++ delivery_reasons (position_of b d.position) b.day b.auction.position (free b d.position) d
reasons b (call (event.Attempt a) sheet) =
    let p = position_of b a.position in
    not_there (length b.positions) a.position
    ∷ attempt_reasons p b.day (step_today b p) b.auction.position (latest_price b p.security) (length b.marks) (some (λ n. eqb n a.position) b.marks)
reasons b (call (event.Offer o) sheet) =
    let fails = failing b.day b.positions (position_of b o.position).security o.offerer in
    offer_reasons (length b.positions) b.auction.position o
    ++ auction_reasons fails b.auction.ceiling (length b.auction.offers) o.price
reasons b (call (event.Award a) sheet) = award_reasons (length b.positions) b.auction.position a.position
reasons b (call (event.Confirm c) sheet) =
    lookup_reasons sheet (length b.awards) c.award ++ confirm_reasons (award_of b c.award)
reasons b (call (event.Cash c) sheet) =
    let p = position_of b c.position in
    lookup_reasons sheet (length b.positions) c.position
    ++ cash_reasons p b.day (step_today b p) (latest_price b p.security)
reasons b (call event.Close sheet) = close_reasons b.auction.position b.day
reasons b (call (event.PairOff x) sheet) =
    both_lookup_reasons sheet (length b.positions) x.short x.long
    ++ pair_off_reasons (position_of b x.short) (position_of b x.long) b.day b.auction.position (free b x.short) x

-- the number of the first reason that applies, else 0
unfoldable pub refusal : Book → Call → ℕ
refusal b c = first (reasons b c)
