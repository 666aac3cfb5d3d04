-- Document 01, 'Edges and a squeeze' and 'Event files and the player', and document 02: worked histories as lists of calls on the plain book.
use Rattle.std.specs.Prelude.{ℕ, List, [], ◌∷◌, ◌++◌, map, replicate}
use Rattle.events.specs.declared.Event.{Event}
use Rattle.events.specs.declared.Event.TheVariants as event
use Rattle.plain.specs.Book.{Book, opening_read, new}
use Rattle.plain.specs.Calls.{Call}
use Rattle.plain.specs.Histories.{calls_of}

-- the bytes of an ISIN that begins XX000000000 and ends in the given digit: X is 88, 0 is 48
abbrev pub xx : ℕ → List ℕ
xx digit = 88 ∷ 88 ∷ replicate 9 48 ++ digit ∷ []

-- "Register: class 1, XX0000000002": the bytes of the register, and the book that opens on them
abbrev pub one_share_bytes : List ℕ
one_share_bytes = 1 ∷ 0 ∷ 1 ∷ xx 50

abbrev pub one_share : Book
one_share = new (opening_read one_share_bytes)

-- two shares, XX0000000002 and XX0000000010
abbrev pub two_shares_bytes : List ℕ
two_shares_bytes = 2 ∷ 0 ∷ 1 ∷ 1 ∷ xx 50 ++ 88 ∷ 88 ∷ replicate 8 48 ++ 49 ∷ 48 ∷ []

abbrev pub two_shares : Book
two_shares = new (opening_read two_shares_bytes)

-- events about its one security and its first short, position 1

-- a trade with the kind bytes of both sides, each after its member
abbrev trade_of : ℕ → ℕ → ℕ → ℕ → ℕ → ℕ → ℕ → Event
trade_of seller sellerkind buyer buyerkind security quantity price =
    event.Trade
    (record {
      seller = seller;
      buyer = buyer;
      security = security;
      quantity = quantity;
      price = price;
      sellerkind = sellerkind;
      buyerkind = buyerkind;
    })

abbrev trade : ℕ → ℕ → ℕ → ℕ → Event
trade seller buyer quantity price = trade_of seller 0 buyer 0 1 quantity price

abbrev price : ℕ → Event
price p = event.Price (record { security = 1; price = p })

abbrev delivery_of : ℕ → ℕ → Event
delivery_of n q = event.Delivery (record { position = n; quantity = q })

abbrev delivery : ℕ → Event
delivery q = delivery_of 1 q

abbrev offer_on : ℕ → ℕ → ℕ → ℕ → Event
offer_on n member quantity price = event.Offer (record { position = n; offerer = member; quantity = quantity; price = price })

abbrev offer : ℕ → ℕ → ℕ → Event
offer member quantity price = offer_on 1 member quantity price

abbrev attempt_on : ℕ → Event
attempt_on n = event.Attempt (record { position = n })

abbrev attempt : Event
attempt = attempt_on 1

abbrev cash_of : ℕ → Event
cash_of n = event.Cash (record { position = n })

abbrev cash : Event
cash = cash_of 1

abbrev pair_off : ℕ → ℕ → ℕ → Event
pair_off short long quantity = event.PairOff (record { short = short; long = long; quantity = quantity })

abbrev closes : ℕ → List Event
closes n = replicate n event.Close

-- "day 1, member 1 sells 100 to 2 at 1,000 and 50 to 3 at 1,200; price 1,100. Day 2: delivery refused 17. Day 3: 30 delivered.
-- Day 8: attempt; offers 40 at 1,300 (member 4), 30 at 1,250 (member 5); award 70; award 1 confirmed. Day 11: cash 90"
-- document 02, Slip 3: "The squeeze of document 01 gains a price event of 1,100 as the first event of days 8 and 11, with the same sums."
abbrev pub squeeze : List Call
squeeze =
    calls_of
    (trade 1 2 100 1000
    ∷ trade 1 3 50 1200
    ∷ price 1100
    ∷ event.Close
    ∷ delivery 30
    ∷ event.Close
    ∷ delivery 30
    ∷ closes 5
    ++ (price 1100
    ∷ attempt
    ∷ offer 4 40 1300
    ∷ offer 5 30 1250
    ∷ event.Award (record { position = 1 })
    ∷ event.Confirm (record { award = 1 })
    ∷ closes 3
    ++ price 1100
    ∷ cash
    ∷ []))

-- "member 1 sells to member 2 100 units of security 1 at 1,000; close; close; deliver 100 of position 1"
abbrev pub example : List Call
example = calls_of (trade 1 2 100 1000 ∷ event.Close ∷ event.Close ∷ delivery 100 ∷ [])

-- two delivery days: day 1, member 1 sells 100 to 2; day 2, member 3 sells 50 to 4; on day 4 all are due. The delivery of the later short goes
-- to the earlier long first, so that the earlier short's reaches the later long ("pairing a short only with longs of its own S" is a habit of
-- older books)
abbrev pub two_days : List Call
two_days =
    calls_of
    (trade 1 2 100 1000
    ∷ event.Close
    ∷ trade 3 4 50 1000
    ∷ event.Close
    ∷ event.Close
    ∷ delivery_of 3 50
    ∷ delivery_of 1 100
    ∷ [])

-- prices of the day before. Member 1 sells 100 to 2, due on day 3. Day 8: an attempt without any price; price 1,100. Day 9: an attempt. Day 10:
-- price 1,200. Day 11: cash
abbrev pub old_prices : List Call
old_prices =
    calls_of
    (trade 1 2 100 1000
    ∷ closes 7
    ++ (attempt
    ∷ price 1100
    ∷ event.Close
    ∷ attempt
    ∷ event.Close
    ∷ price 1200
    ∷ event.Close
    ∷ cash
    ∷ event.Close
    ∷ []))

-- nothing is open: all is delivered on day 3; on day 11 a cash settlement on a price of day 1, and another on one of day 11
abbrev pub all_delivered : List Call
all_delivered =
    calls_of
    (trade 1 2 100 1000
    ∷ price 1100
    ∷ event.Close
    ∷ event.Close
    ∷ delivery 100
    ∷ closes 8
    ++ (cash
    ∷ price 1100
    ∷ cash
    ∷ []))

-- one price for a whole cash settlement. Day 1: member 1 sells 60 to 2 at 1,000, member 4 sells 50 to 3 at 3,000. Day 3: member 4's 50 are delivered, to
-- position 2. Day 11, at the price 1,100: position 1 is settled in cash, with 10 to position 2 and 50 to position 3
abbrev pub two_longs : List Call
two_longs =
    calls_of
    (trade 1 2 60 1000
    ∷ trade 4 3 50 3000
    ∷ event.Close
    ∷ event.Close
    ∷ delivery_of 4 50
    ∷ closes 8
    ++ (price 1100
    ∷ cash
    ∷ []))

-- with two more sellers: 5 sells 10 to 6 at 1,500, 7 sells 20 to 8 at 5,000. Of the longs in the pieces the middle one has the highest reference price, and
-- position 8, a due long with a higher one, has no share. Then position 7 is settled, whose own reference price is the highest
abbrev pub four_longs : List Call
four_longs =
    calls_of
    (trade 1 2 60 1000
    ∷ trade 4 3 50 3000
    ∷ trade 5 6 10 1500
    ∷ trade 7 8 20 5000
    ∷ event.Close
    ∷ event.Close
    ∷ delivery_of 4 50
    ∷ delivery_of 5 5
    ∷ closes 8
    ++ (price 1100
    ∷ cash
    ∷ cash_of 7
    ∷ []))

-- own and client business, on a register of two shares. Day 1: member 1's clients sell 30 of security 2 to member 2 at 1,000, member 1 itself sells 20 of
-- security 1 to member 2's clients at 1,500, and member 1's clients sell 10 of security 1 to member 1 itself at 2,000. Then five trades that are
-- refused: seller is buyer with the kind bytes 0 and 0, and 7 and 7; with 7 and 8; the seller's byte is 2; the buyer's is 255. Day 3: 10 of position 1
-- and 10 of position 2 are delivered
abbrev pub both_kinds : List Call
both_kinds =
    calls_of
    (trade_of 1 1 2 0 2 30 1000
    ∷ trade_of 1 0 2 1 1 20 1500
    ∷ trade_of 1 1 1 0 1 10 2000
    ∷ trade_of 1 0 1 0 1 10 2000
    ∷ trade_of 1 7 1 7 1 10 2000
    ∷ trade_of 1 7 1 8 1 10 2000
    ∷ trade_of 1 2 2 0 1 10 2000
    ∷ trade_of 1 0 2 255 1 10 2000
    ∷ event.Close
    ∷ event.Close
    ∷ delivery_of 1 10
    ∷ delivery_of 2 10
    ∷ [])

-- who may not offer. Day 1: member 1's clients sell 100 to 2, member 3 itself sells 50 to 2. Day 8: an attempt on member 3's short, position 3, and offers of
-- members 1, 3 and 4
abbrev pub failing_by_kind : List Call
failing_by_kind =
    calls_of
    (trade_of 1 1 2 0 1 100 1000
    ∷ trade 3 2 50 1000
    ∷ closes 7
    ++ (price 1100
    ∷ attempt_on 3
    ∷ offer_on 3 1 10 1100
    ∷ offer_on 3 3 10 1100
    ∷ offer_on 3 4 10 1100
    ∷ []))

-- auctions on one short (document 02, Slip 6). Day 1: member 1 sells 60 to 2 at 1,000. Day 8, at the price 1,100: an attempt on position 1, and offers
abbrev pub auction_of : List Event → List Call
auction_of offers = calls_of (trade 1 2 60 1000 ∷ closes 7 ++ (price 1100 ∷ attempt ∷ offers))

-- the same with its award, and then with confirmations of the awards numbered so
abbrev pub award_of : List Event → List ℕ → List Call
award_of offers confirmed =
    auction_of (offers ++ event.Award (record { position = 1 }) ∷ map (λ n. event.Confirm (record { award = n })) confirmed)

-- two offers at one price, the later one taken in part, and a cheaper one that came last
abbrev pub one_price_twice : List Event
one_price_twice = offer 4 20 1200 ∷ offer 5 30 1200 ∷ offer 6 25 900 ∷ []

-- the second in order taken in part, and one that finds nothing left
abbrev pub last_in_part : List Event
last_in_part = offer 4 50 1100 ∷ offer 5 10 1150 ∷ offer 6 40 1050 ∷ []

-- less than what is open
abbrev pub too_few_offers : List Event
too_few_offers = offer 4 10 1300 ∷ offer 5 20 1100 ∷ []

-- pair-offs (document 02, Slip 7). Day 1: member 1 sells 100 to 2, positions 1 and 2. Day 2: member 3 sells 60 to member 1 and 10 to member 1's clients,
-- positions 3 (own long), 4 (client long) and 5 (member 3's short). Day 3: the first two are due, the others are not; 1 with 3, and 5 with 3. Day 4: 1 with the
-- client long; with member 2's long; with a short; with itself; the long 3 as the first; 65,537 as the second; position 6; position 0 first, with quantity 0;
-- quantity 0, also of a long; more than is open of the long; 40; one more than is left of the long. Then member 3 delivers 70 and member 1 the rest
abbrev pub paired_off : List Call
paired_off =
    calls_of
    (trade 1 2 100 1000
    ∷ event.Close
    ∷ trade 3 1 60 1000
    ∷ trade_of 3 0 1 1 1 10 1000
    ∷ event.Close
    ∷ pair_off 1 3 40
    ∷ pair_off 5 3 40
    ∷ event.Close
    ∷ pair_off 1 4 10
    ∷ pair_off 1 2 40
    ∷ pair_off 1 5 40
    ∷ pair_off 1 1 40
    ∷ pair_off 3 1 40
    ∷ pair_off 1 65537 40
    ∷ pair_off 1 6 40
    ∷ pair_off 0 3 0
    ∷ pair_off 1 3 0
    ∷ pair_off 3 3 0
    ∷ pair_off 1 3 61
    ∷ pair_off 1 3 40
    ∷ pair_off 1 3 21
    ∷ delivery_of 5 70
    ∷ delivery 60
    ∷ [])

-- pair-offs and an auction. Day 1: member 1 sells 100 to 2. Day 2: member 3 sells 60 to 1, position 3. Day 8: an attempt on position 1; 1 with 3 while it runs, and
-- with member 2's long; member 4 offers 70, which are awarded; of the 30 that are free, 31 and then 30 are set off; the award is confirmed; the close
abbrev pub paired_beside_awards : List Call
paired_beside_awards =
    calls_of
    (trade 1 2 100 1000
    ∷ event.Close
    ∷ trade 3 1 60 1000
    ∷ closes 6
    ++ (price 1100
    ∷ attempt
    ∷ pair_off 1 3 10
    ∷ pair_off 1 2 10
    ∷ offer 4 70 1100
    ∷ event.Award (record { position = 1 })
    ∷ pair_off 1 3 31
    ∷ pair_off 1 3 30
    ∷ event.Confirm (record { award = 1 })
    ∷ event.Close
    ∷ []))

-- who may offer after a pair-off. Day 1: member 1 sells 20 to 2, member 5 sells 50 to 6. Day 2: member 3 sells 20 to 1, position 5. Day 8: an attempt on member 5's
-- short, position 3; member 1 offers, sets its short off against its long, and offers again
abbrev pub freed_by_pair_off : List Call
freed_by_pair_off =
    calls_of
    (trade 1 2 20 1000
    ∷ trade 5 6 50 1000
    ∷ event.Close
    ∷ trade 3 1 20 1000
    ∷ closes 6
    ++ (price 1100
    ∷ attempt_on 3
    ∷ offer_on 3 1 10 1100
    ∷ pair_off 1 5 20
    ∷ offer_on 3 1 10 1100
    ∷ []))
