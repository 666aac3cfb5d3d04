-- A core with one of its parts changed: no other file writes the parts out. And the core after each call.
use Rattle.std.specs.Prelude.{ℕ, ◌-◌, ◌+◌, set}
use Rattle.laws.specs.declared.BusinessDay.{BusinessDay}
use Rattle.events.specs.declared.Price.{Price}
use Rattle.events.specs.declared.Offer.{Offer}
use Rattle.tables.specs.declared.Prices.{Prices}
use Rattle.tables.specs.declared.Auction.{Auction}
use Rattle.tables.specs.declared.Marks.{Marks}
use Rattle.machine.specs.declared.Core.{Core}

abbrev pub with_day : Core → BusinessDay → Core
with_day b x =
    record { opening = b.opening; day = x; prices = b.prices; auction = b.auction; marks = b.marks; late = b.late; positions = b.positions; trades = b.trades; netted = b.netted; awards = b.awards }

abbrev pub with_prices : Core → Prices → Core
with_prices b x =
    record { opening = b.opening; day = b.day; prices = x; auction = b.auction; marks = b.marks; late = b.late; positions = b.positions; trades = b.trades; netted = b.netted; awards = b.awards }

abbrev pub with_auction : Core → Auction → Core
with_auction b x =
    record { opening = b.opening; day = b.day; prices = b.prices; auction = x; marks = b.marks; late = b.late; positions = b.positions; trades = b.trades; netted = b.netted; awards = b.awards }

abbrev pub with_marks : Core → Marks → Core
with_marks b x =
    record { opening = b.opening; day = b.day; prices = b.prices; auction = b.auction; marks = x; late = b.late; positions = b.positions; trades = b.trades; netted = b.netted; awards = b.awards }

abbrev pub with_late : Core → ℕ → Core
with_late b x =
    record { opening = b.opening; day = b.day; prices = b.prices; auction = b.auction; marks = b.marks; late = x; positions = b.positions; trades = b.trades; netted = b.netted; awards = b.awards }

abbrev pub with_positions : Core → ℕ → Core
with_positions b x =
    record { opening = b.opening; day = b.day; prices = b.prices; auction = b.auction; marks = b.marks; late = b.late; positions = x; trades = b.trades; netted = b.netted; awards = b.awards }

abbrev pub with_trades : Core → ℕ → Core
with_trades b x =
    record { opening = b.opening; day = b.day; prices = b.prices; auction = b.auction; marks = b.marks; late = b.late; positions = b.positions; trades = x; netted = b.netted; awards = b.awards }

abbrev pub with_netted : Core → ℕ → Core
with_netted b x =
    record { opening = b.opening; day = b.day; prices = b.prices; auction = b.auction; marks = b.marks; late = b.late; positions = b.positions; trades = b.trades; netted = x; awards = b.awards }

abbrev pub with_awards : Core → ℕ → Core
with_awards b x =
    record { opening = b.opening; day = b.day; prices = b.prices; auction = b.auction; marks = b.marks; late = b.late; positions = b.positions; trades = b.trades; netted = b.netted; awards = x }

-- one more trade is held
abbrev pub traded_core : Core → Core
traded_core b = with_trades b (b.trades + 1)

-- a security's latest price, given today
abbrev pub priced_core : Core → Price → Core
priced_core b p =
    with_prices b
    (record { latest = set b.prices.latest (p.security - 1) p.price; days = set b.prices.days (p.security - 1) b.day })

-- one more mark, and an auction without offers
abbrev pub attempted_core : Core → ℕ → ℕ → Core
attempted_core b n top =
    with_marks (with_auction b (record { position = n; ceiling = top; offers = b.auction.offers; count = 0 }))
    (record { items = set b.marks.items b.marks.count n; count = b.marks.count + 1 })

-- one more offer
abbrev pub offered_core : Core → Offer → Core
offered_core b o =
    with_auction b
    (record { position = b.auction.position; ceiling = b.auction.ceiling; offers = set b.auction.offers b.auction.count o; count = b.auction.count + 1 })

-- an auction that ended in so many awards of today
abbrev pub awarded_core : Core → ℕ → Core
awarded_core b count = with_awards (with_auction b (record { position = 0; ceiling = 0; offers = b.auction.offers; count = 0 })) count

-- "awards and attempt marks cleared, the day raised by 1", with so many positions, and the place up to which they are late then
abbrev pub closed_core : Core → ℕ → ℕ → Core
closed_core b late positions =
    with_day
    (with_marks
    (with_awards
    (with_netted
    (with_positions
    (with_late b late)
    positions)
    b.trades)
    0)
    (record { items = b.marks.items; count = 0 }))
    (record { 0 = b.day.0 + 1 })
