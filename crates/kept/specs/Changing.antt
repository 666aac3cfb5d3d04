-- The record of a book's tables with one of its parts changed: no other file writes the parts out.
use Rattle.laws.specs.declared.BusinessDay.{BusinessDay}
use Rattle.plain.specs.declared.Ledger.{Ledger}
use Rattle.tables.specs.declared.Prices.{Prices}
use Rattle.tables.specs.declared.Auction.{Auction}
use Rattle.tables.specs.declared.Marks.{Marks}
use Rattle.tables.specs.Tables as table
use Rattle.kept.specs.View.{Kept}

abbrev pub with_day : Kept → BusinessDay → Kept
with_day b x =
    record { opening = b.opening; day = x; trades = b.trades; prices = b.prices; positions = b.positions; auction = b.auction; awards = b.awards; marks = b.marks; ledger = b.ledger }

abbrev pub with_trades : Kept → table.Trades → Kept
with_trades b x =
    record { opening = b.opening; day = b.day; trades = x; prices = b.prices; positions = b.positions; auction = b.auction; awards = b.awards; marks = b.marks; ledger = b.ledger }

abbrev pub with_prices : Kept → Prices → Kept
with_prices b x =
    record { opening = b.opening; day = b.day; trades = b.trades; prices = x; positions = b.positions; auction = b.auction; awards = b.awards; marks = b.marks; ledger = b.ledger }

abbrev pub with_positions : Kept → table.Positions → Kept
with_positions b x =
    record { opening = b.opening; day = b.day; trades = b.trades; prices = b.prices; positions = x; auction = b.auction; awards = b.awards; marks = b.marks; ledger = b.ledger }

abbrev pub with_auction : Kept → Auction → Kept
with_auction b x =
    record { opening = b.opening; day = b.day; trades = b.trades; prices = b.prices; positions = b.positions; auction = x; awards = b.awards; marks = b.marks; ledger = b.ledger }

abbrev pub with_awards : Kept → table.Awards → Kept
with_awards b x =
    record { opening = b.opening; day = b.day; trades = b.trades; prices = b.prices; positions = b.positions; auction = b.auction; awards = x; marks = b.marks; ledger = b.ledger }

abbrev pub with_marks : Kept → Marks → Kept
with_marks b x =
    record { opening = b.opening; day = b.day; trades = b.trades; prices = b.prices; positions = b.positions; auction = b.auction; awards = b.awards; marks = x; ledger = b.ledger }

abbrev pub with_ledger : Kept → Ledger → Kept
with_ledger b x =
    record { opening = b.opening; day = b.day; trades = b.trades; prices = b.prices; positions = b.positions; auction = b.auction; awards = b.awards; marks = b.marks; ledger = x }
