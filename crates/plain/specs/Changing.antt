-- A book with one part changed: no other file writes a book's parts out.
use Rattle.std.specs.Prelude.{ℕ, List}
use Rattle.events.specs.declared.Trade.{Trade}
use Rattle.plain.specs.declared.Latest.{Latest}
use Rattle.plain.specs.declared.Position.{Position}
use Rattle.plain.specs.declared.Award.{Award}
use Rattle.plain.specs.declared.Ledger.{Ledger}
use Rattle.plain.specs.Book.{Book, Auction}

abbrev pub with_day : Book → ℕ → Book
with_day b x =
    record { opening = b.opening; day = x; past = b.past; trades = b.trades; prices = b.prices; positions = b.positions; auction = b.auction; awards = b.awards; marks = b.marks; ledger = b.ledger }

abbrev pub with_past : Book → ℕ → Book
with_past b x =
    record { opening = b.opening; day = b.day; past = x; trades = b.trades; prices = b.prices; positions = b.positions; auction = b.auction; awards = b.awards; marks = b.marks; ledger = b.ledger }

abbrev pub with_trades : Book → List Trade → Book
with_trades b x =
    record { opening = b.opening; day = b.day; past = b.past; trades = x; prices = b.prices; positions = b.positions; auction = b.auction; awards = b.awards; marks = b.marks; ledger = b.ledger }

abbrev pub with_prices : Book → List Latest → Book
with_prices b x =
    record { opening = b.opening; day = b.day; past = b.past; trades = b.trades; prices = x; positions = b.positions; auction = b.auction; awards = b.awards; marks = b.marks; ledger = b.ledger }

abbrev pub with_positions : Book → List Position → Book
with_positions b x =
    record { opening = b.opening; day = b.day; past = b.past; trades = b.trades; prices = b.prices; positions = x; auction = b.auction; awards = b.awards; marks = b.marks; ledger = b.ledger }

abbrev pub with_auction : Book → Auction → Book
with_auction b x =
    record { opening = b.opening; day = b.day; past = b.past; trades = b.trades; prices = b.prices; positions = b.positions; auction = x; awards = b.awards; marks = b.marks; ledger = b.ledger }

abbrev pub with_awards : Book → List Award → Book
with_awards b x =
    record { opening = b.opening; day = b.day; past = b.past; trades = b.trades; prices = b.prices; positions = b.positions; auction = b.auction; awards = x; marks = b.marks; ledger = b.ledger }

abbrev pub with_marks : Book → List ℕ → Book
with_marks b x =
    record { opening = b.opening; day = b.day; past = b.past; trades = b.trades; prices = b.prices; positions = b.positions; auction = b.auction; awards = b.awards; marks = x; ledger = b.ledger }

abbrev pub with_ledger : Book → Ledger → Book
with_ledger b x =
    record { opening = b.opening; day = b.day; past = b.past; trades = b.trades; prices = b.prices; positions = b.positions; auction = b.auction; awards = b.awards; marks = b.marks; ledger = x }
