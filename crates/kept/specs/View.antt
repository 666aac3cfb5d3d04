-- The machine's book as one record: what it stands for, and what holds of every book that the calls leave.
use Rattle.std.specs.Prelude.{ℕ, zero, suc}
use Rattle.laws.specs.declared.BusinessDay.{BusinessDay}
use Rattle.register.specs.Accepted.{Registered}
use Rattle.plain.specs.declared.Opening.{Opening}
use Rattle.plain.specs.declared.Ledger.{Ledger}
use Rattle.plain.specs.Book as plain
use Rattle.plain.specs.Sound.{Sound, Places, Balanced, Bound}
use Rattle.tables.specs.declared.Prices.{Prices}
use Rattle.tables.specs.declared.Auction.{Auction}
use Rattle.tables.specs.declared.Marks.{Marks}
use Rattle.tables.specs.Tables as table

-- the parts that a book keeps: each table with the number of its places in use
pub record Kept : Type 0 where
  pub opening : Opening
  pub day : BusinessDay
  pub trades : table.Trades
  pub prices : Prices
  pub positions : table.Positions
  pub auction : Auction
  pub awards : table.Awards
  pub marks : Marks
  pub ledger : Ledger

-- the plain book that it stands for: of each table the places in use
unfoldable pub view : Kept → plain.Book
view b =
    record {
      opening = b.opening;
      day = b.day.0;
      past = b.trades.netted;
      trades = table.today b.trades;
      prices = table.prices b.prices;
      positions = table.positions b.positions;
      auction = table.auction b.auction;
      awards = table.awards b.awards;
      marks = table.marks b.marks;
      ledger = b.ledger;
    }

-- the tables have their places, and their counts are within them
pub record Fits (b : Kept) : Type 0 where
  pub register : Registered b.opening.register
  pub trades : table.TradesFit b.trades
  pub positions : table.PositionsFit b.positions
  pub auction : table.AuctionFits b.auction
  pub awards : table.AwardsFit b.awards
  pub marks : table.MarksFit b.marks
  pub places : Places b.ledger

-- what holds of every book that opening or a call leaves
pub record Valid (b : Kept) : Type 0 where
  pub fits : Fits b
  pub sound : Sound (view b)
  pub balanced : Balanced b.ledger
  pub bound : Bound (view b)
