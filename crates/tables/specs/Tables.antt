-- What each table of the machine's book stands for in the plain book, and what its counts are bounded by.
use Rattle.std.specs.Prelude.{ℕ, ◌≤◌, ◌≡◌, length, take, drop}
use mathlib.Core.List.{List, zip_with}
use Rattle.laws.specs.Limits.{TRADES, POSITIONS, PLACES, OFFERS, AWARDS, ATTEMPTS}
use Rattle.laws.specs.declared.BusinessDay.{BusinessDay}
use Rattle.events.specs.declared.Trade.{Trade}
use Rattle.plain.specs.declared.Latest.{Latest}
use Rattle.plain.specs.declared.Position.{Position}
use Rattle.plain.specs.declared.Piece.{Piece}
use Rattle.plain.specs.declared.Award.{Award}
use Rattle.plain.specs.Book as plain
use Rattle.tables.specs.declared.Pieces.{Pieces}
use Rattle.tables.specs.declared.Prices.{Prices}
use Rattle.tables.specs.declared.Auction.{Auction}
use Rattle.tables.specs.declared.Marks.{Marks}

-- all trades that a book holds; the first `netted` are of earlier days
pub record Trades : Type 0 where
  pub items : List Trade
  pub count : ℕ
  pub netted : ℕ

pub record Positions : Type 0 where
  pub items : List Position
  pub count : ℕ

-- the awards of today
pub record Awards : Type 0 where
  pub items : List Award
  pub count : ℕ

unfoldable pub today : Trades → List Trade
today t = drop t.netted (take t.count t.items)

-- a price with its day
abbrev pub dated : ℕ → BusinessDay → Latest
dated price day = record { price = price; day = day }

-- the latest price of each security: the two columns joined place by place
unfoldable pub prices : Prices → List Latest
prices t = zip_with dated t.latest t.days

unfoldable pub positions : Positions → List Position
positions t = take t.count t.items

unfoldable pub pieces : Pieces → List Piece
pieces t = take t.count t.items

unfoldable pub auction : Auction → plain.Auction
auction a = record { position = a.position; ceiling = a.ceiling; offers = take a.count a.offers }

unfoldable pub awards : Awards → List Award
awards t = take t.count t.items

unfoldable pub marks : Marks → List ℕ
marks t = take t.count t.items

-- the places of each table, and how many of them may be in use
pub record TradesFit (t : Trades) : Type 0 where
  pub places : length t.items ≡ TRADES
  pub held : t.count ≤ TRADES
  pub past : t.netted ≤ t.count

pub record PositionsFit (t : Positions) : Type 0 where
  pub places : length t.items ≡ POSITIONS
  pub held : t.count ≤ POSITIONS

pub record PiecesFit (t : Pieces) : Type 0 where
  pub places : length t.items ≡ PLACES
  pub held : t.count ≤ PLACES

pub record AuctionFits (a : Auction) : Type 0 where
  pub places : length a.offers ≡ OFFERS
  pub held : a.count ≤ OFFERS

pub record AwardsFit (t : Awards) : Type 0 where
  pub places : length t.items ≡ AWARDS
  pub held : t.count ≤ AWARDS

pub record MarksFit (t : Marks) : Type 0 where
  pub places : length t.items ≡ ATTEMPTS
  pub held : t.count ≤ ATTEMPTS
