-- What posting asks of the tables that it reads, each of which every plain book has.
use Rattle.std.specs.Prelude.{ℕ, ◌<◌, ◌≡◌, List, [], ◌∷◌, map, length}
use Rattle.laws.specs.Limits.{ACCOUNTS, SECURITIES, SHEET_CELLS}
use Rattle.laws.specs.declared.BusinessDay.{BusinessDay}
use Rattle.laws.specs.Lists.{All}
use Rattle.register.specs.declared.Register.{Register}
use Rattle.plain.specs.declared.Position.{Position}
use Rattle.plain.specs.declared.Piece.{Piece}
use Rattle.plain.specs.declared.Award.{Award}
use Rattle.plain.specs.declared.Ledger.{Ledger}
use Rattle.plain.specs.Charging.{Charge, priced_at}
use Rattle.laws.specs.Asked.{Within}
use Rattle.plain.specs.Sound.{Booked}
use Rattle.pieces.specs.Sheet.{sheet_with}
use Rattle.tables.specs.Tables as table
use Rattle.tables.specs.Tables.{Positions, Awards, positions, pieces, awards, PositionsFit, PiecesFit, AwardsFit}
use Rattle.tables.specs.declared.Prices.{Prices}
use Rattle.tables.specs.declared.Pieces.{Pieces}
use Rattle.tables.specs.Lent.{piece_table}
use Rattle.ledger.specs.Posts.{Room}
use Rattle.ledger.specs.Parts.{award_fines_of, late_fines_of, close_charges_of}

-- what posting one charge asks
pub record Chargeable (l : Ledger) (c : Charge) : Type 0 where
  pub booked : Booked c
  pub room : Room l (c ∷ [])

-- a position's account is there, and its security has a place in the register and among the prices
pub record Accounted (p : Position) : Type 0 where
  pub member : p.member < ACCOUNTS
  pub security : Within 1 SECURITIES p.security

-- an award's offerer has an account, and the award is on one of so many positions
pub record Awarded (held : ℕ) (a : Award) : Type 0 where
  pub offerer : a.offerer < ACCOUNTS
  pub position : Within 1 held a.position

-- what posting the fines of awards asks, and posting the late fines
pub record AwardsFinable (l : Ledger) (a : Awards) (p : Positions) (prices : Prices) (register : Register) : Type 0 where
  pub room : Room l (award_fines_of a p prices register)
  pub prices_many : length (table.prices prices) ≡ SECURITIES
  pub positions_fit : PositionsFit p
  pub accounted : All Accounted (positions p)
  pub awards_fit_lem : AwardsFit a
  pub awarded : All (Awarded p.count) (awards a)

pub record LateFinable (l : Ledger) (p : Positions) (prices : Prices) (register : Register) (day : BusinessDay) : Type 0 where
  pub room : Room l (late_fines_of p prices register day)
  pub prices_many : length (table.prices prices) ≡ SECURITIES
  pub positions_fit : PositionsFit p
  pub accounted : All Accounted (positions p)

pub record CloseFinable (l : Ledger) (a : Awards) (p : Positions) (prices : Prices) (register : Register) (day : BusinessDay) : Type 0 where
  pub room : Room l (close_charges_of a p prices register day)
  pub prices_many : length (table.prices prices) ≡ SECURITIES
  pub positions_fit : PositionsFit p
  pub accounted : All Accounted (positions p)
  pub awards_fit_lem : AwardsFit a
  pub awarded : All (Awarded p.count) (awards a)

-- a piece's two sides are among so many positions
pub record Paired (held : ℕ) (x : Piece) : Type 0 where
  pub short : Within 1 held x.short
  pub long : Within 1 held x.long

-- what pricing pieces asks and gives
pub record Priceable (xs : Pieces) (p : Positions) : Type 0 where
  pub positions_fit : PositionsFit p
  pub pieces_fit : PiecesFit xs
  pub paired : All (Paired p.count) (pieces xs)

pub record Priced (xs : Pieces) (price : ℕ) (r : Pieces) : Type 0 where
  pub many : r.count ≡ xs.count
  pub priced : pieces r ≡ map (priced_at price) (pieces xs)
  pub fit : PiecesFit r

-- what it leaves in the lent sheet: where pieces fill it, they fill it priced, and the later places are as they were
pub record PricedOn (sheet : List ℕ) (dealt price : ℕ) (left : List ℕ) : Type 0 where
  pub priced : Priced (piece_table sheet dealt) price (piece_table left dealt)
  pub filled : (s : List ℕ) → sheet ≡ sheet_with (pieces (piece_table sheet dealt)) s → left ≡ sheet_with (map (priced_at price) (pieces (piece_table sheet dealt))) s
  pub sheet_length : length left ≡ SHEET_CELLS
