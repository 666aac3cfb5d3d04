-- A cash settlement on the lent sheet, by the positions as its dealing left them: of these only members and references are gone by.
use Rattle.std.specs.Prelude.{ℕ, ◌<◌, ◌≡◌, List, [], ◌∷◌, ◌++◌}
use Rattle.laws.specs.Limits.{ACCOUNTS}
use Rattle.laws.specs.Lists.{All, each, highest}
use Rattle.rules.specs.Prices.{cash_price}
use Rattle.plain.specs.declared.Position.{Position}
use Rattle.plain.specs.declared.Piece.{Piece}
use Rattle.plain.specs.declared.Ledger.{Ledger}
use Rattle.plain.specs.Book.{no_position, nth}
use Rattle.plain.specs.Charging.{Charge, payment, long_references, priced_at, fee_of}
use Rattle.tables.specs.Tables.{Positions, positions, pieces}
use Rattle.tables.specs.declared.Pieces.{Pieces}
use Rattle.ledger.specs.Posts.{Room}
use Rattle.ledger.specs.Tabled.{Accounted, Priceable}

-- the highest reference price among the longs in pieces
unfoldable pub highest_long : Positions → Pieces → ℕ
highest_long p xs = highest (long_references (positions p) (pieces xs))

-- the one price of the settlement of a short
unfoldable pub price_of : ℕ → ℕ → Position → Positions → Pieces → ℕ
price_of class latest short p xs = cash_price class short.reference (long_references (positions p) (pieces xs)) latest

-- the payment of a piece at a price
abbrev pub payment_at : ℕ → Positions → Piece → List Charge
payment_at price p x = payment (positions p) (priced_at price x) ∷ []

unfoldable pub payments_at : ℕ → Positions → Pieces → List Charge
payments_at price p xs = each (payment_at price p) (pieces xs)

-- all charges of the settlement
abbrev pub settlement_of : ℕ → ℕ → Position → Positions → Pieces → List Charge
settlement_of class latest short p xs = payments_at (price_of class latest short p xs) p xs ++ fee_of short latest ∷ []

-- a piece's short is this member's
abbrev pub OwedBy : ℕ → Positions → Piece → Type 0
OwedBy payer p x = (nth no_position (positions p) x.short).member ≡ payer

-- what pricing and paying the pieces of one short of the payer asks, with room for charges
pub record Settleable (l : Ledger) (cs : List Charge) (p : Positions) (xs : Pieces) (payer : ℕ) : Type 0 where
  pub room : Room l cs
  pub priceable : Priceable xs p
  pub accounted : All Accounted (positions p)
  pub owed : All (OwedBy payer p) (pieces xs)
  pub account : payer < ACCOUNTS
