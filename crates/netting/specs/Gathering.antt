-- The totals of the day's trades of a kind of business, by member and security, on each side: sales and purchases.
use Rattle.std.specs.Prelude.{ℕ, ◌+◌, ◌-◌, ◌*◌, ◌≤◌, max, ◌≡◌, List, Bool, cond, ◌&&◌, length, get_or, set, replicate, eqb}
use Rattle.laws.specs.Limits.{MOST_NETTED, MOST_QUANTITY, SECURITIES}
use Rattle.laws.specs.Lists.{All}
use Rattle.cells.specs.Table.{table_from}
use Rattle.events.specs.declared.Trade.{Trade}
use Rattle.plain.specs.declared.Kind.{Kind}
use Rattle.plain.specs.Netting.{kind_number, Key, units, highest_price}
use Rattle.plain.specs.Invariants.{TradeFits, KeyFits}
use Rattle.tables.specs.Tables.{Trades, today, TradesFit}
use Rattle.netting.specs.declared.Side.{Side}
use Rattle.netting.specs.declared.Side.TheVariants.{Sale, Purchase}
use Rattle.netting.specs.declared.Total.{Total}

-- the total whose two numbers begin at a place of the list
abbrev pub total_from : List ℕ → ℕ → Total
total_from xs at = record { units = get_or xs at 0; highest = get_or xs (at + 1) 0 }

abbrev pub no_total : Total
no_total = record { units = 0; highest = 0 }

-- the 4,032 totals, and the numbers of none
unfoldable pub totals_of : List ℕ → List Total
totals_of xs = table_from 2 4032 total_from xs

unfoldable pub no_totals : List ℕ
no_totals = replicate 8064 0

abbrev pub key_for : ℕ → Kind → ℕ → Key
key_for member kind security = record { member = member; kind = kind; security = security }

-- the place of a member's total in a security on a side: two places a security, 32 securities a member
abbrev pub side_number : Side → ℕ
side_number Sale = 0
side_number Purchase = 1

unfoldable pub place_of : Side → ℕ → ℕ → ℕ
place_of side member security = 2 * (SECURITIES * (member - 1) + (security - 1)) + side_number side

abbrev pub total_in : List Total → Side → Key → Total
total_in totals side k = get_or totals (place_of side k.member k.security) no_total

-- the member that trades on a side, the byte of that side's kind, and whether a trade is a key's on that side
abbrev pub party_of : Side → Trade → ℕ
party_of Sale t = t.seller
party_of Purchase t = t.buyer

abbrev pub party_kind_of : Side → Trade → ℕ
party_kind_of Sale t = t.sellerkind
party_kind_of Purchase t = t.buyerkind

abbrev pub traded_by : Side → Key → Trade → Bool
traded_by side k t =
    eqb (party_of side t) k.member && eqb (party_kind_of side t) (kind_number k.kind) && eqb t.security k.security

abbrev pub total_of : Side → Key → List Trade → Total
total_of side k trades = record { units = units (traded_by side k) trades; highest = highest_price (traded_by side k) trades }

-- the key of a kind that a trade's party has on a side
abbrev pub key_of : Kind → Side → Trade → Key
key_of kind side t = key_for (party_of side t) kind t.security

-- one more trade in a total, and in the total of its key, where its side is of the kind
abbrev pub added : Trade → Total → Total
added t a = record { units = a.units + t.quantity; highest = max a.highest t.price }

abbrev pub raised : Kind → Side → Trade → List Total → List Total
raised kind side t totals =
    cond (eqb (party_kind_of side t) (kind_number kind))
    (set totals (place_of side (party_of side t) t.security) (added t (total_in totals side (key_of kind side t))))
    totals

-- the totals are those of the trades of a kind
abbrev pub Totalled : Kind → Side → List Trade → List Total → Type 0
Totalled kind side trades totals =
    (member security : ℕ) → KeyFits SECURITIES (key_for member kind security) → total_in totals side (key_for member kind security) ≡ total_of side (key_for member kind security) trades

-- what each step asks, and what one pass over the trades ensures
pub record Addable (a : Total) (t : Trade) : Type 0 where
  pub total : a.units ≤ MOST_NETTED
  pub trade : t.quantity ≤ MOST_QUANTITY

pub record Raisable (xs : List ℕ) (kind : Kind) (side : Side) (t : Trade) : Type 0 where
  pub long : length xs ≡ 8064
  pub fair : TradeFits SECURITIES t
  pub addable : Addable (total_in (totals_of xs) side (key_of kind side t)) t

pub record Gatherable (trades : Trades) : Type 0 where
  pub fit : TradesFit trades
  pub fair : All (TradeFits SECURITIES) (today trades)

pub record Gathered (kind : Kind) (trades : Trades) (totals : List Total) : Type 0 where
  pub gathered : (side : Side) → Totalled kind side (today trades) totals
