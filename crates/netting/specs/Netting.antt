-- What netting a day asks of the machine's tables, and what it ensures.
use Rattle.std.specs.Prelude.{ℕ, ◌+◌, ◌*◌, ◌≤◌, ◌≡◌, ◌++◌, Bool, not, ◌||◌, length, eqb}
use Rattle.laws.specs.Limits.{LAST_DAY, POSITIONS, SECURITIES}
use Rattle.laws.specs.Lists.{All}
use Rattle.laws.specs.declared.BusinessDay.{BusinessDay}
use Rattle.events.specs.declared.Trade.{Trade}
use Rattle.plain.specs.declared.Kind.TheVariants.{Own}
use Rattle.plain.specs.Netting.{kind_number, keys, netted}
use Rattle.plain.specs.Invariants.{TradeFits}
use Rattle.tables.specs.Tables.{Positions, Trades, today, positions, TradesFit, PositionsFit}

-- a side of the trade is not a member's own business
abbrev pub is_client : Trade → Bool
is_client t = not (eqb t.sellerkind (kind_number Own)) || not (eqb t.buyerkind (kind_number Own))

pub record DayFits (table : Positions) (trades : Trades) (day : BusinessDay) (securities : ℕ) : Type 0 where
  pub positions_fit : PositionsFit table
  pub trades_fit : TradesFit trades
  pub securities_fit : securities ≤ SECURITIES
  pub fair : All (TradeFits securities) (today trades)
  -- a trade makes at most two positions
  pub room : table.count + 2 * length (today trades) ≤ POSITIONS
  pub dated : day.0 ≤ LAST_DAY

pub record DayNetted (table : Positions) (trades : Trades) (day : BusinessDay) (securities : ℕ) (r : Positions) : Type 0 where
  pub made : positions r ≡ positions table ++ netted day.0 (today trades) (keys securities)
  pub fits : PositionsFit r
