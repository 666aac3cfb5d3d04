-- The tables of positions, trades and awards as numbers: twelve for each position, seven for each trade, five for each award.
use Rattle.std.specs.Prelude.{ℕ, ◌+◌, ◌%◌, List, get_or, eqb}
use Rattle.laws.specs.Limits.{AWARD_WIDTH, AWARDS, POSITION_WIDTH, POSITIONS, TRADE_WIDTH, TRADES}
use Rattle.cells.specs.Table.{table_from}
pub use Rattle.cells.specs.Table.{bit_of}
use Rattle.events.specs.declared.Trade.{Trade}
use Rattle.plain.specs.declared.Position.{Position}
use Rattle.plain.specs.declared.Award.{Award}
use Rattle.plain.specs.Netting.{kind_of}

-- the position whose twelve numbers begin at a place of the list
abbrev pub row_from : List ℕ → ℕ → Position
row_from xs at =
    record {
      member = get_or xs at 0 % 256;
      kind = kind_of (get_or xs (at + 11) 0);
      security = get_or xs (at + 1) 0 % 65536;
      short = eqb (get_or xs (at + 2) 0) 1;
      settlement = record { 0 = get_or xs (at + 3) 0 % 65536 };
      reference = get_or xs (at + 4) 0;
      netted = get_or xs (at + 5) 0;
      delivered = get_or xs (at + 6) 0;
      bought = get_or xs (at + 7) 0;
      cash = get_or xs (at + 8) 0;
      paired = get_or xs (at + 9) 0;
      unsettled = get_or xs (at + 10) 0;
    }

abbrev pub trade_from : List ℕ → ℕ → Trade
trade_from xs at =
    record {
      seller = get_or xs at 0 % 256;
      buyer = get_or xs (at + 1) 0 % 256;
      security = get_or xs (at + 2) 0 % 65536;
      quantity = get_or xs (at + 3) 0;
      price = get_or xs (at + 4) 0;
      sellerkind = get_or xs (at + 5) 0 % 256;
      buyerkind = get_or xs (at + 6) 0 % 256;
    }

abbrev pub award_from : List ℕ → ℕ → Award
award_from xs at =
    record {
      position = get_or xs at 0 % 65536;
      offerer = get_or xs (at + 1) 0 % 256;
      quantity = get_or xs (at + 2) 0;
      price = get_or xs (at + 3) 0;
      confirmed = eqb (get_or xs (at + 4) 0) 1;
    }

abbrev pub no_trade : Trade
no_trade = record { seller = 0; buyer = 0; security = 0; quantity = 0; price = 0; sellerkind = 0; buyerkind = 0 }

-- the 1,024 positions, 512 trades and 256 awards
unfoldable pub rows_of : List ℕ → List Position
rows_of xs = table_from POSITION_WIDTH POSITIONS row_from xs

unfoldable pub trades_of : List ℕ → List Trade
trades_of xs = table_from TRADE_WIDTH TRADES trade_from xs

unfoldable pub awards_of : List ℕ → List Award
awards_of xs = table_from AWARD_WIDTH AWARDS award_from xs
