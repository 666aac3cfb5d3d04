-- The machine's book after a close.
use Rattle.std.specs.Prelude.{◌+◌}
use Rattle.plain.specs.Charging.{posted}
use Rattle.tables.specs.Tables.{Positions}
use Rattle.ledger.specs.Parts.{close_charges_of}
use Rattle.kept.specs.View.{Kept}
use Rattle.kept.specs.Changing.{with_day, with_trades, with_positions, with_awards, with_marks, with_ledger}

-- the machine's book after a close that leaves it these positions: the charges posted, no trade left to net, awards and marks cleared,
-- the day raised by 1
abbrev pub closed_book : Kept → Positions → Kept
closed_book b p =
    with_day
    (with_marks
    (with_awards
    (with_trades
    (with_positions (with_ledger b (posted b.ledger (close_charges_of b.awards b.positions b.prices b.opening.register b.day))) p)
    (record { items = b.trades.items; count = b.trades.count; netted = b.trades.count }))
    (record { items = b.awards.items; count = 0 }))
    (record { items = b.marks.items; count = 0 }))
    (record { 0 = b.day.0 + 1 })
