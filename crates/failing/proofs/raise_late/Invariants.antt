-- `failing::raise_late` meets its contract. The loop's invariant: words and counts are those of the next day over the positions below i, all of
-- which are late on it.
use Prim.Native.Nat.{ℕ, ◌+◌, ◌<◌}
use lib.ListN.{get_or, take}
use Rattle.plain.specs.Book.{no_position}
use Rattle.tables.specs.Tables.{positions}
use Rattle.tables.specs.Lent.{position_table}
use Rattle.failing.specs.Counts.{Counted}
use Rattle.failing.proofs.raise_late.Given as goal

abbrev pub invariant-loop-i : goal.invariant-loop-i
invariant-loop-i l =
    Counted (l.day.0 + 1) (take l.i (positions (position_table l.rows l.held))) l.words l.counts
    × ((j : ℕ) → j < l.i → (get_or (positions (position_table l.rows l.held)) j no_position).settlement.0 < l.day.0 + 1)
