use Prim.Native.Nat.{◌≤◌, ◌<◌, ◌-◌}
use mathlib.Core.Path.{◌≡◌}
use lib.ListN.{length, get_or}
use Rattle.laws.specs.Limits.{POSITION_CELLS, SHEET_CELLS}
use Rattle.plain.specs.Book.{no_position}
use Rattle.rows.specs.Rows.{rows_of}
use Rattle.pieces.specs.Sheet.{pieces_of}
use Rattle.pieces.proofs.Filled.{StaysFilled}
use Rattle.positions.specs.Dealing.{ClosedBefore}
use Rattle.positions.proofs.Walk.{Walk}
use Rattle.positions.proofs.deal.Given as goal

abbrev pub invariant-loop-i : goal.invariant-loop-i
invariant-loop-i l =
    Walk l.manner l.short l.day.0 l.own.security l.count
    (record { items = rows_of l.initial.rows; shares = pieces_of l.initial.sheet; dealt = l.initial.dealt; left = l.initial.left; place = l.initial.i })
    (record { items = rows_of l.rows; shares = pieces_of l.sheet; dealt = l.dealt; left = l.left; place = l.i })
    × (l.initial.i ≤ l.i)
    × (l.i ≡ l.initial.i → (get_or (rows_of l.rows) l.i no_position).settlement.0 ≡ l.settlement)
    × (length l.rows ≡ POSITION_CELLS)
    × (length l.sheet ≡ SHEET_CELLS)
    × ClosedBefore l.own.security (rows_of l.rows) l.i
    × (0 < l.left)
    × StaysFilled l.initial.dealt l.initial.sheet l.dealt l.sheet

abbrev pub decreases-loop-i : goal.decreases-loop-i
decreases-loop-i l =
    l.count - l.i

abbrev pub invariant-deal : goal.invariant-deal
invariant-deal l =
    Walk l.manner l.short l.day.0 l.own.security l.count
    (record { items = rows_of l.initial.rows; shares = pieces_of l.initial.sheet; dealt = l.initial.dealt; left = l.initial.left; place = l.initial.i })
    (record { items = rows_of l.rows; shares = pieces_of l.sheet; dealt = l.dealt; left = l.left; place = l.i })
    × (length l.rows ≡ POSITION_CELLS)
    × (length l.sheet ≡ SHEET_CELLS)
    × ClosedBefore l.own.security (rows_of l.rows) l.i
    × (0 < l.left)
    × StaysFilled l.initial.dealt l.initial.sheet l.dealt l.sheet

abbrev pub decreases-deal : goal.decreases-deal
decreases-deal l =
    l.count - l.i
