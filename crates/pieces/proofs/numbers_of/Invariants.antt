-- `pieces::numbers_of` meets its contract. The invariant: the places passed say the pieces, and hold their numbers.
use mathlib.Core.Path.{◌≡◌}
use lib.ListN.{length, take}
use Rattle.laws.specs.Limits.{SHEET_CELLS}
use Rattle.pieces.specs.Sheet.{pieces_of}
use Rattle.pieces.proofs.Filled.{Filled}
use Rattle.pieces.proofs.numbers_of.Given as goal

abbrev pub invariant-loop-i : goal.invariant-loop-i
invariant-loop-i l = (take l.i (pieces_of l.sheet) ≡ take l.i l.fn.items) × Filled l.i l.sheet l.initial.sheet × (length l.sheet ≡ SHEET_CELLS)
