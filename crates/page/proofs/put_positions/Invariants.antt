-- `page::put_positions` meets its contract. The invariant: the lines of the positions passed are put, in 81 bytes each.
use Rattle.std.proofs.Common.{ℕ, ◌+◌, List, get_or}
use Rattle.plain.specs.Book.{no_position}
use Rattle.rows.specs.Rows.{rows_of}
use Rattle.page.specs.Page.{page_line}
use Rattle.page.proofs.Writing.{Lines}
use Rattle.page.proofs.put_positions.Given as goal

-- the line of the position at an index
abbrev pub shown : List ℕ → List ℕ → ℕ → List ℕ
shown isins rows i = page_line isins (i + 1) (get_or (rows_of rows) i no_position)

abbrev pub invariant-loop-i : goal.invariant-loop-i
invariant-loop-i l = Lines (shown l.isins l.rows) l.initial.page l.page l.i
