-- `netting::net_kind` meets its contract. The loop's invariant: what stands in the table and the positions from this security on are the whole.
use Prim.Native.Nat.{◌≤◌}
use mathlib.Core.Path.{◌≡◌}
use lib.ListN.{length}
use Rattle.laws.specs.Limits.{POSITION_CELLS}
use Rattle.rows.specs.Rows.{rows_of}
use Rattle.netting.proofs.Filling.{Filling}
use Rattle.netting.proofs.Appending.{each_from, run_table, of_security}
use Rattle.netting.proofs.net_kind.Given as goal

abbrev pub invariant-loop-security : goal.invariant-loop-security
invariant-loop-security l =
    Filling (run_table (of_security l.day.0 l.totals l.member l.kind l.securities) l.securities l.initial.rows l.held) (each_from (of_security l.day.0 l.totals l.member l.kind l.securities) l.securities l.security) l.n (rows_of l.rows)
    × (1 ≤ l.security)
    × (length l.rows ≡ POSITION_CELLS)
