-- `netting::net_members` meets its contract. The loop's invariant: what stands in the table and the positions from this member on are the whole.
use Prim.Native.Nat.{◌≤◌}
use mathlib.Core.Path.{◌≡◌}
use lib.ListN.{length}
use Rattle.std.specs.Option.{option_copied}
use Rattle.laws.specs.Limits.{POSITION_CELLS}
use Rattle.netting.specs.Members.{member_positions}
use Rattle.rows.specs.Rows.{rows_of}
use Rattle.netting.proofs.Filling.{Filling}
use Rattle.netting.proofs.Appending.{each_from, run_table}
use Rattle.netting.proofs.net_members.Given as goal

abbrev pub invariant-loop-member : goal.invariant-loop-member
invariant-loop-member l =
    Filling (run_table (member_positions l.day.0 l.own (option_copied l.clients) l.securities) 63 l.initial.rows l.held) (each_from (member_positions l.day.0 l.own (option_copied l.clients) l.securities) 63 l.member) l.n (rows_of l.rows)
    × (1 ≤ l.member)
    × (length l.rows ≡ POSITION_CELLS)
