-- `player::print_events` meets its contract. The loop's invariant: the events before the next are played.
use Prim.Native.Nat.{◌-◌}
use native.Mathlib.Omega.{arith}
use mathlib.Core.Path.{◌≡◌, refl, sym, ◌∙◌}
use lib.ListN.{length}
use borrow.Author.Rules.{rules}
use Rattle.laws.specs.Limits.{SHEET_CELLS}
use Rattle.replay.proofs.Playing.{none_played}
use Rattle.player.proofs.Pages.{Between, played_within, next_page, all_played}
use Rattle.player.proofs.print_events.Given as goal

abbrev pub invariant-loop-i : goal.invariant-loop-i
invariant-loop-i l =
    (Between l.file l.initial.played l.initial.lent l.page l.played l.lent l.i)
    × (length l.sheet ≡ SHEET_CELLS)
    × (length l.page ≡ length l.initial.page)

abbrev pub decreases-loop-i : goal.decreases-loop-i
decreases-loop-i l = l.count - l.i
