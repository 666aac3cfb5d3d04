-- `player::print_end` meets its contract.
use native.Mathlib.Omega.{arith}
use borrow.Author.Rules.{rules}
use Rattle.player.proofs.Pages.{wrote_within}
use Rattle.player.proofs.print_end.Goals as goal

pub end_lines-used-requires : goal.end_lines-used-requires
end_lines-used-requires c = c.requires.0

pub print_page-requires : goal.print_page-requires
print_page-requires c =
    wrote_within _ _ _ _ _ (omega (arith, c.requires.1)) (c.end_lines-used.ensures c.requires.0.0)
