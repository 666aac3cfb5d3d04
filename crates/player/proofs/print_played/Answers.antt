-- `player::print_played` meets its contract.
use borrow.Author.Rules.{rules}
use Rattle.player.proofs.print_played.Goals as goal

pub print_events-after-requires : goal.print_events-after-requires
print_events-after-requires c =
    (c.requires _ c.new_numbers-lent.ensures.blank, c.blank_numbers-sheet.ensures.1, c.blank_page-page.ensures)

pub print_end-requires : goal.print_end-requires
print_end-requires c =
    ((c.print_events-after.new.lent, c.print_events-after.ensures.0.held), c.print_events-after.ensures.1)
