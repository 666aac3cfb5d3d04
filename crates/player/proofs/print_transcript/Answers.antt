-- `player::print_transcript` meets its contract.
use borrow.Author.Rules.{rules}
use Rattle.player.proofs.print_transcript.Goals as goal

pub print_played-requires : goal.print_played-requires
print_played-requires c = c.in-Ok.ensures.ready.opened.opened.held
