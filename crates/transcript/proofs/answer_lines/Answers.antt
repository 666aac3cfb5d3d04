-- `transcript::answer_lines` meets its contract.
use borrow.Author.Rules.{rules}
use Rattle.transcript.proofs.answer_lines.Goals as goal
