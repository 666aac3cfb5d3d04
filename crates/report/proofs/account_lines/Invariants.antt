-- `report::account_lines` meets its contract. The line at an index is that of the account, if it is not zero.
use Rattle.std.proofs.Common.{get_or}
use Rattle.std.proofs.Math.IntN.{sub_ℕ}
use Rattle.report.specs.Lines.{balance_text}
use Rattle.report.proofs.account_lines.Given as goal

abbrev pub ghost-put_lines : goal.ghost-put_lines
ghost-put_lines a = λ i. balance_text i (sub_ℕ (get_or a.line.0.now.credits i 0) (get_or a.line.0.now.debits i 0))
