use Rattle.std.proofs.Common.{rules}
use Rattle.report.specs.Pages.{wrote_text}
use Rattle.report.proofs.Amounts.{accounts_all}
use Rattle.report.proofs.account_lines.Goals as goal

pub returns : goal.returns
returns c =
    let a = c.args in
    wrote_text _ _ _ a.page.now _ _ (accounts_all a.ledger.now) c.put_lines.ensures
