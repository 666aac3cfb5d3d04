-- `probe::probe_latest_price` meets its contract.
use mathlib.Core.Path.{◌≡◌, ap, sym, ◌∙◌}
use Rattle.probe.specs.Latest.{answer_number, latest_for}
use borrow.Author.Rules.{rules}
use Rattle.probe.proofs.probe_latest_price.Goals as goal
