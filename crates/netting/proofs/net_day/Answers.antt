-- `netting::net_day` meets its contract.
use Rattle.netting.proofs.Appending.{none_netted}
use Rattle.netting.proofs.net_day.Goals as goal

pub returns-then-netted-count : goal.returns-then-netted-count
returns-then-netted-count c = (none_netted _ _ _ _ c.requires.0 c.if-netted-count.true, c.requires.1)
