-- `netting::net_clients` meets its contract.
use Prim.Native.Nat.{ℕ}
use mathlib.Core.Path.{refl, ◌≡◌}
use Rattle.std.specs.Prelude.{Some}
use mathlib.Core.List.{List}
use Rattle.laws.specs.Lists.{each, range}
use Rattle.plain.specs.Netting.{keys, netted}
use Rattle.plain.specs.declared.Position.{Position}
use Rattle.tables.specs.Tables.{Trades, Positions, today}
use Rattle.tables.specs.Lent.{trade_table, position_table}
use Rattle.netting.specs.Members.{member_positions}
use Rattle.netting.proofs.Made.{both_netted}
use Rattle.netting.proofs.Appending.{gatherable, members_fit, members_netted}
use Rattle.netting.proofs.net_clients.Goals as goal
use Rattle.netting.proofs.net_clients.Lts as lts
use Rattle.netting.proofs.net_clients.Tie as tie
use Rattle.netting.proofs.net_clients.Reads as reads

abbrev Start : Type 0
Start = lts.Start tie.the-claims reads.Pre reads.Post

abbrev After-gather : Type 0
After-gather = lts.After-gather tie.the-claims reads.Pre reads.Post

abbrev trades_of : Start → Trades
trades_of s = trade_table s.args.trades.now s.args.count s.args.netted

abbrev table_of : Start → Positions
table_of s = position_table s.args.rows.now s.args.held

pub gather-requires : goal.gather-requires
gather-requires c = (gatherable (table_of c.before) (trades_of c.before) _ _ c.requires.0, refl)

abbrev made : After-gather → ℕ → List Position
made k = let a = k.args in member_positions a.day.0 a.own.now (Some k.gather.new.totals) a.securities

-- the positions of the day are those of both tables
same : (k : After-gather) → (netted k.args.day.0 (today (trades_of k.before.before)) (keys k.args.securities) ≡ each (made k) (range 1 63))
same k = both_netted _ (trades_of k.before.before) _ k.requires.0.securities_fit _ _ k.requires.1 k.gather.ensures

pub net_members-requires : goal.net_members-requires
net_members-requires c =
    (members_fit (table_of c.before.before.before.before) (trades_of c.before.before.before.before) _ _ c.requires.0 (made c.before.before) (same c.before.before), c.requires.2)

pub returns : goal.returns
returns c =
    (members_netted (table_of c.before.before.before.before.before) (trades_of c.before.before.before.before.before) _ _ c.requires.0 (made c.before.before.before) (same c.before.before.before) _ c.net_members.ensures.0, c.net_members.ensures.1)
