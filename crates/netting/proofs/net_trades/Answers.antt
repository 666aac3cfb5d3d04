-- `netting::net_trades` meets its contract.
use Prim.Native.Nat.{ℕ}
use mathlib.Core.Path.{refl, ◌≡◌, sym, ◌∙◌}
use Rattle.std.specs.Prelude.{None}
use mathlib.Core.List.{List}
use Rattle.plain.specs.declared.Position.{Position}
use Rattle.laws.specs.Lists.{each, range}
use Rattle.plain.specs.Netting.{keys, netted}
use Rattle.tables.specs.Tables.{Trades, Positions, today}
use Rattle.tables.specs.Lent.{trade_table, position_table}
use Rattle.netting.specs.Members.{member_positions}
use Rattle.netting.proofs.Made.{own_netted}
use Rattle.netting.proofs.Appending.{gatherable, members_fit, members_netted}
use Rattle.netting.proofs.net_trades.Goals as goal
use Rattle.netting.proofs.net_trades.Lts as lts
use Rattle.netting.proofs.net_trades.Tie as tie
use Rattle.netting.proofs.net_trades.Reads as reads

abbrev Start : Type 0
Start = lts.Start tie.the-claims reads.Pre reads.Post

abbrev After-gather : Type 0
After-gather = lts.After-gather tie.the-claims reads.Pre reads.Post

abbrev Else-has_client : Type 0
Else-has_client = lts.Else1 tie.the-claims reads.Pre reads.Post

abbrev trades_of : Start → Trades
trades_of s = trade_table s.args.trades.now s.args.count s.args.netted

abbrev table_of : Start → Positions
table_of s = position_table s.args.rows.now s.args.held

pub gather-requires : goal.gather-requires
gather-requires c = (gatherable (table_of c.before) (trades_of c.before) _ _ c.requires.0, refl)

pub has_client-requires : goal.has_client-requires
has_client-requires c = gatherable (table_of c.before.before.before) (trades_of c.before.before.before) _ _ c.requires.0

abbrev made : After-gather → ℕ → List Position
made g = let a = g.args in member_positions a.day.0 g.gather.new.totals None a.securities

-- without client business the positions of the day are those of the table of own business
same : (k : Else-has_client) → (netted k.args.day.0 (today (trades_of k.before.before.before.before)) (keys k.args.securities) ≡ each (made k.before.before) (range 1 63))
same k =
    own_netted _ (trades_of k.before.before.before.before) _ k.requires.0.securities_fit _ k.gather.ensures (sym k.has_client.ensures ∙ k.if-has_client.false)

pub net_members-requires : goal.net_members-requires
net_members-requires c =
    (members_fit (table_of c.before.before.before.before.before.before) (trades_of c.before.before.before.before.before.before) _ _ c.requires.0 (made c.before.before.before.before) (same c.before.before), c.requires.1)

pub returns : goal.returns
returns c =
    (members_netted (table_of c.before.before.before.before.before.before.before) (trades_of c.before.before.before.before.before.before.before) _ _ c.requires.0 (made c.before.before.before.before.before) (same c.before.before.before) _ c.net_members.ensures.0, c.net_members.ensures.1)
