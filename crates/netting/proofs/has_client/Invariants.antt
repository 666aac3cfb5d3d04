-- `netting::has_client` meets its contract. The loop's invariant: the trades that are left decide.
use Prim.Native.Nat.{ℕ, ◌-◌, ◌≤◌}
use mathlib.Core.Path.{◌≡◌}
use mathlib.Core.Bool.{Bool}
use lib.ListN.{drop}
use Rattle.laws.specs.Lists.{some}
use Rattle.tables.specs.Tables.{Trades, today}
use Rattle.tables.specs.Lent.{trade_table}
use Rattle.netting.specs.Netting.{is_client}
use Rattle.netting.proofs.has_client.Given as goal

-- whether a trade from place i on has client business
abbrev pub left : Trades → ℕ → Bool
left trades i = some is_client (drop (i - trades.netted) (today trades))

abbrev pub invariant-loop-place : goal.invariant-loop-place
invariant-loop-place l =
    (l.netted ≤ l.place) × (l.place ≤ l.count) × (left (trade_table l.trades l.count l.netted) l.place ≡ some is_client (today (trade_table l.trades l.count l.netted)))
