-- Today's trades by their places in the table of trades.
use Prim.Native.Nat.{ℕ, suc, ◌+◌, ◌-◌, ◌≤◌, ◌<◌}
use native.Mathlib.Omega.{arith}
use mathlib.Core.Path.{◌≡◌, ap, sym, ◌∙◌}
use mathlib.Core.List.{◌∷◌}
use lib.ListN.{length, get_or, take, drop, length-take, length-drop}
use lib.Seq.{drop-cons, get_or-take, get_or-drop}
use Rattle.events.specs.declared.Trade.{Trade}
use Rattle.rows.specs.Rows.{no_trade}
use Rattle.tables.specs.Tables.{Trades, today}
use Rattle.netting.specs.Gathering.{Gatherable}

module _ (trades : Trades) (g : Gatherable trades) where
  pub length_today : length (today trades) ≡ trades.count - trades.netted
  unfolding today
  length_today = simp (length-drop, length-take) (omega (arith, g.fit.places, g.fit.held, g.fit.past))

  pub today_at : (i : ℕ) → trades.netted ≤ i → i < trades.count → get_or (today trades) (i - trades.netted) no_trade ≡ get_or trades.items i no_trade
  unfolding today
  today_at i h k =
      let e : trades.netted + (i - trades.netted) ≡ i = omega arith in
      get_or-drop trades.netted (take trades.count trades.items) (i - trades.netted) no_trade
      ∙ ap (λ (j : ℕ). get_or (take trades.count trades.items) j no_trade) e
      ∙ get_or-take trades.count trades.items i no_trade k

  -- the trade that is read at place i is the next of those that are left
  pub today_next : (i : ℕ) → trades.netted ≤ i → i < trades.count → (t : Trade) → t ≡ get_or trades.items i no_trade
      → drop (i - trades.netted) (today trades) ≡ t ∷ drop (i + 1 - trades.netted) (today trades)
  today_next i h k t read =
      let next : i + 1 - trades.netted ≡ suc (i - trades.netted) = omega arith in
      rw next (drop-cons (today trades) (i - trades.netted) no_trade (omega (arith, length_today)) ∙ ap (λ (x : Trade). x ∷ drop (suc (i - trades.netted)) (today trades)) (today_at i h k ∙ sym read))
