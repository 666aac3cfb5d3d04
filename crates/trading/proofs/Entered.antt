-- A trade entered into the lent table of trades.
use Rattle.std.proofs.Common.{Err, Ok}
use Prim.Native.Nat.{ℕ, ◌<◌, ◌-◌, ◌≤◌}
use mathlib.Core.Path.{◌≡◌, refl, ap, sym, ◌∙◌, subst}
use mathlib.Core.List.{List}
use lib.ListN.{length, set}
use Rattle.laws.specs.Limits.{TRADE_CELLS}
use Rattle.events.specs.declared.Trade.{Trade}
use Rattle.events.specs.declared.Event.TheVariants as event
use Rattle.plain.specs.Calls.{call, hands_out, amount}
use Rattle.plain.specs.Refusals.{trade_reasons, price_reasons, refusal}
use Rattle.rows.specs.Rows.{trades_of}
use Rattle.laws.specs.Answers.{number}
use Rattle.laws.specs.Refusals.{first}
use Rattle.laws.specs.declared.Refusal.{Refusal}
use native.Mathlib.Omega.{arith}
use Rattle.events.specs.declared.Price.{Price}
use Rattle.kept.proofs.Entered.{price_number_lem, price_security, price_view, price_fits, trade_number, trade_room, with_trade, trade_view, trade_fits}
use Rattle.machine.specs.declared.Core.{Core}
use Rattle.kept.specs.View.{view, Fits}
use Rattle.machine.specs.Cores.{traded_core, priced_core}
use Rattle.machine.specs.declared.Numbers.{Numbers}
use Rattle.machine.specs.View.{on_trades, kept_of, book_of, Held, CalledBare}
use Rattle.machine.proofs.Returns.{refused, taken}

module _ (b : Core) (others : Numbers) (trades : List ℕ) (t : Trade) (h : Held b (on_trades others trades)) where
  abbrev a : Numbers
  a = on_trades others trades

  number_is : refusal (book_of b a) (call (event.Trade t) 0) ≡ first (trade_reasons b.opening.register.count b.trades t)
  number_is = trade_number (kept_of b a) t h.valid.fits

  pub trade_refused : (r : Refusal) → number r ≡ first (trade_reasons b.opening.register.count b.trades t) → CalledBare b a (call (event.Trade t) 0) b a (Err r) 0
  trade_refused r k = refused b a (call (event.Trade t) 0) r h (number_is ∙ sym k)

  pub trade_taken : 0 ≡ first (trade_reasons b.opening.register.count b.trades t) → (exit : List ℕ) → trades_of exit ≡ set (trades_of trades) b.trades t → length exit ≡ TRADE_CELLS → CalledBare b a (call (event.Trade t) 0) (traded_core b) (on_trades others exit) (Ok t.quantity) 0
  unfolding amount hands_out
  trade_taken z exit put long =
      let room : b.trades < 512 = trade_room b.opening.register.count b.trades t (sym z) in
      let same : kept_of (traded_core b) (on_trades others exit) ≡ with_trade (kept_of b a) t = rw put in
      taken b a (call (event.Trade t) 0) (traded_core b) (on_trades others exit) t.quantity h (number_is ∙ sym z) refl refl
      (ap view same ∙ trade_view (kept_of b a) t h.valid.fits room)
      (subst Fits (sym same) (trade_fits (kept_of b a) t h.valid.fits room))
      (record { rows = h.lent.rows; trades = long; awards = h.lent.awards; follows = h.lent.follows })

module _ (b : Core) (a : Numbers) (p : Price) (h : Held b a) where
  price_is : refusal (book_of b a) (call (event.Price p) 0) ≡ first (price_reasons b.opening.register.count p)
  price_is = price_number_lem (kept_of b a) p

  pub price_refused : (r : Refusal) → number r ≡ first (price_reasons b.opening.register.count p) → CalledBare b a (call (event.Price p) 0) b a (Err r) 0
  price_refused r k = refused b a (call (event.Price p) 0) r h (price_is ∙ sym k)

  pub price_place : 0 ≡ first (price_reasons b.opening.register.count p) → (1 ≤ p.security) × (p.security ≤ 32)
  price_place z =
      let s = price_security b.opening.register.count p (sym z) in
      (s.0, omega (arith, s.1, h.valid.fits.register.high))

  pub price_taken : 0 ≡ first (price_reasons b.opening.register.count p) → CalledBare b a (call (event.Price p) 0) (priced_core b p) a (Ok 0) 0
  unfolding amount hands_out
  price_taken z =
      taken b a (call (event.Price p) 0) (priced_core b p) a 0 h (price_is ∙ sym z) refl refl (price_view (kept_of b a) p) (price_fits (kept_of b a) p h.valid.fits)
      (record { rows = h.lent.rows; trades = h.lent.trades; awards = h.lent.awards; follows = h.lent.follows })
