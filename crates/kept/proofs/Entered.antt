-- A trade and a price, entered into the machine's book: their refusals are the plain book's, and what they change stands for what the plain book changes.
use Prim.Native.Nat.{ℕ, ◌+◌, ◌-◌, ◌≤◌, ◌<◌}
use native.Mathlib.Omega.{arith}
use native.Mathlib.Numerals.{add-one}
use mathlib.Core.Path.{◌≡◌, refl, ap, ◌∙◌}
use mathlib.Core.Bool.{true}
use mathlib.Core.List.{List, [], ◌∷◌, ◌++◌}
use lib.ListN.{length, take, set, length-set, length-drop}
use lib.Seq.{length-take-le, take-suc-set, drop-append-le}
use borrow.Author.Tests.{leb-false, not-false}
use Rattle.laws.specs.Asked.{within_low, within_high, within}
use Rattle.laws.specs.Refusals.{first, none_applies}
use Rattle.laws.specs.Zips.{zip_set}
use Rattle.events.specs.declared.Trade.{Trade}
use Rattle.events.specs.declared.Price.{Price}
use Rattle.events.specs.declared.Event.TheVariants as event
use Rattle.plain.specs.declared.Latest.{Latest}
use Rattle.plain.specs.Changing as changing
use Rattle.plain.specs.Calls.{call, done}
use Rattle.plain.specs.Refusals.{refusal, trade_reasons, price_reasons, reasons}
use Rattle.tables.specs.Tables.{Trades}
use Rattle.tables.specs.Tables as table
use Rattle.kept.specs.View.{Kept, view, Fits}
use Rattle.kept.specs.Changing.{with_trades, with_prices}

-- the trades of earlier days and of today are all that the table holds
pub all_held : (t : Trades) → table.TradesFit t → t.netted + length (table.today t) ≡ t.count
unfolding Rattle.tables.specs.Tables.today
all_held t f =
    omega (arith, length-drop t.netted (take t.count t.items), length-take-le t.count t.items (omega (arith, f.places, f.held)), f.past)

pub trade_number : (b : Kept) (t : Trade) → Fits b → refusal (view b) (call (event.Trade t) 0) ≡ first (trade_reasons b.opening.register.count b.trades.count t)
unfolding view reasons refusal
trade_number b t f =
    ap (λ (held : ℕ). first (trade_reasons b.opening.register.count held t)) (all_held b.trades f.trades)

pub price_number_lem : (b : Kept) (p : Price) → refusal (view b) (call (event.Price p) 0) ≡ first (price_reasons b.opening.register.count p)
unfolding view reasons refusal
price_number_lem b p = refl

-- a trade that is accepted finds a place, and a price its security
pub trade_room : (securities held : ℕ) (t : Trade) → first (trade_reasons securities held t) ≡ 0 → held < 512
unfolding trade_reasons
trade_room securities held t e = let h = none_applies (trade_reasons securities held t) refl e in leb-false 512 held (search)

pub price_security : (securities : ℕ) (p : Price) → first (price_reasons securities p) ≡ 0 → (1 ≤ p.security) × (p.security ≤ securities)
unfolding price_reasons
price_security securities p e =
    let h = none_applies (price_reasons securities p) refl e in
    let f : within 1 securities p.security ≡ true = not-false _ (search) in
    (within_low 1 securities p.security f, within_high 1 securities p.security f)

-- the book with one more trade
abbrev pub more_trades : Trades → Trade → Trades
more_trades ts t = record { items = set ts.items ts.count t; count = ts.count + 1; netted = ts.netted }

abbrev pub with_trade : Kept → Trade → Kept
with_trade b t = with_trades b (more_trades b.trades t)

module _ (ts : Trades) (t : Trade) (f : table.TradesFit ts) (room : ts.count < 512) where
  one_more : table.today (more_trades ts t) ≡ table.today ts ++ t ∷ []
  unfolding Rattle.tables.specs.Tables.today
  one_more =
      rw (add-one, take-suc-set ts.items ts.count t (omega (arith, f.places)))
      (drop-append-le ts.netted (take ts.count ts.items) (t ∷ [])
      (omega (arith, f.past, length-take-le ts.count ts.items (omega (arith, f.places)))))

  more_fit : table.TradesFit (more_trades ts t)
  more_fit =
      record {
        places = length-set ts.items ts.count t ∙ f.places;
        held = omega arith;
        past = omega (arith, f.past);
      }

module _ (b : Kept) (t : Trade) (f : Fits b) (room : b.trades.count < 512) where
  pub trade_view : view (with_trade b t) ≡ done (view b) (event.Trade t)
  unfolding view done
  trade_view = ap (λ (l : List Trade). changing.with_trades (view b) l) (one_more b.trades t f.trades room)

  pub trade_fits : Fits (with_trade b t)
  trade_fits =
      record {
        register = f.register;
        trades = more_fit b.trades t f.trades room;
        positions = f.positions;
        auction = f.auction;
        awards = f.awards;
        marks = f.marks;
        places = f.places;
      }

-- the book with a security's latest price, given today
abbrev pub with_price : Kept → Price → Kept
with_price b p =
    with_prices b
    (record { latest = set b.prices.latest (p.security - 1) p.price; days = set b.prices.days (p.security - 1) b.day })

pub price_view : (b : Kept) (p : Price) → view (with_price b p) ≡ done (view b) (event.Price p)
unfolding view done Rattle.tables.specs.Tables.prices
price_view b p =
    ap (λ (l : List Latest). changing.with_prices (view b) l) (zip_set table.dated b.prices.latest b.prices.days (p.security - 1) p.price b.day)

pub price_fits : (b : Kept) (p : Price) → Fits b → Fits (with_price b p)
price_fits b p f =
    record {
      register = f.register;
      trades = f.trades;
      positions = f.positions;
      auction = f.auction;
      awards = f.awards;
      marks = f.marks;
      places = f.places;
    }
