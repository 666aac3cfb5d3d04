-- What each accepted call keeps of the register, the day, the trades, the prices and the positions.
use Prim.Native.Nat.{ℕ, suc, ◌+◌, ◌-◌, ◌*◌, ◌≤◌}
use native.Mathlib.Omega.{arith}
use mathlib.Core.Path.{◌≡◌, refl, ◌∙◌}
use mathlib.Core.List.{List, [], ◌∷◌, ◌++◌}
use lib.ListN.{length, set, length-append, length-set}
use borrow.Author.Tests.{leb-true}
use Rattle.laws.specs.Limits.{MOST_PRICE}
use Rattle.laws.specs.Lists.{All}
use Rattle.laws.specs.Alls.{all_append, all_of, all_number, all_set}
use Rattle.events.specs.declared.Trade.{Trade}
use Rattle.events.specs.declared.Price.{Price}
use Rattle.events.specs.declared.Event.TheVariants as event
use Rattle.plain.specs.declared.Position.{Position}
use Rattle.plain.specs.declared.Piece.{Piece}
use Rattle.plain.specs.Book.{Book, given_on}
use Rattle.plain.specs.declared.Opening.{Opening}
use Rattle.plain.specs.declared.Latest.{Latest}
use Rattle.plain.specs.Changing.{with_day, with_past, with_trades, with_prices, with_positions}
use Rattle.plain.specs.Netting.{keys, netted}
use Rattle.plain.specs.Dealing.{lowered, lowering}
use Rattle.plain.specs.Calls.{Call, call, discharged, hands_out, done}
use Rattle.plain.specs.Refusals.{own_or_client, refusal}
use Rattle.plain.specs.Histories.{event_of, run}
use Rattle.laws.specs.Asked.{Within, and_left, and_right}
use Rattle.plain.proofs.Accepted.{run_keeps, TradeTaken, PriceTaken, CloseTaken, trade_taken, price_taken, close_taken}
use Rattle.plain.specs.Invariants.{TradeFits, Fair}
use Rattle.plain.proofs.Discharged.{length_lowering}
use Rattle.plain.proofs.Netted.{keys_once, keys_fit, netted_fair, netted_count}
use Rattle.plain.specs.Sound.{PricesFit}

-- the parts of a book that are spoken of here
pub record Parts : Type 0 where
  pub opening : Opening
  pub day : ℕ
  pub past : ℕ
  pub trades : List Trade
  pub prices : List Latest
  pub positions : List Position

abbrev pub parts : Book → Parts
parts b =
    record { opening = b.opening; day = b.day; past = b.past; trades = b.trades; prices = b.prices; positions = b.positions }

-- A call leaves these parts as they were, or adds a trade, sets a price, lowers positions, or closes the day.
pub record Steps (P : Parts → Type 0) (b : Book) : Type 0 where
  pub kept : P (parts b)
  pub traded : (t : Trade) → TradeTaken b t → P (parts (with_trades b (b.trades ++ t ∷ [])))
  pub priced : (p : Price) → PriceTaken b p → P (parts (with_prices b (set b.prices (p.security - 1) (given_on b.day p.price))))
  pub lowers : (xs : List Piece) → P (parts (with_positions b (lowering xs b.positions)))
  pub closed : CloseTaken b → P
      (parts
      (with_day
      (with_trades
      (with_past (with_positions b (b.positions ++ netted b.day b.trades (keys b.opening.register.count))) (b.past + length b.trades))
      [])
      (suc b.day)))

pub done_steps : (P : Parts → Type 0) (b : Book) (c : Call) → refusal b c ≡ 0 → Steps P b → P (parts (done b (event_of c)))
unfolding done discharged
done_steps P b (call (event.Trade t) sheet) e s = s.traded t (trade_taken b t sheet e)
done_steps P b (call (event.Price p) sheet) e s = s.priced p (price_taken b p sheet e)
done_steps P b (call (event.Delivery d) sheet) e s = s.lowers (hands_out b (event.Delivery d))
done_steps P b (call (event.Attempt a) sheet) e s = s.kept
done_steps P b (call (event.Offer o) sheet) e s = s.kept
done_steps P b (call (event.Award a) sheet) e s = s.kept
done_steps P b (call (event.Confirm c) sheet) e s = s.lowers (hands_out b (event.Confirm c))
done_steps P b (call (event.Cash c) sheet) e s = s.lowers (hands_out b (event.Cash c))
done_steps P b (call event.Close sheet) e s = s.closed (close_taken b sheet e)
done_steps P b (call (event.PairOff x) sheet) e s = s.lowers (hands_out b (event.PairOff x))

-- WHAT IT WAS OPENED WITH

pub done_opening : (b : Book) (c : Call) → refusal b c ≡ 0 → (done b (event_of c)).opening ≡ b.opening
done_opening b c e =
    done_steps (λ x. x.opening ≡ b.opening) b c e
    (record { kept = refl; traded = λ t k. refl; priced = λ p k. refl; lowers = λ xs. refl; closed = λ k. refl })

-- no history changes it
pub run_opening : (b : Book) (cs : List Call) → (run b cs).opening ≡ b.opening
run_opening b cs = run_keeps (λ x. x.opening ≡ b.opening) (λ x c e h. done_opening x c e ∙ h) b cs refl

-- THE DAY

pub done_day : (b : Book) (c : Call) → refusal b c ≡ 0 → Within 1 9999 b.day → Within 1 9999 (done b (event_of c)).day
done_day b c e h =
    done_steps (λ x. Within 1 9999 x.day) b c e
    (record {
      kept = h;
      traded = λ t k. h;
      priced = λ p k. h;
      lowers = λ xs. h;
      closed = λ k. record { above = omega arith; below = k.early };
    })

-- THE TRADES

trade_fits : (b : Book) (t : Trade) → TradeTaken b t → TradeFits b.opening.register.count t
trade_fits b t k =
    record {
      seller = k.seller;
      buyer = k.buyer;
      security = k.security;
      quantity = k.quantity;
      price = k.price;
      sellerkind = leb-true _ _ (and_left (own_or_client t.sellerkind) (own_or_client t.buyerkind) k.kinds);
      buyerkind = leb-true _ _ (and_right (own_or_client t.sellerkind) (own_or_client t.buyerkind) k.kinds);
    }

pub done_trades : (b : Book) (c : Call) → refusal b c ≡ 0 → All (TradeFits b.opening.register.count) b.trades → All (TradeFits (done b (event_of c)).opening.register.count) (done b (event_of c)).trades
done_trades b c e h =
    done_steps (λ x. All (TradeFits x.opening.register.count) x.trades) b c e
    (record {
      kept = h;
      traded = λ t k. all_append (TradeFits b.opening.register.count) b.trades (t ∷ []) h (trade_fits b t k, tt);
      priced = λ p k. h;
      lowers = λ xs. h;
      closed = λ k. tt;
    })

-- "512 trades are held": those of earlier days and those of today
pub done_held : (b : Book) (c : Call) → refusal b c ≡ 0 → b.past + length b.trades ≤ 512 → (done b (event_of c)).past + length (done b (event_of c)).trades ≤ 512
done_held b c e h =
    done_steps (λ x. x.past + length x.trades ≤ 512) b c e
    (record {
      kept = h;
      traded = λ t k. omega (arith, k.room, length-append b.trades (t ∷ []));
      priced = λ p k. h;
      lowers = λ xs. h;
      closed = λ k. omega arith;
    })

-- THE PRICES

pub done_prices : (b : Book) (c : Call) → refusal b c ≡ 0 → PricesFit b.day b.prices → PricesFit (done b (event_of c)).day (done b (event_of c)).prices
done_prices b c e h =
    done_steps (λ x. PricesFit x.day x.prices) b c e
    (record {
      kept = h;
      traded = λ t k. h;
      priced = λ p k.
          let x = given_on b.day p.price in
          record {
            many = length-set b.prices (p.security - 1) x ∙ h.many;
            small = all_set (λ l. l.price ≤ MOST_PRICE) b.prices (p.security - 1) x k.price.below h.small;
            days = all_set (λ l. l.day.0 ≤ b.day) b.prices (p.security - 1) x (omega arith) h.days;
          };
      lowers = λ xs. h;
      closed = λ k.
          record {
            many = h.many;
            small = h.small;
            days = all_of (λ l. l.day.0 ≤ b.day) (λ l. l.day.0 ≤ suc b.day) b.prices (λ l n. omega (arith, n)) h.days;
          };
    })

-- THE POSITIONS

-- lowering leaves the fields of which a fair position speaks
lowering_fair : (count day : ℕ) (xs : List Piece) (ps : List Position) → All (Fair count day) ps → All (Fair count day) (lowering xs ps)
unfolding lowering lowered
lowering_fair count day xs ps h =
    all_number (Fair count day) (lowered xs) (Fair count day) 1 ps
    (λ n p f. record { member = f.member; security = f.security; settlement = f.settlement; reference = f.reference; netted = f.netted })
    h

-- days only rise
later_fair : (count day : ℕ) (ps : List Position) → All (Fair count day) ps → All (Fair count (suc day)) ps
later_fair count day ps h =
    all_of (Fair count day) (Fair count (suc day)) ps
    (λ p f. record { member = f.member; security = f.security; settlement = omega (arith, f.settlement); reference = f.reference; netted = f.netted })
    h

pub close_fair : (count day : ℕ) (trades : List Trade) (ps : List Position) → All (TradeFits count) trades → length trades ≤ 512 → All (Fair count day) ps → All (Fair count (suc day)) (ps ++ netted day trades (keys count))
close_fair count day trades ps fits few h =
    all_append (Fair count (suc day)) ps (netted day trades (keys count)) (later_fair count day ps h)
    (netted_fair count day trades fits few (keys count) (keys_fit count))

pub done_fair : (b : Book) (c : Call) → refusal b c ≡ 0 → All (TradeFits b.opening.register.count) b.trades → b.past + length b.trades ≤ 512
    → All (Fair b.opening.register.count b.day) b.positions → All (Fair (done b (event_of c)).opening.register.count (done b (event_of c)).day) (done b (event_of c)).positions
done_fair b c e fits held h =
    done_steps (λ x. All (Fair x.opening.register.count x.day) x.positions) b c e
    (record {
      kept = h;
      traded = λ t k. h;
      priced = λ p k. h;
      lowers = λ xs. lowering_fair b.opening.register.count b.day xs b.positions h;
      closed = λ k. close_fair b.opening.register.count b.day b.trades b.positions fits (omega arith) h;
    })

-- at most two positions a trade of an earlier day
pub done_counted : (b : Book) (c : Call) → refusal b c ≡ 0 → length b.positions ≤ 2 * b.past → length (done b (event_of c)).positions ≤ 2 * (done b (event_of c)).past
done_counted b c e h =
    done_steps (λ x. length x.positions ≤ 2 * x.past) b c e
    (record {
      kept = h;
      traded = λ t k. h;
      priced = λ p k. h;
      lowers = λ xs. omega (arith, length_lowering xs b.positions);
      closed = λ k.
          omega (
            arith,
            length-append b.positions (netted b.day b.trades (keys b.opening.register.count)),
            netted_count b.day b.trades (keys b.opening.register.count) (keys_once b.opening.register.count),
          );
    })
