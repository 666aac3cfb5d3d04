-- What holds of the day, the trades, the prices and the positions of every book that a history reaches from a new one.
use Prim.Native.Nat.{ℕ, ◌≤◌}
use native.Mathlib.Omega.{arith}
use mathlib.Core.Path.{◌≡◌}
use mathlib.Core.List.{List}
use lib.ListN.{length, length-replicate}
use Rattle.laws.specs.Limits.{SECURITIES, MOST_PRICE}
use Rattle.laws.specs.Alls.{all_replicate}
use Rattle.plain.specs.declared.Opening.{Opening}
use Rattle.plain.specs.Book.{Book, no_price, new}
use Rattle.plain.specs.Dealing.{takers}
use Rattle.plain.specs.Calls.{Call, done}
use Rattle.plain.specs.Refusals.{refusal}
use Rattle.plain.specs.Histories.{event_of, run}
use Rattle.plain.proofs.Accepted.{run_keeps}
use Rattle.plain.specs.Sound.{Standing}
use Rattle.plain.proofs.Kept.{done_day, done_trades, done_held, done_prices, done_fair, done_counted}
use Rattle.plain.proofs.Order.{done_rising, longs_from, takers_in_order}

pub done_standing : (b : Book) (c : Call) → refusal b c ≡ 0 → Standing b → Standing (done b (event_of c))
done_standing b c e h =
    record {
      day = done_day b c e h.day;
      trades = done_trades b c e h.trades;
      held = done_held b c e h.held;
      prices = done_prices b c e h.prices;
      fair = done_fair b c e h.trades h.held h.fair;
      rising = done_rising b c e h.fair h.rising;
      counted = done_counted b c e h.counted;
    }

pub new_standing : (opening : Opening) → Standing (new opening)
unfolding new
new_standing register =
    record {
      day = record { above = omega arith; below = omega arith };
      trades = tt;
      held = omega arith;
      prices =
          record {
            many = length-replicate SECURITIES no_price;
            small = all_replicate (λ p. p.price ≤ MOST_PRICE) SECURITIES no_price (omega arith);
            days = all_replicate (λ p. p.day.0 ≤ 1) SECURITIES no_price (omega arith);
          };
      fair = tt;
      rising = tt;
      counted = omega arith;
    }

pub run_standing : (b : Book) (cs : List Call) → Standing b → Standing (run b cs)
run_standing b cs h = run_keeps Standing done_standing b cs h

-- "512 trades a book make at most 1,024 positions."
pub standing_few : (b : Book) → Standing b → length b.positions ≤ 1024
standing_few b h = omega arith

-- a discharge is dealt out in the order of the table
pub standing_order : (b : Book) (security : ℕ) → Standing b → takers b.day security b.positions ≡ longs_from b.day security 1 b.positions
standing_order b security h = takers_in_order b.day security b.positions h.rising
