-- The latest price of a security and the day on which it was given: what the accepted prices and closes alone make them, and that an accepted
-- attempt or cash settlement goes by a price of today.
use Rattle.std.proofs.Common.{Option, Some}
use Prim.Native.Nat.{ℕ, ◌-◌, ◌≤◌}
use native.Mathlib.Omega.{arith}
use mathlib.Core.Path.{◌≡◌, refl, ap, sym, ◌∙◌}
use mathlib.Core.List.{List, ◌∷◌}
use mathlib.Core.Bool.{cond, false, true≢false}
use lib.ListN.{length, set}
use lib.Dec.{eqb}
use borrow.Author.Tests.{ltb-false, eqb-true, eqb-false, ne_eqb}
use Rattle.laws.specs.Limits.{SECURITIES}
use Rattle.laws.specs.Asked.{Said, passed, failed, ask, Within}
use Rattle.events.specs.declared.Event.{Event}
use Rattle.events.specs.declared.Event.TheVariants as event
use Rattle.plain.specs.declared.Opening.{Opening}
use Rattle.plain.specs.declared.Latest.{Latest}
use Rattle.plain.specs.Book.{Book, new, no_price, given_on, nth, position_of, looked_up, latest_price, price_in}
use Rattle.plain.specs.Calls.{Call, call, discharged, done}
use Rattle.plain.specs.Refusals.{is_never, is_given_before, refusal}
use Rattle.plain.specs.Histories.{event_of, run, accepted_events, last_given, latest_by}
use Rattle.plain.specs.Invariants.{NeedsPrice, attempted, settled, GivenToday}
use Rattle.plain.specs.Sound.{PricesFit}
use Rattle.plain.proofs.Numbered.{nth_anywhere, nth_replicate, nth_set_same, nth_set_other}
use Rattle.plain.proofs.Accepted.{PricePassed, price_taken, attempt_taken, cash_taken, run_tells}
use Rattle.plain.proofs.Kept.{done_prices}

-- the price that a lookup tells is the one kept
pub price_told : (latest : Latest) → price_in (looked_up latest) ≡ latest.price
price_told latest = go (ask (eqb latest.price 0))
  where
    go : Said (eqb latest.price 0) → price_in (looked_up latest) ≡ latest.price
    go (passed t) = rw t (sym (eqb-true latest.price 0 t))
    go (failed t) = rw t

-- WHAT THE ACCEPTED EVENTS MAKE

abbrev Fitting : Book → Type 0
Fitting b = PricesFit b.day b.prices

module _ (s : ℕ) (known : Within 1 SECURITIES s) where
  -- one more price
  one_more : (prices : List Latest) (security day price : ℕ) → length prices ≡ SECURITIES → 1 ≤ security → 1 ≤ price
      → looked_up (nth no_price (set prices (security - 1) (given_on day price)) s) ≡ cond (eqb security s) (Some (given_on day price)) (looked_up (nth no_price prices s))
  one_more prices security day price many first some = go (ask (eqb security s))
    where
      go : Said (eqb security s)
          → looked_up (nth no_price (set prices (security - 1) (given_on day price)) s) ≡ cond (eqb security s) (Some (given_on day price)) (looked_up (nth no_price prices s))
      go (passed t) =
          let here = nth_set_same no_price prices s (given_on day price) (record { above = known.above; below = omega (arith, many, known.below) }) in
          rw (t, eqb-true security s t, here, ne_eqb price 0 (λ z. omega (arith, some, z)))
      go (failed t) = rw (t, nth_set_other no_price prices security s (given_on day price) first (λ e. eqb-false security s t (sym e)))

  done_last : (b : Book) (c : Call) → refusal b c ≡ 0 → Fitting b → (es : List Event)
      → last_given s (done b (event_of c)).day (latest_price (done b (event_of c)) s) es ≡ last_given s b.day (latest_price b s) (event_of c ∷ es)
  unfolding done discharged last_given
  done_last b (call (event.Trade t) sheet) e h es = refl
  done_last b (call (event.Price p) sheet) e h es =
      let k = price_taken b p sheet e in
      ap (λ (latest : Option Latest). last_given s b.day latest es) (one_more b.prices p.security b.day p.price h.many k.security.above k.price.above)
  done_last b (call (event.Delivery d) sheet) e h es = refl
  done_last b (call (event.Attempt a) sheet) e h es = refl
  done_last b (call (event.Offer o) sheet) e h es = refl
  done_last b (call (event.Award a) sheet) e h es = refl
  done_last b (call (event.Confirm c) sheet) e h es = refl
  done_last b (call (event.Cash c) sheet) e h es = refl
  done_last b (call event.Close sheet) e h es = refl
  done_last b (call (event.PairOff x) sheet) e h es = refl

  last_run : (b : Book) (cs : List Call) → Fitting b → latest_price (run b cs) s ≡ last_given s b.day (latest_price b s) (accepted_events b cs)
  unfolding last_given
  last_run b cs h = run_tells (λ x es. last_given s x.day (latest_price x s) es) Fitting done_prices done_last b cs h

  -- of a new book, which has no price
  pub last_new : (opening : Opening) (cs : List Call) → Fitting (new opening) → latest_price (run (new opening) cs) s ≡ latest_by opening (accepted_events (new opening) cs) s
  unfolding new
  last_new opening cs h =
      last_run (new opening) cs h
      ∙ ap (λ (latest : Latest). last_given s 1 (looked_up latest) (accepted_events (new opening) cs)) (nth_replicate no_price SECURITIES s no_price known)

-- A PRICE OF TODAY

of_today : (day : ℕ) (latest : Latest) → is_never (looked_up latest) ≡ false → is_given_before day (looked_up latest) ≡ false → latest.day.0 ≤ day
    → looked_up latest ≡ Some (given_on day latest.price)
of_today day latest ever late early = go (ask (eqb latest.price 0))
  where
    go : Said (eqb latest.price 0) → looked_up latest ≡ Some (given_on day latest.price)
    go (passed t) = absurd (true≢false (rw t at ever))
    go (failed t) =
        let from : day ≤ latest.day.0 = ltb-false latest.day.0 day (rw t at late) in
        let same : latest.day.0 ≡ day = omega (arith, from, early) in
        rw t (λ i. Some (given_on (same i) latest.price))

passed_today : (b : Book) (s : ℕ) → Fitting b → PricePassed b s → GivenToday b s
passed_today b s h k =
    of_today b.day (nth no_price b.prices s) k.ever k.late (nth_anywhere no_price (λ l. l.day.0 ≤ b.day) b.prices s (omega arith) h.days)

pub given_today : (b : Book) (c : Call) (n : ℕ) → Fitting b → refusal b c ≡ 0 → NeedsPrice (event_of c) n → GivenToday b (position_of b n).security
given_today b (call e sheet) n h taken (attempted a) = passed_today b (position_of b a.position).security h (attempt_taken b a sheet taken).priced
given_today b (call e sheet) n h taken (settled c) = passed_today b (position_of b c.position).security h (cash_taken b c sheet taken).priced
