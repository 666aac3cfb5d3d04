-- What an accepted call tells: each of its reasons does not apply. And what holds of every history, where each accepted call keeps it.
use Prim.Native.Nat.{ℕ, zero, suc, ◌+◌, ◌≤◌, ◌<◌}
use native.Mathlib.Omega.{arith}
use mathlib.Core.Path.{◌≡◌, refl, ◌∙◌}
use mathlib.Core.Logic.{◌≢◌}
use mathlib.Core.List.{List, [], ◌∷◌, ◌++◌}
use mathlib.Core.Bool.{true, false}
use lib.ListN.{length}
use lib.Dec.{eqb}
use borrow.Author.Tests.{ltb-false, leb-false, eqb-true, eqb-false, not-false}
use Rattle.laws.specs.Lists.{some}
use Rattle.laws.specs.Asked.{Within, both_bounds}
use Rattle.laws.specs.Limits.{MEMBERS, MOST_QUANTITY, MOST_PRICE, TRADES, ATTEMPTS, OFFERS, LAST_DAY}
use Rattle.laws.specs.Refusals.{accepted, none_applies}
use Rattle.rules.specs.Windows.{step_kind}
use Rattle.events.specs.declared.Trade.{Trade}
use Rattle.events.specs.declared.Price.{Price}
use Rattle.events.specs.declared.Delivery.{Delivery}
use Rattle.events.specs.declared.Attempt.{Attempt}
use Rattle.events.specs.declared.Offer.{Offer}
use Rattle.events.specs.declared.Award as asked
use Rattle.events.specs.declared.Confirm.{Confirm}
use Rattle.events.specs.declared.Cash.{Cash}
use Rattle.events.specs.declared.PairOff.{PairOff}
use Rattle.events.specs.declared.Event.{Event}
use Rattle.events.specs.declared.Event.TheVariants as event
use Rattle.plain.specs.Book.{Book, position_of, award_of, latest_price}
use Rattle.plain.specs.Dealing.{due}
use Rattle.plain.specs.Auction.{failing, unconfirmed}
use Rattle.plain.specs.Calls.{Call, call, done}
use Rattle.plain.specs.Refusals.{is_one_party, has_kinds, is_pairable, is_never, is_given_before, step_today, free, runs_on, reasons, refusal}
use Rattle.plain.specs.Histories.{event_of, next, run, accepted_events}

-- what 19 and 32 leave: a price was given, and not before today
pub record PricePassed (b : Book) (security : ℕ) : Type 0 where
  pub ever : is_never (latest_price b security) ≡ false
  pub late : is_given_before b.day (latest_price b security) ≡ false

module _ (b : Book) where
  pub record TradeTaken (t : Trade) : Type 0 where
    pub seller : Within 1 MEMBERS t.seller
    pub buyer : Within 1 MEMBERS t.buyer
    pub security : Within 1 b.opening.register.count t.security
    pub quantity : Within 1 MOST_QUANTITY t.quantity
    pub price : Within 1 MOST_PRICE t.price
    pub others : is_one_party t ≡ false
    pub kinds : has_kinds t ≡ true
    pub room : b.past + length b.trades < TRADES

  pub record PriceTaken (p : Price) : Type 0 where
    pub security : Within 1 b.opening.register.count p.security
    pub price : Within 1 MOST_PRICE p.price

  pub record DeliveryTaken (d : Delivery) : Type 0 where
    pub held : Within 1 (length b.positions) d.position
    pub some_units : d.quantity ≢ 0
    pub short : (position_of b d.position).short ≡ true
    pub is_due : due b.day (position_of b d.position) ≡ true
    pub quiet : runs_on b.auction.position d.position ≡ false
    pub enough : d.quantity ≤ free b d.position

  pub record AttemptTaken (a : Attempt) : Type 0 where
    pub held : Within 1 (length b.positions) a.position
    pub short : (position_of b a.position).short ≡ true
    pub window : step_kind (step_today b (position_of b a.position)) ≡ 4
    pub quiet : b.auction.position ≡ 0
    pub priced : PricePassed b (position_of b a.position).security
    pub few : length b.marks < ATTEMPTS
    pub unmarked : some (λ n. eqb n a.position) b.marks ≡ false
    pub unsettled : (position_of b a.position).unsettled ≢ 0

  pub record OfferTaken (o : Offer) : Type 0 where
    pub offerer : Within 1 MEMBERS o.offerer
    pub held : Within 1 (length b.positions) o.position
    pub quantity : Within 1 MOST_QUANTITY o.quantity
    pub price : Within 1 MOST_PRICE o.price
    pub running : runs_on b.auction.position o.position ≡ true
    pub fulfilling : failing b.day b.positions (position_of b o.position).security o.offerer ≡ false
    pub cheap : o.price ≤ b.auction.ceiling
    pub few : length b.auction.offers < OFFERS

  pub record AwardTaken (a : asked.Award) : Type 0 where
    pub held : Within 1 (length b.positions) a.position
    pub running : runs_on b.auction.position a.position ≡ true

  pub record ConfirmTaken (c : Confirm) : Type 0 where
    pub held : Within 1 (length b.awards) c.award
    pub unconfirmed : (award_of b c.award).confirmed ≡ false

  pub record CashTaken (c : Cash) : Type 0 where
    pub held : Within 1 (length b.positions) c.position
    pub short : (position_of b c.position).short ≡ true
    pub window : step_kind (step_today b (position_of b c.position)) ≡ 8
    pub priced : PricePassed b (position_of b c.position).security
    pub unsettled : (position_of b c.position).unsettled ≢ 0

  pub record CloseTaken : Type 0 where
    pub quiet : b.auction.position ≡ 0
    pub early : b.day < LAST_DAY

  pub record PairOffTaken (x : PairOff) : Type 0 where
    pub held : Within 1 (length b.positions) x.short
    pub long_held : Within 1 (length b.positions) x.long
    pub some_units : x.quantity ≢ 0
    pub short : (position_of b x.short).short ≡ true
    pub is_due : due b.day (position_of b x.short) ≡ true
    pub pairable : is_pairable b.day (position_of b x.short) (position_of b x.long) ≡ true
    pub quiet : runs_on b.auction.position x.short ≡ false
    pub enough : x.quantity ≤ free b x.short
    pub long_enough : x.quantity ≤ (position_of b x.long).unsettled

  unfolding_all : Unit {0}
  unfolding reasons refusal
  unfolding_all = tt

  pub trade_taken : (t : Trade) (sheet : ℕ) → refusal b (call (event.Trade t) sheet) ≡ 0 → TradeTaken t
  unfolding unfolding_all
  trade_taken t sheet e =
      let h = none_applies (reasons b (call (event.Trade t) sheet)) refl e in
      record {
        seller = both_bounds 1 MEMBERS t.seller (not-false _ (search));
        buyer = both_bounds 1 MEMBERS t.buyer (not-false _ (search));
        security = both_bounds 1 b.opening.register.count t.security (not-false _ (search));
        quantity = both_bounds 1 MOST_QUANTITY t.quantity (not-false _ (search));
        price = both_bounds 1 MOST_PRICE t.price (not-false _ (search));
        others = search;
        kinds = not-false _ (search);
        room = leb-false _ _ (search);
      }

  pub price_taken : (p : Price) (sheet : ℕ) → refusal b (call (event.Price p) sheet) ≡ 0 → PriceTaken p
  unfolding unfolding_all
  price_taken p sheet e =
      let h = none_applies (reasons b (call (event.Price p) sheet)) refl e in
      record {
        security = both_bounds 1 b.opening.register.count p.security (not-false _ (search));
        price = both_bounds 1 MOST_PRICE p.price (not-false _ (search));
      }

  pub delivery_taken : (d : Delivery) (sheet : ℕ) → refusal b (call (event.Delivery d) sheet) ≡ 0 → DeliveryTaken d
  unfolding unfolding_all
  delivery_taken d sheet e =
      let h = none_applies (reasons b (call (event.Delivery d) sheet)) refl e in
      record {
        held = both_bounds 1 (length b.positions) d.position (not-false _ (search));
        some_units = eqb-false _ _ (search);
        short = not-false _ (search);
        is_due = not-false _ (search);
        quiet = search;
        enough = ltb-false _ _ (search);
      }

  pub attempt_taken : (a : Attempt) (sheet : ℕ) → refusal b (call (event.Attempt a) sheet) ≡ 0 → AttemptTaken a
  unfolding unfolding_all
  attempt_taken a sheet e =
      let h = none_applies (reasons b (call (event.Attempt a) sheet)) refl e in
      let at_zero : b.auction.position ≤ 0 = ltb-false _ _ (search) in
      record {
        held = both_bounds 1 (length b.positions) a.position (not-false _ (search));
        short = not-false _ (search);
        window = eqb-true _ _ (not-false _ (search));
        quiet = omega arith;
        priced = record { ever = search; late = search };
        few = leb-false _ _ (search);
        unmarked = search;
        unsettled = eqb-false _ _ (search);
      }

  pub offer_taken : (o : Offer) (sheet : ℕ) → refusal b (call (event.Offer o) sheet) ≡ 0 → OfferTaken o
  unfolding unfolding_all
  offer_taken o sheet e =
      let h = none_applies (reasons b (call (event.Offer o) sheet)) refl e in
      record {
        offerer = both_bounds 1 MEMBERS o.offerer (not-false _ (search));
        held = both_bounds 1 (length b.positions) o.position (not-false _ (search));
        quantity = both_bounds 1 MOST_QUANTITY o.quantity (not-false _ (search));
        price = both_bounds 1 MOST_PRICE o.price (not-false _ (search));
        running = not-false _ (search);
        fulfilling = search;
        cheap = ltb-false _ _ (search);
        few = leb-false _ _ (search);
      }

  pub award_taken : (a : asked.Award) (sheet : ℕ) → refusal b (call (event.Award a) sheet) ≡ 0 → AwardTaken a
  unfolding unfolding_all
  award_taken a sheet e =
      let h = none_applies (reasons b (call (event.Award a) sheet)) refl e in
      record {
        held = both_bounds 1 (length b.positions) a.position (not-false _ (search));
        running = not-false _ (search);
      }

  pub confirm_taken : (c : Confirm) (sheet : ℕ) → refusal b (call (event.Confirm c) sheet) ≡ 0 → ConfirmTaken c
  unfolding unfolding_all
  confirm_taken c sheet e =
      let h = none_applies (reasons b (call (event.Confirm c) sheet)) refl e in
      record { held = both_bounds 1 (length b.awards) c.award (not-false _ (search)); unconfirmed = search }

  pub cash_taken : (c : Cash) (sheet : ℕ) → refusal b (call (event.Cash c) sheet) ≡ 0 → CashTaken c
  unfolding unfolding_all
  cash_taken c sheet e =
      let h = none_applies (reasons b (call (event.Cash c) sheet)) refl e in
      record {
        held = both_bounds 1 (length b.positions) c.position (not-false _ (search));
        short = not-false _ (search);
        window = eqb-true _ _ (not-false _ (search));
        priced = record { ever = search; late = search };
        unsettled = eqb-false _ _ (search);
      }

  pub close_taken : (sheet : ℕ) → refusal b (call event.Close sheet) ≡ 0 → CloseTaken
  unfolding unfolding_all
  close_taken sheet e =
      let h = none_applies (reasons b (call event.Close sheet)) refl e in
      let at_zero : b.auction.position ≤ 0 = ltb-false _ _ (search) in
      record { quiet = omega arith; early = leb-false _ _ (search) }

  pub pair_off_taken : (x : PairOff) (sheet : ℕ) → refusal b (call (event.PairOff x) sheet) ≡ 0 → PairOffTaken x
  unfolding unfolding_all
  pair_off_taken x sheet e =
      let h = none_applies (reasons b (call (event.PairOff x) sheet)) refl e in
      record {
        held = both_bounds 1 (length b.positions) x.short (not-false _ (search));
        long_held = both_bounds 1 (length b.positions) x.long (not-false _ (search));
        some_units = eqb-false _ _ (search);
        short = not-false _ (search);
        is_due = not-false _ (search);
        pairable = not-false _ (search);
        quiet = search;
        enough = ltb-false _ _ (search);
        long_enough = ltb-false _ _ (search);
      }

-- what holds of the done and of the kept holds of what the refusal number chooses
pub either : {A : Type 0} (P : A → Type 0) (n : ℕ) (x y : A) → (n ≡ 0 → P x) → P y → P (accepted n x y)
either P zero x y h k = h refl
either P (suc n) x y h k = k

-- what each accepted call keeps, every history keeps
module _ (P : Book → Type 0) (step : (b : Book) (c : Call) → refusal b c ≡ 0 → P b → P (done b (event_of c))) where
  pub next_keeps : (b : Book) (c : Call) → P b → P (next b c)
  unfolding next
  next_keeps b c h = either P (refusal b c) (done b (event_of c)) b (λ e. step b c e h) h

  pub run_keeps : (b : Book) (cs : List Call) → P b → P (run b cs)
  unfolding run
  run_keeps b [] h = h
  run_keeps b (c ∷ cs) h = run_keeps (next b c) cs (next_keeps b c h)

-- What a book and the events still to come tell, where an accepted call tells the same with its event still to come: a history tells it of the events
-- that were accepted
module _ {A : Type 0} (tell : Book → List Event → A) (P : Book → Type 0) (keeps : (b : Book) (c : Call) → refusal b c ≡ 0 → P b → P (done b (event_of c)))
    (step : (b : Book) (c : Call) → refusal b c ≡ 0 → P b → (es : List Event) → tell (done b (event_of c)) es ≡ tell b (event_of c ∷ es)) where
  either_tells : (n : ℕ) (b : Book) (c : Call) → refusal b c ≡ n → P b → (es : List Event) → tell (accepted n (done b (event_of c)) b) es ≡ tell b (accepted n (event_of c ∷ []) [] ++ es)
  either_tells zero b c e h es = step b c e h es
  either_tells (suc n) b c e h es = refl

  pub run_tells : (b : Book) (cs : List Call) → P b → tell (run b cs) [] ≡ tell b (accepted_events b cs)
  unfolding run accepted_events
  run_tells b [] h = refl
  run_tells b (c ∷ cs) h =
      run_tells (next b c) cs (next_keeps P keeps b c h) ∙ unfold next in either_tells (refusal b c) b c refl h (accepted_events (next b c) cs)
