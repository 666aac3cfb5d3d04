-- What holds of every book that a history reaches from a new one: all parts together.
use native.Mathlib.Omega.{arith}
use mathlib.Core.Path.{◌≡◌, refl}
use mathlib.Core.List.{List, []}
use Rattle.rules.specs.Prices.{ceiling}
use Rattle.plain.specs.declared.Opening.{Opening}
use Rattle.events.specs.declared.Event.{Event}
use Rattle.events.specs.declared.Event.TheVariants as event
use Rattle.plain.specs.declared.Manner.TheVariants as manner
use Rattle.plain.specs.Book.{Book, first_day, new, no_auction, position_of, class_of, latest_of}
use Rattle.plain.specs.Netting.{keys, netted}
use Rattle.plain.specs.Calls.{Call, call, discharged, hands_out, done}
use Rattle.plain.specs.Refusals.{refusal}
use Rattle.plain.specs.Histories.{event_of, run}
use Rattle.plain.proofs.Accepted.{run_keeps, attempt_taken, offer_taken, award_taken, delivery_taken, confirm_taken, cash_taken, close_taken, pair_off_taken}
use Rattle.plain.specs.Invariants.{Dealt}
use Rattle.plain.proofs.Netted.{Netting, netting}
use Rattle.plain.proofs.Discharged.{whole_lowered, untouched_lowered, even_lowered}
use Rattle.plain.specs.Sound.{AuctionedBook, Sound, Settled}
use Rattle.plain.proofs.AwardSteps.{attempt_keeps, offer_keeps, award_keeps, free_keeps, confirm_keeps, cash_keeps, close_keeps}
use Rattle.plain.proofs.Closing.{even_closed, untouched_closed, whole_closed}
use Rattle.plain.proofs.Standing.{new_standing, done_standing}
use Rattle.plain.proofs.Steps.{Step, discharge, close, stay, dealt_of, step_of}

module _ (b : Book) (h : Sound b) where
  made : Netting b.opening.register.count b.day b.trades (netted b.day b.trades (keys b.opening.register.count))
  made = netting b.opening.register.count b.day b.trades h.standing.trades (omega (arith, h.standing.held))

  pub sound_step : (c : Call) → refusal b c ≡ 0 → Step b (event_of c)
  sound_step c e = step_of b h.settled.even h.auctioned c e

  pub sound_dealt : (c : Call) → refusal b c ≡ 0 → Dealt b (event_of c)
  sound_dealt c e = dealt_of b h.settled.even h.auctioned c e

  settled_step : (e : Event) → Step b e → Settled (done b e).day (done b e).positions
  settled_step e (discharge f q ps day) =
      rw (ps, day)
      (record {
        even = even_lowered f h.settled.even;
        untouched = untouched_lowered f h.settled.untouched;
        whole = whole_lowered f h.settled.whole;
      })
  settled_step e (close none ps day) =
      rw (ps, day)
      (record {
        even = even_closed b.day b.positions (netted b.day b.trades (keys b.opening.register.count)) h.settled.untouched made.new h.settled.even made.even;
        untouched = untouched_closed b.day b.positions (netted b.day b.trades (keys b.opening.register.count)) h.settled.untouched made.new;
        whole = whole_closed b.day b.positions (netted b.day b.trades (keys b.opening.register.count)) h.settled.whole made.new;
      })
  settled_step e (stay none ps day) = rw (ps, day) h.settled

  auctioned_step : (c : Call) → refusal b c ≡ 0 → AuctionedBook (done b (event_of c))
  unfolding done discharged
  auctioned_step (call (event.Trade t) sheet) e = h.auctioned
  auctioned_step (call (event.Price p) sheet) e = h.auctioned
  auctioned_step (call (event.Delivery d) sheet) e =
      free_keeps b d.position d.quantity (hands_out b (event.Delivery d)) manner.Delivered (delivery_taken b d sheet e).enough (sound_dealt (call (event.Delivery d) sheet) e) h.auctioned
  auctioned_step (call (event.Attempt a) sheet) e =
      let security = (position_of b a.position).security in
      attempt_keeps b a (ceiling (class_of b security) (latest_of b security)) (attempt_taken b a sheet e) h.auctioned
  auctioned_step (call (event.Offer o) sheet) e = offer_keeps b o (offer_taken b o sheet e) h.auctioned
  auctioned_step (call (event.Award a) sheet) e = award_keeps b a (award_taken b a sheet e) h.auctioned
  auctioned_step (call (event.Confirm c) sheet) e =
      confirm_keeps b c (hands_out b (event.Confirm c)) manner.BoughtIn (confirm_taken b c sheet e) (sound_dealt (call (event.Confirm c) sheet) e) h.auctioned
  auctioned_step (call (event.Cash c) sheet) e =
      cash_keeps b c (hands_out b (event.Cash c)) manner.Cash (position_of b c.position).unsettled (cash_taken b c sheet e) (omega arith) (sound_dealt (call (event.Cash c) sheet) e) h.auctioned
  auctioned_step (call event.Close sheet) e =
      close_keeps b.opening.register _ _ b.auction (close_taken b sheet e).quiet h.auctioned.offers_fit h.auctioned.few_offers
  auctioned_step (call (event.PairOff x) sheet) e =
      free_keeps b x.short x.quantity (hands_out b (event.PairOff x)) manner.Paired (pair_off_taken b x sheet e).enough (sound_dealt (call (event.PairOff x) sheet) e) h.auctioned

pub done_sound : (b : Book) (c : Call) → refusal b c ≡ 0 → Sound b → Sound (done b (event_of c))
done_sound b c e h =
    record {
      standing = done_standing b c e h.standing;
      settled = settled_step b h (event_of c) (sound_step b h c e);
      auctioned = auctioned_step b h c e;
    }

pub new_sound : (opening : Opening) → Sound (new opening)
unfolding new
new_sound opening =
    record {
      standing = new_standing opening;
      settled = record { even = record { opened = λ s. refl; made = λ s d. refl }; untouched = tt; whole = tt };
      auctioned = close_keeps opening.register (first_day opening) [] no_auction refl tt (omega arith);
    }

pub run_sound : (b : Book) (cs : List Call) → Sound b → Sound (run b cs)
run_sound b cs h = run_keeps Sound done_sound b cs h

-- after every list of calls from a new book
pub sound : (opening : Opening) (cs : List Call) → Sound (run (new opening) cs)
sound opening cs = run_sound (new opening) cs (new_sound opening)
