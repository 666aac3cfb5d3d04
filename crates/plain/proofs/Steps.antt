-- An accepted call, by what it does to the positions: it discharges a short, closes the day, or leaves them.
use Prim.Native.Nat.{ℕ, suc, ◌+◌}
use mathlib.Core.Path.{◌≡◌, refl}
use mathlib.Core.List.{[], ◌++◌}
use Rattle.events.specs.declared.Event.{Event}
use Rattle.events.specs.declared.Event.TheVariants as event
use Rattle.plain.specs.declared.Manner.{Manner}
use Rattle.plain.specs.declared.Manner.TheVariants as manner
use Rattle.plain.specs.Book.{Book, position_of, award_of}
use Rattle.plain.specs.Netting.{keys, netted}
use Rattle.plain.specs.Dealing.{lowering}
use Rattle.plain.specs.Calls.{Call, call, dealt, discharged, hands_out, amount, done}
use Rattle.plain.specs.Refusals.{refusal}
use Rattle.plain.specs.Histories.{event_of}
use Rattle.plain.proofs.Accepted.{delivery_taken, confirm_taken, cash_taken, pair_off_taken}
use Rattle.plain.specs.Invariants.{Even, Deals, Dealt}
use Rattle.plain.proofs.Dealt.{deals, deals_priced}
use Rattle.plain.specs.Sound.{AuctionedBook}
use Rattle.plain.proofs.AwardSteps.{delivery_dealable, confirm_dealable, cash_dealable}
use Rattle.plain.proofs.Pairing.{pair_deals}

pub data Step (b : Book) (e : Event) : Type 0 where
  discharge : {m : Manner} {n q : ℕ} → Deals b m n q (hands_out b e) → amount b e ≡ q → (done b e).positions ≡ lowering (hands_out b e) b.positions → (done b e).day ≡ b.day → Step b e
  close : hands_out b e ≡ [] → (done b e).positions ≡ b.positions ++ netted b.day b.trades (keys b.opening.register.count) → (done b e).day ≡ suc b.day → Step b e
  stay : hands_out b e ≡ [] → (done b e).positions ≡ b.positions → (done b e).day ≡ b.day → Step b e

module _ (b : Book) (even : Even b.day b.positions) (auctioned : AuctionedBook b) where
  -- an accepted discharge is dealt out whole
  pub dealt_of : (c : Call) → refusal b c ≡ 0 → Dealt b (event_of c)
  unfolding hands_out
  dealt_of (call (event.Trade t) sheet) e = tt
  dealt_of (call (event.Price p) sheet) e = tt
  dealt_of (call (event.Delivery d) sheet) e =
      deals b manner.Delivered d.position d.quantity even (delivery_dealable b d (delivery_taken b d sheet e))
  dealt_of (call (event.Attempt a) sheet) e = tt
  dealt_of (call (event.Offer o) sheet) e = tt
  dealt_of (call (event.Award a) sheet) e = tt
  dealt_of (call (event.Confirm c) sheet) e =
      let a = award_of b c.award in
      deals b manner.BoughtIn a.position a.quantity even (confirm_dealable b c (confirm_taken b c sheet e) auctioned)
  dealt_of (call (event.Cash c) sheet) e =
      let q = (position_of b c.position).unsettled in
      deals_priced b manner.Cash c.position q _ (dealt b manner.Cash c.position q)
      (deals b manner.Cash c.position q even (cash_dealable b c (cash_taken b c sheet e)))
  dealt_of (call event.Close sheet) e = tt
  dealt_of (call (event.PairOff x) sheet) e = pair_deals b x (pair_off_taken b x sheet e)

  pub step_of : (c : Call) → refusal b c ≡ 0 → Step b (event_of c)
  unfolding hands_out amount done discharged
  step_of (call (event.Trade t) sheet) e = stay refl refl refl
  step_of (call (event.Price p) sheet) e = stay refl refl refl
  step_of (call (event.Delivery d) sheet) e = discharge (dealt_of (call (event.Delivery d) sheet) e) refl refl refl
  step_of (call (event.Attempt a) sheet) e = stay refl refl refl
  step_of (call (event.Offer o) sheet) e = stay refl refl refl
  step_of (call (event.Award a) sheet) e = stay refl refl refl
  step_of (call (event.Confirm c) sheet) e = discharge (dealt_of (call (event.Confirm c) sheet) e) refl refl refl
  step_of (call (event.Cash c) sheet) e = discharge (dealt_of (call (event.Cash c) sheet) e) refl refl refl
  step_of (call event.Close sheet) e = close refl refl refl
  step_of (call (event.PairOff x) sheet) e = discharge (dealt_of (call (event.PairOff x) sheet) e) refl refl refl
