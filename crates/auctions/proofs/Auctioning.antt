-- The calls on the auction in place: an attempt, an offer, which is tested against the word that is kept for its security, and an award.
use Rattle.std.proofs.Common.{Err, Ok, Option}
use Rattle.plain.specs.declared.Latest.{Latest}
use Prim.Native.Nat.{ℕ, ◌-◌, ◌≤◌}
use mathlib.Core.Path.{◌≡◌, refl, ap, sym, ◌∙◌}
use mathlib.Core.Bool.{Bool, true, false}
use mathlib.Core.List.{List, []}
use lib.ListN.{length}
use lib.Dec.{eqb}
use Rattle.laws.specs.Limits.{AWARD_CELLS}
use Rattle.laws.specs.Asked.{within, within_low, within_high, Within}
use Rattle.laws.specs.Lists.{some}
use Rattle.rules.specs.Windows.{step_on}
use Rattle.rules.specs.Prices.{ceiling}
use Rattle.rules.specs.declared.Step.{Step}
use Rattle.events.specs.declared.Offer.{Offer}
use Rattle.events.specs.declared.Attempt.{Attempt}
use Rattle.events.specs.declared.Event.{Event}
use Rattle.events.specs.declared.Event.TheVariants as event
use Rattle.plain.specs.declared.Position.{Position}
use Rattle.plain.specs.Book.{nth, no_position, no_price, position_of, looked_up, price_in}
use Rattle.plain.specs.Auction.{failing}
use Rattle.plain.specs.Calls.{call, hands_out}
use Rattle.plain.specs.Refusals.{refusal, attempt_reasons, offer_reasons, auction_reasons, award_reasons}
use Rattle.tables.specs.Tables as table
use Rattle.laws.specs.Refusals.{first}
use Rattle.laws.specs.Answers.{number, number_some}
use Rattle.laws.specs.declared.Refusal.{Refusal}
use Rattle.laws.specs.declared.Refusal.TheVariants.{NotThere}
use Rattle.failing.specs.Members.{bit}
use Rattle.tables.specs.Lent.{position_table, row_of, award_table}
use Rattle.kept.specs.View.{view}
use Rattle.kept.specs.Auctions.{Done}
use Rattle.events.specs.declared.Award.{Award}
use Rattle.auction.specs.Awards.{Awardable, Awarded}
use Rattle.kept.proofs.Auctions.{offer_held, award_number, award_held, awardable, award_done, position_is, security_at, attempt_missing, attempt_number, ceiling_is, mark_room, attempt_done, offer_first, offer_then, offer_room, offer_done}
use Rattle.machine.specs.declared.Core.{Core}
use Rattle.machine.specs.declared.Numbers.{Numbers}
use Rattle.machine.specs.View.{on_awards, kept_of, book_of, held_in, Lent, Held, CalledBare}
use Rattle.machine.specs.Cores.{attempted_core, offered_core, awarded_core}
use Rattle.machine.proofs.Returns.{refused, taken}

-- a call whose event is done
pub done_called : (b : Core) (a : Numbers) (e : Event) (after : Core) (q : ℕ)
    → Held b a → refusal (book_of b a) (call e 0) ≡ 0 → hands_out (book_of b a) e ≡ [] → Done (kept_of b a) e (kept_of after a) q → Lent after a
    → CalledBare b a (call e 0) after a (Ok q) 0
done_called b a e after q h z none d lent = taken b a (call e 0) after a q h z d.quantity (sym none) d.book d.fits lent

module _ (b : Core) (a : Numbers) (h : Held b a) (o : Offer) where
  pub offer_turned : (r : Refusal) → number r ≡ first (offer_reasons b.positions b.auction.position o) → CalledBare b a (call (event.Offer o) 0) b a (Err r) 0
  offer_turned r e = refused b a (call (event.Offer o) 0) r h (sym (offer_first (kept_of b a) o h.valid (number r) e (number_some r)))

  module _ (passed : first (offer_reasons b.positions b.auction.position o) ≡ 0) (short : Position) (row : short ≡ row_of a.rows o.position) where
    read : short ≡ nth no_position (held_in a.rows b.positions) o.position
    read = let w = offer_held (kept_of b a) o h.valid passed in row ∙ position_is (position_table a.rows b.positions) o.position (within_low _ _ _ w) (within_high _ _ _ w)

    pub security_within : Within 1 32 short.security
    unfolding view
    security_within =
        let s = security_at (kept_of b a) h.valid o.position (offer_held (kept_of b a) o h.valid passed) short read in
        record { above = s.0; below = s.1 }

    module _ (word : ℕ) (kept : word ≡ nth 0 a.words short.security) (fails : Bool) (is : fails ≡ bit word o.offerer) where
      -- what the kept word of the security says of the offerer is whether it is failing
      failing_is : fails ≡ failing b.day.0 (held_in a.rows b.positions) (position_of (book_of b a) o.position).security o.offerer
      unfolding view
      failing_is =
          is
          ∙ ap (λ (w : ℕ). bit w o.offerer) kept
          ∙ (h.lent.follows.failing.failing short.security security_within).bits o.offerer
          ∙ ap (λ (p : Position). failing b.day.0 (held_in a.rows b.positions) p.security o.offerer) read

      number_is : refusal (book_of b a) (call (event.Offer o) 0) ≡ first (auction_reasons fails b.auction.ceiling b.auction.count o.price)
      number_is = offer_then (kept_of b a) o h.valid passed fails failing_is

      pub offer_refused : (r : Refusal) → number r ≡ first (auction_reasons fails b.auction.ceiling b.auction.count o.price) → CalledBare b a (call (event.Offer o) 0) b a (Err r) 0
      offer_refused r e = refused b a (call (event.Offer o) 0) r h (number_is ∙ sym e)

      pub offer_taken : 0 ≡ first (auction_reasons fails b.auction.ceiling b.auction.count o.price) → CalledBare b a (call (event.Offer o) 0) (offered_core b o) a (Ok o.quantity) 0
      unfolding hands_out
      offer_taken z =
          let room = offer_room fails b.auction.ceiling b.auction.count o.price (sym z) in
          done_called b a (event.Offer o) (offered_core b o) o.quantity h (number_is ∙ sym z) refl (offer_done (kept_of b a) o h.valid.fits room)
          (record { rows = h.lent.rows; trades = h.lent.trades; awards = h.lent.awards; follows = h.lent.follows })

module _ (b : Core) (a : Numbers) (h : Held b a) (t : Attempt) where
  pub attempt_missed : within 1 b.positions t.position ≡ false → CalledBare b a (call (event.Attempt t) 0) b a (Err NotThere) 0
  attempt_missed e = refused b a (call (event.Attempt t) 0) NotThere h (sym (attempt_missing (kept_of b a) t h.valid.fits e))

  module _ (in_use : within 1 b.positions t.position ≡ true) (p : Position) (row : p ≡ row_of a.rows t.position) where
    position_read : p ≡ position_of (book_of b a) t.position
    unfolding view
    position_read = row ∙ position_is (position_table a.rows b.positions) t.position (within_low _ _ _ in_use) (within_high _ _ _ in_use)

    pub registered_at : (1 ≤ p.security) × (p.security ≤ 32)
    registered_at = security_at (kept_of b a) h.valid t.position in_use p position_read

    module _ (class : ℕ) (classed : class ≡ nth 0 b.opening.register.classes p.security) (latest : Option Latest) (looked : latest ≡ looked_up (nth no_price (table.prices b.prices) p.security))
        (today : Step) (on : today ≡ step_on class (b.day.0 - p.settlement.0)) (marked : Bool) (m : marked ≡ some (λ k. eqb k t.position) (table.marks b.marks)) where
      attempt_is : refusal (book_of b a) (call (event.Attempt t) 0) ≡ first (attempt_reasons p b.day.0 today b.auction.position latest b.marks.count marked)
      attempt_is = sym (attempt_number (kept_of b a) t h.valid in_use p position_read latest looked class classed today marked on m)

      pub attempt_refused : (r : Refusal) → number r ≡ first (attempt_reasons p b.day.0 today b.auction.position latest b.marks.count marked) → CalledBare b a (call (event.Attempt t) 0) b a (Err r) 0
      attempt_refused r e = refused b a (call (event.Attempt t) 0) r h (attempt_is ∙ sym e)

      pub attempt_taken : 0 ≡ first (attempt_reasons p b.day.0 today b.auction.position latest b.marks.count marked) → (price : ℕ) → price ≡ price_in latest → (top : ℕ) → top ≡ ceiling class price → CalledBare b a (call (event.Attempt t) 0) (attempted_core b t.position top) a (Ok 0) 0
      unfolding hands_out view
      attempt_taken z price told top is =
          done_called b a (event.Attempt t) (attempted_core b t.position top) 0 h (attempt_is ∙ sym z) refl
          (attempt_done (kept_of b a) t h.valid.fits (mark_room p b.day.0 today b.auction.position latest b.marks.count marked (sym z)) top (ceiling_is (kept_of b a) t h.valid in_use p position_read latest looked class classed price top told is))
          (record { rows = h.lent.rows; trades = h.lent.trades; awards = h.lent.awards; follows = h.lent.follows })

module _ (b : Core) (a : Numbers) (h : Held b a) (w : Award) where
  award_is : refusal (book_of b a) (call (event.Award w) 0) ≡ first (award_reasons b.positions b.auction.position w.position)
  award_is = award_number (kept_of b a) w h.valid.fits

  pub award_refused : (r : Refusal) → number r ≡ first (award_reasons b.positions b.auction.position w.position) → CalledBare b a (call (event.Award w) 0) b a (Err r) 0
  award_refused r e = refused b a (call (event.Award w) 0) r h (award_is ∙ sym e)

  module _ (z : 0 ≡ first (award_reasons b.positions b.auction.position w.position)) where
    pub award_there : (1 ≤ w.position) × (w.position ≤ b.positions)
    award_there = award_held (kept_of b a) w h.valid (award_is ∙ sym z)

    pub award_asks : Awardable b.auction (award_table a.awards b.awards)
    award_asks = awardable (kept_of b a) w h.valid (award_is ∙ sym z)

    pub award_taken : (p : Position) (ws : List ℕ) (count total : ℕ) → p ≡ row_of a.rows w.position
        → Awarded b.auction p.unsettled (award_table a.awards b.awards) (award_table ws count) total → length ws ≡ AWARD_CELLS
        → CalledBare b a (call (event.Award w) 0) (awarded_core b count) (on_awards a ws) (Ok total) 0
    unfolding view hands_out
    award_taken p ws count total row made long =
        let d = award_done (kept_of b a) w h.valid (award_is ∙ sym z) p (row ∙ position_is (position_table a.rows b.positions) w.position award_there.0 award_there.1) _ _ made in
        taken b a (call (event.Award w) 0) (awarded_core b count) (on_awards a ws) total h (award_is ∙ sym z) d.quantity refl d.book d.fits
        (record { rows = h.lent.rows; trades = h.lent.trades; awards = long; follows = h.lent.follows })
