-- Each accepted call keeps what is known of the auction, the marks and the awards; and each discharge may be dealt out.
use Prim.Native.Nat.{ℕ, suc, ◌+◌, ◌-◌, ◌≤◌, ◌<◌}
use native.Mathlib.Omega.{arith}
use mathlib.Core.Path.{◌≡◌, refl, ap, sym, ◌∙◌}
use mathlib.Core.Logic.{◌≢◌}
use mathlib.Core.List.{List, [], ◌∷◌, ◌++◌}
use mathlib.Core.Bool.{Bool, true, false, not, cond, ◌&&◌, ◌||◌, true≢false}
use lib.ListN.{length, get_or, length-append}
use lib.Dec.{ltb, eqb}
use borrow.Author.Tests.{eq-eqb, ne_eqb, eqb-true, eqb-false, ltb-true, lt-ltb, le-ltb}
use Rattle.laws.specs.Lists.{All, only, some, sum, number}
use Rattle.laws.specs.Asked.{Said, passed, failed, ask, decided, and_left, and_right}
use Rattle.laws.specs.Sums.{only_le, sum_le}
use Rattle.laws.specs.Alls.{all_append, all_of, all_number, length_number, some_append, some_last}
use Rattle.rules.specs.Prices.{ceiling}
use Rattle.register.specs.declared.Register.{Register}
use Rattle.events.specs.declared.Offer.{Offer}
use Rattle.events.specs.declared.Delivery.{Delivery}
use Rattle.events.specs.declared.Attempt.{Attempt}
use Rattle.events.specs.declared.Award as asked
use Rattle.events.specs.declared.Confirm.{Confirm}
use Rattle.events.specs.declared.Cash.{Cash}
use Rattle.plain.specs.declared.Position.{Position}
use Rattle.plain.specs.declared.Piece.{Piece}
use Rattle.plain.specs.declared.Award.{Award}
use Rattle.plain.specs.declared.Manner.{Manner}
use Rattle.plain.specs.Book.{Book, Auction, no_auction, no_position, no_award, position_of, award_of, nth}
use Rattle.plain.specs.Dealing.{lowering}
use Rattle.plain.specs.Auction.{by_price, award_for, awarded, unconfirmed, confirmed_award}
use Rattle.plain.specs.Calls.{auction_awards}
use Rattle.plain.specs.Cover.{units_of, Cheapest}
use Rattle.plain.specs.Refusals.{step_today, free, runs_on}
use Rattle.plain.proofs.Accepted.{DeliveryTaken, AttemptTaken, OfferTaken, AwardTaken, ConfirmTaken, CashTaken}
use Rattle.plain.specs.Invariants.{Dealable, Deals, OfferFits, AwardFits}
use Rattle.plain.specs.Sound.{kind_on, Marked, marked, Auctioned, AuctionedBook}
use Rattle.plain.proofs.Awards.{window_due, none_on, unconfirmed_append, award_marked, unmarked_free, marked_lowered, covered_lowered}
use Rattle.plain.proofs.Numbered.{nth_at, place_nth}
use Rattle.plain.proofs.Cover as cheapest'
use Rattle.plain.proofs.Cover.{awards_all, awards_few}

-- an auction that runs on n
pub runs_on_lem : (b : Book) (n : ℕ) → runs_on b.auction.position n ≡ true → (0 < b.auction.position) × (b.auction.position ≡ n)
runs_on_lem b n e = (
  ltb-true 0 b.auction.position (and_left (ltb 0 b.auction.position) (eqb b.auction.position n) e),
  eqb-true b.auction.position n (and_right (ltb 0 b.auction.position) (eqb b.auction.position n) e),
)

-- Attempt, offer

pub attempt_keeps : (b : Book) (a : Attempt) (ceiling : ℕ) → AttemptTaken b a → AuctionedBook b → Auctioned b.opening.register b.day b.positions (record { position = a.position; ceiling = ceiling; offers = [] }) b.awards (b.marks ++ a.position ∷ [])
unfolding step_today
attempt_keeps b a ceiling t h =
    record {
      marks_fit = all_append (Marked b.opening.register b.day b.positions) b.marks (a.position ∷ []) h.marks_fit (record { held = t.held; short = t.short; window = t.window }, tt);
      few_marks = omega (arith, t.few, length-append b.marks (a.position ∷ []));
      auction_marked = λ l. some_last (λ k. eqb k a.position) b.marks a.position (eq-eqb a.position a.position refl);
      auction_first = λ l.
          all_of (λ x. marked b.marks x.position ≡ true) (λ x. x.position ≢ a.position) b.awards
          (λ x e s. true≢false (sym e ∙ ap (λ (n : ℕ). marked b.marks n) s ∙ t.unmarked)) h.awards_marked;
      offers_fit = tt;
      few_offers = omega arith;
      awards_fit_lem = h.awards_fit_lem;
      awards_marked =
          all_of (λ x. marked b.marks x.position ≡ true) (λ x. marked (b.marks ++ a.position ∷ []) x.position ≡ true) b.awards
          (λ x e. some_append (λ k. eqb k x.position) b.marks (a.position ∷ []) ∙ ap (λ (t : Bool). t || some (λ k. eqb k x.position) (a.position ∷ [])) e) h.awards_marked;
      few_awards = omega (arith, h.few_awards, length-append b.marks (a.position ∷ []), only_le (ltb 0 a.position) 16);
      covered = h.covered;
    }

offer_again : (a a' : Auction) → a'.position ≡ a.position → a'.ceiling ≡ a.ceiling → (o : Offer) → OfferFits a o → OfferFits a' o
offer_again a a' p c o f =
    record { position = f.position ∙ sym p; offerer = f.offerer; quantity = f.quantity; price = f.price; cheap = rw c f.cheap }

pub offer_keeps : (b : Book) (o : Offer) → OfferTaken b o → AuctionedBook b
    → Auctioned b.opening.register b.day b.positions (record { position = b.auction.position; ceiling = b.auction.ceiling; offers = b.auction.offers ++ o ∷ [] }) b.awards b.marks
offer_keeps b o t h =
    let on : b.auction.position ≡ o.position = (runs_on_lem b o.position t.running).1 in
    record {
      marks_fit = h.marks_fit;
      few_marks = h.few_marks;
      auction_marked = h.auction_marked;
      auction_first = h.auction_first;
      offers_fit =
          all_append (OfferFits after) b.auction.offers (o ∷ []) (all_of (OfferFits b.auction) (OfferFits after) b.auction.offers (offer_again b.auction after refl refl) h.offers_fit)
          (record { position = sym on; offerer = t.offerer; quantity = t.quantity; price = t.price; cheap = t.cheap }, tt);
      few_offers = omega (arith, t.few, length-append b.auction.offers (o ∷ []));
      awards_fit_lem = h.awards_fit_lem;
      awards_marked = h.awards_marked;
      few_awards = h.few_awards;
      covered = h.covered;
    }
  where
    after : Auction
    after = record { position = b.auction.position; ceiling = b.auction.ceiling; offers = b.auction.offers ++ o ∷ [] }

-- Award

unconfirmed_most : (n : ℕ) (awards : List Award) → unconfirmed n awards ≤ units_of awards
unfolding unconfirmed
unconfirmed_most n awards =
    sum_le (λ a. only (eqb a.position n && not a.confirmed) a.quantity) (λ a. a.quantity) awards
    (λ a. only_le (eqb a.position n && not a.confirmed) a.quantity)

pub award_keeps : (b : Book) (a : asked.Award) → AwardTaken b a → AuctionedBook b → Auctioned b.opening.register b.day b.positions no_auction (b.awards ++ auction_awards b) b.marks
unfolding auction_awards
award_keeps b a t h =
    record {
      marks_fit = h.marks_fit;
      few_marks = h.few_marks;
      auction_marked = λ l. absurd (omega arith);
      auction_first = λ l. absurd (omega arith);
      offers_fit = tt;
      few_offers = omega arith;
      awards_fit_lem = all_append AwardFits b.awards new h.awards_fit_lem (new_all AwardFits (λ o q l m f. record { offerer = f.offerer; quantity = record { above = l; below = omega (arith, f.quantity.below) }; price = f.price }));
      awards_marked = all_append (λ x. marked b.marks x.position ≡ true) b.awards new h.awards_marked (new_all (λ x. marked b.marks x.position ≡ true) (λ o q l m f. rw f.position (h.auction_marked on.0)));
      few_awards = omega (arith, h.few_awards, ap (λ (t : Bool). only t 16) (lt-ltb 0 b.auction.position on.0), h.few_offers, length-append b.awards new, awards_few cheapest);
      covered = cover;
    }
  where
    on : (0 < b.auction.position) × (b.auction.position ≡ a.position)
    on = runs_on_lem b a.position t.running

    open' : ℕ
    open' = (position_of b b.auction.position).unsettled

    new : List Award
    new = awarded open' (by_price [] b.auction.offers)

    cheapest : Cheapest open' b.auction.offers new
    cheapest = cheapest'.cover open' b.auction.offers

    new_all : (P : Award → Type 0) → ((o : Offer) (q : ℕ) → 0 < q → q ≤ o.quantity → OfferFits b.auction o → P (award_for o q)) → All P new
    new_all P f = awards_all cheapest P (OfferFits b.auction) f h.offers_fit

    new_on : All (λ x. x.position ≡ b.auction.position) new
    new_on = new_all (λ x. x.position ≡ b.auction.position) (λ o q l m f. f.position)

    cover : (i : ℕ) → i < length b.positions → unconfirmed (suc i) (b.awards ++ new) ≤ (get_or b.positions i no_position).unsettled
    cover i l = go (ask (eqb (suc i) b.auction.position))
      where
        go : Said (eqb (suc i) b.auction.position) → unconfirmed (suc i) (b.awards ++ new) ≤ (get_or b.positions i no_position).unsettled
        go (passed e) =
            let same : suc i ≡ b.auction.position = eqb-true (suc i) b.auction.position e in
            let first : unconfirmed (suc i) b.awards ≡ 0 = none_on (suc i) b.awards (rw same (h.auction_first on.0)) in
            let own : position_of b b.auction.position ≡ get_or b.positions i no_position = place_nth no_position b.positions i b.auction.position (sym same) in
            omega (arith, unconfirmed_append (suc i) b.awards new, first, unconfirmed_most (suc i) new, cheapest.fits, ap (λ (p : Position). p.unsettled) own)
        go (failed e) =
            let other : suc i ≢ b.auction.position = eqb-false (suc i) b.auction.position e in
            let none : unconfirmed (suc i) new ≡ 0 = none_on (suc i) new (all_of (λ x. x.position ≡ b.auction.position) (λ x. x.position ≢ suc i) new (λ x p s. other (sym s ∙ p)) new_on) in
            omega (arith, unconfirmed_append (suc i) b.awards new, none, h.covered i l)

-- Confirm

confirmed_same : (j n : ℕ) (awards : List Award) → j < n → number (confirmed_award j) n awards ≡ awards
unfolding confirmed_award
confirmed_same j n [] h = refl
confirmed_same j n (a ∷ awards) h = rw (ne_eqb n j (omega arith)) (ap (λ (l : List Award). a ∷ l) (confirmed_same j (suc n) awards (omega arith)))

-- the award that is confirmed no longer counts as unconfirmed
confirmed_falls : (k j n : ℕ) (awards : List Award) → n ≤ j → j < n + length awards → (get_or awards (j - n) no_award).confirmed ≡ false
    → unconfirmed k (number (confirmed_award j) n awards) + only (eqb (get_or awards (j - n) no_award).position k) (get_or awards (j - n) no_award).quantity ≡ unconfirmed k awards
unfolding confirmed_award unconfirmed
confirmed_falls k j n [] h l c = absurd (omega arith)
confirmed_falls k j n (a ∷ awards) h l c = go (ask (eqb n j)) (λ h' l' c'. confirmed_falls k j (suc n) awards h' l' c')
  where
    counts : Award → ℕ
    counts x = only (eqb x.position k && not x.confirmed) x.quantity

    shut : (t : Bool) (x : ℕ) → only (t && false) x ≡ 0
    shut true x = refl
    shut false x = refl

    go : Said (eqb n j)
        → (suc n ≤ j → j < suc n + length awards → (get_or awards (j - suc n) no_award).confirmed ≡ false → sum counts (number (confirmed_award j) (suc n) awards) + only (eqb (get_or awards (j - suc n) no_award).position k) (get_or awards (j - suc n) no_award).quantity ≡ sum counts awards)
        → counts (cond (eqb n j) (record { position = a.position; offerer = a.offerer; quantity = a.quantity; price = a.price; confirmed = true }) a) + sum counts (number (confirmed_award j) (suc n) awards) + only (eqb (get_or (a ∷ awards) (j - n) no_award).position k) (get_or (a ∷ awards) (j - n) no_award).quantity ≡ counts a + sum counts awards
    go (passed e) ih =
        let here : j - n ≡ 0 = omega (arith, eqb-true n j e) in
        let c' : a.confirmed ≡ false = rw here at c in
        rw (e, here, confirmed_same j (suc n) awards (omega (arith, eqb-true n j e)), c', mathlib.Core.Bool.and-true (eqb a.position k), shut (eqb a.position k) a.quantity) (omega arith)
    go (failed e) ih =
        let other : n ≢ j = eqb-false n j e in
        let next : j - n ≡ suc (j - suc n) = omega arith in
        let c' : (get_or awards (j - suc n) no_award).confirmed ≡ false = rw next at c in
        rw (e, next) (omega (arith, ih (omega arith) (omega arith) c'))

confirmed_all : (P : Award → Type 0) → ((a : Award) → P a → P (record { position = a.position; offerer = a.offerer; quantity = a.quantity; price = a.price; confirmed = true })) → (j n : ℕ) (awards : List Award) → All P awards → All P (number (confirmed_award j) n awards)
unfolding confirmed_award
confirmed_all P f j n awards h =
    all_number P (confirmed_award j) P n awards
    (λ k a p. decided P (eqb k j) (record { position = a.position; offerer = a.offerer; quantity = a.quantity; price = a.price; confirmed = true }) a (λ e. f a p) (λ e. p)) h

-- the same of the award that a number names
confirmed_named : (k j : ℕ) (awards : List Award) → 1 ≤ j → j < 1 + length awards → (nth no_award awards j).confirmed ≡ false
    → unconfirmed k (number (confirmed_award j) 1 awards) + only (eqb (nth no_award awards j).position k) (nth no_award awards j).quantity ≡ unconfirmed k awards
confirmed_named k j awards h l c =
    let at = nth_at no_award awards j h in
    rw at (confirmed_falls k j 1 awards h l (rw at at c))

-- Discharges may be dealt out

-- a quantity that is free of a short is open
pub free_open : (b : Book) (n q : ℕ) → q ≤ free b n → q ≤ (position_of b n).unsettled
unfolding free
free_open b n q h = omega arith

pub delivery_dealable : (b : Book) (d : Delivery) → DeliveryTaken b d → Dealable b d.position d.quantity
delivery_dealable b d t =
    record { held = t.held; short = t.short; is_due = t.is_due; enough = free_open b d.position d.quantity t.enough }

pub confirm_dealable : (b : Book) (c : Confirm) → ConfirmTaken b c → AuctionedBook b → Dealable b (award_of b c.award).position (award_of b c.award).quantity
confirm_dealable b c t h =
    let l : c.award - 1 < length b.awards = omega (arith, t.held.above, t.held.below) in
    let a : Award = award_of b c.award in
    let n : ℕ = a.position in
    let m : Marked b.opening.register b.day b.positions n = rw (nth_at no_award b.awards c.award t.held.above) (award_marked h (c.award - 1) l) in
    let some_kind : kind_on b.opening.register b.day (position_of b n) ≢ 0 = omega (arith, m.window) in
    let own : suc (n - 1) ≡ n = omega (arith, m.held.above) in
    let falls = confirmed_named n c.award b.awards t.held.above (omega (arith, t.held.below)) t.unconfirmed in
    record {
      held = m.held;
      short = m.short;
      is_due = window_due b.opening.register b.day (position_of b n) some_kind;
      enough = omega (arith, h.covered (n - 1) (omega (arith, m.held.above, m.held.below)), ap (λ (p : Position). p.unsettled) (nth_at no_position b.positions n m.held.above), ap (λ (k : ℕ). unconfirmed k b.awards) own, falls, ap (λ (x : Bool). only x a.quantity) (eq-eqb n n refl));
    }

pub cash_dealable : (b : Book) (c : Cash) → CashTaken b c → Dealable b c.position (position_of b c.position).unsettled
unfolding step_today
cash_dealable b c t =
    let some_kind : kind_on b.opening.register b.day (position_of b c.position) ≢ 0 = omega (arith, t.window) in
    record { held = t.held; short = t.short; is_due = window_due b.opening.register b.day (position_of b c.position) some_kind; enough = omega arith }

-- Discharges keep the awards covered

lowered_keeps : {b : Book} {m : Manner} {n q : ℕ} {xs : List Piece} (f : Deals b m n q xs) (awards' : List Award) → AuctionedBook b → length awards' ≡ length b.awards → All AwardFits awards' → All (λ a. marked b.marks a.position ≡ true) awards'
    → (0 < b.auction.position → All (λ a. a.position ≢ b.auction.position) awards')
    → unconfirmed n awards' + q ≤ (position_of b n).unsettled → ((k : ℕ) → k ≢ n → unconfirmed k awards' ≡ unconfirmed k b.awards)
    → Auctioned b.opening.register b.day (lowering xs b.positions) b.auction awards' b.marks
lowered_keeps {b} {xs = xs} f awards' h same fit marks first here others =
    record {
      marks_fit = all_of (Marked b.opening.register b.day b.positions) (Marked b.opening.register b.day (lowering xs b.positions)) b.marks (λ n m. marked_lowered b.opening.register b.day xs b.positions n m) h.marks_fit;
      few_marks = h.few_marks;
      auction_marked = h.auction_marked;
      auction_first = first;
      offers_fit = h.offers_fit;
      few_offers = h.few_offers;
      awards_fit_lem = fit;
      awards_marked = marks;
      few_awards = rw same h.few_awards;
      covered = covered_lowered f awards' h here others;
    }

-- of what is free of a short: a delivery, and a pair-off
pub free_keeps : (b : Book) (n q : ℕ) (xs : List Piece) (m : Manner) → q ≤ free b n → Deals b m n q xs → AuctionedBook b → Auctioned b.opening.register b.day (lowering xs b.positions) b.auction b.awards b.marks
unfolding free
free_keeps b n q xs m enough f h =
    lowered_keeps f b.awards h refl h.awards_fit_lem h.awards_marked h.auction_first (omega (arith, enough, positive)) (λ k d. refl)
  where
    positive : unconfirmed n b.awards ≤ (position_of b n).unsettled
    positive =
        let held = f.dealable.held in
        let own : suc (n - 1) ≡ n = omega (arith, held.above) in
        rw (nth_at no_position b.positions n held.above) (rw own at (h.covered (n - 1) (omega (arith, held.above, held.below))))

pub cash_keeps : (b : Book) (c : Cash) (xs : List Piece) (m : Manner) (q : ℕ) → CashTaken b c → q ≤ (position_of b c.position).unsettled → Deals b m c.position q xs → AuctionedBook b → Auctioned b.opening.register b.day (lowering xs b.positions) b.auction b.awards b.marks
unfolding step_today
cash_keeps b c xs m q t e f h =
    let none : unconfirmed c.position b.awards ≡ 0 = unmarked_free h c.position (λ k. omega (arith, k.window, t.window)) in
    lowered_keeps f b.awards h refl h.awards_fit_lem h.awards_marked h.auction_first (omega arith) (λ k n. refl)

pub confirm_keeps : (b : Book) (c : Confirm) (xs : List Piece) (m : Manner) → ConfirmTaken b c → Deals b m (award_of b c.award).position (award_of b c.award).quantity xs → AuctionedBook b
    → Auctioned b.opening.register b.day (lowering xs b.positions) b.auction (number (confirmed_award c.award) 1 b.awards) b.marks
confirm_keeps b c xs m t f h =
    lowered_keeps f awards' h (length_number (confirmed_award c.award) 1 b.awards) (confirmed_all AwardFits (λ a k. record { offerer = k.offerer; quantity = k.quantity; price = k.price }) c.award 1 b.awards h.awards_fit_lem)
    (confirmed_all (λ a. marked b.marks a.position ≡ true) (λ a k. k) c.award 1 b.awards h.awards_marked)
    (λ l. confirmed_all (λ a. a.position ≢ b.auction.position) (λ a k. k) c.award 1 b.awards (h.auction_first l))
    (omega (arith, falls n, ap (λ (x : Bool). only x q) (eq-eqb n n refl), f.dealable.enough, cover))
    (λ k d. omega (arith, falls k, ap (λ (x : Bool). only x q) (ne_eqb n k (λ e. d (sym e)))))
  where
    awards' : List Award
    awards' = number (confirmed_award c.award) 1 b.awards

    n : ℕ
    n = (award_of b c.award).position

    q : ℕ
    q = (award_of b c.award).quantity

    falls : (k : ℕ) → unconfirmed k awards' + only (eqb n k) q ≡ unconfirmed k b.awards
    falls k = confirmed_named k c.award b.awards t.held.above (omega (arith, t.held.below)) t.unconfirmed

    cover : unconfirmed n b.awards ≤ (position_of b n).unsettled
    cover =
        let own : suc (n - 1) ≡ n = omega (arith, f.dealable.held.above) in
        rw (nth_at no_position b.positions n f.dealable.held.above) (rw own at (h.covered (n - 1) (omega (arith, f.dealable.held.above, f.dealable.held.below))))

-- a close clears marks and awards
pub close_keeps : (register : Register) (day : ℕ) (ps : List Position) (auction : Auction) → auction.position ≡ 0 → All (OfferFits auction) auction.offers → length auction.offers ≤ 16 → Auctioned register day ps auction [] []
unfolding unconfirmed
close_keeps register day ps auction e f l =
    record {
      marks_fit = tt;
      few_marks = omega arith;
      auction_marked = λ k. absurd (omega arith);
      auction_first = λ k. absurd (omega arith);
      offers_fit = f;
      few_offers = l;
      awards_fit_lem = tt;
      awards_marked = tt;
      few_awards = rw (le-ltb 0 auction.position (omega arith)) (omega arith);
      covered = λ i k. omega arith;
    }
