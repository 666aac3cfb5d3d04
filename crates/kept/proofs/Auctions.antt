-- The calls on the auction, on the machine's book: their refusals are the plain book's, and what they change stands for what the plain book changes.
use Rattle.std.proofs.Common.{Option}
use Rattle.plain.specs.declared.Latest.{Latest}
use Prim.Native.Nat.{ℕ, ◌+◌, ◌-◌, ◌*◌, ◌≤◌, ◌<◌}
use native.Mathlib.Omega.{arith}
use native.Mathlib.Numerals.{add-one}
use mathlib.Core.Path.{◌≡◌, refl, ap, sym, ◌∙◌, subst}
use mathlib.Core.Logic.{◌≢◌}
use mathlib.Core.Bool.{Bool, true, false, not}
use mathlib.Core.List.{List, [], ◌∷◌, ◌++◌}
use lib.ListN.{length, take, set, get_or, length-set}
use lib.Seq.{length-take-le, take-suc-set}
use lib.Dec.{ltb, eqb}
use borrow.Author.Tests.{eqb-true, leb-false, not-false}
use Rattle.laws.specs.Lists.{All, only, sum, some}
use Rattle.laws.specs.Asked.{and_left, and_right, within, both_bounds}
use Rattle.laws.specs.Alls.{all_of}
use Rattle.laws.specs.Refusals.{first, none_applies, first_past, first_there, here, past}
use Rattle.rules.specs.Windows.{step_on}
use Rattle.rules.specs.Prices.{ceiling}
use Rattle.rules.specs.declared.Step.{Step}
use Rattle.events.specs.declared.Attempt.{Attempt}
use Rattle.events.specs.declared.Offer.{Offer}
use Rattle.events.specs.declared.Award.{Award}
use Rattle.events.specs.declared.Event.TheVariants as event
use Rattle.plain.specs.declared.Position.{Position}
use Rattle.plain.specs.declared.Award as made
use Rattle.plain.specs.Book as plain
use Rattle.plain.specs.Auction.{failing}
use Rattle.plain.specs.Changing as changing
use Rattle.plain.specs.Calls.{call, done, amount, auction_awards}
use Rattle.plain.specs.Refusals.{refusal, step_today, attempt_reasons, offer_reasons, auction_reasons, award_reasons, reasons}
use Rattle.plain.proofs.Accepted.{AwardTaken, award_taken}
use Rattle.plain.proofs.Prices.{price_told}
use Rattle.plain.specs.Invariants.{Fair}
use Rattle.tables.specs.Tables.{Positions, Awards}
use Rattle.tables.specs.Tables as table
use Rattle.auction.specs.Awards.{Awardable, Awarded, awarded_in}
use Rattle.kept.specs.View.{Kept, view, Fits, Valid}
use Rattle.kept.specs.Changing.{with_auction, with_awards, with_marks}
use Rattle.kept.specs.Auctions.{Done, ceiling_on}
use Rattle.plain.proofs.Numbered.{nth_take, nth_all}

-- the position of a number that is within the table
pub position_is : (t : Positions) (n : ℕ) → 1 ≤ n → n ≤ t.count → get_or t.items (n - 1) plain.no_position ≡ plain.nth plain.no_position (table.positions t) n
unfolding Rattle.tables.specs.Tables.positions
position_is t n low high = sym (nth_take plain.no_position t.items t.count n (record { above = low; below = high }))

pub held_is : (t : Positions) → table.PositionsFit t → length (table.positions t) ≡ t.count
unfolding Rattle.tables.specs.Tables.positions
held_is t f = length-take-le t.count t.items (omega (arith, f.places, f.held))

-- An award

pub award_number : (b : Kept) (a : Award) → Fits b → refusal (view b) (call (event.Award a) 0) ≡ first (award_reasons b.positions.count b.auction.position a.position)
unfolding view reasons refusal Rattle.tables.specs.Tables.auction
award_number b a f =
    ap (λ (k : ℕ). first (award_reasons k b.auction.position a.position)) (held_is b.positions f.positions)

-- the book after an auction that ended in awards
abbrev pub ended_book : Kept → Awards → Kept
ended_book b awards = with_awards (with_auction b (record { position = 0; ceiling = 0; offers = b.auction.offers; count = 0 })) awards

module _ (b : Kept) (a : Award) (v : Valid b) (e : refusal (view b) (call (event.Award a) 0) ≡ 0) where
  accepted_award : AwardTaken (view b) a
  accepted_award = award_taken (view b) a 0 e

  pub award_held : (1 ≤ a.position) × (a.position ≤ b.positions.count)
  unfolding view
  award_held =
      (accepted_award.held.above, subst (λ (k : ℕ). a.position ≤ k) (held_is b.positions v.fits.positions) accepted_award.held.below)

  on_auction : b.auction.position ≡ a.position
  unfolding view Rattle.tables.specs.Tables.auction
  on_auction = eqb-true _ _ (and_right (ltb 0 b.auction.position) _ accepted_award.running)

  runs : ltb 0 b.auction.position ≡ true
  unfolding view Rattle.tables.specs.Tables.auction
  runs = and_left (ltb 0 b.auction.position) (eqb b.auction.position a.position) accepted_award.running

  -- each attempt makes at most sixteen awards: there is room for those of this auction
  room : b.awards.count + b.auction.count ≤ 256
  unfolding view Rattle.tables.specs.Tables.auction Rattle.tables.specs.Tables.awards
  room =
      let s = v.sound.auctioned in
      let f = v.fits.awards in
      let few : length (table.awards b.awards) + only (ltb 0 b.auction.position) 16 ≤ 16 * length (table.marks b.marks) = s.few_awards in
      let few' : length (table.awards b.awards) + 16 ≤ 16 * length (table.marks b.marks) = rw runs at few in
      omega (arith, few', s.few_marks, v.fits.auction.held, length-take-le b.awards.count b.awards.items (omega (arith, f.places, f.held)))

  pub awardable : Awardable b.auction b.awards
  awardable = record { auction_fits = v.fits.auction; awards_fit = v.fits.awards; room = room }

  module _ (p : Position) (at : p ≡ plain.position_of (view b) a.position) (w : Awards) (total : ℕ) (is : Awarded b.auction p.unsettled b.awards w total) where
    awards_are : awarded_in b.auction p.unsettled ≡ auction_awards (view b)
    unfolding view auction_awards Rattle.tables.specs.Tables.auction
    awards_are =
        ap (λ (q : Position). awarded_in b.auction q.unsettled) (at ∙ ap (λ (n : ℕ). plain.position_of (view b) n) (sym on_auction))

    pub award_done : Done b (event.Award a) (ended_book b w) total
    unfolding view done amount Rattle.tables.specs.Tables.auction
    award_done =
        record {
          book = ap (λ (l : List made.Award). changing.with_awards (changing.with_auction (view b) plain.no_auction) l) (is.added ∙ ap (λ (l : List made.Award). table.awards b.awards ++ l) awards_are);
          fits =
              record {
                register = v.fits.register;
                trades = v.fits.trades;
                positions = v.fits.positions;
                auction = record { places = v.fits.auction.places; held = omega arith };
                awards = is.fit;
                marks = v.fits.marks;
                places = v.fits.places;
              };
          quantity = is.total ∙ ap (λ (l : List made.Award). sum (λ x. x.quantity) l) awards_are;
        }

-- An attempt

module _ (b : Kept) (v : Valid b) (n : ℕ) (in_use : within 1 b.positions.count n ≡ true) where
  there_is : within 1 (length (table.positions b.positions)) n ≡ true
  there_is = ap (λ (k : ℕ). within 1 k n) (held_is b.positions v.fits.positions) ∙ in_use

  fair_at : Fair b.opening.register.count b.day.0 (plain.position_of (view b) n)
  unfolding view
  fair_at =
      nth_all plain.no_position (Fair b.opening.register.count b.day.0) (table.positions b.positions) n
      (both_bounds 1 (length (table.positions b.positions)) n there_is)
      v.sound.standing.fair

  -- its security is one of the register's
  pub security_at : (p : Position) → p ≡ plain.position_of (view b) n → (1 ≤ p.security) × (p.security ≤ 32)
  security_at p at =
      rw at (fair_at.security.above, omega (arith, fair_at.security.below, v.fits.register.high))

module _ {p q : Position} {s t : Step} {l m : Option Latest} {k j : ℕ} {x y : Bool} (day auction : ℕ) where
  same_attempt : p ≡ q → s ≡ t → l ≡ m → k ≡ j → x ≡ y → first (attempt_reasons p day s auction l k x) ≡ first (attempt_reasons q day t auction m j y)
  same_attempt a c d e f = cc

marks_is : (b : Kept) → Fits b → length (table.marks b.marks) ≡ b.marks.count
unfolding Rattle.tables.specs.Tables.marks
marks_is b f = length-take-le b.marks.count b.marks.items (omega (arith, f.marks.places, f.marks.held))

pub attempt_missing : (b : Kept) (a : Attempt) → Fits b → within 1 b.positions.count a.position ≡ false → 11 ≡ refusal (view b) (call (event.Attempt a) 0)
unfolding view reasons refusal
attempt_missing b a f e =
    here 11 _ (ap not (ap (λ (k : ℕ). within 1 k a.position) (held_is b.positions f.positions) ∙ e))

module _ (b : Kept) (a : Attempt) (v : Valid b) (in_use : within 1 b.positions.count a.position ≡ true)
    (p : Position) (at : p ≡ plain.position_of (view b) a.position)
    (latest : Option Latest) (looked : latest ≡ plain.looked_up (plain.nth plain.no_price (table.prices b.prices) p.security))
    (class : ℕ) (classed : class ≡ plain.nth 0 b.opening.register.classes p.security) where
  latest_is : latest ≡ plain.latest_price (view b) (plain.position_of (view b) a.position).security
  unfolding view
  latest_is = looked ∙ ap (λ (q : Position). plain.looked_up (plain.nth plain.no_price (table.prices b.prices) q.security)) at

  price_is : (price : ℕ) → price ≡ plain.price_in latest → price ≡ plain.latest_of (view b) (plain.position_of (view b) a.position).security
  price_is price told = told ∙ ap plain.price_in latest_is ∙ price_told _

  class_is : class ≡ plain.class_of (view b) (plain.position_of (view b) a.position).security
  unfolding view
  class_is = classed ∙ ap (λ (q : Position). plain.nth 0 b.opening.register.classes q.security) at

  pub attempt_number : (today : Step) (marked : Bool)
      → today ≡ step_on class (b.day.0 - p.settlement.0) → marked ≡ some (λ k. eqb k a.position) (table.marks b.marks)
      → first (attempt_reasons p b.day.0 today b.auction.position latest b.marks.count marked) ≡ refusal (view b) (call (event.Attempt a) 0)
  unfolding view step_today reasons refusal Rattle.tables.specs.Tables.auction
  attempt_number today marked on m =
      past 11 (ap not (there_is b v a.position in_use))
      (same_attempt b.day.0 b.auction.position at
      (on ∙ ap (λ (c : ℕ). step_on c (b.day.0 - p.settlement.0)) classed ∙ ap (step_today (view b)) at)
      latest_is (sym (marks_is b v.fits)) m)

  pub ceiling_is : (price c : ℕ) → price ≡ plain.price_in latest → c ≡ ceiling class price → c ≡ ceiling_on (view b) a.position
  ceiling_is price c told e =
      e
      ∙ ap (λ (k : ℕ). ceiling k price) class_is
      ∙ ap (λ (k : ℕ). ceiling (plain.class_of (view b) (plain.position_of (view b) a.position).security) k) (price_is price told)

-- an attempt that is accepted finds a place among the marks
pub mark_room : (p : Position) (day : ℕ) (today : Step) (auction : ℕ) (latest : Option Latest) (attempts : ℕ) (marked : Bool) → first (attempt_reasons p day today auction latest attempts marked) ≡ 0 → attempts < 16
unfolding attempt_reasons
mark_room p day today auction latest attempts marked e =
    let h = none_applies (attempt_reasons p day today auction latest attempts marked) refl e in
    leb-false 16 attempts (search)

-- the book with one more mark and an auction without offers
abbrev pub attempted_book : Kept → ℕ → ℕ → Kept
attempted_book b n top =
    with_marks (with_auction b (record { position = n; ceiling = top; offers = b.auction.offers; count = 0 }))
    (record { items = set b.marks.items b.marks.count n; count = b.marks.count + 1 })

abbrev attempted : plain.Book → ℕ → ℕ → List ℕ → plain.Book
attempted b n top marks = changing.with_marks (changing.with_auction b (record { position = n; ceiling = top; offers = [] })) marks

module _ (b : Kept) (a : Attempt) (f : Fits b) (free : b.marks.count < 16) (c : ℕ) (top : c ≡ ceiling_on (view b) a.position) where
  one_mark : take (b.marks.count + 1) (set b.marks.items b.marks.count a.position) ≡ table.marks b.marks ++ a.position ∷ []
  unfolding Rattle.tables.specs.Tables.marks
  one_mark = rw add-one (take-suc-set b.marks.items b.marks.count a.position (omega (arith, f.marks.places)))

  pub attempt_done : Done b (event.Attempt a) (attempted_book b a.position c) 0
  unfolding view done amount Rattle.tables.specs.Tables.auction Rattle.tables.specs.Tables.marks
  attempt_done =
      record {
        book = ap (λ (l : List ℕ). attempted (view b) a.position c l) one_mark ∙ ap (λ (k : ℕ). attempted (view b) a.position k (table.marks b.marks ++ a.position ∷ [])) top;
        fits =
            record {
              register = f.register;
              trades = f.trades;
              positions = f.positions;
              auction = record { places = f.auction.places; held = omega arith };
              awards = f.awards;
              marks = record { places = length-set b.marks.items b.marks.count a.position ∙ f.marks.places; held = omega arith };
              places = f.places;
            };
        quantity = refl;
      }

-- An offer

pub offer_number : (b : Kept) (o : Offer) (v : Valid b) (fails : Bool)
    → fails ≡ failing b.day.0 (table.positions b.positions) (plain.position_of (view b) o.position).security o.offerer
    → refusal (view b) (call (event.Offer o) 0) ≡ first (offer_reasons b.positions.count b.auction.position o ++ auction_reasons fails b.auction.ceiling b.auction.count o.price)
unfolding view reasons refusal Rattle.tables.specs.Tables.auction
offer_number b o v fails e =
    let f = v.fits.auction in
    let held = held_is b.positions v.fits.positions in
    let offers = length-take-le b.auction.count b.auction.offers (omega (arith, f.places, f.held)) in
    joined held (sym e) offers
  where
    joined : {h k m n : ℕ} {x y : Bool} → h ≡ k → x ≡ y → m ≡ n → first (offer_reasons h b.auction.position o ++ auction_reasons x b.auction.ceiling m o.price) ≡ first (offer_reasons k b.auction.position o ++ auction_reasons y b.auction.ceiling n o.price)
    joined c d g = cc

module _ (b : Kept) (o : Offer) (v : Valid b) where
  -- turned down by its fields or the auction's position
  pub offer_first : (n : ℕ) → n ≡ first (offer_reasons b.positions.count b.auction.position o) → n ≢ 0 → n ≡ refusal (view b) (call (event.Offer o) 0)
  offer_first n e some =
      e
      ∙ sym (first_there (offer_reasons b.positions.count b.auction.position o) _ (λ z. some (e ∙ z)))
      ∙ sym (offer_number b o v (failing b.day.0 (table.positions b.positions) (plain.position_of (view b) o.position).security o.offerer) refl)

  module _ (e : first (offer_reasons b.positions.count b.auction.position o) ≡ 0) where
    pub offer_held : within 1 b.positions.count o.position ≡ true
    unfolding offer_reasons
    offer_held = let h = none_applies (offer_reasons b.positions.count b.auction.position o) refl e in not-false _ (search)

    pub offer_then : (fails : Bool)
        → fails ≡ failing b.day.0 (table.positions b.positions) (plain.position_of (view b) o.position).security o.offerer
        → refusal (view b) (call (event.Offer o) 0) ≡ first (auction_reasons fails b.auction.ceiling b.auction.count o.price)
    offer_then fails same =
        offer_number b o v fails same
        ∙ first_past (offer_reasons b.positions.count b.auction.position o) (auction_reasons fails b.auction.ceiling b.auction.count o.price) (unfold offer_reasons in refl) e

-- "Members are 1 to 63"
pub members_fit : (b : Kept) → Valid b → All (λ p. p.member ≤ 63) (table.positions b.positions)
unfolding view
members_fit b v =
    all_of (Fair b.opening.register.count b.day.0) (λ (p : Position). p.member ≤ 63) (table.positions b.positions) (λ p h. h.member.below) v.sound.standing.fair

-- an offer that is accepted finds a place
pub offer_room : (fails : Bool) (top offers price : ℕ) → first (auction_reasons fails top offers price) ≡ 0 → offers < 16
unfolding auction_reasons
offer_room fails top offers price e = let h = none_applies (auction_reasons fails top offers price) refl e in leb-false 16 offers (search)

abbrev pub offered_book : Kept → Offer → Kept
offered_book b o =
    with_auction b
    (record { position = b.auction.position; ceiling = b.auction.ceiling; offers = set b.auction.offers b.auction.count o; count = b.auction.count + 1 })

module _ (b : Kept) (o : Offer) (f : Fits b) (free : b.auction.count < 16) where
  one_offer : take (b.auction.count + 1) (set b.auction.offers b.auction.count o) ≡ take b.auction.count b.auction.offers ++ o ∷ []
  one_offer = rw add-one (take-suc-set b.auction.offers b.auction.count o (omega (arith, f.auction.places)))

  pub offer_done : Done b (event.Offer o) (offered_book b o) o.quantity
  unfolding view done amount Rattle.tables.specs.Tables.auction
  offer_done =
      record {
        book = ap (λ (l : List Offer). changing.with_auction (view b) (record { position = b.auction.position; ceiling = b.auction.ceiling; offers = l })) one_offer;
        fits =
            record {
              register = f.register;
              trades = f.trades;
              positions = f.positions;
              auction = record { places = length-set b.auction.offers b.auction.count o ∙ f.auction.places; held = omega arith };
              awards = f.awards;
              marks = f.marks;
              places = f.places;
            };
        quantity = refl;
      }
