-- The discharges on the machine's book: their refusals are the plain book's, what they call asks only what holds of a valid book, and what they change stands for
-- what the plain book changes.
use Rattle.std.proofs.Common.{Option}
use Rattle.plain.specs.declared.Latest.{Latest}
use Prim.Native.Nat.{ℕ, ◌+◌, ◌-◌, ◌≤◌}
use native.Mathlib.Omega.{arith}
use mathlib.Core.Path.{◌≡◌, refl, ap, sym, ◌∙◌, subst}
use mathlib.Core.Logic.{◌≢◌}
use mathlib.Core.Bool.{true}
use mathlib.Core.List.{List, [], ◌∷◌, ◌++◌, map}
use lib.ListN.{length, take}
use lib.Seq.{length-take-le}
use borrow.Author.Tests.{not-false}
use Rattle.laws.specs.Lists.{All, number}
use Rattle.laws.specs.Alls.{all_of}
use Rattle.laws.specs.Sums.{sum_map}
use Rattle.laws.specs.Asked.{within_low, within_high, both_bounds, Within, within}
use Rattle.laws.specs.Refusals.{Reason, first, numbered, none_applies, first_past, first_there}
use Rattle.events.specs.declared.Delivery.{Delivery}
use Rattle.events.specs.declared.Confirm.{Confirm}
use Rattle.events.specs.declared.Cash.{Cash}
use Rattle.events.specs.declared.PairOff.{PairOff}
use Rattle.events.specs.declared.Event.{Event}
use Rattle.events.specs.declared.Event.TheVariants as event
use Rattle.plain.specs.declared.Position.{Position}
use Rattle.plain.specs.declared.Award.{Award}
use Rattle.plain.specs.declared.Piece.{Piece}
use Rattle.plain.specs.declared.Ledger.{Ledger}
use Rattle.plain.specs.declared.Manner.{Manner}
use Rattle.plain.specs.declared.Manner.TheVariants as manner
use Rattle.plain.specs.Book as plain
use Rattle.plain.specs.Dealing.{names, taken, taken_by, lowered, lowering}
use Rattle.plain.specs.Auction.{unconfirmed}
use Rattle.plain.specs.Changing as changing
use Rattle.plain.specs.Calls.{call, dealt, paired_piece, discharged, hands_out, charges, amount, done}
use Rattle.rules.specs.Prices.{cash_price}
use Rattle.rules.specs.Charges.{buy_in_charge}
use Rattle.rules.specs.Windows.{step_on}
use Rattle.rules.specs.declared.Step.{Step}
use Rattle.plain.specs.Charging.{Charge, charge, buy_in_charges, long_references, settlement_price, priced_at, cash_charges, posted, credited, debited, cash_charges_by}
use Rattle.plain.specs.Refusals.{step_today, refusal, lookup_reasons, delivery_reasons, both_lookup_reasons, pair_off_reasons, confirm_reasons, cash_reasons, free, reasons}
use Rattle.plain.proofs.Accepted.{delivery_taken, confirm_taken, cash_taken}
use Rattle.plain.specs.Invariants.{Fair, Whole, Dealable, Deals, AwardFits}
use Rattle.plain.proofs.AwardSteps.{delivery_dealable, confirm_dealable, cash_dealable}
use Rattle.plain.proofs.Dealt.{deals, longs_suffice}
use Rattle.plain.proofs.Sound.{done_sound, sound_dealt}
use Rattle.plain.specs.Sound.{Places, Booked}
use Rattle.plain.proofs.Accounts.{booked, posted_places}
use Rattle.plain.proofs.Bound.{done_bound}
use Rattle.plain.proofs.Claim.{bounding, accountable}
use Rattle.tables.specs.Tables.{Positions, Awards}
use Rattle.tables.specs.declared.Pieces.{Pieces}
use Rattle.tables.specs.Tables as table
use Rattle.rows.specs.Lowering.{Lowerable}
use Rattle.positions.specs.Dealing.{Dealing, HandedOut, DealtOut, Dealt}
use Rattle.auction.specs.Awards.{Countable, Confirmable, Confirmed}
use Rattle.ledger.specs.Posts.{Room}
use Rattle.ledger.specs.Tabled.{Chargeable, Accounted, Paired, Priceable, Priced}
use Rattle.ledger.proofs.Reached.{call_room, all_accounted, all_paired}
use Rattle.kept.specs.View.{Kept, view, Fits, Valid}
use Rattle.kept.specs.Changing.{with_positions, with_awards, with_ledger}
use Rattle.kept.specs.Discharging.{Terms, Dischargeable, Done}
use Rattle.plain.proofs.Numbered.{nth_all}

-- Places in use

module _ {A : Type 0} (items : List A) (count : ℕ) (fits : count ≤ length items) where
  pub in_use : length (take count items) ≡ count
  in_use = length-take-le count items fits

pub positions_many : (t : Positions) → table.PositionsFit t → length (table.positions t) ≡ t.count
unfolding Rattle.tables.specs.Tables.positions
positions_many t f = in_use t.items t.count (omega (arith, f.places, f.held))

pub awards_many : (t : Awards) → table.AwardsFit t → length (table.awards t) ≡ t.count
unfolding Rattle.tables.specs.Tables.awards
awards_many t f = in_use t.items t.count (omega (arith, f.places, f.held))

-- The refusals

pub lookup_there : (sheet held n : ℕ) → first (lookup_reasons sheet held n) ≡ 0 → Within 1 held n
unfolding lookup_reasons
lookup_there sheet held n e =
    let none = none_applies (lookup_reasons sheet held n) refl e in
    let h : within 1 held n ≡ true = not-false _ (search) in
    record { above = within_low 1 held n h; below = within_high 1 held n h }

lookup_numbered : (sheet held n : ℕ) → numbered (lookup_reasons sheet held n) ≡ true
unfolding lookup_reasons
lookup_numbered sheet held n = refl

-- the same of both positions of a pair-off
pub both_there : (sheet held short long : ℕ) → first (both_lookup_reasons sheet held short long) ≡ 0 → (Within 1 held short) × (Within 1 held long)
unfolding both_lookup_reasons
both_there sheet held short long e =
    let none = none_applies (both_lookup_reasons sheet held short long) refl e in
    (both_bounds 1 held short (not-false _ (search)), both_bounds 1 held long (not-false _ (search)))

both_numbered : (sheet held short long : ℕ) → numbered (both_lookup_reasons sheet held short long) ≡ true
unfolding both_lookup_reasons
both_numbered sheet held short long = refl

-- the refusals before and after the positions or the award are looked at, in the plain book's order
module _ (front rest : List Reason) (whole : ℕ) (is : whole ≡ first (front ++ rest)) where
  pub missing_number : (number : ℕ) → number ≡ first front → number ≢ 0 → whole ≡ number
  missing_number number e some = is ∙ first_there front rest (λ z. some (e ∙ z)) ∙ sym e

  pub found_number : numbered front ≡ true → first front ≡ 0 → whole ≡ first rest
  found_number n e = is ∙ first_past front rest n e

-- What the callees ask

module _ (b : Kept) (v : Valid b) where
  pub dealing : (n q : ℕ) → Dealable (view b) n q → Dealing b.positions b.day.0 n q
  unfolding view
  dealing n q f =
      record {
        fits = v.fits.positions;
        rising = v.sound.standing.rising;
        held = record { above = f.held.above; below = omega (arith, f.held.below, positions_many b.positions v.fits.positions) };
        is_short = f.short;
        is_due = f.is_due;
        enough = f.enough;
        suffice = longs_suffice (view b) n q v.sound.settled.even f;
        whole = v.sound.settled.whole;
        bounded = all_of (Fair b.opening.register.count b.day.0) (λ p. p.netted ≤ 512000000) (table.positions b.positions) (λ p h. h.netted.below) v.sound.standing.fair;
      }

  -- units that are open of a position may be discharged of it
  pub lowerable : (n q : ℕ) → Within 1 (length (table.positions b.positions)) n → q ≤ (plain.position_of (view b) n).unsettled → Lowerable (plain.position_of (view b) n) q
  unfolding view
  lowerable n q w enough =
      let ps = table.positions b.positions in
      record {
        enough = enough;
        sized =
            record {
              whole = nth_all plain.no_position Whole ps n w v.sound.settled.whole;
              bounded = (nth_all plain.no_position (Fair b.opening.register.count b.day.0) ps n w v.sound.standing.fair).netted.below;
            };
      }

  -- each position has an account, and a security that is registered
  pub accounted : All Accounted (table.positions b.positions)
  unfolding view
  accounted =
      all_accounted b.opening.register.count b.day.0 (table.positions b.positions) v.sound.standing.fair v.fits.register.high

  pub countable : Countable b.awards
  unfolding view
  countable =
      record { fit = v.fits.awards; small = all_of AwardFits (λ a. a.quantity ≤ 1000000) (table.awards b.awards) (λ a h. h.quantity.below) v.sound.auctioned.awards_fit_lem }

  -- the charges of a discharge are booked, and there is room for them
  pub charges_room : (e : Event) → Dischargeable b e → Room b.ledger (charges (view b) e)
  unfolding view
  charges_room e k =
      call_room (view b) e (accountable (view b) v.sound) v.fits.places v.balanced
      (done_bound (view b) (call e 1024) k.taken (bounding (view b) v.sound) (sound_dealt (view b) v.sound (call e 1024) k.taken) v.bound)
      (omega (arith, (done_sound (view b) (call e 1024) k.taken v.sound).standing.held))

  pub charges_booked : (e : Event) → All Booked (charges (view b) e)
  charges_booked e = booked (view b) (accountable (view b) v.sound) e

-- What a discharge changes

-- the book with other positions, awards and accounts
abbrev pub after : Kept → Positions → Awards → Ledger → Kept
after b ps today l = with_ledger (with_awards (with_positions b ps) today) l

module _ (b : Kept) (ps : Positions) (today : Awards) (l : Ledger) where
  after_view : (xs : List Piece) (marked : List Award) (cs : List Charge)
      → table.positions ps ≡ lowering xs (table.positions b.positions) → table.awards today ≡ marked → l ≡ posted b.ledger cs
      → view (after b ps today l) ≡ changing.with_awards (discharged (view b) xs cs) marked
  unfolding view discharged
  after_view xs marked cs lowers marks posts = rw (lowers, marks, posts)

  after_fits : Fits b → table.PositionsFit ps → table.AwardsFit today → Places l → Fits (after b ps today l)
  after_fits f p a k =
      record {
        register = f.register;
        trades = f.trades;
        positions = p;
        auction = f.auction;
        awards = a;
        marks = f.marks;
        places = k;
      }

-- a discharge that is not charged for: a delivery, and a pair-off
module _ (b : Kept) (v : Valid b) (e : Event) (units : ℕ) where
  uncharged : units ≡ amount (view b) e → done (view b) e ≡ discharged (view b) (hands_out (view b) e) [] → (r : Dealt) → HandedOut b.positions (hands_out (view b) e) r
      → Done b e (after b r.positions b.awards b.ledger) units r.pieces
  unfolding view discharged posted credited debited
  uncharged much does r f =
      record {
        book = after_view b r.positions b.awards b.ledger (hands_out (view b) e) (table.awards b.awards) [] f.positions refl refl ∙ sym does;
        fits = after_fits b r.positions b.awards b.ledger v.fits f.positions_fit v.fits.awards v.fits.places;
        quantity = much;
        pieces = f.pieces;
        pieces_fit = f.pieces_fit;
      }

-- Delivery

module _ (b : Kept) (v : Valid b) (d : Delivery) where
  module _ (sheet : ℕ) where
    pub delivery_split : refusal (view b) (call (event.Delivery d) sheet) ≡ first (lookup_reasons sheet b.positions.count d.position ++ delivery_reasons (plain.position_of (view b) d.position) b.day.0 b.auction.position ((plain.position_of (view b) d.position).unsettled - unconfirmed d.position (table.awards b.awards)) d)
    unfolding view free reasons refusal Rattle.tables.specs.Tables.auction
    delivery_split =
        ap (λ (k : ℕ). first (lookup_reasons sheet k d.position ++ delivery_reasons (plain.position_of (view b) d.position) b.day.0 b.auction.position ((plain.position_of (view b) d.position).unsettled - unconfirmed d.position (table.awards b.awards)) d)) (positions_many b.positions v.fits.positions)

    pub delivery_number : (p : Position) (reserved number : ℕ)
        → first (lookup_reasons sheet b.positions.count d.position) ≡ 0 → p ≡ plain.nth plain.no_position (table.positions b.positions) d.position
        → reserved ≡ unconfirmed d.position (table.awards b.awards) → number ≡ first (delivery_reasons p b.day.0 b.auction.position (p.unsettled - reserved) d)
        → refusal (view b) (call (event.Delivery d) sheet) ≡ number
    unfolding view
    delivery_number p reserved number e same units is =
        found_number (lookup_reasons sheet _ _) _ _ delivery_split (lookup_numbered _ _ _) e ∙ sym (rw (same, units) at is)

  pub delivery_dealing : Dischargeable b (event.Delivery d) → Dealing b.positions b.day.0 d.position d.quantity
  delivery_dealing k = dealing b v d.position d.quantity (delivery_dealable (view b) d (delivery_taken (view b) d 1024 k.taken))

  pub delivered : (r : Dealt) → DealtOut b.positions b.day.0 d.position d.quantity manner.Delivered r → Done b (event.Delivery d) (after b r.positions b.awards b.ledger) d.quantity r.pieces
  unfolding view done hands_out charges amount dealt
  delivered r f = uncharged b v (event.Delivery d) d.quantity refl refl r f

-- Pair-off

module _ (b : Kept) (v : Valid b) (x : PairOff) where
  -- its reasons once both positions are there
  abbrev pair_reasons : List Reason
  pair_reasons =
      let p = plain.position_of (view b) x.short in
      pair_off_reasons p (plain.position_of (view b) x.long) b.day.0 b.auction.position (p.unsettled - unconfirmed x.short (table.awards b.awards)) x

  module _ (sheet : ℕ) where
    pub pair_off_split : refusal (view b) (call (event.PairOff x) sheet) ≡ first (both_lookup_reasons sheet b.positions.count x.short x.long ++ pair_reasons)
    unfolding view free reasons refusal Rattle.tables.specs.Tables.auction
    pair_off_split =
        ap (λ (k : ℕ). first (both_lookup_reasons sheet k x.short x.long ++ pair_reasons)) (positions_many b.positions v.fits.positions)

    pub pair_off_number : (p q : Position) (reserved number : ℕ)
        → first (both_lookup_reasons sheet b.positions.count x.short x.long) ≡ 0 → p ≡ plain.nth plain.no_position (table.positions b.positions) x.short
        → q ≡ plain.nth plain.no_position (table.positions b.positions) x.long → reserved ≡ unconfirmed x.short (table.awards b.awards)
        → number ≡ first (pair_off_reasons p q b.day.0 b.auction.position (p.unsettled - reserved) x) → refusal (view b) (call (event.PairOff x) sheet) ≡ number
    unfolding view
    pair_off_number p q reserved number e own other units is =
        found_number (both_lookup_reasons sheet _ _ _) _ _ pair_off_split (both_numbered _ _ _ _) e ∙ sym (rw (own, other, units) at is)

  pub paired_off_lem : (r : Dealt) → HandedOut b.positions (paired_piece x ∷ []) r → Done b (event.PairOff x) (after b r.positions b.awards b.ledger) x.quantity r.pieces
  unfolding view done hands_out charges amount
  paired_off_lem r f = uncharged b v (event.PairOff x) x.quantity refl refl r f

-- Confirmation

module _ (b : Kept) (v : Valid b) (c : Confirm) where
  module _ (sheet : ℕ) where
    pub confirm_split : refusal (view b) (call (event.Confirm c) sheet) ≡ first (lookup_reasons sheet b.awards.count c.award ++ confirm_reasons (plain.award_of (view b) c.award))
    unfolding view reasons refusal
    confirm_split =
        ap (λ (k : ℕ). first (lookup_reasons sheet k c.award ++ confirm_reasons (plain.award_of (view b) c.award))) (awards_many b.awards v.fits.awards)

    pub confirm_number : (a : Award) (number : ℕ) → first (lookup_reasons sheet b.awards.count c.award) ≡ 0 → a ≡ plain.nth plain.no_award (table.awards b.awards) c.award → number ≡ first (confirm_reasons a) → refusal (view b) (call (event.Confirm c) sheet) ≡ number
    unfolding view
    confirm_number a number e same is = found_number (lookup_reasons sheet _ _) _ _ confirm_split (lookup_numbered _ _ _) e ∙ sym (rw same at is)

  -- the award that is confirmed, and its short
  abbrev award : Award
  award = plain.award_of (view b) c.award

  abbrev short_for : Award → Position
  short_for a = plain.nth plain.no_position (table.positions b.positions) a.position

  abbrev charge_for : Award → Position → Charge
  charge_for a p = charge p.member (buy_in_charge a.quantity a.price p.reference)

  module _ (k : Dischargeable b (event.Confirm c)) where
    buy_in_dealable : Dealable (view b) award.position award.quantity
    buy_in_dealable = confirm_dealable (view b) c (confirm_taken (view b) c 1024 k.taken) v.sound.auctioned

    pub buy_in_there : (a : Award) → a ≡ award → Within 1 b.positions.count a.position
    unfolding view
    buy_in_there a same =
        rw same (record { above = buy_in_dealable.held.above; below = omega (arith, buy_in_dealable.held.below, positions_many b.positions v.fits.positions) })

    pub buy_in_dealing : (a : Award) → a ≡ award → Dealing b.positions b.day.0 a.position a.quantity
    buy_in_dealing a same = rw same (dealing b v award.position award.quantity buy_in_dealable)

    own_charge : Chargeable b.ledger (charge_for award (short_for award))
    unfolding view charges buy_in_charges
    own_charge = record { booked = (charges_booked b v (event.Confirm c)).0; room = charges_room b v (event.Confirm c) k }

    pub buy_in_charge_lem : (a : Award) (p : Position) → a ≡ award → p ≡ short_for a → Chargeable b.ledger (charge_for a p)
    buy_in_charge_lem a p same short = rw (short, same) own_charge

    pub buy_in_confirmable : Confirmable b.awards c.award
    unfolding view
    buy_in_confirmable =
        let t = confirm_taken (view b) c 1024 k.taken in
        record { fit = v.fits.awards; low = t.held.above; high = omega (arith, t.held.below, awards_many b.awards v.fits.awards) }

  abbrev BoughtIn : Award → Type 0
  BoughtIn a =
      (r : Dealt) (l : Ledger) (w : Awards) → DealtOut b.positions b.day.0 a.position a.quantity manner.BoughtIn r → l ≡ posted b.ledger (charge_for a (short_for a) ∷ []) → Confirmed b.awards c.award w
      → Done b (event.Confirm c) (after b r.positions w l) a.quantity r.pieces

  own_bought : BoughtIn award
  unfolding view done hands_out charges buy_in_charges amount dealt
  own_bought r l w f posts g =
      record {
        book = after_view b r.positions w l (hands_out (view b) (event.Confirm c)) _ (charges (view b) (event.Confirm c)) f.positions g.marked posts;
        fits = after_fits b r.positions w l v.fits f.positions_fit g.fit (rw posts (posted_places b.ledger _ v.fits.places));
        quantity = refl;
        pieces = f.pieces;
        pieces_fit = f.pieces_fit;
      }

  pub bought_in_lem : (a : Award) (p : Position) (r : Dealt) (l : Ledger) (w : Awards)
      → a ≡ award → p ≡ short_for a → DealtOut b.positions b.day.0 a.position a.quantity manner.BoughtIn r
      → l ≡ posted b.ledger (charge_for a p ∷ []) → Confirmed b.awards c.award w
      → Done b (event.Confirm c) (after b r.positions w l) a.quantity r.pieces
  bought_in_lem a p r l w same short f posts g =
      subst BoughtIn (sym same) own_bought r l w f (posts ∙ ap (λ (q : Position). posted b.ledger (charge_for a q ∷ [])) short) g

-- Cash settlement

-- pricing changes nothing that positions are lowered by
module _ (price : ℕ) (xs : List Piece) where
  taken_priced : (n : ℕ) → taken n (map (priced_at price) xs) ≡ taken n xs
  unfolding taken names priced_at
  taken_priced n = sum_map (names n) (priced_at price) xs

  by_priced : (m : Manner) (n : ℕ) → taken_by m n (map (priced_at price) xs) ≡ taken_by m n xs
  unfolding taken_by names priced_at
  by_priced m n = sum_map _ (priced_at price) xs

  lowered_priced : (n : ℕ) (p : Position) → lowered (map (priced_at price) xs) n p ≡ lowered xs n p
  unfolding lowered
  lowered_priced n p = rw (taken_priced n, by_priced manner.Delivered n, by_priced manner.BoughtIn n, by_priced manner.Cash n, by_priced manner.Paired n)

  lowering_priced : (ps : List Position) → lowering (map (priced_at price) xs) ps ≡ lowering xs ps
  unfolding lowering
  lowering_priced ps = λ i. number (λ n p. lowered_priced n p i) 1 ps

module _ (b : Kept) (v : Valid b) (c : Cash) where
  abbrev settled_short : Position
  settled_short = plain.position_of (view b) c.position

  module _ (sheet : ℕ) where
    pub cash_split : refusal (view b) (call (event.Cash c) sheet) ≡ first (lookup_reasons sheet b.positions.count c.position ++ cash_reasons settled_short b.day.0 (step_on (plain.class_of (view b) settled_short.security) (b.day.0 - settled_short.settlement.0)) (plain.latest_price (view b) settled_short.security))
    unfolding view step_today reasons refusal
    cash_split =
        ap (λ (k : ℕ). first (lookup_reasons sheet k c.position ++ cash_reasons settled_short b.day.0 (step_on (plain.class_of (view b) settled_short.security) (b.day.0 - settled_short.settlement.0)) (plain.latest_price (view b) settled_short.security))) (positions_many b.positions v.fits.positions)

    pub cash_number : (p : Position) (class : ℕ) (latest : Option Latest) (today : Step) (number : ℕ)
        → first (lookup_reasons sheet b.positions.count c.position) ≡ 0 → p ≡ plain.nth plain.no_position (table.positions b.positions) c.position
        → class ≡ plain.nth 0 b.opening.register.classes p.security → latest ≡ plain.looked_up (plain.nth plain.no_price (table.prices b.prices) p.security)
        → today ≡ step_on class (b.day.0 - p.settlement.0) → number ≡ first (cash_reasons p b.day.0 today latest)
        → refusal (view b) (call (event.Cash c) sheet) ≡ number
    unfolding view
    cash_number p class latest today number e same classed looked step is =
        found_number (lookup_reasons sheet _ _) _ _ cash_split (lookup_numbered _ _ _) e ∙ sym (rw (step, looked, classed, same) at is)

  pub cash_security : (p : Position) → Within 1 b.positions.count c.position → p ≡ plain.nth plain.no_position (table.positions b.positions) c.position → Within 1 32 p.security
  unfolding view
  cash_security p h same =
      let f = nth_all plain.no_position (Fair b.opening.register.count b.day.0) (table.positions b.positions) c.position (rw (positions_many b.positions v.fits.positions) h) v.sound.standing.fair in
      rw same (record { above = f.security.above; below = omega (arith, f.security.below, v.fits.register.high) })

  pub cash_terms_lem : (p : Position) (class latest : ℕ)
      → p ≡ plain.nth plain.no_position (table.positions b.positions) c.position → class ≡ plain.nth 0 b.opening.register.classes p.security
      → latest ≡ (plain.nth plain.no_price (table.prices b.prices) p.security).price → Terms (view b) c.position p.unsettled class latest
  unfolding view
  cash_terms_lem p class latest same classed price =
      record {
        unsettled = ap (λ (q : Position). q.unsettled) same;
        classed = classed ∙ ap (λ (q : Position). plain.nth 0 b.opening.register.classes q.security) same;
        latest = price ∙ ap (λ (q : Position). (plain.nth plain.no_price (table.prices b.prices) q.security).price) same;
      }

  module _ (k : Dischargeable b (event.Cash c)) (units class latest : ℕ) (t : Terms (view b) c.position units class latest) where
    cash_able : Dealable (view b) c.position settled_short.unsettled
    cash_able = cash_dealable (view b) c (cash_taken (view b) c 1024 k.taken)

    pub cash_dealing : Dealing b.positions b.day.0 c.position units
    cash_dealing = rw t.unsettled (dealing b v c.position settled_short.unsettled cash_able)

    cash_deals : Deals (view b) manner.Cash c.position settled_short.unsettled (dealt (view b) manner.Cash c.position settled_short.unsettled)
    cash_deals = deals (view b) manner.Cash c.position settled_short.unsettled v.sound.settled.even cash_able

    paired_of : (xs : List Piece) → Deals (view b) manner.Cash c.position settled_short.unsettled xs → All (Paired b.positions.count) xs
    unfolding view
    paired_of xs f =
        subst (λ (held : ℕ). All (Paired held) xs) (positions_many b.positions v.fits.positions) (all_paired (view b) manner.Cash c.position settled_short.unsettled xs f)

    module _ (r : Dealt) (f : DealtOut b.positions b.day.0 c.position units manner.Cash r) where
      unpriced_is : table.pieces r.pieces ≡ dealt (view b) manner.Cash c.position settled_short.unsettled
      unfolding view dealt
      unpriced_is = f.pieces ∙ ap (λ (u : ℕ). dealt (view b) manner.Cash c.position u) t.unsettled

      pub cash_priceable : Priceable r.pieces b.positions
      unfolding view
      cash_priceable =
          record {
            positions_fit = v.fits.positions;
            pieces_fit = f.pieces_fit;
            paired = rw unpriced_is (paired_of (dealt (view b) manner.Cash c.position settled_short.unsettled) cash_deals);
          }

      -- the price of the settlement, by what it is found from
      pub cash_price_lem : (reference : ℕ) (longs : List ℕ) → reference ≡ settled_short.reference → longs ≡ long_references (table.positions b.positions) (table.pieces r.pieces)
          → cash_price class reference longs latest ≡ settlement_price (view b) c.position (table.pieces r.pieces)
      unfolding view cash_price settlement_price
      cash_price_lem reference longs own same = rw (own, same, t.classed, t.latest)

      module _ (price : ℕ) (same : price ≡ settlement_price (view b) c.position (table.pieces r.pieces)) (x : Pieces) (g : Priced r.pieces price x) where
        priced_is : table.pieces x ≡ hands_out (view b) (event.Cash c)
        unfolding hands_out
        priced_is = rw (same, unpriced_is) at g.priced

        charges_is : cash_charges_by latest (table.positions b.positions) c.position (table.pieces x) ≡ charges (view b) (event.Cash c)
        unfolding view charges cash_charges
        charges_is =
            ap (λ (l : ℕ). cash_charges_by l (table.positions b.positions) c.position (table.pieces x)) t.latest
            ∙ ap (λ (xs : List Piece). cash_charges (view b) c.position xs) priced_is

        pub cash_room : Room b.ledger (cash_charges_by latest (table.positions b.positions) c.position (table.pieces x))
        cash_room = rw charges_is (charges_room b v (event.Cash c) k)

        cash_lowers : table.positions r.positions ≡ lowering (hands_out (view b) (event.Cash c)) (table.positions b.positions)
        unfolding view dealt hands_out
        cash_lowers =
            f.positions
            ∙ ap (λ (u : ℕ). lowering (dealt (view b) manner.Cash c.position u) (table.positions b.positions)) t.unsettled
            ∙ sym (lowering_priced _ (dealt (view b) manner.Cash c.position settled_short.unsettled) (table.positions b.positions))

        pub settled : (l : Ledger) → l ≡ posted b.ledger (cash_charges_by latest (table.positions b.positions) c.position (table.pieces x)) → Done b (event.Cash c) (after b r.positions b.awards l) units x
        unfolding view done discharged amount
        settled l posts =
            record {
              book = after_view b r.positions b.awards l (hands_out (view b) (event.Cash c)) (table.awards b.awards) (charges (view b) (event.Cash c)) cash_lowers refl (posts ∙ ap (λ (cs : List Charge). posted b.ledger cs) charges_is);
              fits = after_fits b r.positions b.awards l v.fits f.positions_fit v.fits.awards (rw posts (posted_places b.ledger _ v.fits.places));
              quantity = t.unsettled;
              pieces = priced_is;
              pieces_fit = g.fit;
            }
