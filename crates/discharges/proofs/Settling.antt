-- A cash settlement in place: its refusals are the plain book's, and pricing by the positions as the dealing left them is pricing by those before it,
-- since only members and references are gone by.
use Rattle.std.proofs.Common.{Err, Ok, Option}
use Rattle.plain.specs.declared.Latest.{Latest}
use Prim.Native.Nat.{ℕ, zero, suc, ◌-◌}
use native.Mathlib.Omega.{arith}
use mathlib.Core.Path.{◌≡◌, refl, ap, sym, ◌∙◌, subst}
use mathlib.Core.List.{List, [], ◌∷◌, ◌++◌, map}
use lib.ListN.{length, take, get_or, length-map}
use Rattle.laws.specs.Limits.{SHEET_CELLS}
use Rattle.laws.specs.Lists.{All, each, number}
use Rattle.laws.specs.Alls.{all_of, all_number}
use Rattle.rules.specs.Windows.{step_on}
use Rattle.rules.specs.declared.Step.{Step}
use Rattle.events.specs.declared.Cash.{Cash}
use Rattle.events.specs.declared.Event.TheVariants as event
use Rattle.plain.specs.declared.Position.{Position}
use Rattle.plain.specs.declared.Piece.{Piece}
use Rattle.plain.specs.declared.Ledger.{Ledger}
use Rattle.plain.specs.declared.Manner.TheVariants as manner
use Rattle.plain.specs.Book.{no_position, no_price, nth, looked_up}
use Rattle.plain.specs.Dealing.{lowered, lowering}
use Rattle.plain.specs.Charging.{Charge, payment, posted, settlement_price, priced_at, cash_charges_by, fee_of}
use Rattle.plain.specs.Calls.{call, dealt}
use Rattle.plain.specs.Refusals.{refusal, lookup_reasons, cash_reasons}
use Rattle.laws.specs.Asked.{Within}
use Rattle.plain.proofs.Accepted.{cash_taken}
use Rattle.plain.proofs.AwardSteps.{cash_dealable}
use Rattle.plain.proofs.Dealt.{deals}
use Rattle.tables.specs.Tables.{Positions}
use Rattle.tables.specs.declared.Pieces.{Pieces}
use Rattle.tables.specs.Tables as table
use Rattle.pieces.specs.Sheet.{pieces_of, sheet_with}
use Rattle.plain.proofs.Numbered.{nth_alike}
use Rattle.laws.specs.Answers as answers
use Rattle.laws.specs.Refusals.{first}
use Rattle.laws.specs.declared.Refusal.{Refusal}
use Rattle.ledger.specs.Tabled.{Accounted, Priced, PricedOn}
use Rattle.ledger.proofs.Elements.{position_numbered}
use Rattle.positions.specs.Dealing.{dealt_out}
use Rattle.tables.specs.Lent.{position_table, piece_table, row_of}
use Rattle.ledger.specs.Settling.{price_of, payment_at, payments_at, settlement_of, OwedBy, Settleable}
use Rattle.kept.specs.View.{view, Valid}
use Rattle.kept.specs.Discharging.{Terms, Dischargeable}
use Rattle.kept.proofs.Discharging.{positions_many, accounted, lookup_there, missing_number, cash_split, cash_number, cash_terms_lem, cash_dealing, cash_priceable, cash_price_lem, cash_room, settled}
use Rattle.machine.specs.declared.Core.{Core}
use Rattle.machine.specs.declared.Numbers.{Numbers}
use Rattle.machine.specs.View.{numbers, followed_in, kept_of, book_of, held_in, Held, Taken, CashTerms, CalledOn, Discharging, Discharged}
use Rattle.machine.proofs.Returns.{refused_on, taken_on}
use Rattle.machine.proofs.Walking.{row_is, discharging, filled_read}

-- a discharge leaves members and references as they are
module _ (xs : List Piece) where
  kept : {A : Type 0} (f : Position → A) → ((k : ℕ) (p : Position) → f (lowered xs k p) ≡ f p) → (n : ℕ) (ps : List Position) (i : ℕ) → f (get_or (number (lowered xs) n ps) i no_position) ≡ f (get_or ps i no_position)
  kept f same n [] i = refl
  kept f same n (p ∷ ps) zero = same n p
  kept f same n (p ∷ ps) (suc i) = kept f same (suc n) ps i

  accounted_kept : (ps : List Position) → All Accounted ps → All Accounted (lowering xs ps)
  unfolding lowering lowered
  accounted_kept ps = all_number Accounted (lowered xs) Accounted 1 ps (λ k p s. record { member = s.member; security = s.security })

take_mapped : {A B : Type 0} (f : A → B) (n : ℕ) (xs : List A) → take n (map f xs) ≡ map f (take n xs)
take_mapped f zero xs = refl
take_mapped f (suc n) [] = refl
take_mapped f (suc n) (x ∷ xs) = ap (λ ys. f x ∷ ys) (take_mapped f n xs)

each_mapped : {A B C : Type 0} (g : B → C) (f : A → B) (xs : List A) → each (λ x. g (f x) ∷ []) xs ≡ map g (map f xs)
each_mapped g f [] = refl
each_mapped g f (x ∷ xs) = ap (λ ys. g (f x) ∷ ys) (each_mapped g f xs)

-- paying by positions that have the same members
module _ (price : ℕ) (p q : Positions) (members : (k : ℕ) → (nth no_position (table.positions q) k).member ≡ (nth no_position (table.positions p) k).member) where
  payment_one : (x : Piece) → payment_at price q x ≡ payment_at price p x
  unfolding payment priced_at
  payment_one x = rw (members x.short, members x.long)

  payments_same : (xs x : Pieces) → Priced xs price x → payments_at price q xs ≡ map (payment (table.positions p)) (table.pieces x)
  unfolding payments_at
  payments_same xs x g =
      (λ i. each (λ y. payment_one y i) (table.pieces xs))
      ∙ each_mapped (payment (table.positions p)) (priced_at price) (table.pieces xs)
      ∙ ap (map (payment (table.positions p))) (sym g.priced)

-- the refusals
module _ (b : Core) (a : Numbers) (h : Held b a) (c : Cash) where
  pub cash_missing : (r : Refusal) (sheet : List ℕ) → answers.number r ≡ first (lookup_reasons 1024 b.positions c.position) → length sheet ≡ SHEET_CELLS
      → CalledOn b a (call (event.Cash c) 1024) sheet b a sheet (Err r) 0
  cash_missing r sheet e long =
      refused_on b a (call (event.Cash c) 1024) sheet r h (missing_number (lookup_reasons 1024 _ _) _ _ (cash_split (kept_of b a) h.valid c 1024) (answers.number r) e (answers.number_some r)) long

  module _ (p : Position) (class : ℕ) (latest : Option Latest) (today : Step) (there : 0 ≡ first (lookup_reasons 1024 b.positions c.position)) (own : p ≡ row_of a.rows c.position)
      (classed : class ≡ nth 0 b.opening.register.classes p.security) (looked : latest ≡ looked_up (nth no_price (table.prices b.prices) p.security))
      (step : today ≡ step_on class (b.day.0 - p.settlement.0)) where
    number_is : (n : ℕ) → n ≡ first (cash_reasons p b.day.0 today latest) → refusal (book_of b a) (call (event.Cash c) 1024) ≡ n
    number_is n is =
        cash_number (kept_of b a) h.valid c 1024 p class latest today n (sym there) (own ∙ row_is b a h c.position (lookup_there 1024 b.positions c.position (sym there))) classed looked step is

    pub cash_refused : (r : Refusal) (sheet : List ℕ) → answers.number r ≡ first (cash_reasons p b.day.0 today latest) → length sheet ≡ SHEET_CELLS → CalledOn b a (call (event.Cash c) 1024) sheet b a sheet (Err r) 0
    cash_refused r sheet is long = refused_on b a (call (event.Cash c) 1024) sheet r h (number_is (answers.number r) is) long

    pub cash_accepted : 0 ≡ first (cash_reasons p b.day.0 today latest) → Taken b a (call (event.Cash c) 1024)
    cash_accepted none = record { held = h; accepted = number_is 0 none }

-- the settlement
module _ (b : Core) (a : Numbers) (c : Cash) (t : Taken b a (call (event.Cash c) 1024)) (p : Position) (class latest : ℕ) (terms : CashTerms b a.rows c.position p class latest) where
  abbrev v : Valid (kept_of b a)
  v = t.held.valid

  abbrev old : Positions
  old = position_table a.rows b.positions

  able : Dischargeable (kept_of b a) (event.Cash c)
  able = record { valid = v; taken = t.accepted }

  inside : Within 1 b.positions c.position
  unfolding view
  inside =
      let w = (cash_taken (book_of b a) c 1024 t.accepted).held in
      record { above = w.above; below = omega (arith, w.below, positions_many old v.fits.positions) }

  own : p ≡ nth no_position (held_in a.rows b.positions) c.position
  own = terms.own ∙ row_is b a t.held c.position inside

  by : Terms (book_of b a) c.position p.unsettled class latest
  by = cash_terms_lem (kept_of b a) v c p class latest own terms.classed terms.priced

  pub settling : (sheet : List ℕ) → length sheet ≡ SHEET_CELLS → Discharging b.day.0 a.rows b.positions a.counts sheet (followed_in b a) c.position p p.unsettled manner.Cash
  settling sheet long =
      discharging b a t.held c.position p.unsettled manner.Cash (cash_dealing (kept_of b a) v c able p.unsettled class latest by) p sheet
      (λ e. (cash_taken (book_of b a) c 1024 t.accepted).unsettled (sym by.unsettled ∙ e)) terms.own long

  module _ (y : Numbers) (sheet mid : List ℕ) (made : ℕ) (same : y ≡ record a { rows = y.rows; counts = y.counts; starts = y.starts; words = y.words })
      (w : Discharged b.day.0 a.rows sheet b.positions c.position p.unsettled manner.Cash y.rows y.counts mid (followed_in b y) made) where
    ledger_same : y.ledger ≡ a.ledger
    ledger_same = ap (λ (n : Numbers). n.ledger) same

    abbrev left_table : Positions
    left_table = position_table y.rows b.positions

    abbrev dealt_pieces : Pieces
    dealt_pieces = piece_table mid made

    -- a field that no discharge changes
    same_field : (f : Position → ℕ) → ((xs : List Piece) (j : ℕ) (q : Position) → f (lowered xs j q) ≡ f q) → (k : ℕ) → f (nth no_position (table.positions left_table) k) ≡ f (nth no_position (table.positions old) k)
    unfolding lowering
    same_field f same k =
        let xs = dealt_out old b.day.0 c.position p.unsettled manner.Cash in
        rw w.dealt.positions (nth_alike no_position f (lowering xs (table.positions old)) (table.positions old) (kept xs f (same xs) 1 (table.positions old)) k)

    members : (k : ℕ) → (nth no_position (table.positions left_table) k).member ≡ (nth no_position (table.positions old) k).member
    unfolding lowered
    members = same_field (λ q. q.member) (λ xs j q. refl)

    references : (k : ℕ) → (nth no_position (table.positions left_table) k).reference ≡ (nth no_position (table.positions old) k).reference
    unfolding lowered
    references = same_field (λ q. q.reference) (λ xs j q. refl)

    -- the price by the positions as the dealing left them is the price by those before it
    abbrev price : ℕ
    price = price_of class latest p left_table dealt_pieces

    price_same : price ≡ settlement_price (book_of b a) c.position (table.pieces dealt_pieces)
    unfolding price_of view
    price_same =
        cash_price_lem (kept_of b a) v c able p.unsettled class latest by _ w.dealt _ _ (ap (λ (q : Position). q.reference) own) (λ i. map (λ x. references x.long i) (table.pieces dealt_pieces))

    charges_are : (x : Pieces) → Priced dealt_pieces price x → settlement_of class latest p left_table dealt_pieces ≡ cash_charges_by latest (table.positions old) c.position (table.pieces x)
    unfolding cash_charges_by
    charges_are x g =
        ap (λ (cs : List Charge). cs ++ fee_of p latest ∷ []) (payments_same price old left_table members dealt_pieces x g)
        ∙ ap (λ (q : Position). map (payment (table.positions old)) (table.pieces x) ++ fee_of q latest ∷ []) own

    -- the pieces as they will be, before they are priced
    ahead : Priced dealt_pieces price (record { items = map (priced_at price) (pieces_of mid); count = made })
    unfolding table.pieces
    ahead =
        let f = w.dealt.pieces_fit in
        record {
          many = refl;
          priced = take_mapped (priced_at price) made (pieces_of mid);
          fit = record { places = length-map (pieces_of mid) (priced_at price) ∙ f.places; held = f.held };
        }

    shorts : All (λ x. x.short ≡ c.position) (table.pieces dealt_pieces)
    unfolding view dealt
    shorts =
        rw (w.dealt.pieces, by.unsettled) (deals (book_of b a) manner.Cash c.position _ v.sound.settled.even (cash_dealable (book_of b a) c (cash_taken (book_of b a) c 1024 t.accepted))).shorts

    owed_of : (x : Piece) → x.short ≡ c.position → OwedBy p.member left_table x
    owed_of x e =
        ap (λ (k : ℕ). (nth no_position (table.positions left_table) k).member) e ∙ members c.position ∙ ap (λ (q : Position). q.member) (sym own)

    settleable_before : Settleable a.ledger (settlement_of class latest p left_table dealt_pieces) left_table dealt_pieces p.member
    settleable_before =
        let g = cash_priceable (kept_of b a) v c able p.unsettled class latest by _ w.dealt in
        let all = accounted (kept_of b a) v in
        record {
          room = rw (charges_are _ ahead) (cash_room (kept_of b a) v c able p.unsettled class latest by _ w.dealt price price_same _ ahead);
          priceable = record { positions_fit = w.dealt.positions_fit; pieces_fit = g.pieces_fit; paired = g.paired };
          accounted = rw w.dealt.positions (accounted_kept _ (table.positions old) all);
          owed = all_of (λ x. x.short ≡ c.position) (OwedBy p.member left_table) (table.pieces dealt_pieces) owed_of shorts;
          account = rw terms.own (position_numbered old g.positions_fit Accounted c.position inside all).member;
        }

    pub settleable : Settleable y.ledger (settlement_of class latest p left_table dealt_pieces) left_table dealt_pieces p.member
    settleable =
        subst (λ (l : Ledger). Settleable l (settlement_of class latest p left_table dealt_pieces) left_table dealt_pieces p.member) (sym ledger_same) settleable_before

    pub cash_done : (left : List ℕ) (l : Ledger) → PricedOn mid made price left
        → l ≡ posted y.ledger (settlement_of class latest p left_table dealt_pieces)
        → CalledOn b a (call (event.Cash c) 1024) sheet b (record y { ledger = l }) left (Ok p.unsettled) made
    unfolding table.pieces
    cash_done left l on posts =
        let g = on.priced in
        let charged : l ≡ posted a.ledger (cash_charges_by latest (table.positions old) c.position (table.pieces (piece_table left made))) =
        posts ∙ ap (λ (m : Ledger). posted m (settlement_of class latest p left_table dealt_pieces)) ledger_same ∙ ap (posted a.ledger) (charges_are (piece_table left made) g) in
        let r = settled (kept_of b a) v c able p.unsettled class latest by _ w.dealt price price_same (piece_table left made) g l charged in
        subst (λ (n : Numbers). CalledOn b a (call (event.Cash c) 1024) sheet b (record n { ledger = l }) left (Ok p.unsettled) made) (sym same)
        (taken_on b a (call (event.Cash c) 1024) sheet b (numbers y.rows a.trades a.awards y.counts y.starts y.words l) left p.unsettled made t.held t.accepted r.quantity r.pieces r.book r.fits
        (record { rows = w.rows_length; trades = t.held.lent.trades; awards = t.held.lent.awards; follows = w.follows })
        (on.filled sheet (filled_read w) ∙ ap (λ (xs : List Piece). sheet_with xs sheet) (sym g.priced)) on.sheet_length w.dealt.pieces_fit.held)
