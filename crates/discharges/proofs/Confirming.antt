-- A confirmation in place: its refusals are the plain book's, and what it changes stands for what the plain book changes.
use Rattle.std.proofs.Common.{Err, Ok}
use Prim.Native.Nat.{ℕ, ◌-◌}
use native.Mathlib.Omega.{arith}
use mathlib.Core.Path.{◌≡◌, ap, sym, ◌∙◌, subst}
use mathlib.Core.Logic.{◌≢◌}
use mathlib.Core.List.{List, [], ◌∷◌}
use lib.ListN.{length, get_or}
use Rattle.laws.specs.Limits.{AWARD_CELLS, SHEET_CELLS}
use Rattle.rules.specs.Charges.{buy_in_charge}
use Rattle.events.specs.declared.Confirm.{Confirm}
use Rattle.events.specs.declared.Event.TheVariants as event
use Rattle.plain.specs.declared.Award.{Award}
use Rattle.plain.specs.declared.Position.{Position}
use Rattle.plain.specs.declared.Ledger.{Ledger}
use Rattle.plain.specs.declared.Manner.TheVariants as manner
use Rattle.plain.specs.Book.{no_award, award_of}
use Rattle.plain.specs.Charging.{charge, posted}
use Rattle.plain.specs.Calls.{call}
use Rattle.plain.specs.Refusals.{refusal, lookup_reasons, confirm_reasons}
use Rattle.laws.specs.Asked.{Within}
use Rattle.plain.specs.Invariants.{AwardFits}
use Rattle.tables.specs.Tables as table
use Rattle.tables.specs.Lent.{award_table, row_of}
use Rattle.rows.specs.Rows.{awards_of}
use Rattle.laws.specs.Answers.{number, number_some}
use Rattle.laws.specs.Refusals.{first}
use Rattle.laws.specs.declared.Refusal.{Refusal}
use Rattle.auction.specs.Awards.{Confirmable, Confirmed}
use Rattle.ledger.specs.Tabled.{Chargeable}
use Rattle.kept.specs.View.{view}
use Rattle.kept.specs.Discharging.{Dischargeable}
use Rattle.kept.proofs.Discharging.{awards_many, lookup_there, missing_number, confirm_split, confirm_number, buy_in_there, buy_in_dealing, buy_in_charge_lem, buy_in_confirmable, bought_in_lem}
use Rattle.machine.specs.declared.Core.{Core}
use Rattle.machine.specs.declared.Numbers.{Numbers}
use Rattle.machine.specs.View.{numbers, followed_in, kept_of, book_of, Held, Taken, CalledOn, Discharging, Discharged}
use Rattle.machine.proofs.Returns.{refused_on, taken_on}
use Rattle.machine.proofs.Walking.{row_is, discharging, filled_read}
use Rattle.plain.proofs.Numbered.{nth_take, nth_all}

-- the award of a number that is in use, as its row has it
award_read : (b : Core) (a : Numbers) (n : ℕ) (award : Award) → Within 1 b.awards n → award ≡ get_or (awards_of a.awards) (n - 1) no_award → award ≡ award_of (book_of b a) n
unfolding view table.awards
award_read b a n award in_use row = row ∙ sym (nth_take no_award (awards_of a.awards) b.awards n in_use)

module _ (b : Core) (a : Numbers) (h : Held b a) (c : Confirm) where
  pub confirm_missing : (r : Refusal) (sheet : List ℕ) → number r ≡ first (lookup_reasons 1024 b.awards c.award) → length sheet ≡ SHEET_CELLS
      → CalledOn b a (call (event.Confirm c) 1024) sheet b a sheet (Err r) 0
  confirm_missing r sheet e long =
      refused_on b a (call (event.Confirm c) 1024) sheet r h (missing_number (lookup_reasons 1024 _ _) _ _ (confirm_split (kept_of b a) h.valid c 1024) (number r) e (number_some r)) long

  module _ (award : Award) (there : 0 ≡ first (lookup_reasons 1024 b.awards c.award)) (row : award ≡ get_or (awards_of a.awards) (c.award - 1) no_award) where
    number_is : (n : ℕ) → n ≡ first (confirm_reasons award) → refusal (book_of b a) (call (event.Confirm c) 1024) ≡ n
    unfolding view
    number_is n is =
        let w = lookup_there 1024 b.awards c.award (sym there) in
        confirm_number (kept_of b a) h.valid c 1024 award n (sym there) (award_read b a c.award award w row) is

    pub confirm_refused : (r : Refusal) (sheet : List ℕ) → number r ≡ first (confirm_reasons award) → length sheet ≡ SHEET_CELLS → CalledOn b a (call (event.Confirm c) 1024) sheet b a sheet (Err r) 0
    confirm_refused r sheet is long = refused_on b a (call (event.Confirm c) 1024) sheet r h (number_is (number r) is) long

    pub confirm_accepted : 0 ≡ first (confirm_reasons award) → Taken b a (call (event.Confirm c) 1024)
    confirm_accepted none = record { held = h; accepted = number_is 0 none }

module _ (b : Core) (a : Numbers) (c : Confirm) (t : Taken b a (call (event.Confirm c) 1024)) (award : Award) (row : award ≡ get_or (awards_of a.awards) (c.award - 1) no_award) where
  able : Dischargeable (kept_of b a) (event.Confirm c)
  able = record { valid = t.held.valid; taken = t.accepted }

  confirmable : Confirmable (award_table a.awards b.awards) c.award
  confirmable = buy_in_confirmable (kept_of b a) t.held.valid c able

  in_use : Within 1 b.awards c.award
  in_use = record { above = confirmable.low; below = confirmable.high }

  award_is : award ≡ award_of (book_of b a) c.award
  award_is = award_read b a c.award award in_use row

  pub short_there : Within 1 b.positions award.position
  short_there = buy_in_there (kept_of b a) t.held.valid c able award award_is

  some_units : award.quantity ≢ 0
  unfolding view
  some_units =
      rw award_is
      (λ e. omega (arith, e, (nth_all no_award AwardFits (table.awards (kept_of b a).awards) c.award (rw (awards_many (kept_of b a).awards t.held.valid.fits.awards) in_use) t.held.valid.sound.auctioned.awards_fit_lem).quantity.above))

  module _ (p : Position) (own : p ≡ row_of a.rows award.position) where
    pub buying_in : (sheet : List ℕ) → length sheet ≡ SHEET_CELLS → Discharging b.day.0 a.rows b.positions a.counts sheet (followed_in b a) award.position p award.quantity manner.BoughtIn
    buying_in sheet long =
        discharging b a t.held award.position award.quantity manner.BoughtIn (buy_in_dealing (kept_of b a) t.held.valid c able award award_is) p sheet some_units own long

    -- what a discharge leaves
    module _ (y : Numbers) (same : y ≡ record a { rows = y.rows; counts = y.counts; starts = y.starts; words = y.words }) where
      pub markable : (Confirmable (award_table y.awards b.awards) c.award) × (length y.awards ≡ AWARD_CELLS)
      markable = rw (ap (λ (n : Numbers). n.awards) same) (confirmable, t.held.lent.awards)

      pub chargeable : Chargeable y.ledger (charge p.member (buy_in_charge award.quantity award.price p.reference))
      chargeable =
          rw (ap (λ (n : Numbers). n.ledger) same)
          (buy_in_charge_lem (kept_of b a) t.held.valid c able award p award_is (own ∙ row_is b a t.held award.position short_there))

      pub confirm_done : (sheet left ws : List ℕ) (made : ℕ) (l : Ledger) → Discharged b.day.0 a.rows sheet b.positions award.position award.quantity manner.BoughtIn y.rows y.counts left (followed_in b y) made
          → l ≡ posted y.ledger (charge p.member (buy_in_charge award.quantity award.price p.reference) ∷ [])
          → Confirmed (award_table y.awards b.awards) c.award (award_table ws b.awards) → length ws ≡ AWARD_CELLS
          → CalledOn b a (call (event.Confirm c) 1024) sheet b (record y { awards = ws; ledger = l }) left (Ok award.quantity) made
      unfolding table.pieces
      confirm_done sheet left ws made l w posts marked long =
          let posts_old : l ≡ posted a.ledger (charge p.member (buy_in_charge award.quantity award.price p.reference) ∷ []) = rw (sym (ap (λ (n : Numbers). n.ledger) same)) posts in
          let marked_old : Confirmed (award_table a.awards b.awards) c.award (award_table ws b.awards) = rw (sym (ap (λ (n : Numbers). n.awards) same)) marked in
          let r = bought_in_lem (kept_of b a) t.held.valid c award p _ l (award_table ws b.awards) award_is (own ∙ row_is b a t.held award.position short_there) w.dealt posts_old marked_old in
          subst (λ (n : Numbers). CalledOn b a (call (event.Confirm c) 1024) sheet b (record n { awards = ws; ledger = l }) left (Ok award.quantity) made) (sym same)
          (taken_on b a (call (event.Confirm c) 1024) sheet b (numbers y.rows a.trades ws y.counts y.starts y.words l) left award.quantity made t.held t.accepted r.quantity r.pieces r.book r.fits
          (record { rows = w.rows_length; trades = t.held.lent.trades; awards = long; follows = w.follows }) (filled_read w) w.sheet_length w.dealt.pieces_fit.held)
