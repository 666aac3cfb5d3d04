-- A delivery in place: its refusals are the plain book's, and what it changes stands for what the plain book changes.
use Rattle.std.proofs.Common.{Err, Ok}
use Prim.Native.Nat.{ℕ, ◌-◌}
use mathlib.Core.Path.{◌≡◌, sym, ◌∙◌, subst}
use mathlib.Core.List.{List}
use lib.ListN.{length}
use Rattle.laws.specs.Limits.{SHEET_CELLS}
use Rattle.events.specs.declared.Delivery.{Delivery}
use Rattle.events.specs.declared.Event.TheVariants as event
use Rattle.plain.specs.declared.Position.{Position}
use Rattle.plain.specs.declared.Manner.TheVariants as manner
use Rattle.plain.specs.Auction.{unconfirmed}
use Rattle.plain.specs.Calls.{call}
use Rattle.plain.specs.Refusals.{lookup_reasons, delivery_reasons, refusal}
use Rattle.plain.proofs.Accepted.{delivery_taken}
use Rattle.tables.specs.Tables as table
use Rattle.tables.specs.Lent.{row_of}
use Rattle.laws.specs.Answers.{number, number_some}
use Rattle.laws.specs.Refusals.{first}
use Rattle.laws.specs.declared.Refusal.{Refusal}
use Rattle.kept.proofs.Discharging.{lookup_there, missing_number, delivery_split, delivery_number, delivery_dealing, delivered}
use Rattle.machine.specs.declared.Core.{Core}
use Rattle.machine.specs.declared.Numbers.{Numbers}
use Rattle.machine.specs.View.{followed_in, kept_of, book_of, Held, CalledOn, Discharging, Discharged}
use Rattle.machine.proofs.Returns.{refused_on, taken_on}
use Rattle.machine.proofs.Walking.{row_is, discharging, filled_read}

module _ (b : Core) (a : Numbers) (h : Held b a) (d : Delivery) where
  pub delivery_missing : (r : Refusal) (sheet : List ℕ) → number r ≡ first (lookup_reasons 1024 b.positions d.position) → length sheet ≡ SHEET_CELLS
      → CalledOn b a (call (event.Delivery d) 1024) sheet b a sheet (Err r) 0
  delivery_missing r sheet e long =
      refused_on b a (call (event.Delivery d) 1024) sheet r h (missing_number (lookup_reasons 1024 _ _) _ _ (delivery_split (kept_of b a) h.valid d 1024) (number r) e (number_some r)) long

  module _ (p : Position) (reserved : ℕ) (there : 0 ≡ first (lookup_reasons 1024 b.positions d.position)) (row : p ≡ row_of a.rows d.position)
      (units : reserved ≡ unconfirmed d.position (table.awards (kept_of b a).awards)) where
    number_is : (n : ℕ) → n ≡ first (delivery_reasons p b.day.0 b.auction.position (p.unsettled - reserved) d) → refusal (book_of b a) (call (event.Delivery d) 1024) ≡ n
    number_is n is =
        delivery_number (kept_of b a) h.valid d 1024 p reserved n (sym there) (row ∙ row_is b a h d.position (lookup_there 1024 b.positions d.position (sym there))) units is

    pub delivery_refused : (r : Refusal) (sheet : List ℕ) → number r ≡ first (delivery_reasons p b.day.0 b.auction.position (p.unsettled - reserved) d) → length sheet ≡ SHEET_CELLS
        → CalledOn b a (call (event.Delivery d) 1024) sheet b a sheet (Err r) 0
    delivery_refused r sheet is long = refused_on b a (call (event.Delivery d) 1024) sheet r h (number_is (number r) is) long

    module _ (none : 0 ≡ first (delivery_reasons p b.day.0 b.auction.position (p.unsettled - reserved) d)) where
      pub delivering : (sheet : List ℕ) → length sheet ≡ SHEET_CELLS → Discharging b.day.0 a.rows b.positions a.counts sheet (followed_in b a) d.position p d.quantity manner.Delivered
      delivering sheet long =
          discharging b a h d.position d.quantity manner.Delivered (delivery_dealing (kept_of b a) h.valid d (record { valid = h.valid; taken = number_is 0 none })) p sheet
          (delivery_taken (book_of b a) d 1024 (number_is 0 none)).some_units row long

      pub delivery_done : (z : Numbers) (sheet left : List ℕ) (made : ℕ) → z ≡ record a { rows = z.rows; counts = z.counts; starts = z.starts; words = z.words }
          → Discharged b.day.0 a.rows sheet b.positions d.position d.quantity manner.Delivered z.rows z.counts left (followed_in b z) made
          → CalledOn b a (call (event.Delivery d) 1024) sheet b z left (Ok d.quantity) made
      unfolding table.pieces
      delivery_done z sheet left made kept w =
          let r = delivered (kept_of b a) h.valid d _ w.dealt in
          subst (λ (n : Numbers). CalledOn b a (call (event.Delivery d) 1024) sheet b n left (Ok d.quantity) made) (sym kept)
          (taken_on b a (call (event.Delivery d) 1024) sheet b (record a { rows = z.rows; counts = z.counts; starts = z.starts; words = z.words }) left d.quantity made h (number_is 0 none) r.quantity r.pieces r.book r.fits
          (record { rows = w.rows_length; trades = h.lent.trades; awards = h.lent.awards; follows = w.follows }) (filled_read w) w.sheet_length w.dealt.pieces_fit.held)
