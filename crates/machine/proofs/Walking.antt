-- A discharge on the lent tables: what dealing it out asks of what is held, and what is followed of the positions after it.
use Prim.Native.Nat.{ℕ, ◌-◌, ◌≤◌}
use native.Mathlib.Omega.{arith}
use mathlib.Core.Path.{◌≡◌, refl, ap, sym, ◌∙◌, subst}
use mathlib.Core.Bool.{true}
use mathlib.Core.Logic.{◌≢◌}
use mathlib.Core.List.{List}
use lib.ListN.{length, set}
use Rattle.laws.specs.Limits.{SHEET_CELLS}
use Rattle.plain.specs.declared.Position.{Position}
use Rattle.plain.specs.declared.Piece.{Piece}
use Rattle.plain.specs.declared.Manner.{Manner}
use Rattle.plain.specs.Book.{no_position, nth}
use Rattle.plain.specs.Calls.{dealt}
use Rattle.plain.specs.Dealing.{lowering}
use Rattle.laws.specs.Asked.{Within}
use Rattle.plain.proofs.Dealt.{deals}
use Rattle.plain.specs.Invariants.{Dealable, Deals}
use Rattle.rows.specs.Rows.{rows_of}
use Rattle.tables.specs.Tables as table
use Rattle.pieces.specs.Sheet.{sheet_with}
use Rattle.tables.specs.Lent.{position_table, piece_table, row_of}
use Rattle.failing.specs.Counts.{Counted, UnitsOf, Lowered}
use Rattle.failing.proofs.Discharging.{lowering_lowered, late_before_lowered}
use Rattle.positions.specs.Dealing.{Dealing, dealt_out, ClosedBefore}
use Rattle.kept.specs.View.{view}
use Rattle.kept.proofs.Discharging.{positions_many, cash_security}
use Rattle.kept.proofs.Auctions.{position_is, members_fit}
use Rattle.machine.specs.declared.Core.{Core}
use Rattle.machine.specs.declared.Numbers.{Numbers}
use Rattle.machine.specs.View.{Followed, followed_in, kept_of, book_of, held_in, Started, Follows, Held, Falling, Discharging, DischargedBy}
use Rattle.machine.proofs.Started.{started_kept, started_after}
use Rattle.plain.proofs.Numbered.{nth_all}

-- What is held, of a position by its number

module _ (b : Core) (a : Numbers) (h : Held b a) where
  pub row_is : (n : ℕ) → Within 1 b.positions n → row_of a.rows n ≡ nth no_position (held_in a.rows b.positions) n
  row_is n w = position_is (position_table a.rows b.positions) n w.above w.below

  module _ (n : ℕ) (p : Position) (w : Within 1 b.positions n) (e : p ≡ row_of a.rows n) where
    pub registered : Within 1 32 p.security
    registered = cash_security (kept_of b a) h.valid (record { position = n }) p w (e ∙ row_is n w)

    member_fits : p.member ≤ 63
    member_fits =
        rw (e ∙ row_is n w)
        (nth_all no_position (λ q. q.member ≤ 63) (held_in a.rows b.positions) n
        (rw (positions_many (position_table a.rows b.positions) h.valid.fits.positions) w)
        (members_fit (kept_of b a) h.valid))

  -- what a discharge by these pieces asks
  pub falling : (n q : ℕ) (m : Manner) (xs : List Piece) → Deals (book_of b a) m n q xs → (p : Position) → q ≢ 0 → p ≡ row_of a.rows n
      → Falling b.day.0 a.rows b.positions a.counts (followed_in b a) n p q m xs
  unfolding view
  falling n q m xs f p some e =
      let held = f.dealable.held in
      let inside : Within 1 b.positions n =
      record { above = held.above; below = omega (arith, held.below, positions_many (position_table a.rows b.positions) h.valid.fits.positions) } in
      record {
        fits = h.valid.fits.positions;
        deals = (book_of b a, refl, f);
        own = e;
        security = registered n p inside e;
        member = member_fits n p inside e;
        some = omega (arith, some);
        follows = h.lent.follows;
      }

  -- what dealing out asks
  module _ (n q : ℕ) (m : Manner) (d : Dealing (position_table a.rows b.positions) b.day.0 n q) where
    dealable : Dealable (book_of b a) n q
    unfolding view
    dealable =
        record {
          held = record { above = d.held.above; below = omega (arith, d.held.below, positions_many (position_table a.rows b.positions) h.valid.fits.positions) };
          short = d.is_short;
          is_due = d.is_due;
          enough = d.enough;
        }

    dealt_of : Deals (book_of b a) m n q (dealt_out (position_table a.rows b.positions) b.day.0 n q m)
    unfolding view dealt
    dealt_of = deals (book_of b a) m n q h.valid.sound.settled.even dealable

    pub discharging : (p : Position) (sheet : List ℕ) → q ≢ 0 → p ≡ row_of a.rows n → length sheet ≡ SHEET_CELLS
        → Discharging b.day.0 a.rows b.positions a.counts sheet (followed_in b a) n p q m
    discharging p sheet some e long =
        record { dealing = d; falling = falling n q m _ dealt_of p some e; rows_length = h.lent.rows; sheet_length = long }

-- What is left

-- the pieces that fill the sheet are those that are read from it
pub filled_read : {day count made : ℕ} {rows sheet after counts left : List ℕ} {xs : List Piece} {f : Followed} → DischargedBy day rows sheet count xs after counts left f made
    → left ≡ sheet_with (table.pieces (piece_table left made)) sheet
filled_read {sheet = sheet} w = w.filled ∙ ap (λ (ys : List Piece). sheet_with ys sheet) (sym w.dealt.pieces)

module _ (day : ℕ) (rows : List ℕ) (count : ℕ) (counts : List ℕ) (f : Followed) (n : ℕ) (p : Position) (q : ℕ) (m : Manner) (xs : List Piece)
    (asks : Falling day rows count counts f n p q m xs) where
  abbrev held : List Position
  held = held_in rows count

  there : Within 1 (length held) n
  there = subst (λ (ps : List Position). Within 1 (length ps) n) asks.deals.1 asks.deals.2.dealable.held

  own_is : p ≡ nth no_position held n
  own_is =
      asks.own
      ∙ position_is (position_table rows count) n there.above (omega (arith, there.below, positions_many (position_table rows count) asks.fits))

  -- the units are those of the short
  pub units_of : UnitsOf held n p q
  units_of =
      let d = asks.deals.2.dealable in
      record {
        held = there;
        is = own_is;
        short = rw own_is (subst (λ (ps : List Position). (nth no_position ps n).short ≡ true) asks.deals.1 d.short);
        above = asks.some;
        enough = rw own_is (subst (λ (ps : List Position). q ≤ (nth no_position ps n).unsettled) asks.deals.1 d.enough);
      }

  module _ (zs : List ℕ) (low : held_in zs count ≡ lowering xs held) where
    pub lowered_late : Lowered day held (held_in zs count) n q
    lowered_late =
        rw low
        (subst (λ (ps : List Position). Lowered day ps (lowering xs ps) n q) asks.deals.1 (lowering_lowered asks.deals.2 day))

    pub follows_after : (cs : List ℕ) (g : Followed) → Started count g.starts (rows_of zs) → Counted day (held_in zs count) g.words cs → g.late ≡ f.late → Follows day zs count cs g
    follows_after cs g started counted late =
        record { started = started; failing = counted; late = rw (late, low) (late_before_lowered xs day held f.late asks.follows.late) }

    -- where no walk was made, walks start where they did
    pub starts_kept : Started count f.starts (rows_of zs)
    unfolding table.positions
    starts_kept =
        started_kept count (rows_of rows) (rows_of zs) xs (omega (arith, asks.fits.places, asks.fits.held)) low f.starts asks.follows.started

    -- and the next one of the security starts where one was left
    pub starts_moved : (end : ℕ) → end ≤ count → ClosedBefore (row_of rows n).security (rows_of zs) end → Started count (set f.starts (p.security - 1) end) (rows_of zs)
    unfolding table.positions
    starts_moved end within closed =
        started_after count (rows_of rows) (rows_of zs) xs (omega (arith, asks.fits.places, asks.fits.held)) low f.starts asks.follows.started p.security end asks.security.above asks.security.below within (rw asks.own closed)
