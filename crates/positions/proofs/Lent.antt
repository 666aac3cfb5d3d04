-- The walk on lent numbers: how it begins and what it ends in, as the walk on a table does.
use Prim.Native.Nat.{ℕ, zero, suc, ◌+◌, ◌-◌, ◌≤◌, ◌<◌, min}
use native.Mathlib.Nat.{zero-min}
use native.Mathlib.Numerals.{add-one}
use native.Mathlib.Omega.{arith}
use mathlib.Core.Path.{◌≡◌, refl, ap, sym, ◌∙◌}
use mathlib.Core.Bool.{Bool, true, false, true≢false}
use lib.Dec.{eqb}
use lib.Seq.{get_or-set_same, get_or-set_other}
use borrow.Author.Tests.{eqb-true, eqb-false}
use Rattle.laws.specs.Asked.{Said, passed, failed, ask}
use Rattle.laws.specs.Lists.{only}
use Rattle.laws.specs.Sums.{only_zero}
use Rattle.plain.specs.Dealing.{due, long_of}
use Rattle.plain.specs.Invariants.{due_long}
use mathlib.Core.List.{List}
use lib.ListN.{length, get_or, set}
use Rattle.plain.specs.declared.Position.{Position}
use Rattle.plain.specs.declared.Piece.{Piece}
use Rattle.plain.specs.declared.Manner.{Manner}
use Rattle.plain.specs.Book.{no_position}
use Rattle.rows.specs.Rows.{rows_of}
use Rattle.pieces.specs.Sheet.{sheet_with}
use Rattle.pieces.proofs.Filled.{Filled}
use Rattle.tables.specs.Tables as tables
use Rattle.tables.specs.Tables.{Positions}
use Rattle.tables.specs.Lent.{position_table, piece_table}
use Rattle.rows.specs.Lowering.{lowered_by}
use Rattle.positions.specs.Dealing.{share_of, Dealing, HandedOut, DealtOut, ClosedBefore}
use Rattle.positions.proofs.Shares.{due_share}
use Rattle.positions.proofs.Walk.{State, Stands, Walk, Walked, walk_begin, walk_next, stepped_none}
use Rattle.positions.proofs.Table.{own_is, start_stands, walked_deals}

-- a position that is no open long of the security takes nothing
closed_share : (day security left : ℕ) (p : Position) → (long_of security p ≡ true → p.unsettled ≡ 0) → Said (long_of security p) → due_share day security left p ≡ 0
unfolding due_share long_of due
closed_share day security left p h (passed e) = rw (h e, zero-min left) (only_zero (due_long day security p))
closed_share day security left p h (failed e) = rw e

-- places that take nothing are passed over
module _ (manner : Manner) (short day security count : ℕ) (items : List Position) (shares : List Piece) (dealt left : ℕ) where
  abbrev pub standing : ℕ → State
  standing n = record { items = items; shares = shares; dealt = dealt; left = left; place = n }

  pub skip : (n : ℕ) → n ≤ count → Stands count (standing 0) → ((j : ℕ) → j < n → due_share day security left (get_or items j no_position) ≡ 0) → Walk manner short day security count (standing 0) (standing n)
  skip zero l s h = walk_begin manner short day security count (standing 0) s
  skip (suc n) l s h =
      walk_next manner short day security count (standing 0) (standing n) (standing (suc n)) (skip n (omega (arith, l)) s (λ j k. h j (omega (arith, k)))) (omega (arith, l))
      (stepped_none manner short day security (standing n) (standing (suc n)) (h n (omega arith)) refl (sym (add-one n)) refl refl refl)

module _ (cells : List ℕ) (count day short quantity : ℕ) (h : Dealing (position_table cells count) day short quantity) (manner : Manner)
    (own : Position) (r : own ≡ get_or (rows_of cells) (short - 1) no_position) (first : List ℕ) (put : rows_of first ≡ set (rows_of cells) (short - 1) (lowered_by manner quantity (get_or (rows_of cells) (short - 1) no_position)))
    (none : List Piece) (e : length none ≡ 1024) where
  -- the short, once it has fallen
  abbrev x : Position
  x = lowered_by manner quantity (get_or (rows_of cells) (short - 1) no_position)

  abbrev begun : State
  begun = record { items = rows_of first; shares = none; dealt = 0; left = quantity; place = 0 }

  pub begins : Stands count begun
  begins = rw put (start_stands (position_table cells count) day short quantity h manner x refl none e)

  pub ends : (last : List ℕ) (shares : List Piece) (dealt left place : ℕ)
      → Stands count (record { items = rows_of last; shares = shares; dealt = dealt; left = left; place = place })
      → Walked manner short day own.security count begun (record { items = rows_of last; shares = shares; dealt = dealt; left = left; place = place })
      → DealtOut (position_table cells count) day short quantity manner (record { positions = position_table last count; pieces = record { items = shares; count = dealt } })
  ends last shares dealt left place s w =
      walked_deals (position_table cells count) day short quantity h manner x refl none e
      (record { items = rows_of last; shares = shares; dealt = dealt; left = left; place = place }) s (rw (put, r) at w)

  -- the walk may as well begin at a place before which no long of the security is open
  module _ (start : ℕ) (few : start ≤ count) (closed : ClosedBefore (get_or (rows_of cells) (short - 1) no_position).security (rows_of cells) start) where
    at_short : get_or (rows_of first) (short - 1) no_position ≡ x
    at_short = rw put (get_or-set_same (rows_of cells) (short - 1) x no_position (omega (arith, h.fits.places, h.fits.held, h.held.above, h.held.below)))

    own_short : (get_or (rows_of cells) (short - 1) no_position).short ≡ true
    own_short = ap (λ (p : Position). p.short) (sym (own_is (position_table cells count) day short quantity h)) ∙ h.is_short

    no_long : long_of own.security x ≡ false
    unfolding long_of lowered_by
    no_long = rw own_short

    idle : (j : ℕ) → j < start → Said (eqb j (short - 1)) → due_share day own.security quantity (get_or (rows_of first) j no_position) ≡ 0
    unfolding ClosedBefore
    idle j l (passed e) =
        rw (eqb-true j (short - 1) e, at_short)
        (closed_share day own.security quantity x (λ t. absurd (true≢false (sym t ∙ no_long))) (ask (long_of own.security x)))
    idle j l (failed e) =
        let same : get_or (rows_of first) j no_position ≡ get_or (rows_of cells) j no_position = rw put (get_or-set_other (rows_of cells) (short - 1) j x no_position (eqb-false j (short - 1) e)) in
        rw same (closed_share day own.security quantity (get_or (rows_of cells) j no_position) (rw r (closed j l)) (ask (long_of own.security (get_or (rows_of cells) j no_position))))

    pub skipped : Walk manner short day own.security count begun (standing manner short day own.security count (rows_of first) none 0 quantity start)
    skipped = skip manner short day own.security count (rows_of first) none 0 quantity start few begins (λ j l. idle j l (ask (eqb j (short - 1))))

    kept : (j : ℕ) → j < start → Said (eqb j (short - 1)) → long_of own.security (get_or (rows_of first) j no_position) ≡ true → (get_or (rows_of first) j no_position).unsettled ≡ 0
    unfolding ClosedBefore
    kept j l (passed e) = rw (eqb-true j (short - 1) e, at_short) (λ t. absurd (true≢false (sym t ∙ no_long)))
    kept j l (failed e) =
        let same : get_or (rows_of first) j no_position ≡ get_or (rows_of cells) j no_position = rw put (get_or-set_other (rows_of cells) (short - 1) j x no_position (eqb-false j (short - 1) e)) in
        rw (same, r) (closed j l)

    pub closed_first : ClosedBefore own.security (rows_of first) start
    unfolding ClosedBefore
    closed_first = λ j l. kept j l (ask (eqb j (short - 1)))

-- what a step makes of the places that are closed
module _ (security left : ℕ) (items : List Position) (i : ℕ) where
  abbrev here : Position
  here = get_or items i no_position

  -- a long that takes less than what is left takes all that is open
  taken_all : (b : Bool) (unsettled units : ℕ) → b ≡ true → units ≡ only b (min unsettled left) → units < left → units ≡ unsettled
  taken_all true unsettled units e u l = omega (arith, u, l)
  taken_all false unsettled units e u l = absurd (true≢false (sym e))

  pub closed_none : 0 < left → share_of security left here ≡ 0 → ClosedBefore security items i → ClosedBefore security items (i + 1)
  unfolding ClosedBefore share_of
  closed_none l z c = λ j k t. at j k t (ask (eqb j i))
    where
      at : (j : ℕ) → j < i + 1 → long_of security (get_or items j no_position) ≡ true → Said (eqb j i) → (get_or items j no_position).unsettled ≡ 0
      at j k t (passed e) =
          let same : j ≡ i = eqb-true j i e in
          rw same (sym (taken_all (long_of security here) here.unsettled 0 (rw same at t) (sym z) l))
      at j k t (failed e) = c j (omega (arith, k, eqb-false j i e)) t

  -- a place that is changed is not among those before it
  pub closed_set : (x : Position) → ClosedBefore security items i → ClosedBefore security (set items i x) i
  unfolding ClosedBefore
  closed_set x c = λ j k. rw (get_or-set_other items i j x no_position (λ e. omega (arith, k, e))) (c j k)

  long_low : (manner : Manner) (units : ℕ) → long_of security (lowered_by manner units here) ≡ long_of security here
  unfolding lowered_by long_of
  long_low manner units = refl

  open_low : (manner : Manner) (units : ℕ) → (lowered_by manner units here).unsettled ≡ here.unsettled - units
  unfolding lowered_by
  open_low manner units = refl

  pub closed_some : (manner : Manner) (units : ℕ) → units ≡ share_of security left here → units < left → i < length items → ClosedBefore security items i → ClosedBefore security (set items i (lowered_by manner units here)) (i + 1)
  unfolding ClosedBefore share_of
  closed_some manner units u l inside c = λ j k t. at j k t (ask (eqb j i))
    where
      at : (j : ℕ) → j < i + 1 → long_of security (get_or (set items i (lowered_by manner units here)) j no_position) ≡ true → Said (eqb j i) → (get_or (set items i (lowered_by manner units here)) j no_position).unsettled ≡ 0
      at j k t (passed e) =
          let same : j ≡ i = eqb-true j i e in
          let found : get_or (set items i (lowered_by manner units here)) j no_position ≡ lowered_by manner units here = rw same (get_or-set_same items i (lowered_by manner units here) no_position inside) in
          let all : units ≡ here.unsettled = taken_all (long_of security here) here.unsettled units (sym (long_low manner units) ∙ (rw found at t)) u l in
          rw found (open_low manner units ∙ omega (arith, all))
      at j k t (failed e) =
          let other : get_or (set items i (lowered_by manner units here)) j no_position ≡ get_or items j no_position = get_or-set_other items i j (lowered_by manner units here) no_position (eqb-false j i e) in
          rw other (c j (omega (arith, k, eqb-false j i e)) (rw other at t))

  -- the same of a list that is known to be the one that the step makes
  pub closed_taken : (manner : Manner) (units : ℕ) (next : List Position)
      → next ≡ set items i (lowered_by manner units here) → units ≡ share_of security left here → units < left → i < length items
      → ClosedBefore security items i → ClosedBefore security next (i + 1)
  closed_taken manner units next e u l inside c = rw e (closed_some manner units u l inside c)

  pub closed_passed : (units : ℕ) (next : List Position) → next ≡ items → units ≡ share_of security left here → units ≡ 0 → 0 < left → ClosedBefore security items i → ClosedBefore security next (i + 1)
  closed_passed units next e u z l c = rw e (closed_none l (sym u ∙ z) c)

  pub closed_changed : (own mine : Position) (x : Position) (next : List Position) → own ≡ mine → next ≡ set items i x → own.security ≡ security → ClosedBefore security items i → ClosedBefore mine.security next i
  closed_changed own mine x next o e s c = rw (e, sym o, s) (closed_set x c)

-- pieces that are handed out in a sheet's first places, whose numbers these are, fill it
pub handed_fill : (table after : Positions) (xs : List Piece) (left s : List ℕ) (n : ℕ) → HandedOut table xs (record { positions = after; pieces = piece_table left n }) → Filled n left s → left ≡ sheet_with xs s
unfolding tables.pieces
handed_fill table after xs left s n h f = f ∙ ap (λ (ys : List Piece). sheet_with ys s) h.pieces
