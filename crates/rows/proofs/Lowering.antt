-- A row lowered by the two of its numbers that change.
use Prim.Native.Nat.{ℕ, ◌+◌, ◌-◌, ◌*◌, ◌≤◌, ◌<◌}
use native.Mathlib.Nat.{add-zero}
use native.Mathlib.Omega.{arith}
use mathlib.Core.Path.{◌≡◌, refl, ap, sym, ◌∙◌}
use mathlib.Core.Logic.{◌≢◌}
use mathlib.Core.List.{List}
use lib.ListN.{length, get_or, set, length-set}
use lib.Seq.{get_or-set_same, get_or-set_other}
use lib.Dec.{eqb}
use borrow.Author.Tests.{eqb-true, eqb-false}
use Rattle.laws.specs.Limits.{MOST_NETTED, POSITION_CELLS}
use Rattle.laws.specs.Asked.{Said, passed, failed, ask}
use Rattle.cells.specs.Table.{SameCells}
use Rattle.cells.specs.Laws as law
use Rattle.plain.specs.declared.Position.{Position}
use Rattle.plain.specs.declared.Manner.{Manner}
use Rattle.plain.specs.declared.Manner.TheVariants.{Delivered, BoughtIn, Cash, Paired}
use Rattle.plain.specs.Book.{no_position}
use Rattle.plain.specs.Dealing.{manner_number, figure}
use Rattle.rows.specs.Rows.{row_from, rows_of}
use Rattle.rows.specs.Lowering.{in_manner, lowered_by, figure_column, Lowerable}
use Rattle.rows.proofs.Cells.{row_reads, row_is}

-- the four figures stand in the order of the manners' numbers
column_number : (manner : Manner) → figure_column manner ≡ manner_number manner + 5
column_number Delivered = refl
column_number BoughtIn = refl
column_number Cash = refl
column_number Paired = refl

column_low : (manner : Manner) → 6 ≤ figure_column manner
column_low Delivered = omega arith
column_low BoughtIn = omega arith
column_low Cash = omega arith
column_low Paired = omega arith

pub column_high : (manner : Manner) → figure_column manner ≤ 9
column_high Delivered = omega arith
column_high BoughtIn = omega arith
column_high Cash = omega arith
column_high Paired = omega arith

figure_is : (m : Manner) (xs : List ℕ) (at : ℕ) → figure m (row_from xs at) ≡ get_or xs (at + figure_column m) 0
figure_is Delivered xs at = refl
figure_is BoughtIn xs at = refl
figure_is Cash xs at = refl
figure_is Paired xs at = refl

-- a figure that rises by units that may be discharged stays below the most that a position can be
figure_fits : (m : Manner) (p : Position) (units : ℕ) → Lowerable p units → figure m p + units ≤ MOST_NETTED
figure_fits Delivered p units l = omega (arith, l.enough, l.sized.whole, l.sized.bounded)
figure_fits BoughtIn p units l = omega (arith, l.enough, l.sized.whole, l.sized.bounded)
figure_fits Cash p units l = omega (arith, l.enough, l.sized.whole, l.sized.bounded)
figure_fits Paired p units l = omega (arith, l.enough, l.sized.whole, l.sized.bounded)

module _ (xs : List ℕ) (k : ℕ) (manner : Manner) (units : ℕ) (long : length xs ≡ POSITION_CELLS) (inside : k < 1024) where
  abbrev at : ℕ
  at = 12 * k

  abbrev column : ℕ
  column = figure_column manner

  -- the figure is stored, then the open quantity
  abbrev first : List ℕ
  first = set xs (at + column) (get_or xs (at + column) 0 + units)

  abbrev after : List ℕ
  after = set first (at + 10) (get_or first (at + 10) 0 - units)

  open_kept : get_or first (at + 10) 0 ≡ get_or xs (at + 10) 0
  open_kept = get_or-set_other xs (at + column) (at + 10) _ 0 (λ e. omega (arith, e, column_high manner))

  -- there is room for the units in the figure, and so many are open
  module _ (l : Lowerable (get_or (rows_of xs) k no_position) units) where
    pub figure_room : get_or xs (at + column) 0 + units ≤ MOST_NETTED
    figure_room =
        let p : Position = get_or (rows_of xs) k no_position in
        omega (arith, figure_fits manner p units l, ap (figure manner) (row_is xs k inside) ∙ figure_is manner xs at)

    pub open_enough : units ≤ get_or first (at + 10) 0
    open_enough = omega (arith, l.enough, ap (λ (p : Position). p.unsettled) (row_is xs k inside), open_kept)

  -- every other number stays
  kept : (j : ℕ) → j ≢ at + column → j ≢ at + 10 → get_or after j 0 ≡ get_or xs j 0
  kept j c o = get_or-set_other first (at + 10) j _ 0 o ∙ get_or-set_other xs (at + column) j _ 0 c

  in_row : (d : ℕ) → d < 6 → get_or after (at + d) 0 ≡ get_or xs (at + d) 0
  in_row d h = kept (at + d) (λ e. omega (arith, e, column_low manner)) (λ e. omega (arith, e))

  open_falls : get_or after (at + 10) 0 ≡ get_or xs (at + 10) 0 - units
  open_falls =
      get_or-set_same first (at + 10) _ 0 (omega (arith, length-set xs (at + column) (get_or xs (at + column) 0 + units), long, inside))
      ∙ ap (λ (n : ℕ). n - units) open_kept

  figure_rises : get_or after (at + column) 0 ≡ get_or xs (at + column) 0 + units
  figure_rises =
      get_or-set_other first (at + 10) (at + column) _ 0 (λ e. omega (arith, e, column_high manner))
      ∙ get_or-set_same xs (at + column) _ 0 (omega (arith, long, inside, column_high manner))

  figures : (m : Manner) → Said (eqb (manner_number manner) (manner_number m)) → get_or after (at + figure_column m) 0 ≡ figure m (row_from xs at) + in_manner manner m units
  figures m (passed e) =
      let same : figure_column m ≡ column = omega (arith, eqb-true (manner_number manner) (manner_number m) e, column_number manner, column_number m) in
      rw (e, figure_is m xs at, same) figure_rises
  figures m (failed e) =
      let other : manner_number manner ≢ manner_number m = eqb-false (manner_number manner) (manner_number m) e in
      rw (e, figure_is m xs at, add-zero) (kept (at + figure_column m) (λ d. omega (arith, other, d, column_number manner, column_number m)) (λ d. omega (arith, d, column_high m)))

  row_lowered : row_from after at ≡ lowered_by manner units (row_from xs at)
  unfolding lowered_by
  row_lowered =
      rw (
        kept at (λ e. omega (arith, e, column_low manner)) (λ e. omega (arith, e)),
        in_row 1 (omega arith),
        in_row 2 (omega arith),
        in_row 3 (omega arith),
        in_row 4 (omega arith),
        in_row 5 (omega arith),
        kept (at + 11) (λ e. omega (arith, e, column_high manner)) (λ e. omega (arith, e)),
        figures Delivered (ask (eqb (manner_number manner) 1)),
        figures BoughtIn (ask (eqb (manner_number manner) 2)),
        figures Cash (ask (eqb (manner_number manner) 3)),
        figures Paired (ask (eqb (manner_number manner) 4)),
        open_falls,
      )

  others : (j : ℕ) → j ≢ k → SameCells 12 after (12 * j) xs (12 * j)
  others j ne d h = kept (12 * j + d) (λ e. omega (arith, ne, h, e, column_high manner)) (λ e. omega (arith, ne, h, e))

  pub rows_lowered : rows_of after ≡ set (rows_of xs) k (lowered_by manner units (get_or (rows_of xs) k no_position))
  unfolding rows_of
  rows_lowered =
      law.row_changed no_position 12 1024 row_from row_reads xs after k _ inside others (row_lowered ∙ ap (lowered_by manner units) (sym (row_is xs k inside)))
