-- Elements of the tables, at the places that are in use.
use Prim.Native.Nat.{ℕ, ◌+◌, ◌-◌, ◌≤◌, ◌<◌}
use native.Mathlib.Omega.{arith}
use native.Mathlib.Numerals.{add-one}
use mathlib.Core.Path.{◌≡◌}
use mathlib.Core.List.{List, [], ◌∷◌}
use lib.ListN.{length, get_or, take, drop, drop_of_length-le}
use lib.Seq.{drop-cons, get_or-take, length-take-le}
use Rattle.laws.specs.Lists.{All}
use Rattle.laws.specs.Alls.{all_at}
use Rattle.plain.specs.declared.Position.{Position}
use Rattle.plain.specs.declared.Piece.{Piece}
use Rattle.plain.specs.declared.Manner.TheVariants.{Delivered}
use Rattle.plain.proofs.Numbered.{nth_take}
use Rattle.plain.specs.Book.{no_position, nth}
use Rattle.laws.specs.Asked.{Within}
use Rattle.tables.specs.Tables.{Positions, positions, PositionsFit}

-- what stands where no piece is
abbrev pub no_piece : Piece
no_piece = record { short = 0; long = 0; quantity = 0; manner = Delivered; cents = 0 }

-- what all of the first n elements have, each has
pub element : {A : Type 0} (P : A → Type 0) (n : ℕ) (items : List A) (d : A) (i : ℕ) → n ≤ length items → i < n → All P (take n items) → P (get_or items i d)
element P n items d i long less h =
    let within : i < length (take n items) = rw length-take-le less in
    rw (get_or-take n items i d less) at (all_at P (take n items) i d within h)

-- what stands at a place of them and after it
pub ahead_at : {A : Type 0} (n : ℕ) (items : List A) (d : A) (i : ℕ) → n ≤ length items → i < n → drop i (take n items) ≡ get_or items i d ∷ drop (i + 1) (take n items)
ahead_at n items d i long less =
    let within : i < length (take n items) = rw length-take-le less in
    rw (add-one, drop-cons (take n items) i d, get_or-take n items i d less)

pub ahead_end : {A : Type 0} (n : ℕ) (items : List A) (i : ℕ) → n ≤ length items → n ≤ i → drop i (take n items) ≡ []
ahead_end n items i long done =
    let short : length (take n items) ≤ i = rw length-take-le done in
    drop_of_length-le (take n items) short

module _ (p : Positions) (fit : PositionsFit p) where
  pub positions_long : p.count ≤ length p.items
  positions_long = omega (arith, fit.places, fit.held)

  pub position_has : (P : Position → Type 0) (i : ℕ) → i < p.count → All P (positions p) → P (get_or p.items i no_position)
  unfolding positions
  position_has P i less h = element P p.count p.items no_position i positions_long less h

  pub position_numbered : (P : Position → Type 0) (n : ℕ) → Within 1 p.count n → All P (positions p) → P (get_or p.items (n - 1) no_position)
  position_numbered P n h all = position_has P (n - 1) (omega (arith, h.above, h.below)) all

-- "Positions are numbered from 1"
pub position_at : (p : Positions) (n : ℕ) → Within 1 p.count n → nth no_position (positions p) n ≡ get_or p.items (n - 1) no_position
unfolding positions
position_at p n h = nth_take no_position p.items p.count n h
