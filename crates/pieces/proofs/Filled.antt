-- A sheet whose first places hold pieces and whose later places are those of another sheet: one piece more, and a piece that gets its cents.
use Prim.Native.Nat.{ℕ, zero, suc, ◌+◌, ◌-◌, ◌*◌, ◌≤◌, ◌<◌}
use native.Mathlib.Numerals.{add-one}
use native.Mathlib.Omega.{arith}
use mathlib.Core.Path.{◌≡◌, refl, ap, sym, ◌∙◌}
use mathlib.Core.List.{List, [], ◌∷◌, ◌++◌}
use lib.ListN.{length, get_or, take, drop, set, length-append, length-drop, length-set}
use lib.Seq.{sets, sets-eq, take_at, drop-append-add, drop-drop, set-append_left, length-take-le, take-suc-set, take-set-lt, get_or-take}
use Rattle.laws.specs.Limits.{PIECE_WIDTH, PLACES, SHEET_CELLS}
use Rattle.laws.specs.Lists.{each}
use Rattle.laws.specs.Listed.{each_append}
use Rattle.plain.specs.declared.Piece.{Piece}
use Rattle.pieces.specs.Sheet.{cells_of, sheet_with, pieces_of, no_piece, with_cents, PutPiece, PutCents}
use Rattle.pieces.proofs.Cells.{length_pieces}

-- LISTS OF PIECES

cells_length : (xs : List Piece) → length (each cells_of xs) ≡ PIECE_WIDTH * length xs
cells_length [] = refl
cells_length (x ∷ xs) = omega (arith, cells_length xs)

module _ (xs : List Piece) (s : List ℕ) where
  abbrev width : ℕ
  width = PIECE_WIDTH * length xs

  size_of : length (sheet_with xs s) ≡ width + (length s - width)
  size_of = length-append (each cells_of xs) (drop width s) ∙ omega (arith, cells_length xs, length-drop width s)

  -- a piece stored behind them
  module _ (y : Piece) (room : width + PIECE_WIDTH ≤ length s) where
    later : drop (width + PIECE_WIDTH) (sheet_with xs s) ≡ drop (PIECE_WIDTH * length (xs ++ y ∷ [])) s
    later =
        let more : width + PIECE_WIDTH ≡ PIECE_WIDTH * length (xs ++ y ∷ []) = omega (arith, length-append xs (y ∷ [])) in
        ap (λ (n : ℕ). drop (n + PIECE_WIDTH) (sheet_with xs s)) (sym (cells_length xs))
        ∙ drop-append-add (each cells_of xs) (drop width s) PIECE_WIDTH
        ∙ drop-drop PIECE_WIDTH width s
        ∙ ap (λ (n : ℕ). drop n s) more

    pub piece_added : sets (sheet_with xs s) width (cells_of y) ≡ sheet_with (xs ++ y ∷ []) s
    piece_added =
        sets-eq (cells_of y) (sheet_with xs s) width (omega (arith, size_of, room))
        ∙ rw (take_at (each cells_of xs) (drop width s) width (cells_length xs), later, each_append cells_of xs (y ∷ []))

cents_cells : (xs : List Piece) (k cents : ℕ) (d : Piece) → k < length xs → set (each cells_of xs) (PIECE_WIDTH * k + 4) cents ≡ each cells_of (set xs k (with_cents cents (get_or xs k d)))
cents_cells [] k cents d h = absurd (omega arith)
cents_cells (x ∷ xs) zero cents d h = refl
cents_cells (x ∷ xs) (suc k) cents d h =
    let next : PIECE_WIDTH * suc k + 4 ≡ suc (suc (suc (suc (suc (PIECE_WIDTH * k + 4))))) = omega arith in
    rw next (ap (λ (l : List ℕ). cells_of x ++ l) (cents_cells xs k cents d (omega arith)))

-- the cents of one of them stored
pub cents_changed : (xs : List Piece) (s : List ℕ) (k cents : ℕ) (d : Piece) → k < length xs → set (sheet_with xs s) (PIECE_WIDTH * k + 4) cents ≡ sheet_with (set xs k (with_cents cents (get_or xs k d))) s
cents_changed xs s k cents d h =
    set-append_left (each cells_of xs) (drop (PIECE_WIDTH * length xs) s) (PIECE_WIDTH * k + 4) cents (omega (arith, cells_length xs, h))
    ∙ rw (cents_cells xs k cents d h, length-set)

-- SHEETS

-- the first n pieces of a sheet fill its first places, and its later places are those of another
abbrev pub Filled : ℕ → List ℕ → List ℕ → Type 0
Filled n sheet s = sheet ≡ sheet_with (take n (pieces_of sheet)) s

module _ (n : ℕ) (before after s : List ℕ) (filled : Filled n before s) where
  many : n ≤ PLACES → length (take n (pieces_of before)) ≡ n
  many few = length-take-le n (pieces_of before) (omega (arith, few, length_pieces before))

  pub piece_fills : (x : Piece) → n < PLACES → length before ≡ SHEET_CELLS → PutPiece before n x after → Filled (n + 1) after s
  piece_fills x room long put =
      let xs : List Piece = take n (pieces_of before) in
      let count : length xs ≡ n = many (omega (arith, room)) in
      let size : length before ≡ PIECE_WIDTH * length xs + (length s - PIECE_WIDTH * length xs) = ap length filled ∙ size_of xs s in
      let more : take (n + 1) (pieces_of after) ≡ xs ++ x ∷ [] = rw (put.pieces, add-one n) (take-suc-set (pieces_of before) n x (omega (arith, room, length_pieces before))) in
      put.cells
      ∙ ap (λ (l : List ℕ). sets l (PIECE_WIDTH * n) (cells_of x)) filled
      ∙ ap (λ (k : ℕ). sets (sheet_with xs s) (PIECE_WIDTH * k) (cells_of x)) (sym count)
      ∙ piece_added xs s x (omega (arith, size, count, room, long))
      ∙ ap (λ (ys : List Piece). sheet_with ys s) (sym more)

  pub cents_fill : (k cents : ℕ) → k < n → n ≤ PLACES → PutCents before k cents after → Filled n after s
  cents_fill k cents inside few put =
      let xs : List Piece = take n (pieces_of before) in
      let changed : take n (pieces_of after) ≡ set xs k (with_cents cents (get_or xs k no_piece)) =
      rw (put.pieces, get_or-take n (pieces_of before) k no_piece inside) (take-set-lt n (pieces_of before) k (with_cents cents (get_or (pieces_of before) k no_piece)) inside) in
      put.cells
      ∙ ap (λ (l : List ℕ). set l (PIECE_WIDTH * k + 4) cents) filled
      ∙ cents_changed xs s k cents no_piece (omega (arith, many few, inside))
      ∙ ap (λ (ys : List Piece). sheet_with ys s) (sym changed)

-- whatever sheet the later places were those of, they still are
abbrev pub StaysFilled : ℕ → List ℕ → ℕ → List ℕ → Type 0
StaysFilled n first m now = (s : List ℕ) → Filled n first s → Filled m now s

module _ (n : ℕ) (first : List ℕ) (k : ℕ) (before : List ℕ) (stays : StaysFilled n first k before) where
  pub stays_same : (m : ℕ) (now : List ℕ) → now ≡ before → m ≡ k → StaysFilled n first m now
  stays_same m now same count = λ s f. rw (same, count) (stays s f)

  pub stays_piece : (m : ℕ) (now : List ℕ) (x : Piece) (after : List ℕ) → k < PLACES → length before ≡ SHEET_CELLS → PutPiece before k x after → now ≡ after → m ≡ k + 1 → StaysFilled n first m now
  stays_piece m now x after room long put same count = λ s f. rw (same, count) (piece_fills k before after s (stays s f) x room long put)

  pub stays_cents : (now : List ℕ) (j cents : ℕ) → j < k → k ≤ PLACES → PutCents before j cents now → StaysFilled n first k now
  stays_cents now j cents inside few put = λ s f. cents_fill k before now s (stays s f) j cents inside few put
