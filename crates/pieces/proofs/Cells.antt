-- The sheet as numbers: a piece is read from its own numbers alone, and the numbers that are stored say the piece.
use Prim.Native.Nat.{ℕ, ◌+◌, ◌*◌, ◌<◌}
use native.Mathlib.Nat.{mod-eq_of_lt}
use native.Mathlib.Omega.{arith}
use mathlib.Core.Path.{◌≡◌, refl, ap, sym, ◌∙◌}
use mathlib.Core.Logic.{◌≢◌}
use mathlib.Core.List.{List, [], ◌∷◌}
use lib.ListN.{length, get_or, set, take, drop, length-set}
use lib.Seq.{sets, get_or-set_same, get_or-set_other}
use Rattle.laws.specs.Limits.{PIECE_WIDTH, PLACES, SHEET_CELLS}
use Rattle.cells.specs.Table.{SameCells, Reads}
use Rattle.cells.proofs.Rows as cells
use Rattle.cells.specs.Laws as law
use Rattle.cells.specs.Laws.{first_cell}
use Rattle.plain.specs.declared.Manner.{Manner}
use Rattle.plain.specs.declared.Manner.TheVariants.{Delivered, BoughtIn, Cash, Paired}
use Rattle.plain.specs.Dealing.{manner_number}
use Rattle.pieces.specs.Sheet.{manner_numbered, piece_from, pieces_of, cells_of, unpriced, no_piece, with_cents, PutPiece, PutCents}

manner_back : (manner : Manner) → manner_numbered (manner_number manner) ≡ manner
manner_back Delivered = refl
manner_back BoughtIn = refl
manner_back Cash = refl
manner_back Paired = refl

piece_reads : Reads PIECE_WIDTH piece_from
piece_reads xs ys i j e =
    rw (first_cell PIECE_WIDTH xs ys i j (omega arith) e, e 1 (omega arith), e 2 (omega arith), e 3 (omega arith), e 4 (omega arith))

pub length_pieces : (xs : List ℕ) → length (pieces_of xs) ≡ PLACES
unfolding pieces_of
length_pieces = law.length_table no_piece PIECE_WIDTH PLACES piece_from

module _ (xs ys : List ℕ) (k short long units : ℕ) (manner : Manner) (size : length xs ≡ SHEET_CELLS) (inside : k < PLACES) (s : short < 65536) (l : long < 65536) (u : units < 4294967296) where
  piece_stored : ys ≡ sets xs (PIECE_WIDTH * k) (cells_of (unpriced manner short long units)) → pieces_of ys ≡ set (pieces_of xs) k (unpriced manner short long units)
  unfolding pieces_of
  piece_stored =
      cells.row_put no_piece PIECE_WIDTH PLACES piece_from piece_reads xs ys k short (long ∷ units ∷ manner_number manner ∷ 0 ∷ []) (unpriced manner short long units) size inside refl
      (rw (mod-eq_of_lt s, mod-eq_of_lt l, mod-eq_of_lt u, manner_back manner))

  pub piece_put : (n : ℕ) → n ≡ manner_number manner → length ys ≡ length xs → ys ≡ sets xs (PIECE_WIDTH * k) (short ∷ long ∷ units ∷ n ∷ 0 ∷ []) → PutPiece xs k (unpriced manner short long units) ys
  piece_put n m same e =
      let stored = rw m at e in
      record { cells = stored; pieces = piece_stored stored; size = same ∙ size }

pub piece_taken : (xs cells : List ℕ) (k : ℕ) → k < PLACES → cells ≡ take PIECE_WIDTH (drop (PIECE_WIDTH * k) xs) → piece_from cells 0 ≡ get_or (pieces_of xs) k no_piece
unfolding pieces_of
piece_taken = cells.row_taken no_piece PIECE_WIDTH PLACES piece_from piece_reads

pub piece_is : (xs : List ℕ) (k : ℕ) → k < PLACES → get_or (pieces_of xs) k no_piece ≡ piece_from xs (PIECE_WIDTH * k)
unfolding pieces_of
piece_is = law.place_is no_piece PIECE_WIDTH PLACES piece_from

module _ (xs : List ℕ) (k cents : ℕ) (long : length xs ≡ SHEET_CELLS) (inside : k < PLACES) where
  abbrev after : List ℕ
  after = set xs (PIECE_WIDTH * k + 4) cents

  others : (j : ℕ) → j ≢ k → SameCells PIECE_WIDTH after (PIECE_WIDTH * j) xs (PIECE_WIDTH * j)
  others j ne d h = get_or-set_other xs (PIECE_WIDTH * k + 4) (PIECE_WIDTH * j + d) cents 0 (λ e. omega (arith, ne, h, e))

  piece_priced : piece_from after (PIECE_WIDTH * k) ≡ with_cents cents (piece_from xs (PIECE_WIDTH * k))
  piece_priced =
      rw (
        get_or-set_other xs (PIECE_WIDTH * k + 4) (PIECE_WIDTH * k) cents 0 (omega arith),
        get_or-set_other xs (PIECE_WIDTH * k + 4) (PIECE_WIDTH * k + 1) cents 0 (omega arith),
        get_or-set_other xs (PIECE_WIDTH * k + 4) (PIECE_WIDTH * k + 2) cents 0 (omega arith),
        get_or-set_other xs (PIECE_WIDTH * k + 4) (PIECE_WIDTH * k + 3) cents 0 (omega arith),
        get_or-set_same xs (PIECE_WIDTH * k + 4) cents 0 (omega (arith, long, inside)),
      )

  cents_stored : pieces_of after ≡ set (pieces_of xs) k (with_cents cents (get_or (pieces_of xs) k no_piece))
  unfolding pieces_of
  cents_stored =
      law.row_changed no_piece PIECE_WIDTH PLACES piece_from piece_reads xs after k _ inside others
      (piece_priced ∙ ap (with_cents cents) (sym (piece_is xs k inside)))

  pub cents_put : (ys : List ℕ) → ys ≡ after → PutCents xs k cents ys
  cents_put ys e = record { cells = e; pieces = ap pieces_of e ∙ cents_stored; size = ap length e ∙ length-set xs (PIECE_WIDTH * k + 4) cents ∙ long }
