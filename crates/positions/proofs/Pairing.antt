-- A short set off against a long: the two rows that are put are what the one piece makes of the table.
use Prim.Native.Nat.{ℕ, zero, suc, ◌+◌, ◌-◌, ◌≤◌, ◌<◌}
use native.Mathlib.Nat.{add-zero, zero-add}
use native.Mathlib.Omega.{arith}
use mathlib.Core.Path.{◌≡◌, refl, ap, sym, ◌∙◌}
use mathlib.Core.Logic.{◌≢◌}
use mathlib.Core.List.{List, [], ◌∷◌}
use lib.ListN.{length, get_or, set, take, length-set}
use lib.Seq.{get_or-set_same, get_or-set_other, ext_get_or, take-suc-set}
use lib.Dec.{eqb}
use borrow.Author.Tests.{eq-eqb, ne_eqb, eqb-true, eqb-false}
use Rattle.laws.specs.Limits.{SHEET_CELLS}
use Rattle.laws.specs.Lists.{only, number}
use Rattle.laws.specs.Asked.{Said, passed, failed, ask, Within}
use Rattle.plain.specs.declared.Position.{Position}
use Rattle.plain.specs.declared.Piece.{Piece}
use Rattle.plain.specs.declared.Manner.{Manner}
use Rattle.plain.specs.declared.Manner.TheVariants.{Paired}
use Rattle.plain.specs.Book.{no_position}
use Rattle.plain.specs.Dealing.{names, taken, lowered, lowering}
use Rattle.plain.proofs.Discharged.{length_lowering, lowering_at}
use Rattle.rows.specs.Rows.{rows_of}
use Rattle.rows.proofs.Cells.{length_rows}
use Rattle.pieces.specs.Sheet.{pieces_of, sheet_with, PutPiece}
use Rattle.pieces.proofs.Cells.{length_pieces}
use Rattle.pieces.proofs.Filled.{piece_added}
use Rattle.tables.specs.Tables as tables
use Rattle.tables.specs.Lent.{position_table, piece_table}
use Rattle.rows.specs.Lowering.{lowered_by}
use Rattle.positions.specs.Dealing.{piece_of, HandedOut}
use Rattle.positions.specs.Pairing.{SetOff}
use Rattle.positions.proofs.Shares.{lowered_none}
use Rattle.positions.proofs.Lowered.{Own, lowered_own}

module _ (m : Manner) (ps : List Position) (short long q : ℕ) (here : Within 1 (length ps) short) (there : Within 1 (length ps) long) (apart : long ≢ short) where
  abbrev one : List Piece
  one = piece_of m short long q ∷ []

  abbrev fallen : ℕ → Position
  fallen n = lowered_by m q (get_or ps (n - 1) no_position)

  abbrev both : List Position
  both = set (set ps (short - 1) (fallen short)) (long - 1) (fallen long)

  -- what the piece makes of the position at a place
  lowered_one : (i : ℕ) → lowered one (suc i) (get_or ps i no_position) ≡ lowered_by m (only (eqb short (suc i)) q + only (eqb long (suc i)) q) (get_or ps i no_position)
  unfolding taken names Own
  lowered_one i =
      lowered_own m short one ((refl, refl), tt) (suc i) (get_or ps i no_position)
      ∙ ap (λ (k : ℕ). lowered_by m k (get_or ps i no_position)) (add-zero (only (eqb short (suc i)) q + only (eqb long (suc i)) q))

  at_long : (i : ℕ) → i ≡ long - 1 → get_or both i no_position ≡ lowered_by m (only (eqb short (suc i)) q + only (eqb long (suc i)) q) (get_or ps i no_position)
  at_long i e =
      rw (e, ne_eqb short (suc (long - 1)) (λ s. apart (omega (arith, s, there.above))), eq-eqb long (suc (long - 1)) (omega (arith, there.above)), zero-add)
      (get_or-set_same (set ps (short - 1) (fallen short)) (long - 1) (fallen long) no_position (omega (arith, there.above, there.below, length-set ps (short - 1) (fallen short))))

  at_other : (i : ℕ) → i ≢ long - 1 → Said (eqb i (short - 1)) → get_or both i no_position ≡ lowered_by m (only (eqb short (suc i)) q + only (eqb long (suc i)) q) (get_or ps i no_position)
  at_other i d (passed s) =
      let e : i ≡ short - 1 = eqb-true i (short - 1) s in
      get_or-set_other (set ps (short - 1) (fallen short)) (long - 1) i (fallen long) no_position d
      ∙ rw (e, eq-eqb short (suc (short - 1)) (omega (arith, here.above)), ne_eqb long (suc (short - 1)) (λ l. apart (omega (arith, l, here.above))), add-zero)
      (get_or-set_same ps (short - 1) (fallen short) no_position (omega (arith, here.above, here.below)))
  at_other i d (failed s) =
      let n : i ≢ short - 1 = eqb-false i (short - 1) s in
      get_or-set_other (set ps (short - 1) (fallen short)) (long - 1) i (fallen long) no_position d
      ∙ get_or-set_other ps (short - 1) i (fallen short) no_position n
      ∙ rw (ne_eqb short (suc i) (λ l. n (omega (arith, l))), ne_eqb long (suc i) (λ l. d (omega (arith, l)))) (sym (lowered_none m (get_or ps i no_position)))

  pub both_fallen : both ≡ lowering one ps
  both_fallen =
      let long' : length both ≡ length ps = length-set (set ps (short - 1) (fallen short)) (long - 1) (fallen long) ∙ length-set ps (short - 1) (fallen short) in
      ext_get_or no_position both (lowering one ps) (long' ∙ sym (length_lowering one ps))
      (λ i h. go i (omega (arith, long')) (ask (eqb i (long - 1))))
    where
      go : (i : ℕ) → i < length ps → Said (eqb i (long - 1)) → get_or both i no_position ≡ get_or (lowering one ps) i no_position
      go i h (passed e) = at_long i (eqb-true i (long - 1) e) ∙ sym (lowering_at one ps i h ∙ lowered_one i)
      go i h (failed e) = at_other i (eqb-false i (long - 1) e) (ask (eqb i (short - 1))) ∙ sym (lowering_at one ps i h ∙ lowered_one i)

-- the rows as the two stores leave them
module _ (rows mid : List ℕ) (short long : ℕ) (here : Within 1 1024 short) (there : Within 1 1024 long) (apart : long ≢ short) (x : Position) (put : rows_of mid ≡ set (rows_of rows) (short - 1) x) where
  -- the long's row is as it was when the short's has fallen
  pub other_kept : get_or (rows_of mid) (long - 1) no_position ≡ get_or (rows_of rows) (long - 1) no_position
  other_kept =
      ap (λ (l : List Position). get_or l (long - 1) no_position) put
      ∙ get_or-set_other (rows_of rows) (short - 1) (long - 1) x no_position (λ e. apart (omega (arith, e, here.above, there.above)))

  pub rows_fallen : (after : List ℕ) (q : ℕ) → x ≡ lowered_by Paired q (get_or (rows_of rows) (short - 1) no_position)
      → rows_of after ≡ set (rows_of mid) (long - 1) (lowered_by Paired q (get_or (rows_of mid) (long - 1) no_position))
      → rows_of after ≡ lowering (piece_of Paired short long q ∷ []) (rows_of rows)
  rows_fallen after q low put' =
      let many = length_rows rows in
      put'
      ∙ rw (other_kept, put, low)
      (both_fallen Paired (rows_of rows) short long q (record { above = here.above; below = omega (arith, here.below, many) }) (record { above = there.above; below = omega (arith, there.below, many) }) apart)

-- the first piece of a sheet
pub piece_first : (sheet left : List ℕ) (x : Piece) → PutPiece sheet 0 x left → take 1 (pieces_of left) ≡ x ∷ []
piece_first sheet left x put = rw put.pieces (take-suc-set (pieces_of sheet) 0 x (omega (arith, length_pieces sheet)))

-- no other place of the sheet changes
pub piece_alone : (sheet left : List ℕ) (x : Piece) → length sheet ≡ SHEET_CELLS → PutPiece sheet 0 x left → left ≡ sheet_with (x ∷ []) sheet
piece_alone sheet left x long put = put.cells ∙ piece_added [] sheet x (omega (arith, long))

-- the positions in use fall as the whole table does
take_number : (f : ℕ → Position → Position) (count n : ℕ) (ps : List Position) → take count (number f n ps) ≡ number f n (take count ps)
take_number f zero n ps = refl
take_number f (suc count) n [] = refl
take_number f (suc count) n (p ∷ ps) = ap (λ (l : List Position). f n p ∷ l) (take_number f count (suc n) ps)

-- so that a discharge by the one piece is handed out
pub set_off_out : (rows sheet : List ℕ) (count short long q : ℕ) (after left : List ℕ) → count ≤ 1024 → SetOff rows sheet short long q after left
    → HandedOut (position_table rows count) (piece_of Paired short long q ∷ []) (record { positions = position_table after count; pieces = piece_table left 1 })
unfolding tables.positions tables.pieces lowering
set_off_out rows sheet count short long q after left few s =
    record {
      pieces = s.piece;
      positions = ap (take count) s.fallen ∙ take_number (lowered (piece_of Paired short long q ∷ [])) count 1 (rows_of rows);
      pieces_fit = record { places = length_pieces left; held = omega arith };
      positions_fit = record { places = length_rows after; held = few };
      count = refl;
    }
