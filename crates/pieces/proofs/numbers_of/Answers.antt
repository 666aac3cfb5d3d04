use borrow.Author.Rules.{rules}
use native.Mathlib.Omega.{arith}
use Prim.Native.Nat.{◌+◌}
use mathlib.Core.Path.{◌≡◌}
use lib.ListN.{length}
use Rattle.laws.specs.Limits.{PLACES}
use Rattle.pieces.specs.Sheet.{pieces_of}
use Rattle.pieces.proofs.Cells.{length_pieces}
use Rattle.pieces.proofs.Filled.{piece_fills, cents_fill}
use Rattle.pieces.proofs.Filling.{filled, piece_next, all_cells}
use Rattle.pieces.proofs.numbers_of.Goals as goal

pub loop-i-preserved : goal.loop-i-preserved
loop-i-preserved c =
    let k = c.loop-i in
    let items = c.args.items in
    let long : length items ≡ PLACES = search rules in (
      piece_next items long k.i _ c.loop-i-test.true k.sheet _ _ k.invariant.0 c.put_piece.ensures c.put_cents.ensures,
      cents_fill (k.i + 1) _ _ _ (piece_fills _ _ _ _ k.invariant.1 _ c.loop-i-test.true k.invariant.2 c.put_piece.ensures) k.i _ (omega arith) (omega arith) c.put_cents.ensures,
      c.put_cents.ensures.size,
    )

pub returns : goal.returns
returns c =
    let k = c.loop-i in
    let items = c.args.items in
    let long : length items ≡ PLACES = search rules in
    let all : k.i ≡ PLACES = omega arith in
    let same : pieces_of k.sheet ≡ items = filled (pieces_of k.sheet) items PLACES (omega (arith, length_pieces k.sheet)) (omega (arith, long)) (rw all at k.invariant.0) in
    (all_cells items long k.sheet _ c.blank_numbers-sheet.ensures.1 same (rw all at k.invariant.1), same, k.invariant.2)
