-- `reading::position` meets its contract.
use native.Mathlib.Omega.{arith}
use Prim.Native.Nat.{◌≤◌}
use lib.ListN.{length}
use Rattle.laws.specs.Asked.{fails, passes, within_low, within_high}
use Rattle.plain.specs.Book.{no_position}
use Rattle.rows.specs.Rows.{rows_of}
use Rattle.tables.specs.Tables.{positions}
use Rattle.kept.specs.View.{view}
use Rattle.reading.proofs.Found.{there_is, found}
use Rattle.reading.proofs.position.Goals as goal

pub returns-then-not-is_within : goal.returns-then-not-is_within
unfolding view positions
returns-then-not-is_within c =
    λ others h.
    let f = h.valid.fits.positions in
    rw (there_is no_position (rows_of c.args.rows.now) c.args.core.positions c.args.number (omega (arith, f.places, f.held)), fails c.if-not-is_within.true-raw c.is_within.ensures)

pub overflow_sub-n : goal.overflow_sub-n
overflow_sub-n c = within_low _ _ _ (passes c.if-not-is_within.false-raw c.is_within.ensures)

pub row_at-requires : goal.row_at-requires
row_at-requires c =
    let n = c.args.number in
    let count = c.args.core.positions in
    let e = passes c.if-not-is_within.false-raw c.is_within.ensures in
    omega (arith, c.requires.1.valid.fits.positions.held, within_low 1 count n e, within_high 1 count n e)

pub returns : goal.returns
unfolding view positions
returns c =
    λ others h.
    let f = h.valid.fits.positions in
    let fits : c.args.core.positions ≤ length (rows_of c.args.rows.now) = omega (arith, f.places, f.held) in
    let in_use = passes c.if-not-is_within.false-raw c.is_within.ensures in
    rw (there_is no_position (rows_of c.args.rows.now) c.args.core.positions c.args.number fits, in_use, found no_position (rows_of c.args.rows.now) c.args.core.positions c.args.number fits in_use, c.row_at.ensures)
