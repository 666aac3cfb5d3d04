-- `reading::award_at` meets its contract.
use native.Mathlib.Omega.{arith}
use Prim.Native.Nat.{◌≤◌}
use lib.ListN.{length}
use Rattle.laws.specs.Asked.{fails, passes, within_low, within_high}
use Rattle.plain.specs.Book.{no_award}
use Rattle.rows.specs.Rows.{awards_of}
use Rattle.tables.specs.Tables.{awards}
use Rattle.kept.specs.View.{view}
use Rattle.reading.proofs.Found.{there_is, found}
use Rattle.reading.proofs.award_at.Goals as goal

pub returns-then-not-is_within : goal.returns-then-not-is_within
unfolding view awards
returns-then-not-is_within c =
    λ others h.
    let f = h.valid.fits.awards in
    rw (there_is no_award (awards_of c.args.awards.now) c.args.core.awards c.args.number (omega (arith, f.places, f.held)), fails c.if-not-is_within.true-raw c.is_within.ensures)

pub overflow_sub-n : goal.overflow_sub-n
overflow_sub-n c = within_low _ _ _ (passes c.if-not-is_within.false-raw c.is_within.ensures)

pub award_at-requires : goal.award_at-requires
award_at-requires c =
    let n = c.args.number in
    let count = c.args.core.awards in
    let e = passes c.if-not-is_within.false-raw c.is_within.ensures in
    omega (arith, c.requires.1.valid.fits.awards.held, within_low 1 count n e, within_high 1 count n e)

pub returns : goal.returns
unfolding view awards
returns c =
    λ others h.
    let f = h.valid.fits.awards in
    let fits : c.args.core.awards ≤ length (awards_of c.args.awards.now) = omega (arith, f.places, f.held) in
    let in_use = passes c.if-not-is_within.false-raw c.is_within.ensures in
    rw (there_is no_award (awards_of c.args.awards.now) c.args.core.awards c.args.number fits, in_use, found no_award (awards_of c.args.awards.now) c.args.core.awards c.args.number fits in_use, c.award_at.ensures)
