-- `auctions::attempt` meets its contract.
use native.Mathlib.Omega.{arith}
use mathlib.Core.Path.{◌≡◌, sym}
use mathlib.Core.Bool.{true}
use Rattle.laws.specs.Asked.{within, within_low, within_high, fails, passes}
use Rattle.kept.specs.View.{view}
use Rattle.kept.proofs.Auctions.{mark_room}
use Rattle.machine.specs.declared.Numbers.{Numbers}
use Rattle.machine.specs.View.{on_rows}
use Rattle.auctions.proofs.Auctioning.{attempt_missed, registered_at, attempt_refused, attempt_taken}
use Rattle.auctions.proofs.attempt.Goals as goal
use Rattle.auctions.proofs.attempt.Goals.{Start, Else-not-is_within, After-row_at-p}

abbrev start : Else-not-is_within → Start
start c = c.before.before.before

abbrev entry : Start → Numbers
entry s = on_rows s.requires.0 s.args.rows.now

abbrev looked : After-row_at-p → Else-not-is_within
looked r = r.before.before

in_use : (c : Else-not-is_within) → within 1 (start c).args.core.positions (start c).args.a.position ≡ true
in_use c = passes c.if-not-is_within.false-raw c.is_within.ensures

pub returns-then-not-is_within : goal.returns-then-not-is_within
returns-then-not-is_within c =
    λ others h. rw c.refused.ensures (attempt_missed _ (on_rows others _) h _ (fails c.if-not-is_within.true-raw c.is_within.ensures))

pub overflow_sub-place : goal.overflow_sub-place
overflow_sub-place c = within_low _ _ _ (in_use c.before)

pub row_at-p-requires : goal.row_at-p-requires
row_at-p-requires c =
    omega (arith, within_low _ _ _ (in_use c.before), within_high _ _ _ (in_use c.before), (start c.before).requires.1.valid.fits.positions.held)

pub class_of-class-requires : goal.class_of-class-requires
class_of-class-requires c =
    let s = start (looked c.before) in
    let w = registered_at s.args.core (entry s) s.requires.1 s.args.a (in_use (looked c.before)) _ c.row_at-p.ensures in
    (s.requires.1.valid.fits.register, w.0, w.1)

pub latest_of-latest-requires : goal.latest_of-latest-requires
unfolding view
latest_of-latest-requires c =
    let s = start (looked c.before.before.before) in
    let w = registered_at s.args.core (entry s) s.requires.1 s.args.a (in_use (looked c.before.before.before)) _ c.row_at-p.ensures in
    (s.requires.1.valid.sound.standing.prices.many, record { above = w.0; below = w.1 })

pub is_marked-marked-requires : goal.is_marked-marked-requires
is_marked-marked-requires c = (start (looked c.before.before.before.before.before.before.before)).requires.1.valid.fits.marks

pub returns-in-Err : goal.returns-in-Err
returns-in-Err c =
    λ others h.
    rw c.refused-in-Err.ensures
    (attempt_refused _ (on_rows others _) h _ (in_use (looked c.before.before.before.before.before.before.before.before.before.before.before.before)) _ c.row_at-p.ensures _ c.class_of-class.ensures _ c.latest_of-latest.ensures _ c.step_today-today.ensures _ c.is_marked-marked.ensures _ c.in-Err.ensures)

pub open_auction-after-requires : goal.open_auction-after-requires
open_auction-after-requires c =
    ((start (looked c.before.before.before.before.before.before.before.before.before.before.before.before.before)).requires.1.valid.fits.marks.places, mark_room _ _ _ _ _ _ _ (sym c.in_default.ensures))

pub returns : goal.returns
returns c =
    λ others h.
    rw (c.done.ensures, c.open_auction-after.ensures)
    (attempt_taken _ (on_rows others _) h _ (in_use (looked c.before.before.before.before.before.before.before.before.before.before.before.before.before.before.before)) _ c.row_at-p.ensures _ c.class_of-class.ensures _ c.latest_of-latest.ensures _ c.step_today-today.ensures _ c.is_marked-marked.ensures c.in_default.ensures _ c.price_of.ensures _ c.ceiling_of-ceiling.ensures)
