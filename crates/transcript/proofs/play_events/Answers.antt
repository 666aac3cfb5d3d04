use Prim.Native.Nat.{◌+◌, ◌-◌, ◌≤◌, ◌<◌}
use native.Mathlib.Omega.{arith}
use mathlib.Core.Path.{◌≡◌, refl, ap, subst}
use mathlib.Core.Logic.{⊎_elim}
use lib.ListN.{length}
use borrow.Author.Rules.{rules}
use borrow.Author.Tests.{leb-true, leb-false}
use Rattle.laws.specs.Limits.{SHEET_CELLS}
use Rattle.files.specs.File.{events_of}
use Rattle.plain.specs.Histories.{calls_of}
use Rattle.machine.specs.declared.Answered.{Answered}
use Rattle.machine.specs.declared.Core.{Core}
use Rattle.machine.specs.declared.Numbers.{Numbers}
use Rattle.machine.specs.View.{book_of, Held}
use Rattle.calls.specs.Stepping.{Stepped}
use Rattle.calls.proofs.Stepping.{stepped_bare, stepped_on}
use Rattle.report.specs.Pages.{lent}
use Rattle.transcript.specs.Playing.{BLOCK, PlayedOn, between}
use Rattle.replay.specs.Replay.{sheet_after}
use Rattle.transcript.proofs.Showing.{Reached, none_reached, one_reached, room_left, played_on, some_taken, shown, none_filled, more_filled}
use Rattle.transcript.proofs.Showing as showing
use Rattle.transcript.proofs.play_events.Goals as goal
use Rattle.transcript.proofs.play_events.Lts as lts
use Rattle.transcript.proofs.play_events.Tie as tie
use Rattle.transcript.proofs.play_events.Reads as reads

abbrev At-loop-next : Type 0
At-loop-next = lts.At-loop tie.the-claims reads.Pre reads.Post goal.the-invariant-loop-next goal.the-decreases-loop-next tie.handed_clauses

abbrev Then-used-room : Type 0
Then-used-room = lts.Then1 tie.the-claims reads.Pre reads.Post goal.the-invariant-loop-next goal.the-decreases-loop-next tie.handed_clauses

abbrev After-event_at-event : Type 0
After-event_at-event = lts.After-event_at tie.the-claims reads.Pre reads.Post goal.the-invariant-loop-next goal.the-decreases-loop-next tie.handed_clauses

abbrev Joined-event : Type 0
Joined-event = lts.At-match-branch tie.the-claims reads.Pre reads.Post goal.the-invariant-loop-next goal.the-decreases-loop-next tie.handed_clauses

-- where a turn begins
abbrev turn : After-event_at-event → At-loop-next
turn e = e.before.before.before

abbrev tables : At-loop-next → Numbers
tables k = k.loop-next.lent

held : (e : After-event_at-event) → Held (turn e).loop-next.last.core (tables (turn e))
held e = (turn e).loop-next.invariant.0.played'.held

long : (e : After-event_at-event) → length (turn e).loop-next.sheet ≡ SHEET_CELLS
long e = (turn e).loop-next.invariant.1

pub overflow_cast-count : goal.overflow_cast-count
overflow_cast-count c = omega arith

pub loop-next-init : goal.loop-next-init
loop-next-init c =
    (none_reached _ _ _ _ _ (rw c.done-last.ensures c.requires.0), c.requires.1, none_filled c.args.file.now _ c.args.from _)

pub overflow_add-used : goal.overflow_add-used
overflow_add-used c = omega (arith, c.loop-next.invariant.0.fits)

-- the page has room for one more event
room_taken : (c : Then-used-room) → c.loop-next.used + BLOCK ≤ length c.args.page.now
room_taken c = leb-true _ _ c.if-used-room.true-raw

within : (c : Then-used-room) → c.loop-next.used ≤ length c.loop-next.page
within c = omega (arith, room_taken c, showing.same_length _ _ _ _ _ _ _ _ _ _ c.loop-next.invariant.0)

room_lent : (c : Then-used-room) → BLOCK ≤ length (lent c.loop-next.used c.loop-next.page)
room_lent c = room_left _ _ _ _ _ _ _ _ _ _ c.loop-next.invariant.0 (room_taken c)

pub trade-last-requires : goal.trade-last-requires
trade-last-requires c = (held c.before.before.before.before).lent.trades

pub price-last-requires : goal.price-last-requires
price-last-requires c = (_, held c.before.before.before)

pub attempt-last-requires : goal.attempt-last-requires
attempt-last-requires c = (c.loop-next.lent, c.loop-next.invariant.0.played'.held)

pub offer-last-requires : goal.offer-last-requires
offer-last-requires c = (c.loop-next.lent, c.loop-next.invariant.0.played'.held)

pub award-last-requires : goal.award-last-requires
award-last-requires c = (c.loop-next.lent, c.loop-next.invariant.0.played'.held)

-- each arm makes the call of its kind: what they come to where they meet
stepped : (c : Joined-event)
    → Stepped (turn c.before).loop-next.last.core (tables (turn c.before)) c.event_at-event.result (turn c.before).loop-next.sheet c.match-event.last.core c.match-event.lent c.match-event.sheet c.match-event.last.outcome c.match-event.last.pieces
stepped c =
    let h = held c.before in
    let l = long c.before in
    ⊎_elim
    (λ w. rw (w.lent-is, w.sheet-is, w.last-is) (stepped_bare _ _ _ _ _ _ _ _ _ w.in-Trade.is refl l (w.trade-last.ensures (tables (turn c.before)) h)))
    (⊎_elim
    (λ w. rw (w.lent-is, w.sheet-is, w.last-is) (stepped_bare _ _ _ _ _ _ _ _ _ w.in-Price.is refl l (w.price-last.ensures _ h)))
    (⊎_elim
    (λ w. rw (w.lent-is, w.sheet-is, w.last-is) (stepped_on _ _ _ _ _ _ _ _ _ w.in-Delivery.is _ w.delivery-last.ensures.called))
    (⊎_elim
    (λ w. rw (w.lent-is, w.sheet-is, w.last-is) (stepped_bare _ _ _ _ _ _ _ _ _ w.in-Attempt.is refl l (w.attempt-last.ensures (tables (turn c.before)) h)))
    (⊎_elim
    (λ w. rw (w.lent-is, w.sheet-is, w.last-is) (stepped_bare _ _ _ _ _ _ _ _ _ w.in-Offer.is refl l (w.offer-last.ensures (tables (turn c.before)) h)))
    (⊎_elim
    (λ w. rw (w.lent-is, w.sheet-is, w.last-is) (stepped_bare _ _ _ _ _ _ _ _ _ w.in-Award.is refl l (w.award-last.ensures (tables (turn c.before)) h)))
    (⊎_elim
    (λ w. rw (w.lent-is, w.sheet-is, w.last-is) (stepped_on _ _ _ _ _ _ _ _ _ w.in-Confirm.is _ w.confirm-last.ensures.called))
    (⊎_elim
    (λ w. rw (w.lent-is, w.sheet-is, w.last-is) (stepped_on _ _ _ _ _ _ _ _ _ w.in-Cash.is _ w.cash-last.ensures.called))
    (⊎_elim
    (λ w. rw (w.lent-is, w.sheet-is, w.last-is) (stepped_bare _ _ _ _ _ _ _ _ _ w.in-Close.is refl l w.close-last.ensures.called))
    (λ w. rw (w.lent-is, w.sheet-is, w.last-is) (stepped_on _ _ _ _ _ _ _ _ _ w.in-PairOff.is _ w.pair_off-last.ensures.called))))))))))
    c.match-event.branch-raw

pub overflow_add-next : goal.overflow_add-next
overflow_add-next c = omega (arith, c.loop-next-test.true)

pub slice_bounds-answer_lines-count : goal.slice_bounds-answer_lines-count
slice_bounds-answer_lines-count c = within c.before.before.before

pub slice_bounds-answer_lines-start : goal.slice_bounds-answer_lines-start
slice_bounds-answer_lines-start c = within c.before.before.before

pub slice_bounds-answer_lines-end : goal.slice_bounds-answer_lines-end
slice_bounds-answer_lines-end c = omega arith

pub overflow_cast-next : goal.overflow_cast-next
overflow_cast-next c = omega (arith, c.loop-next-test.true)

pub overflow_add-used-in-loop-next : goal.overflow_add-used-in-loop-next
overflow_add-used-in-loop-next c =
    omega (arith, c.answer_lines-used.ensures.most, c.loop-next.invariant.0.fits, room_taken c.before.before.before.before.before.before.before)

pub loop-next-smaller : goal.loop-next-smaller
loop-next-smaller c = omega (arith, c.loop-next-test.true)

pub loop-next-preserved : goal.loop-next-preserved
loop-next-preserved c =
    let k = turn c.before.before.before.before.before.before in
    let d = stepped c.before.before.before.before.before in
    let inside : k.loop-next.next < length (events_of k.args.file.now) = omega (arith, k.events_in-count.ensures, c.loop-next-test.true) in (
      one_reached _ _ _ _ k.loop-next.next _ _ _ _ c.match-event.last.core _ c.match-event.lent c.event_at-event.result _ k.loop-next.used _ k.loop-next.invariant.0
          inside c.event_at-event.ensures refl (room_taken c.before.before.before.before.before.before.before) (shown _ _ _ _ _ _ _ _ _ _ _ _ _ (room_lent c.before.before.before.before.before.before.before) d c.answer_lines-used.ensures),
      d.places,
      more_filled _ _ _ _ k.loop-next.next c.event_at-event.result k.args.sheet.now _ _ k.loop-next.invariant.0.low inside c.event_at-event.ensures k.loop-next.invariant.0.played'.book k.loop-next.invariant.2 d.filled,
    )

pub shape_of-page : goal.shape_of-page
shape_of-page c = showing.same_length _ _ _ _ _ _ _ _ _ _ c.loop-next.invariant.0

pub returns : goal.returns
returns c =
    let h = c.loop-next.invariant.0 in (
      subst (λ (b : Core). PlayedOn c.args.file.now b c.args.lent.now c.args.from c.args.page.now c.loop-next.page (tables c.before.before.before) (record { core = c.loop-next.last.core; next = c.loop-next.next; used = c.loop-next.used }))
          (ap (λ (r : Answered). r.core) c.done-last.ensures)
          (played_on _ _ _ _ _ _ _ _ _ _ h
          (λ there room.
          ⊎_elim
          (λ w. some_taken _ _ _ _ _ _ _ _ _ _ h (leb-false _ _ w.if-used-room.false-raw) room)
          (λ w. omega (arith, c.events_in-count.ensures, w.loop-next-test.false))
          c.loop-next-test.branch-raw)),
      c.loop-next.invariant.1,
      subst (λ (b : Core). c.loop-next.sheet ≡ sheet_after (book_of b c.args.lent.now) (calls_of (between c.args.file.now c.args.from c.loop-next.next)) c.args.sheet.now)
          (ap (λ (r : Answered). r.core) c.done-last.ensures)
          c.loop-next.invariant.2,
    )
