use Prim.Native.Nat.{◌+◌}
use mathlib.Core.Path.{◌≡◌, ap, sym, ◌∙◌}
use mathlib.Core.Logic.{⊎_elim}
use Rattle.calendar.specs.BusinessDays.{business, business_day, Ahead}
use Rattle.calendar.specs.BusinessDays as days
use Rattle.calendar.specs.Holidays.{by_next}
use Rattle.calendar.specs.Walk.{ahead, sought, later, skipped, none_ahead}
use Rattle.calendar.proofs.nth_business_day.Goals as goal
use Rattle.calendar.proofs.nth_business_day.Lts as lts
use Rattle.calendar.proofs.nth_business_day.Tie as tie
use Rattle.calendar.proofs.nth_business_day.Reads as reads

abbrev After-is_business : Type 0
After-is_business = lts.After-is_business tie.the-claims reads.Pre reads.Post goal.the-invariant-loop-day goal.the-decreases-loop-day

-- what the test of the day says
known : (c : After-is_business) → c.is_business.result ≡ business (days.holidays c.args.holidays.now) c.loop-day.day
known c =
    let l = c.loop-day in
    c.is_business.ensures ∙ by_next c.args.holidays.now c.requires.0 l.day c.loop-day-test.true l.next l.invariant.0

pub returns-then-left-eq0 : goal.returns-then-left-eq0
unfolding business_day
returns-then-left-eq0 c =
    let l = c.loop-day in
    sought (days.holidays c.args.holidays.now) l.day l.left c.loop-day-test.true (sym (known c.before.before.before) ∙ c.if-is_business.true) c.if-left-eq0.true ∙ l.invariant.1

pub loop-day-preserved : goal.loop-day-preserved
loop-day-preserved c =
    let l = c.loop-day in
    let hs = days.holidays c.args.holidays.now in (
      c.next_holiday_after-next.ensures,
      ⊎_elim
          (λ w. ap (ahead hs (l.day + 1)) w.left-is ∙ later hs l.day l.left c.loop-day-test.true (sym (known c.before.before.before) ∙ w.if-is_business.true) w.if-left-eq0.false)
          (λ w. ap (ahead hs (l.day + 1)) w.left-is ∙ skipped hs l.day l.left c.loop-day-test.true (sym (known c.before.before.before) ∙ w.if-is_business.false))
          c.if-is_business.branch-raw ∙ l.invariant.1,
    )

pub returns : goal.returns
unfolding business_day
returns c =
    let l = c.loop-day in
    none_ahead (days.holidays c.args.holidays.now) l.day l.left c.loop-day-test.false ∙ l.invariant.1
