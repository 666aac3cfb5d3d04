use native.Mathlib.Omega.{arith}
use mathlib.Core.Path.{◌≡◌, sym, ◌∙◌}
use mathlib.Core.Logic.{⊎_elim}
use Rattle.calendar.specs.BusinessDays.{business, Ahead}
use Rattle.calendar.specs.BusinessDays as days
use Rattle.calendar.specs.Holidays.{by_next}
use Rattle.calendar.specs.Walk.{count_one, count_none}
use Rattle.calendar.proofs.business_days_before.Goals as goal
use Rattle.calendar.proofs.business_days_before.Lts as lts
use Rattle.calendar.proofs.business_days_before.Tie as tie
use Rattle.calendar.proofs.business_days_before.Reads as reads

abbrev After-is_business : Type 0
After-is_business = lts.After-is_business tie.the-claims reads.Pre reads.Post goal.the-invariant-loop-day goal.the-decreases-loop-day

known : (c : After-is_business) → c.is_business.result ≡ business (days.holidays c.args.holidays.now) c.loop-day.day
known c =
    let l = c.loop-day in
    c.is_business.ensures ∙ by_next c.args.holidays.now c.requires.0 l.day (omega (arith, c.loop-day-test.true, c.requires.2)) l.next l.invariant.0

pub loop-day-preserved : goal.loop-day-preserved
loop-day-preserved c =
    let l = c.loop-day in
    let hs = days.holidays c.args.holidays.now in (
      c.next_holiday_after-next.ensures,
      ⊎_elim (λ w. omega (arith, w.count-is, l.invariant.1)) (λ w. omega (arith, w.count-is, l.invariant.1)) c.if-is_business.branch-raw,
      ⊎_elim
          (λ w. omega (arith, w.count-is, l.invariant.2, count_one hs c.args.end.0 l.day c.loop-day-test.true (sym (known c.before.before.before) ∙ w.if-is_business.true)))
          (λ w. omega (arith, w.count-is, l.invariant.2, count_none hs c.args.end.0 l.day c.loop-day-test.true (sym (known c.before.before.before) ∙ w.if-is_business.false)))
          c.if-is_business.branch-raw,
    )
