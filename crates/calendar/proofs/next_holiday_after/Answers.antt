use native.Mathlib.Omega.{arith}
use Prim.Native.Nat.{◌<◌, ◌/◌}
use lib.ListN.{length}
use Rattle.calendar.specs.Holidays.{index_below, after, kept}
use Rattle.calendar.proofs.next_holiday_after.Goals as goal
use Rattle.calendar.proofs.next_holiday_after.Lts as lts
use Rattle.calendar.proofs.next_holiday_after.Tie as tie
use Rattle.calendar.proofs.next_holiday_after.Reads as reads

abbrev Then-next-day : Type 0
Then-next-day = lts.Then1 tie.the-claims reads.Pre reads.Post

within : (t : Then-next-day) → t.args.next.index < length t.args.holidays.now / 4
within t =
    index_below t.args.holidays.now t.args.next.index (omega (arith, t.requires.2.known, t.requires.1, t.if-next-day.true))

pub overflow_add-index : goal.overflow_add-index
overflow_add-index c = omega (arith, within c.before.before)

pub returns-then-next-day : goal.returns-then-next-day
returns-then-next-day c =
    after c.args.holidays.now c.requires.0 c.args.day.0 c.args.next _ c.requires.2 c.requires.1 c.if-next-day.true c.holiday_day.ensures

pub returns-else-next-day : goal.returns-else-next-day
returns-else-next-day c =
    kept c.args.holidays.now c.args.day.0 c.args.next c.requires.2 c.if-next-day.false
