use native.Mathlib.Omega.{arith}
use mathlib.Core.Path.{sym}
use Rattle.calendar.specs.Holidays.{day_past}
use Rattle.std.proofs.Common.{◌/◌, length}
use Rattle.calendar.proofs.next_holiday.Goals as goal

pub returns : goal.returns
returns c =
    record {
      passed = λ k l. c.loop-i.invariant k (omega arith);
      ahead = omega (arith, c.requires.1);
      known = sym (day_past c.args.holidays.now (length c.args.holidays.now / 4) (omega arith));
    }
