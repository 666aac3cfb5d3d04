use Rattle.std.proofs.Common.{ℕ, ◌+◌, ◌-◌, ◌≡◌, arith, refl, ap, ◌∙◌}
use Rattle.calendar.specs.Dates.{placed}
use Rattle.calendar.specs.Periods.{sought_here, sought_later, sought_last}
use Rattle.calendar.proofs.place_of.Goals as goal

pub loop-period-init : goal.loop-period-init
loop-period-init g c long k = refl

pub returns-then-left-days : goal.returns-then-left-days
returns-then-left-days g c long k =
    let l = c.loop-period in
    let days = k l.period c.length-days.result (omega arith) (omega arith) c.length-days.ensures in
    sought_here long c.args.last l.period l.left (omega arith) (omega (arith, days)) ∙ l.invariant long k

pub loop-period-preserved : goal.loop-period-preserved
loop-period-preserved g c long k =
    let l = c.loop-period in
    let days = k l.period c.length-days.result (omega arith) (omega arith) c.length-days.ensures in
    ap (λ (n : ℕ). placed long (c.args.last - (l.period + 1)) (l.period + 1) (l.left - n)) days
    ∙ sought_later long c.args.last l.period l.left (omega arith) (omega (arith, days))
    ∙ l.invariant long k

pub returns : goal.returns
returns g c long k =
    let l = c.loop-period in
    let e : c.args.last ≡ l.period = omega arith in
    rw e (sought_last long l.period l.period l.left (omega arith)) ∙ l.invariant long k
