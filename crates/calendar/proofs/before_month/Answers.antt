-- `calendar::before_month` meets its contract.
use Rattle.std.proofs.Common.{◌-◌, arith, rules, ◌∙◌}
use Rattle.std.specs.List.{range_with_len}
use Rattle.std.proofs.lemmas.Iterator.{YieldsList-from_range, YieldsList-from_map}
use Rattle.std.proofs.lemmas.Iterator.Consumers.{YieldsList-at, sum_by_from_yields_List, fits_by_from_yields_list}
use Rattle.laws.specs.Chains.{sum_range}
use Rattle.calendar.specs.Dates.{month_length, before_month}
use Rattle.calendar.specs.Lengths.{months_all, year_most}
use Rattle.calendar.proofs.before_month.Goals as goal

pub sum-requires-clause-fits : goal.sum-requires-clause-fits
unfolding before_month
sum-requires-clause-fits c =
    let year = c.args.year in
    let n = c.args.month - 1 in
    fits_by_from_yields_list (month_length year) (range_with_len 1 n) c.map.result _
    (YieldsList-from_map _ (month_length year) (YieldsList-at c.map.ensures.source (YieldsList-from_range 1 c.args.month n (cc) (cc))) c.map.ensures.closure (λ x r q k. search rules))
    (omega (arith, sum_range (month_length year) 1 n, months_all year c.args.month (omega arith), year_most year))

pub returns : goal.returns
unfolding before_month
returns c =
    let year = c.args.year in
    let n = c.args.month - 1 in
    sum_by_from_yields_List (month_length year) (range_with_len 1 n) c.map.result c.sum.result c.sum.ensures.ran
    (YieldsList-from_map _ (month_length year) (YieldsList-at c.map.ensures.source (YieldsList-from_range 1 c.args.month n (cc) (cc))) c.map.ensures.closure (λ x r q k. search rules))
    ∙ sum_range (month_length year) 1 n
