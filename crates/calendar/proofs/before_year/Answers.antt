-- `calendar::before_year` meets its contract.
use Rattle.std.proofs.Common.{◌-◌, arith, rules, ◌∙◌}
use Rattle.std.specs.List.{range_with_len}
use Rattle.std.proofs.lemmas.Iterator.{YieldsList-from_range, YieldsList-from_map}
use Rattle.std.proofs.lemmas.Iterator.Consumers.{YieldsList-at, sum_by_from_yields_List, fits_by_from_yields_list}
use Rattle.laws.specs.Chains.{sum_range}
use Rattle.calendar.specs.Dates.{year_length, before_year}
use Rattle.calendar.specs.Lengths.{years_all}
use Rattle.calendar.proofs.before_year.Goals as goal

pub sum-requires-clause-fits : goal.sum-requires-clause-fits
unfolding before_year
sum-requires-clause-fits c =
    let n = c.args.year - 2000 in
    fits_by_from_yields_list year_length (range_with_len 2000 n) c.map.result _
    (YieldsList-from_map _ year_length (YieldsList-at c.map.ensures.source (YieldsList-from_range 2000 c.args.year n (cc) (cc))) c.map.ensures.closure (λ x r q k. search rules))
    (omega (arith, sum_range year_length 2000 n, years_all c.args.year (omega arith)))

pub returns : goal.returns
unfolding before_year
returns c =
    let n = c.args.year - 2000 in
    sum_by_from_yields_List year_length (range_with_len 2000 n) c.map.result c.sum.result c.sum.ensures.ran
    (YieldsList-from_map _ year_length (YieldsList-at c.map.ensures.source (YieldsList-from_range 2000 c.args.year n (cc) (cc))) c.map.ensures.closure (λ x r q k. search rules))
    ∙ sum_range year_length 2000 n
