-- `calendar::all_valid` meets its contract.
use Rattle.std.proofs.Common.{ℕ, ◌/◌, arith, rules, tests, length, sym, ◌∙◌}
use Rattle.std.proofs.lemmas.Iterator.{YieldsList-from_range}
use Rattle.std.proofs.lemmas.Iterator.Search.{all_from_yields_List}
use Rattle.laws.specs.Lists.{range}
use Rattle.laws.specs.Ranges.{every_map}
use Rattle.laws.specs.Chains.{all_range}
use Rattle.calendar.specs.Dates.{valid}
use Rattle.calendar.specs.BusinessDays.{date_at, holidays}
use Rattle.calendar.proofs.all_valid.Goals as goal

pub returns : goal.returns
unfolding holidays
returns c =
    let bytes = c.args.holidays.now in
    let n : ℕ = length bytes / 4 in
    all_from_yields_List (λ i. valid (date_at bytes i)) _ _ c.all.result c.all.ensures.ran (YieldsList-from_range 0 n n (cc) (omega arith)) (λ x b q k. search (rules, tests))
    ∙ all_range (λ i. valid (date_at bytes i)) 0 n
    ∙ sym (every_map valid (date_at bytes) (range 0 n))
