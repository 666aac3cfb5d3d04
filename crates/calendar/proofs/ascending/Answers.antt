-- `calendar::ascending` meets its contract.
use Rattle.std.proofs.Common.{ℕ, ◌-◌, ◌/◌, ltb, rules, tests, length, ◌∙◌}
use Rattle.std.proofs.lemmas.Iterator.{YieldsList-from_range}
use Rattle.std.proofs.lemmas.Iterator.Search.{all_from_yields_List}
use Rattle.laws.specs.Chains.{all_range}
use Rattle.calendar.specs.BusinessDays.{date_at, holidays}
use Rattle.calendar.proofs.Rising.{ascends}
use Rattle.calendar.proofs.ascending.Goals as goal

pub returns : goal.returns
unfolding holidays
returns c =
    let bytes = c.args.holidays.now in
    let n : ℕ = length bytes / 4 in
    all_from_yields_List (λ i. ltb (date_at bytes (i - 1)) (date_at bytes i)) _ _ c.all.result c.all.ensures.ran (YieldsList-from_range 1 n (n - 1) (cc) (cc)) (λ x b q k. search (rules, tests))
    ∙ all_range (λ i. ltb (date_at bytes (i - 1)) (date_at bytes i)) 1 (n - 1)
    ∙ ascends (date_at bytes) n
