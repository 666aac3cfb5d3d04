-- `register::stands_earlier` meets its contract.
use Rattle.std.proofs.Common.{arith, rules, tests, ◌∙◌}
use Rattle.std.proofs.lemmas.Iterator.{YieldsList-from_range}
use Rattle.std.proofs.lemmas.Iterator.Search.{any_from_yields_List}
use Rattle.laws.specs.Chains.{any_range}
use Rattle.laws.specs.Places.{same}
use Rattle.register.specs.Register.{isin_at, stands_earlier}
use Rattle.register.proofs.stands_earlier.Goals as goal

pub returns : goal.returns
unfolding stands_earlier
returns c =
    let bytes = c.args.bytes.now in
    let i = c.args.i in
    any_from_yields_List (λ j. same (isin_at bytes j) (isin_at bytes i)) _ _ c.any.result c.any.ensures.ran (YieldsList-from_range 0 i i (cc) (omega arith)) (λ x b q k. search (rules, tests)) ∙ any_range (λ j. same (isin_at bytes j) (isin_at bytes i)) 0 i
