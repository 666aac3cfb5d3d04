-- `register::are_capitals` meets its contract.
use Rattle.std.proofs.Common.{rules, tests, ◌∙◌}
use Rattle.std.proofs.lemmas.Iterator.{YieldsList-from_slice}
use Rattle.std.proofs.lemmas.Iterator.Search.{all_from_yields_List}
use Rattle.laws.specs.Chains.{all_every}
use Rattle.register.specs.Isin.{is_capital}
use Rattle.register.proofs.are_capitals.Goals as goal

pub returns : goal.returns
returns c =
    all_from_yields_List is_capital _ _ c.all.result c.all.ensures.ran (YieldsList-from_slice c.args.text.now cc) (λ x b q k. search (rules, tests)) ∙ all_every is_capital c.args.text.now
