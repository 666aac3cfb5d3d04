-- `calls::opening::new_numbers` meets its contract.
use mathlib.Core.Path.{refl}
use Rattle.calls.specs.Opening.{no_numbers}
use Rattle.calls.proofs.opening.new_numbers.Goals as goal

pub returns-clause-zeros : goal.returns-clause-zeros
unfolding no_numbers
returns-clause-zeros c = refl
