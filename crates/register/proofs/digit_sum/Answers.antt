-- `register::digit_sum` meets its contract.
use Rattle.register.specs.Isin.{digit_sum}
use Rattle.register.proofs.digit_sum.Goals as goal

pub returns-then-doubled : goal.returns-then-doubled
unfolding digit_sum
returns-then-doubled c = simp c.if-doubled.true

pub returns : goal.returns
unfolding digit_sum
returns c = simp c.if-doubled.false
