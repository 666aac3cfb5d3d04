-- `calls::opening::new_core` meets its contract.
use mathlib.Core.Path.{refl}
use borrow.Author.Rules.{rules}
use Rattle.calls.proofs.Fresh.{opened}
use Rattle.calls.proofs.opening.new_core.Goals as goal

pub returns : goal.returns
returns c =
    λ numbers blank.
    opened _
    (record {
      day = refl;
      prices = c.no_prices.ensures;
      auction = c.no_auction.ensures;
      marks = c.no_marks.ensures;
      late = refl;
      uses = (refl, refl, refl, refl);
    })
    numbers blank
