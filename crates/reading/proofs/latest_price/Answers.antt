-- `reading::latest_price` meets its contract.
use native.Mathlib.Omega.{arith}
use Rattle.laws.specs.Asked.{Within, fails, passes, within_low, within_high}
use Rattle.kept.specs.View.{view}
use Rattle.reading.proofs.latest_price.Goals as goal
use Rattle.reading.proofs.latest_price.Goals.{Else-not-is_within}

pub returns-then-not-is_within : goal.returns-then-not-is_within
unfolding view
returns-then-not-is_within c = λ a. rw (fails c.if-not-is_within.true-raw c.is_within.ensures)

-- a security that is registered has its place among the prices
placed : (c : Else-not-is_within) → Within 1 32 c.args.security
placed c =
    let e = passes c.if-not-is_within.false-raw c.is_within.ensures in
    record { above = within_low _ _ _ e; below = omega (arith, within_high _ _ _ e, c.requires.1.valid.fits.register.high) }

pub latest_of-requires : goal.latest_of-requires
unfolding view
latest_of-requires c =
    (c.requires.1.valid.sound.standing.prices.many, placed c.before)

pub returns : goal.returns
unfolding view
returns c =
    λ a. rw (passes c.if-not-is_within.false-raw c.is_within.ensures, c.latest_of.ensures)
