-- `calendar::valid` meets its contract.
use Prim.Native.Nat.{ℕ, ◌≤◌, ◌<◌}
use native.Mathlib.Omega.{arith}
use mathlib.Core.Path.{◌≡◌, sym, ◌∙◌}
use mathlib.Core.Bool.{Bool, true, false}
use mathlib.Core.Logic.{◌⊎◌, inl, inr}
use borrow.Author.Tests.{le-leb, lt-leb}
use Rattle.std.specs.Prelude.{MatchBool}
use Rattle.std.proofs.Common.{rules}
use Rattle.laws.specs.Asked.{within}
use Rattle.calendar.specs.Dates.{valid, year_of, month_of, day_of, month_length}
use Rattle.calendar.specs.Lengths.{by_day}
use Rattle.calendar.proofs.valid.Goals as goal

-- where year and month are right, whether the day is in the month is the answer
in_month : (date long : ℕ) (r : Bool) → 2000 ≤ year_of date → year_of date ≤ 2099 → 1 ≤ month_of date → month_of date ≤ 12 → long ≡ month_length (year_of date) (month_of date)
    → MatchBool r ((1 ≤ day_of date) × (day_of date ≤ long)) ((day_of date < 1) ⊎ (long < day_of date)) → r ≡ valid date
unfolding valid within
in_month date long true a b c d l h = sym (le-leb (day_of date) long h.1) ∙ by_day date long a b c d h.0 l
in_month date long false a b c d l (inl h) =
    sym (rw (le-leb 2000 (year_of date) a, le-leb (year_of date) 2099 b, le-leb 1 (month_of date) c, le-leb (month_of date) 12 d, lt-leb 1 (day_of date) h))
in_month date long false a b c d l (inr h) = sym (lt-leb (day_of date) long h) ∙ by_day date long a b c d (omega (arith, h)) l

pub returns-then-contains-2 : goal.returns-then-contains-2
returns-then-contains-2 c =
    in_month c.args.date _ _ (search rules) (search rules) (search rules) (search rules) c.month_length.ensures (search rules)

pub returns-else-contains-2 : goal.returns-else-contains-2
unfolding valid within
returns-else-contains-2 c = search rules
