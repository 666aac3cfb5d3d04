-- Dates worked out, by the definitions: value and value expected, a row each, and all rows hold.
use Rattle.std.specs.Prelude.{ℕ, ◌≡◌, refl, List, [], ◌∷◌, Ok, true, eqb}
use Rattle.laws.specs.Lists.{every}
use Rattle.laws.specs.Asked.{within}
use Rattle.laws.specs.Words.{bytes32}
use Rattle.calendar.specs.Dates.{leap, month_length, year_length, valid, before_year, before_month, day_number, placed, date_of}
use Rattle.calendar.specs.BusinessDays.{holidays, above, ascending, weekday, business, business_number}
use Rattle.calendar.specs.Answers.{day_refusal, day_value, day_to_date, date_to_day_refusal, date_to_day}
use Rattle.calendar.specs.Theorems.{date_again}

-- a row of numbers: `plain`'s worked table has rows of any type, and `calendar` stands below it
pub record Row : Type 0 where
  pub worked : ℕ
  pub expected : ℕ

infix 30 ◌is◌
abbrev pub ◌is◌ : ℕ → ℕ → Row
w is e = record { worked = w; expected = e }

unfoldable pub rows : List Row
rows =
    (day_number 20000101 is 0)
    ∷ (day_number 20000301 is 60)
    ∷ (day_number 20991231 is 36524)
    ∷ (date_of 59 is 20000229)
    ∷ (date_of 36524 is 20991231)
    ∷ (weekday (day_number 20000101) is 5)
    ∷ (weekday (day_number 20260131) is 5)
    ∷ (day_value (date_to_day 20000101 [] 20000107) is 5)
    ∷ (day_value (date_to_day 20000101 [] 20000110) is 6)
    ∷ (day_value (date_to_day 20000101 (bytes32 20000107) 20000110) is 5)
    ∷ (day_refusal (date_to_day 20000101 [] 20010229) is 27)
    ∷ (day_refusal (date_to_day 20000101 (1 ∷ []) 20000110) is 27)
    ∷ (day_refusal (date_to_day 20000101 [] 20000108) is 29)
    ∷ []

pub all_rows : every (λ r. eqb r.worked r.expected) rows ≡ true
unfolding rows leap month_length year_length within valid before_year before_month day_number placed date_of holidays above ascending business business_number date_to_day_refusal date_to_day
all_rows = refl

-- "Opening 2000-01-01, no holidays: day 5 is 7 January, day 6 is 10 January."
pub first_days : (day_to_date 20000101 [] 5 ≡ Ok 20000107) × (day_to_date 20000101 [] 6 ≡ Ok 20000110)
unfolding leap month_length year_length within valid before_year before_month day_number holidays above ascending business business_number date_to_day_refusal date_to_day
first_days = (date_again 20000101 [] 20000107 5 refl, date_again 20000101 [] 20000110 6 refl)
