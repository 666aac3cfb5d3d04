-- What the calendar answers, and why it turns a question down (document 01, 'Why a call is turned down', 27 to 30).
use Rattle.std.specs.Prelude.{ℕ, List, [], ◌∷◌, ◌++◌, Result, Ok, Err, not, ltb, length}
use Rattle.laws.specs.Limits.{LAST_DAY}
use Rattle.laws.specs.Lists.{every}
use Rattle.laws.specs.Asked.{within}
use Rattle.laws.specs.Refusals.{Reason, ◌⇒◌, first}
use Rattle.laws.specs.Answers.{answer, number_in}
use Rattle.laws.specs.declared.Refusal.{Refusal}
use Rattle.laws.specs.declared.BusinessDay.{BusinessDay}
use Rattle.calendar.specs.Dates.{valid, day_number, date_of}
use Rattle.calendar.specs.BusinessDays.{holidays, cut_short, ascending, business, business_days, business_day, business_number}

-- the paper's number for an answer, 0 where it is no refusal, and the value answered
abbrev pub date_refusal : Result ℕ Refusal → ℕ
date_refusal a = number_in a

abbrev pub date_value : Result ℕ Refusal → ℕ
date_value (Ok d) = d
date_value (Err r) = 0

abbrev pub day_refusal : Result BusinessDay Refusal → ℕ
day_refusal a = number_in a

abbrev pub day_value : Result BusinessDay Refusal → ℕ
day_value (Ok d) = d.0
day_value (Err r) = 0

-- the day with a number
abbrev pub day_numbered : ℕ → BusinessDay
day_numbered n = record { 0 = n }

-- "27. A date (opening, asked for, or a holiday) is invalid or outside 2000 to 2099."
-- "28. The holidays are too many or not strictly ascending."
abbrev pub invalid : ℕ → Reason
invalid date = not (valid date) ⇒ 27

abbrev pub holiday_reasons : List ℕ → List Reason
holiday_reasons bytes =
    (cut_short bytes ⇒ 27)
    ∷ (not (every valid (holidays bytes)) ⇒ 27)
    ∷ (ltb 64 (length (holidays bytes)) ⇒ 28)
    ∷ (not (ascending (holidays bytes)) ⇒ 28)
    ∷ []

-- "29. The date is no business day from day 1 to 9,999, or the number is outside that range."
-- "30. The day falls after 2099."
abbrev pub number_reasons : ℕ → List ℕ → ℕ → List Reason
number_reasons opening hs number =
    (not (within 1 LAST_DAY number) ⇒ 29)
    ∷ (ltb (length (business_days hs (day_number opening))) number ⇒ 30)
    ∷ []

abbrev pub date_reasons : ℕ → List ℕ → ℕ → List Reason
date_reasons opening hs date =
    (ltb (day_number date) (day_number opening) ⇒ 29)
    ∷ (not (business hs (day_number date)) ⇒ 29)
    ∷ (ltb LAST_DAY (business_number hs (day_number opening) (day_number date)) ⇒ 29)
    ∷ []

unfoldable pub day_to_date_refusal : ℕ → List ℕ → ℕ → ℕ
day_to_date_refusal opening bytes number =
    first (invalid opening ∷ (holiday_reasons bytes ++ number_reasons opening (holidays bytes) number))

unfoldable pub date_to_day_refusal : ℕ → List ℕ → ℕ → ℕ
date_to_day_refusal opening bytes date =
    first (invalid opening ∷ invalid date ∷ (holiday_reasons bytes ++ date_reasons opening (holidays bytes) date))

-- "Day to date and date to day are both given."
unfoldable pub day_to_date : ℕ → List ℕ → ℕ → Result ℕ Refusal
day_to_date opening bytes number =
    answer (day_to_date_refusal opening bytes number) (date_of (business_day (holidays bytes) (day_number opening) number))

unfoldable pub date_to_day : ℕ → List ℕ → ℕ → Result BusinessDay Refusal
date_to_day opening bytes date =
    answer (date_to_day_refusal opening bytes date) (day_numbered (business_number (holidays bytes) (day_number opening) (day_number date)))
