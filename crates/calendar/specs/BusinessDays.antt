-- Document 01, 'Calendar': "Business days are Monday to Friday outside a list of at most 64 ascending holidays. Day 1 is the first at or after the opening date."
use Rattle.std.specs.Prelude.{ℕ, ◌+◌, ◌-◌, ◌*◌, ◌/◌, ◌%◌, ◌<◌, ◌≤◌, ◌≡◌, List, [], ◌∷◌, map, Bool, true, cond, not, ◌&&◌, ltb, eqb, length, get_or}
use Rattle.laws.specs.Lists.{range, filter, every, some}
use Rattle.laws.specs.Words.{word32_at}
use Rattle.calendar.specs.Dates.{valid, day_number, all_days}
use Rattle.calendar.specs.declared.Upcoming.{Upcoming}

-- the holidays, four bytes a date; bytes left over are a date that is cut short
abbrev pub date_at : List ℕ → ℕ → ℕ
date_at bytes i = word32_at bytes (4 * i)

unfoldable pub holidays : List ℕ → List ℕ
holidays bytes = map (date_at bytes) (range 0 (length bytes / 4))

abbrev pub cut_short : List ℕ → Bool
cut_short bytes = not (eqb (length bytes % 4) 0)

-- strictly ascending: each is above the one before it
unfoldable pub above : ℕ → List ℕ → Bool
above x [] = true
above x (y ∷ ys) = ltb x y && above y ys

unfoldable pub ascending : List ℕ → Bool
ascending [] = true
ascending (x ∷ xs) = above x xs

-- the day of the week, 0 for Monday to 6 for Sunday: calendar day 0, 2000-01-01, is a Saturday
abbrev pub weekday : ℕ → ℕ
weekday n = (n + 5) % 7

-- a calendar day from Monday to Friday that is no holiday
unfoldable pub business : List ℕ → ℕ → Bool
business holidays n = ltb (weekday n) 5 && not (some (λ h. eqb (day_number h) n) holidays)

-- the calendar days that are business days, from an opening day on to the end of 2099
unfoldable pub business_days : List ℕ → ℕ → List ℕ
business_days holidays opening = filter (business holidays) (range opening (all_days - opening))

-- day n; past the last of them it is the day after 2099
unfoldable pub business_day : List ℕ → ℕ → ℕ → ℕ
business_day holidays opening number = get_or (business_days holidays opening) (number - 1) all_days

-- the number of a business day: one more than the business days from the opening day on before it
unfoldable pub business_number : List ℕ → ℕ → ℕ → ℕ
business_number holidays opening day = length (filter (business holidays) (range opening (day - opening))) + 1

-- Of a walk along the holidays: the calendar day of the i-th, counted from 0, and past the last the day after 2099
unfoldable pub holiday_day : List ℕ → ℕ → ℕ
holiday_day bytes i = cond (ltb i (length bytes / 4)) (day_number (date_at bytes i)) all_days

-- holidays that pass refusals 27 and 28
pub record Ordered (bytes : List ℕ) : Type 0 where
  pub dates : every valid (holidays bytes) ≡ true
  pub rising : ascending (holidays bytes) ≡ true

-- the next holiday at or after a day: all before it are before the day
pub record Ahead (bytes : List ℕ) (day : ℕ) (next : Upcoming) : Type 0 where
  pub passed : (i : ℕ) → i < next.index → holiday_day bytes i < day
  pub ahead : day ≤ next.day.0
  pub known : next.day.0 ≡ holiday_day bytes next.index
