-- Document 01, 'Calendar': "Gregorian dates 2000-01-01 (a Saturday) to 2099-12-31". A date is one number, yyyymmdd.
use Rattle.std.specs.Prelude.{ℕ, zero, suc, ◌+◌, ◌-◌, ◌*◌, ◌/◌, ◌%◌, List, [], ◌∷◌, Bool, cond, not, ◌&&◌, ◌||◌, ltb, eqb, get_or}
use Rattle.laws.specs.Lists.{only, range, sum}
use Rattle.laws.specs.Asked.{within}
use Rattle.calendar.specs.declared.Place.{Place}

-- "months have 31, 28 or 29, 31, 30, 31, 30, 31, 31, 30, 31, 30, 31 days"
abbrev pub months : List ℕ
months = 31 ∷ 28 ∷ 31 ∷ 30 ∷ 31 ∷ 30 ∷ 31 ∷ 31 ∷ 30 ∷ 31 ∷ 30 ∷ 31 ∷ []

-- the Gregorian rule: every fourth year, and of the full centuries every fourth
unfoldable pub leap : ℕ → Bool
leap year = eqb (year % 4) 0 && (not (eqb (year % 100) 0) || eqb (year % 400) 0)

-- the days of a month of a year; months are counted from 1
unfoldable pub month_length : ℕ → ℕ → ℕ
month_length year month = get_or months (month - 1) 0 + only (eqb month 2 && leap year) 1

-- the days of a year
unfoldable pub year_length : ℕ → ℕ
year_length year = sum (month_length year) (range 1 12)

-- the parts of a date yyyymmdd
abbrev pub year_of : ℕ → ℕ
year_of date = date / 10000

abbrev pub month_of : ℕ → ℕ
month_of date = date / 100 % 100

abbrev pub day_of : ℕ → ℕ
day_of date = date % 100

-- a date of 2000 to 2099
unfoldable pub valid : ℕ → Bool
valid date =
    within 2000 2099 (year_of date) && (within 1 12 (month_of date) && within 1 (month_length (year_of date) (month_of date)) (day_of date))

-- the days of the years from 2000 on before a year, and of the months before a month of a year
unfoldable pub before_year : ℕ → ℕ
before_year year = sum year_length (range 2000 (year - 2000))

unfoldable pub before_month : ℕ → ℕ → ℕ
before_month year month = sum (month_length year) (range 1 (month - 1))

-- the calendar day of a date, counted from 2000-01-01, which is 0: the days of the years before, of the months before, and of the month
unfoldable pub day_number : ℕ → ℕ
day_number date = before_year (year_of date) + before_month (year_of date) (month_of date) + (day_of date - 1)

-- the calendar days of 2000 to 2099
abbrev pub all_days : ℕ
all_days = 36525

-- Periods follow one another, from p on, the period q being `long q` days long. Where day n falls, counted from the first day of p:
-- the days of each period that has passed are taken away; no more than k periods pass.
unfoldable pub placed : (ℕ → ℕ) → ℕ → ℕ → ℕ → Place
placed long zero p n = record { period = p; left = n }
placed long (suc k) p n =
    cond (ltb n (long p)) (record { period = p; left = n }) (placed long k (suc p) (n - long p))

-- the year of a calendar day, and the month of a day of a year, with what is left of the days
abbrev pub year_place : ℕ → Place
year_place n = placed year_length 99 2000 n

abbrev pub month_place : ℕ → ℕ → Place
month_place year n = placed (month_length year) 11 1 n

abbrev pub dated : ℕ → Place → ℕ
dated year month = 10000 * year + 100 * month.period + (month.left + 1)

-- the date of a calendar day
unfoldable pub date_of : ℕ → ℕ
date_of n = dated (year_place n).period (month_place (year_place n).period (year_place n).left)
