-- How long months and years are, and what a valid date says of its parts.
use Rattle.std.specs.Prelude.{ℕ, ◌+◌, ◌-◌, ◌≤◌, ◌<◌, ◌≡◌, refl, Bool, true, false, ◌&&◌, leb, eqb, get_or}
use Rattle.std.proofs.Common.{arith, ap, ◌∙◌, subst, leb-true, le-leb, eq-eqb, ne_eqb}
use Rattle.laws.specs.Lists.{only, range, sum}
use Rattle.laws.specs.Asked.{Said, passed, failed, ask, and_left, and_right, both, within, within_low, within_high}
use Rattle.laws.specs.Ranges.{sum_more, sum_longer, every_at}
use Rattle.calendar.specs.Dates.{months, leap, month_length, year_length, year_of, month_of, day_of, valid, before_year, before_month, day_number, all_days}

-- a month's length, by the table
module _ (year month : ℕ) where
  pub other_month : (month ≡ 2 → ⊥) → get_or months (month - 1) 0 ≡ month_length year month
  unfolding month_length
  other_month n = rw (ne_eqb month 2 n) (omega arith)

  pub long_february : month ≡ 2 → leap year ≡ true → get_or months (month - 1) 0 + 1 ≡ month_length year month
  unfolding month_length
  long_february e l = rw (eq-eqb month 2 e, l)

  pub short_february : month ≡ 2 → leap year ≡ false → get_or months (month - 1) 0 ≡ month_length year month
  unfolding month_length
  short_february e l = rw (eq-eqb month 2 e, l) (omega arith)

  pub february : month ≡ 2 → get_or months (month - 1) 0 ≡ 28
  february e = ap (λ (m : ℕ). get_or months (m - 1) 0) e

pub leap_year : (year : ℕ) → leap year ≡ true → 366 ≡ year_length year
unfolding year_length month_length
leap_year year e = rw e

pub common_year : (year : ℕ) → leap year ≡ false → 365 ≡ year_length year
unfolding year_length month_length
common_year year e = rw e

pub year_most : (year : ℕ) → year_length year ≤ 366
year_most year = by (ask (leap year))
  where
    by : Said (leap year) → year_length year ≤ 366
    by (passed e) = omega (arith, leap_year year e)
    by (failed e) = omega (arith, common_year year e)

only_most : (b : Bool) → only b 1 ≤ 1
only_most true = omega arith
only_most false = omega arith

pub month_most : (year month : ℕ) → 1 ≤ month → month ≤ 12 → month_length year month ≤ 32
unfolding month_length
month_most year month h l =
    let t : leb (get_or months (month - 1) 0) 31 ≡ true = every_at (λ m. leb (get_or months (m - 1) 0) 31) 1 12 month refl h (omega arith) in
    omega (arith, leb-true (get_or months (month - 1) 0) 31 t, only_most (eqb month 2 && leap year))

-- the days of 2000 to 2099
pub all_days_lem : sum year_length (range 2000 100) ≡ all_days
unfolding year_length month_length leap
all_days_lem = refl

pub year_more : (year : ℕ) → 2000 ≤ year → before_year (year + 1) ≡ before_year year + year_length year
unfolding before_year
year_more year h =
    ap (λ (k : ℕ). sum year_length (range 2000 k)) (let e : year + 1 - 2000 ≡ year - 2000 + 1 = omega arith in e)
    ∙ (sum_more year_length 2000 (year - 2000) ∙ ap (λ (y : ℕ). sum year_length (range 2000 (year - 2000)) + year_length y) (omega arith))

pub month_more : (year month : ℕ) → 1 ≤ month → before_month year (month + 1) ≡ before_month year month + month_length year month
unfolding before_month
month_more year month h =
    ap (λ (k : ℕ). sum (month_length year) (range 1 k)) (let e : month + 1 - 1 ≡ month - 1 + 1 = omega arith in e)
    ∙ (sum_more (month_length year) 1 (month - 1) ∙ ap (λ (m : ℕ). sum (month_length year) (range 1 (month - 1)) + month_length year m) (omega arith))

pub years_longer : (y z : ℕ) → y ≤ z → before_year y ≤ before_year z
unfolding before_year
years_longer y z h = sum_longer year_length 2000 (y - 2000) (z - 2000) (omega arith)

pub months_longer : (year m n : ℕ) → m ≤ n → before_month year m ≤ before_month year n
unfolding before_month
months_longer year m n h = sum_longer (month_length year) 1 (m - 1) (n - 1) (omega arith)

pub years_all : (year : ℕ) → year ≤ 2100 → before_year year ≤ all_days
unfolding before_year
years_all year h = subst (λ (n : ℕ). before_year year ≤ n) all_days_lem (years_longer year 2100 h)

pub months_all : (year month : ℕ) → month ≤ 13 → before_month year month ≤ year_length year
unfolding before_month year_length
months_all year month h = months_longer year month 13 h

-- the parts of a valid date
pub record Parts (year month day : ℕ) : Type 0 where
  pub year_from : 2000 ≤ year
  pub year_to : year ≤ 2099
  pub month_from : 1 ≤ month
  pub month_to : month ≤ 12
  pub day_from : 1 ≤ day
  pub day_to : day ≤ month_length year month

pub parts : (date : ℕ) → valid date ≡ true → Parts (year_of date) (month_of date) (day_of date)
unfolding valid
parts date e =
    let ty = within 2000 2099 (year_of date) in
    let tm = within 1 12 (month_of date) in
    let td = within 1 (month_length (year_of date) (month_of date)) (day_of date) in
    let y = and_left ty (tm && td) e in
    let f = and_right ty (tm && td) e in
    let m = and_left tm td f in
    let d = and_right tm td f in
    record { year_from = within_low _ _ _ y; year_to = within_high _ _ _ y; month_from = within_low _ _ _ m; month_to = within_high _ _ _ m; day_from = within_low _ _ _ d; day_to = within_high _ _ _ d }

pub whole : (date : ℕ) → Parts (year_of date) (month_of date) (day_of date) → valid date ≡ true
unfolding valid within
whole date p =
    both _ _ (both _ _ (le-leb _ _ p.year_from) (le-leb _ _ p.year_to))
    (both _ _ (both _ _ (le-leb _ _ p.month_from) (le-leb _ _ p.month_to)) (both _ _ (le-leb _ _ p.day_from) (le-leb _ _ p.day_to)))

-- where year and month are right, the day decides
pub by_day : (date long : ℕ) → 2000 ≤ year_of date → year_of date ≤ 2099 → 1 ≤ month_of date → month_of date ≤ 12 → 1 ≤ day_of date → long ≡ month_length (year_of date) (month_of date) → leb (day_of date) long ≡ valid date
unfolding valid within
by_day date long a b c d e l =
    rw (le-leb 2000 (year_of date) a, le-leb (year_of date) 2099 b, le-leb 1 (month_of date) c, le-leb (month_of date) 12 d, le-leb 1 (day_of date) e)
    (ap (leb (day_of date)) l)

-- a day stands within its month, its month within its year, its year within 2000 to 2099
module _ (year month day : ℕ) (p : Parts year month day) where
  pub in_month : before_month year month + (day - 1) < before_month year (month + 1)
  in_month = omega (arith, month_more year month p.month_from, p.day_from, p.day_to)

  pub in_year : before_month year month + (day - 1) < year_length year
  in_year = omega (arith, in_month, months_all year (month + 1) (omega (arith, p.month_to)))

  pub in_years : before_year year + before_month year month + (day - 1) < before_year (year + 1)
  in_years = omega (arith, in_year, year_more year p.year_from)

  pub in_all : before_year year + before_month year month + (day - 1) < all_days
  in_all = omega (arith, in_years, years_all (year + 1) (omega (arith, p.year_to)))

pub day_below : (date : ℕ) → valid date ≡ true → day_number date < all_days
unfolding day_number
day_below date e = in_all (year_of date) (month_of date) (day_of date) (parts date e)

pub no_years : before_year 2000 ≡ 0
unfolding before_year
no_years = refl

pub no_months : (year : ℕ) → before_month year 1 ≡ 0
unfolding before_month
no_months year = refl
