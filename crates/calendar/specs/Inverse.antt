-- Dates and calendar days: each is the other's inverse, and a later date is a later day.
use Rattle.std.specs.Prelude.{ℕ, ◌+◌, ◌-◌, ◌*◌, ◌≤◌, ◌<◌, ◌≡◌, true, ◌⊎◌}
use Rattle.std.proofs.Common.{arith, eq-or-lt_of_le, ap, sym, ◌∙◌, subst, ⊎_elim}
use Rattle.calendar.specs.Dates.{month_length, year_length, year_of, month_of, day_of, valid, before_year, before_month, day_number, year_place, month_place, date_of, all_days}
use Rattle.calendar.specs.Lengths.{Parts, parts, whole, in_year, in_month, in_years, all_days_lem, month_most, years_longer, months_longer}
use Rattle.calendar.specs.Periods.{Falls, falls, exact}
use Rattle.calendar.specs.declared.Place.{Place}

-- the date that three parts make has those parts
module _ (y m d : ℕ) (hm : m ≤ 12) (hd : d < 100) where
  year_part : year_of (10000 * y + 100 * m + d) ≡ y
  year_part = omega arith

  month_part : month_of (10000 * y + 100 * m + d) ≡ m
  month_part = omega arith

  day_part : day_of (10000 * y + 100 * m + d) ≡ d
  day_part = omega arith

  number_of_parts : day_number (10000 * y + 100 * m + d) ≡ before_year y + before_month y m + (d - 1)
  unfolding day_number
  number_of_parts = cc (year_part, month_part, day_part)

  valid_of_parts : Parts y m d → valid (10000 * y + 100 * m + d) ≡ true
  valid_of_parts p = whole (10000 * y + 100 * m + d) (rw (year_part, month_part, day_part) p)

-- the parts of the date of a calendar day
module _ (n : ℕ) (h : n < all_days) where
  year_falls : Falls year_length 99 2000 n (year_place n)
  year_falls = falls year_length 99 2000 n

  month_falls : Falls (month_length (year_place n).period) 11 1 (year_place n).left (month_place (year_place n).period (year_place n).left)
  month_falls = falls (month_length (year_place n).period) 11 1 (year_place n).left

  pub place_parts : (y : Place) → Falls year_length 99 2000 n y → (m : Place) → Falls (month_length y.period) 11 1 y.left m → Parts y.period m.period (m.left + 1)
  unfolding year_length
  place_parts y fy m fm =
      let l : y.left < year_length y.period = fy.inside (subst (λ (k : ℕ). n < k) (sym all_days_lem) h) in
      record {
        year_from = fy.from;
        year_to = omega (arith, fy.to);
        month_from = fm.from;
        month_to = omega (arith, fm.to);
        day_from = omega arith;
        day_to = omega (arith, fm.inside l);
      }

  place_days : (y : Place) → Falls year_length 99 2000 n y → (m : Place) → Falls (month_length y.period) 11 1 y.left m → before_year y.period + before_month y.period m.period + (m.left + 1 - 1) ≡ n
  unfolding before_year before_month
  place_days y fy m fm = omega (arith, fy.days, fm.days)

  short : (y m d : ℕ) → Parts y m d → d < 100
  short y m d p = omega (arith, p.day_to, month_most y m p.month_from p.month_to)

  pub number_of_date : day_number (date_of n) ≡ n
  unfolding date_of
  number_of_date =
      let p = place_parts (year_place n) year_falls _ month_falls in
      number_of_parts _ _ _ p.month_to (short _ _ _ p) ∙ place_days (year_place n) year_falls _ month_falls

  pub valid_date : valid (date_of n) ≡ true
  unfolding date_of
  valid_date =
      let p = place_parts (year_place n) year_falls _ month_falls in
      valid_of_parts _ _ _ p.month_to (short _ _ _ p) p

-- the other way round
joined : (date : ℕ) → 1 ≤ day_of date → 10000 * year_of date + 100 * month_of date + (day_of date - 1 + 1) ≡ date
joined date h = omega arith

year_placed : (year month day : ℕ) → Parts year month day → year_place (before_year year + before_month year month + (day - 1)) ≡ record { period = year; left = before_month year month + (day - 1) }
unfolding before_year
year_placed year month day p =
    ap year_place (let e : before_year year + before_month year month + (day - 1) ≡ before_year year + (before_month year month + (day - 1)) = omega arith in e)
    ∙ exact year_length 99 2000 year (before_month year month + (day - 1)) p.year_from (omega (arith, p.year_to)) (in_year year month day p)

month_placed : (year month day : ℕ) → Parts year month day → month_place year (before_month year month + (day - 1)) ≡ record { period = month; left = day - 1 }
unfolding before_month
month_placed year month day p =
    exact (month_length year) 11 1 month (day - 1) p.month_from (omega (arith, p.month_to)) (omega (arith, p.day_from, p.day_to))

pub date_of_number : (date : ℕ) → valid date ≡ true → date_of (day_number date) ≡ date
unfolding date_of day_number
date_of_number date e =
    let p = parts date e in
    rw (year_placed (year_of date) (month_of date) (day_of date) p, month_placed (year_of date) (month_of date) (day_of date) p) (joined date p.day_from)

-- a later date is a later day: by its year, by its month or by its day
abbrev number : ℕ → ℕ → ℕ → ℕ
number year month day = before_year year + before_month year month + (day - 1)

later_year : (y m d z n e : ℕ) → Parts y m d → y < z → number y m d < number z n e
later_year y m d z n e p h = omega (arith, in_years y m d p, years_longer (y + 1) z (omega arith))

later_month : (y m d n e : ℕ) → Parts y m d → m < n → number y m d < number y n e
later_month y m d n e p h = omega (arith, in_month y m d p, months_longer y (m + 1) n (omega arith))

later_parts : (y m d z n e : ℕ) → Parts y m d → 1 ≤ e → (y ≡ z) ⊎ (y < z) → (y ≡ z → (m ≡ n) ⊎ (m < n)) → (y ≡ z → m ≡ n → d < e) → number y m d < number z n e
later_parts y m d z n e p h years months days =
    ⊎_elim
    (λ q. subst (λ (k : ℕ). number y m d < number k n e) q
    (⊎_elim (λ r. subst (λ (k : ℕ). number y m d < number y k e) r (let lt = days q r in omega (arith, p.day_from))) (later_month y m d n e p) (months q)))
    (later_year y m d z n e p)
    years

pub later_day : (d e : ℕ) → valid d ≡ true → valid e ≡ true → d < e → day_number d < day_number e
unfolding day_number
later_day d e vd ve h =
    let q = parts e ve in
    later_parts (year_of d) (month_of d) (day_of d) (year_of e) (month_of e) (day_of e) (parts d vd) q.day_from
    (eq-or-lt_of_le (omega arith)) (λ y. eq-or-lt_of_le (omega arith)) (λ y m. omega arith)
