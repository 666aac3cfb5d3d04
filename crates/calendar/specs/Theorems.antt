-- What holds of the two answers together: each is the other's inverse, day 1 is the first business day at or after the opening, and day n + 1 is the next business day after day n.
use Rattle.std.specs.Prelude.{ℕ, suc, ◌+◌, ◌-◌, ◌≤◌, ◌<◌, ◌≡◌, refl, List, ◌∷◌, ◌++◌, Ok, true, false}
use Rattle.std.proofs.Common.{arith, lt_of_not-le, eq-or-lt_of_le, ◌∙◌, ⊎_elim}
use Rattle.std.proofs.Math.Path.{ap, sym, subst}
use Rattle.std.proofs.Math.ListN.{get_or}
use Rattle.laws.specs.Answers.{answer_number, first_listed}
use Rattle.laws.specs.Ranges.{Listed, listed, found, found_below, count, next_above, none_between, none_before}
use Rattle.calendar.specs.Dates.{valid, day_number, date_of, all_days}
use Rattle.calendar.specs.BusinessDays.{holidays, business, business_days, business_day, business_number}
use Rattle.calendar.specs.Answers.{date_refusal, date_value, day_refusal, day_value, day_numbered, invalid, holiday_reasons, number_reasons, date_reasons, day_to_date_refusal, date_to_day_refusal, day_to_date, date_to_day}
use Rattle.calendar.specs.Lengths.{day_below}
use Rattle.calendar.specs.Inverse.{number_of_date, valid_date, date_of_number, later_day}
use Rattle.calendar.specs.Decided.{Dated, dated, date_is, numbered, day_is}

module _ (opening : ℕ) (bytes : List ℕ) where
  -- among the business days from the opening day on, x is the one at place i, counted from 0
  abbrev Placed : ℕ → ℕ → Type 0
  Placed i x = Listed (business (holidays bytes)) (day_number opening) (all_days - day_number opening) i x

  -- the date of day n: it is valid, and its calendar day is at place n - 1
  pub record At (n d : ℕ) : Type 0 where
    pub right : valid d ≡ true
    pub place : Placed (n - 1) (day_number d)

  at : (n d : ℕ) → Dated opening bytes n d → At n d
  unfolding business_day business_days
  at n d a =
      let o = day_below opening a.opened in
      let x = business_day (holidays bytes) (day_number opening) n in
      let l : Placed (n - 1) x = listed (business (holidays bytes)) (day_number opening) (all_days - day_number opening) (n - 1) all_days (omega (arith, a.there, a.from)) in
      let b : x < all_days = omega (arith, l.below) in
      record {
        right = subst (λ (k : ℕ). valid k ≡ true) a.value (valid_date x b);
        place = subst (Placed (n - 1)) (sym (number_of_date x b) ∙ ap day_number a.value) l;
      }

  -- day to date, then date to day
  pub number_again : (n d : ℕ) → day_to_date opening bytes n ≡ Ok d → date_to_day opening bytes d ≡ Ok (day_numbered n)
  unfolding business_number
  number_again n d e =
      let a = dated opening bytes n d e in
      let p = at n d a in
      let m : business_number (holidays bytes) (day_number opening) (day_number d) ≡ n = omega (arith, p.place.place, a.from) in
      sym (day_is opening bytes d a.opened p.right a.listed p.place.from p.place.passes (omega (arith, m, a.to)))
      ∙ ap (λ (k : ℕ). Ok (day_numbered k)) m

  -- date to day, then day to date
  pub date_again : (d n : ℕ) → date_to_day opening bytes d ≡ Ok (day_numbered n) → day_to_date opening bytes n ≡ Ok d
  unfolding business_number business_day business_days
  date_again d n e =
      let a = numbered opening bytes d n e in
      let b = business (holidays bytes) in
      let o = day_number opening in
      let u : day_number d < o + (all_days - o) = omega (arith, day_below d a.valid_date, day_below opening a.opened) in
      let m : n - 1 ≡ count b o (day_number d - o) = omega (arith, a.value) in
      let x : business_day (holidays bytes) o n ≡ day_number d =
      ap (λ (k : ℕ). get_or (business_days (holidays bytes) o) k all_days) m ∙ found b o (all_days - o) (day_number d) all_days a.open_day a.from u
      in
      sym (date_is opening bytes n a.opened a.listed (omega (arith, a.value)) (omega (arith, a.value, a.to)) (omega (arith, m, a.value, found_below b o (all_days - o) (day_number d) a.open_day a.from u)))
      ∙ ap Ok (ap date_of x ∙ date_of_number d a.valid_date)

  -- of two valid dates the one with the earlier day is the earlier date
  earlier : (d e : ℕ) → valid d ≡ true → valid e ≡ true → day_number d < day_number e → d < e
  earlier d e v w h =
      lt_of_not-le (λ le. ⊎_elim (λ q. omega (arith, ap day_number q)) (λ lt. omega (arith, later_day e d w v lt)) (eq-or-lt_of_le le))

  not_later : (d e : ℕ) → valid d ≡ true → valid e ≡ true → day_number d ≤ day_number e → d ≤ e
  not_later d e v w h =
      let f : d < suc e = lt_of_not-le (λ lt. omega (arith, later_day e d w v lt)) in
      omega arith

  not_later_day : (d e : ℕ) → valid d ≡ true → valid e ≡ true → d ≤ e → day_number d ≤ day_number e
  not_later_day d e v w h =
      ⊎_elim (λ q. omega (arith, ap day_number q)) (λ lt. omega (arith, later_day d e v w lt)) (eq-or-lt_of_le h)

  -- e is the next business day after d: it is one, it is later, and none is between them
  pub record Next (d e : ℕ) : Type 0 where
    pub later : d < e
    pub open_day : business (holidays bytes) (day_number e) ≡ true
    pub none : (x : ℕ) → valid x ≡ true → d < x → x < e → business (holidays bytes) (day_number x) ≡ false

  pub next_day : (n d e : ℕ) → day_to_date opening bytes n ≡ Ok d → day_to_date opening bytes (n + 1) ≡ Ok e → Next d e
  next_day n d e f g =
      let a = dated opening bytes n d f in
      let p = at n d a in
      let q = at (n + 1) e (dated opening bytes (n + 1) e g) in
      let b = business (holidays bytes) in
      let o = day_number opening in
      let k : Placed (n - 1 + 1) (day_number e) = subst (λ (i : ℕ). Placed i (day_number e)) (let w : n + 1 - 1 ≡ n - 1 + 1 = omega (arith, a.from) in w) q.place in
      record {
        later = earlier d e p.right q.right (next_above b o (all_days - o) (n - 1) (day_number d) (day_number e) p.place k);
        open_day = k.passes;
        none = λ x v lo hi. none_between b o (all_days - o) (n - 1) (day_number d) (day_number e) (day_number x) p.place k (later_day d x p.right v lo) (later_day x e v q.right hi);
      }

  -- "Day 1 is the first at or after the opening date."
  pub record First (d : ℕ) : Type 0 where
    pub from : opening ≤ d
    pub open_day : business (holidays bytes) (day_number d) ≡ true
    pub none : (x : ℕ) → valid x ≡ true → opening ≤ x → x < d → business (holidays bytes) (day_number x) ≡ false

  pub first_day_lem : (d : ℕ) → day_to_date opening bytes 1 ≡ Ok d → First d
  first_day_lem d e =
      let p = at 1 d (dated opening bytes 1 d e) in
      let v = (dated opening bytes 1 d e).opened in
      record {
        from = not_later opening d v p.right p.place.from;
        open_day = p.place.passes;
        none = λ x w lo hi. none_before (business (holidays bytes)) (day_number opening) (all_days - day_number opening) (day_number d) (day_number x) p.place (not_later_day opening x v w lo) (later_day x d w p.right hi);
      }

-- an answer's number in the paper is the refusal, and its value the date or the number
module _ (opening : ℕ) (bytes : List ℕ) where
  pub date_refusal_lem : (n : ℕ) → date_refusal (day_to_date opening bytes n) ≡ day_to_date_refusal opening bytes n
  unfolding day_to_date day_to_date_refusal
  date_refusal_lem n =
      answer_number (day_to_date_refusal opening bytes n) _
      (first_listed (invalid opening ∷ (holiday_reasons bytes ++ number_reasons opening (holidays bytes) n)) refl)

  pub date_value_lem : (n : ℕ) → day_to_date_refusal opening bytes n ≡ 0 → date_value (day_to_date opening bytes n) ≡ date_of (business_day (holidays bytes) (day_number opening) n)
  unfolding day_to_date
  date_value_lem n e = rw e

  pub day_refusal_lem : (d : ℕ) → day_refusal (date_to_day opening bytes d) ≡ date_to_day_refusal opening bytes d
  unfolding date_to_day date_to_day_refusal
  day_refusal_lem d =
      answer_number (date_to_day_refusal opening bytes d) _
      (first_listed (invalid opening ∷ invalid d ∷ (holiday_reasons bytes ++ date_reasons opening (holidays bytes) d)) refl)

  pub day_value_lem : (d : ℕ) → date_to_day_refusal opening bytes d ≡ 0 → day_value (date_to_day opening bytes d) ≡ business_number (holidays bytes) (day_number opening) (day_number d)
  unfolding date_to_day
  day_value_lem d e = rw e
