-- The answers, case by case: what each test makes of them, and what an accepted question says.
use Rattle.std.specs.Prelude.{ℕ, zero, suc, ◌-◌, ◌≤◌, ◌<◌, ◌≡◌, List, [], ◌∷◌, ◌≢◌, Ok, Err, false}
use native.Mathlib.Omega.{arith}
use Rattle.std.proofs.Math.Nat.{lt_of_not-le}
use Rattle.std.proofs.Math.Path.{refl, ap}
use Rattle.std.proofs.Common.{◌∙◌}
use Rattle.std.proofs.Math.Bool.{true, not}
use borrow.Author.Tests.{lt-ltb, le-ltb, le-leb, lt-leb, ltb-false, not-false}
use Rattle.std.proofs.Math.ListN.{length, get_or-eq_default}
use Rattle.laws.specs.Asked.{within, within_low, within_high}
use Rattle.laws.specs.Refusals.{Reason, first, here, past, first_neither, none_applies}
use Rattle.laws.specs.Answers.{answer, number_some, answer_refused}
use Rattle.laws.specs.Answers as reason
use Rattle.laws.specs.declared.Refusal.{Refusal}
use Rattle.laws.specs.declared.Refusal.TheVariants.{InvalidDate, NoBusinessDay, After2099}
use Rattle.laws.specs.declared.BusinessDay.{BusinessDay}
use Rattle.laws.specs.Ranges.{past_default}
use Rattle.calendar.specs.Dates.{valid, day_number, date_of, all_days}
use Rattle.calendar.specs.BusinessDays.{holidays, business, business_days, business_day, business_number}
use Rattle.calendar.specs.Answers.{invalid, holiday_reasons, number_reasons, date_reasons, day_to_date_refusal, date_to_day_refusal, day_numbered, day_to_date, date_to_day}
use Rattle.calendar.specs.Lengths.{day_below}
use Rattle.calendar.specs.Reasons.{holidays_decide, rest_decides}

-- an answer that is a value was not turned down
given : {T : Type 0} (k : ℕ) (v d : T) → answer k v ≡ Ok d → (k ≡ 0) × (v ≡ d)
given zero v d e = (refl, cc)
given (suc k) v d e = absurd (let z : ◌≡◌ {A = ℕ} 0 1 = cc in omega arith)

-- the n-th business day is there just where there are n of them
module _ (hs : List ℕ) (opening number : ℕ) where
  pub none_there : opening ≤ all_days → 1 ≤ number → business_day hs opening number ≡ all_days → length (business_days hs opening) < number
  unfolding business_day business_days
  none_there h l e =
      omega (arith, past_default (business hs) opening (all_days - opening) (number - 1) all_days (omega arith) e)

  pub there : 1 ≤ number → business_day hs opening number ≢ all_days → number ≤ length (business_days hs opening)
  unfolding business_day
  there l n =
      let f : number - 1 < length (business_days hs opening) = lt_of_not-le (λ le. n (get_or-eq_default (business_days hs opening) all_days le)) in
      omega arith

-- day to date
module _ (opening : ℕ) (bytes : List ℕ) (number : ℕ) where
  abbrev date_sought : ℕ
  date_sought = date_of (business_day (holidays bytes) (day_number opening) number)

  abbrev days_there : ℕ
  days_there = length (business_days (holidays bytes) (day_number opening))

  abbrev of_number : List Reason
  of_number = number_reasons opening (holidays bytes) number

  refused : (r : Refusal) → reason.number r ≡ day_to_date_refusal opening bytes number → Err r ≡ day_to_date opening bytes number
  unfolding day_to_date
  refused r e = answer_refused (day_to_date_refusal opening bytes number) date_sought r e

  pub opening_wrong : valid opening ≡ false → Err InvalidDate ≡ day_to_date opening bytes number
  unfolding day_to_date_refusal
  opening_wrong e = refused InvalidDate (here 27 _ (ap not e))

  module _ (v : valid opening ≡ true) where
    pub holidays_wrong : (r : Refusal) → reason.number r ≡ first (holiday_reasons bytes) → Err r ≡ day_to_date opening bytes number
    unfolding day_to_date_refusal
    holidays_wrong r e = refused r (past 27 (ap not v) (holidays_decide bytes (reason.number r) of_number e (number_some r)))

    module _ (h : first (holiday_reasons bytes) ≡ 0) where
      by_number : first of_number ≡ day_to_date_refusal opening bytes number
      unfolding day_to_date_refusal
      by_number = past 27 (ap not v) (rest_decides bytes of_number h)

      pub number_low : number < 1 → Err NoBusinessDay ≡ day_to_date opening bytes number
      unfolding within
      number_low l = let e : 29 ≡ first of_number = rw (lt-leb 1 number l) in refused NoBusinessDay (e ∙ by_number)

      pub number_high : 9999 < number → Err NoBusinessDay ≡ day_to_date opening bytes number
      unfolding within
      number_high l =
          let low : 1 ≤ number = omega arith in
          let e : 29 ≡ first of_number = rw (le-leb 1 number low, lt-leb number 9999 l) in
          refused NoBusinessDay (e ∙ by_number)

      module _ (low : 1 ≤ number) (high : number ≤ 9999) where
        pub day_after : business_day (holidays bytes) (day_number opening) number ≡ all_days → Err After2099 ≡ day_to_date opening bytes number
        unfolding within
        day_after n =
            let l = none_there (holidays bytes) (day_number opening) number (omega (arith, day_below opening v)) low n in
            let e : 30 ≡ first of_number = rw (le-leb 1 number low, le-leb number 9999 high, lt-ltb days_there number l) in
            refused After2099 (e ∙ by_number)

        pub date_is : number ≤ days_there → Ok date_sought ≡ day_to_date opening bytes number
        unfolding day_to_date within
        date_is l =
            let e : 0 ≡ first of_number = rw (le-leb 1 number low, le-leb number 9999 high, le-ltb days_there number l) in
            ap (λ (r : ℕ). answer r date_sought) (e ∙ by_number)

  -- what an accepted number says
  pub record Dated (d : ℕ) : Type 0 where
    pub opened : valid opening ≡ true
    pub listed : first (holiday_reasons bytes) ≡ 0
    pub from : 1 ≤ number
    pub to : number ≤ 9999
    pub there : number ≤ days_there
    pub value : date_sought ≡ d

  pub dated : (d : ℕ) → day_to_date opening bytes number ≡ Ok d → Dated d
  unfolding day_to_date day_to_date_refusal
  dated d e =
      let g = given (day_to_date_refusal opening bytes number) date_sought d e in
      let before = first_neither (invalid opening ∷ holiday_reasons bytes) of_number refl g.0 in
      let start = first_neither (invalid opening ∷ []) (holiday_reasons bytes) refl before.0 in
      let of_start = none_applies (invalid opening ∷ []) refl start.0 in
      let number_passed = none_applies of_number refl before.1 in
      let w : within 1 9999 number ≡ true = not-false _ number_passed.0 in
      record {
        opened = not-false (valid opening) of_start.0;
        listed = start.1;
        from = within_low 1 9999 number w;
        to = within_high 1 9999 number w;
        there = ltb-false days_there number number_passed.1.0;
        value = g.1;
      }

-- date to day
module _ (opening : ℕ) (bytes : List ℕ) (asked : ℕ) where
  abbrev number_sought : ℕ
  number_sought = business_number (holidays bytes) (day_number opening) (day_number asked)

  abbrev of_date : List Reason
  of_date = date_reasons opening (holidays bytes) asked

  turned_down : (r : Refusal) → reason.number r ≡ date_to_day_refusal opening bytes asked → Err r ≡ date_to_day opening bytes asked
  unfolding date_to_day
  turned_down r e = answer_refused (date_to_day_refusal opening bytes asked) (day_numbered number_sought) r e

  pub start_wrong : valid opening ≡ false → Err InvalidDate ≡ date_to_day opening bytes asked
  unfolding date_to_day_refusal
  start_wrong e = turned_down InvalidDate (here 27 _ (ap not e))

  module _ (v : valid opening ≡ true) where
    pub asked_wrong : valid asked ≡ false → Err InvalidDate ≡ date_to_day opening bytes asked
    unfolding date_to_day_refusal
    asked_wrong e = turned_down InvalidDate (past 27 (ap not v) (here 27 _ (ap not e)))

    module _ (w : valid asked ≡ true) where
      pub list_wrong : (r : Refusal) → reason.number r ≡ first (holiday_reasons bytes) → Err r ≡ date_to_day opening bytes asked
      unfolding date_to_day_refusal
      list_wrong r e =
          turned_down r (past 27 (ap not v) (past 27 (ap not w) (holidays_decide bytes (reason.number r) of_date e (number_some r))))

      module _ (h : first (holiday_reasons bytes) ≡ 0) where
        by_date : first of_date ≡ date_to_day_refusal opening bytes asked
        unfolding date_to_day_refusal
        by_date = past 27 (ap not v) (past 27 (ap not w) (rest_decides bytes of_date h))

        pub too_early : day_number asked < day_number opening → Err NoBusinessDay ≡ date_to_day opening bytes asked
        too_early l =
            let e : 29 ≡ first of_date = rw (lt-ltb (day_number asked) (day_number opening) l) in
            turned_down NoBusinessDay (e ∙ by_date)

        module _ (l : day_number opening ≤ day_number asked) where
          pub no_business : business (holidays bytes) (day_number asked) ≡ false → Err NoBusinessDay ≡ date_to_day opening bytes asked
          no_business b =
              let e : 29 ≡ first of_date = rw (le-ltb (day_number asked) (day_number opening) l, b) in
              turned_down NoBusinessDay (e ∙ by_date)

          module _ (b : business (holidays bytes) (day_number asked) ≡ true) where
            pub too_late : 9999 < number_sought → Err NoBusinessDay ≡ date_to_day opening bytes asked
            too_late k =
                let e : 29 ≡ first of_date = rw (le-ltb (day_number asked) (day_number opening) l, b, lt-ltb 9999 number_sought k) in
                turned_down NoBusinessDay (e ∙ by_date)

            pub day_is : number_sought ≤ 9999 → Ok (day_numbered number_sought) ≡ date_to_day opening bytes asked
            unfolding date_to_day
            day_is k =
                let e : 0 ≡ first of_date = rw (le-ltb (day_number asked) (day_number opening) l, b, le-ltb 9999 number_sought k) in
                ap (λ (r : ℕ). answer r (day_numbered number_sought)) (e ∙ by_date)

  -- what an accepted date says
  pub record Numbered (n : ℕ) : Type 0 where
    pub opened : valid opening ≡ true
    pub valid_date : valid asked ≡ true
    pub listed : first (holiday_reasons bytes) ≡ 0
    pub from : day_number opening ≤ day_number asked
    pub open_day : business (holidays bytes) (day_number asked) ≡ true
    pub to : number_sought ≤ 9999
    pub value : number_sought ≡ n

  pub numbered : (n : ℕ) → date_to_day opening bytes asked ≡ Ok (day_numbered n) → Numbered n
  unfolding date_to_day date_to_day_refusal
  numbered n e =
      let g = given (date_to_day_refusal opening bytes asked) (day_numbered number_sought) (day_numbered n) e in
      let before = first_neither (invalid opening ∷ invalid asked ∷ holiday_reasons bytes) of_date refl g.0 in
      let start = first_neither (invalid opening ∷ invalid asked ∷ []) (holiday_reasons bytes) refl before.0 in
      let of_dates = none_applies (invalid opening ∷ invalid asked ∷ []) refl start.0 in
      let of_date_lem = none_applies of_date refl before.1 in
      record {
        opened = not-false (valid opening) of_dates.0;
        valid_date = not-false (valid asked) of_dates.1.0;
        listed = start.1;
        from = ltb-false (day_number asked) (day_number opening) of_date_lem.0;
        open_day = not-false (business (holidays bytes) (day_number asked)) of_date_lem.1.0;
        to = ltb-false 9999 number_sought of_date_lem.1.1.0;
        value = ap (λ (d : BusinessDay). d.0) g.1;
      }
