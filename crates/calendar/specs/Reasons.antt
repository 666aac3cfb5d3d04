-- Which reason is the first that applies.
use Rattle.std.specs.Prelude.{ℕ, ◌/◌, ◌%◌, ◌≤◌, ◌<◌, ◌≡◌, refl, List, ◌++◌, ◌≢◌, true, false, length}
use Rattle.std.proofs.Common.{sym, ◌∙◌, eq-eqb, ne_eqb, lt-ltb, le-ltb}
use Rattle.std.proofs.lemmas.Bool.{not-false}
use Rattle.std.proofs.Math.ListN.{length-map}
use Rattle.laws.specs.Lists.{every, range}
use Rattle.laws.specs.Listed.{length_range}
use Rattle.laws.specs.Refusals.{Reason, first, first_past, first_there, none_applies}
use Rattle.calendar.specs.Dates.{valid}
use Rattle.calendar.specs.BusinessDays.{date_at, holidays, ascending, Ordered}
use Rattle.calendar.specs.Answers.{holiday_reasons}

module _ (bytes : List ℕ) where
  pub count_holidays : length (holidays bytes) ≡ length bytes / 4
  unfolding holidays
  count_holidays = length-map (range 0 (length bytes / 4)) (date_at bytes) ∙ length_range 0 (length bytes / 4)

  pub cut : (length bytes % 4 ≡ 0 → ⊥) → 27 ≡ first (holiday_reasons bytes)
  cut n = rw (ne_eqb (length bytes % 4) 0 n)

  module _ (w : length bytes % 4 ≡ 0) where
    pub invalid_one : every valid (holidays bytes) ≡ false → 27 ≡ first (holiday_reasons bytes)
    invalid_one e = rw (eq-eqb (length bytes % 4) 0 w, e)

    module _ (v : every valid (holidays bytes) ≡ true) where
      pub too_many : 64 < length bytes / 4 → 28 ≡ first (holiday_reasons bytes)
      too_many h = rw (eq-eqb (length bytes % 4) 0 w, v, count_holidays, lt-ltb 64 (length bytes / 4) h)

      module _ (l : length bytes / 4 ≤ 64) where
        pub unordered : ascending (holidays bytes) ≡ false → 28 ≡ first (holiday_reasons bytes)
        unordered e = rw (eq-eqb (length bytes % 4) 0 w, v, count_holidays, le-ltb 64 (length bytes / 4) l, e)

        pub in_order : ascending (holidays bytes) ≡ true → 0 ≡ first (holiday_reasons bytes)
        in_order e = rw (eq-eqb (length bytes % 4) 0 w, v, count_holidays, le-ltb 64 (length bytes / 4) l, e)

  pub ordered : first (holiday_reasons bytes) ≡ 0 → Ordered bytes
  ordered e =
      let f = none_applies (holiday_reasons bytes) refl e in
      record { dates = not-false (every valid (holidays bytes)) f.1.0; rising = not-false (ascending (holidays bytes)) f.1.1.1.0 }

  -- the reasons of the holidays before others: they decide where one of them applies, else the others do
  pub holidays_decide : (r : ℕ) (rest : List Reason) → r ≡ first (holiday_reasons bytes) → r ≢ 0 → r ≡ first (holiday_reasons bytes ++ rest)
  holidays_decide r rest e n = e ∙ sym (first_there (holiday_reasons bytes) rest (λ z. n (e ∙ z)))

  pub rest_decides : (rest : List Reason) → first (holiday_reasons bytes) ≡ 0 → first rest ≡ first (holiday_reasons bytes ++ rest)
  rest_decides rest e = sym (first_past (holiday_reasons bytes) rest refl e)
