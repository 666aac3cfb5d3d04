-- The walk from day to day: the business day that is sought, and the business days counted, by what is still ahead.
use Rattle.std.specs.Prelude.{ℕ, suc, ◌+◌, ◌-◌, ◌≤◌, ◌<◌, ◌≡◌, ◌≢◌, true, false, length}
use Rattle.std.proofs.Common.{arith, sym, ◌∙◌}
use Rattle.std.proofs.Math.Path.{ap}
use mathlib.Core.List.{List, ◌∷◌}
use Rattle.std.proofs.Math.ListN.{get_or}
use Rattle.laws.specs.Lists.{range, filter}
use Rattle.laws.specs.Ranges.{filter_first, filter_skipped, filter_ended}
use Rattle.calendar.specs.Dates.{all_days}
use Rattle.calendar.specs.BusinessDays.{business, business_days}

module _ (hs : List ℕ) (day : ℕ) where
  -- the business day with so many before it from a day on
  abbrev pub ahead : ℕ → ℕ
  ahead left = get_or (business_days hs day) left all_days

-- the places of a list by its first element
at_first : (x d left : ℕ) (l : List ℕ) → left ≡ 0 → x ≡ get_or (x ∷ l) left d
at_first x d left l e = ap (λ (k : ℕ). get_or (x ∷ l) k d) (sym e)

at_later : (x d left : ℕ) (l : List ℕ) → left ≢ 0 → get_or l (left - 1) d ≡ get_or (x ∷ l) left d
at_later x d left l n = ap (λ (k : ℕ). get_or (x ∷ l) k d) (let e : suc (left - 1) ≡ left = omega arith in e)

module _ (hs : List ℕ) (day left : ℕ) (h : day < all_days) where
  pub sought : business hs day ≡ true → left ≡ 0 → day ≡ ahead hs day left
  unfolding business_days
  sought b e =
      at_first day all_days left (business_days hs (day + 1)) e
      ∙ ap (λ (l : List ℕ). get_or l left all_days) (sym (filter_first (business hs) day all_days h b))

  pub later : business hs day ≡ true → left ≢ 0 → ahead hs (day + 1) (left - 1) ≡ ahead hs day left
  unfolding business_days
  later b n =
      at_later day all_days left (business_days hs (day + 1)) n
      ∙ ap (λ (l : List ℕ). get_or l left all_days) (sym (filter_first (business hs) day all_days h b))

  pub skipped : business hs day ≡ false → ahead hs (day + 1) left ≡ ahead hs day left
  unfolding business_days
  skipped b = ap (λ (l : List ℕ). get_or l left all_days) (sym (filter_skipped (business hs) day all_days h b))

pub none_ahead : (hs : List ℕ) (day left : ℕ) → all_days ≤ day → all_days ≡ ahead hs day left
unfolding business_days
none_ahead hs day left h = ap (λ (l : List ℕ). get_or l left all_days) (sym (filter_ended (business hs) day all_days h))

-- how many business days there are from a day on before an end
module _ (hs : List ℕ) (end : ℕ) where
  abbrev pub counted : ℕ → ℕ
  counted day = length (filter (business hs) (range day (end - day)))

  pub count_one : (day : ℕ) → day < end → business hs day ≡ true → 1 + counted (day + 1) ≡ counted day
  count_one day h b = omega (arith, ap length (filter_first (business hs) day end h b))

  pub count_none : (day : ℕ) → day < end → business hs day ≡ false → counted (day + 1) ≡ counted day
  count_none day h b = sym (ap length (filter_skipped (business hs) day end h b))

  pub count_ended : (day : ℕ) → end ≤ day → counted day ≡ 0
  count_ended day h = ap length (filter_ended (business hs) day end h)
