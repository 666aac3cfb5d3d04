-- The holidays, read one after the other, and whether a day is one of them.
use Prim.Native.Nat.{ℕ, zero, suc, ◌+◌, ◌-◌, ◌/◌, ◌≤◌, ◌<◌}
use native.Mathlib.Omega.{arith}
use Rattle.std.proofs.Common.{eq-or-lt_of_le, lt_of_not-le, add-one, ◌∙◌, below_more}
use Rattle.std.specs.Prelude.{◌≡◌, ◌≢◌, Bool, true, false, ◌&&◌}
use Rattle.std.proofs.Math.Path.{refl, ap, sym, subst}
use mathlib.Core.List.{List, [], ◌∷◌, map}
use Rattle.std.proofs.Math.Logic.{⊎_elim}
use Rattle.std.proofs.Math.Bool.{not}
use borrow.Author.Tests.{lt-ltb, le-ltb, ltb-true, ltb-false, eq-eqb, ne_eqb, eqb-true, eqb-false}
use Rattle.std.proofs.Math.Dec.{ltb, eqb}
use Rattle.std.proofs.Math.ListN.{length}
use Rattle.laws.specs.Lists.{range, every, some}
use Rattle.laws.specs.Asked.{Said, passed, failed, ask, and_left, and_right}
use Rattle.laws.specs.Ranges.{range_up_to, range_ended, every_at, every_map, some_at, some_none, some_map}
use Rattle.calendar.specs.Dates.{valid, day_number, all_days}
use Rattle.calendar.specs.BusinessDays.{date_at, holidays, above, ascending, weekday, business, holiday_day, Ordered, Ahead}
use Rattle.calendar.specs.Lengths.{day_below}
use Rattle.calendar.specs.Inverse.{later_day}
use Rattle.laws.specs.declared.CalendarDay.{CalendarDay}
use Rattle.calendar.specs.declared.Upcoming.{Upcoming}

-- the holidays from the i-th on
abbrev pub remaining : List ℕ → ℕ → List ℕ
remaining bytes i = map (date_at bytes) (range i (length bytes / 4 - i))

module _ (bytes : List ℕ) where
  pub all_remain : remaining bytes 0 ≡ holidays bytes
  unfolding holidays
  all_remain = ap (λ (n : ℕ). map (date_at bytes) (range 0 n)) (let e : length bytes / 4 - 0 ≡ length bytes / 4 = omega arith in e)

  pub one_less : (i : ℕ) → i < length bytes / 4 → remaining bytes i ≡ date_at bytes i ∷ remaining bytes (i + 1)
  one_less i h =
      ap (map (date_at bytes)) (range_up_to i (length bytes / 4) h)
      ∙ ap (λ (k : ℕ). date_at bytes i ∷ remaining bytes k) (sym (add-one i))

  pub none_left : (i : ℕ) → length bytes / 4 ≤ i → remaining bytes i ≡ []
  none_left i h = ap (map (date_at bytes)) (range_ended i (length bytes / 4) h)

  -- all are valid: while they are read, what remains decides
  pub none_valid : (i : ℕ) → length bytes / 4 ≤ i → true ≡ every valid (remaining bytes i)
  none_valid i h = ap (every valid) (sym (none_left i h))

  pub next_invalid : (i : ℕ) → i < length bytes / 4 → valid (date_at bytes i) ≡ false → false ≡ every valid (remaining bytes i)
  next_invalid i h e = rw (one_less i h, e)

  pub next_valid : (i : ℕ) → i < length bytes / 4 → valid (date_at bytes i) ≡ true → every valid (remaining bytes (i + 1)) ≡ every valid (remaining bytes i)
  next_valid i h e = sym (ap (every valid) (one_less i h) ∙ ap (λ (t : Bool). t && every valid (remaining bytes (i + 1))) e)

  -- they ascend: what remains is above the one that was read last
  pub none_ascend : length bytes / 4 ≡ 0 → true ≡ ascending (holidays bytes)
  unfolding ascending
  none_ascend e = ap ascending (sym (none_left 0 (omega arith)) ∙ all_remain)

  pub ascend_first : 0 < length bytes / 4 → above (date_at bytes 0) (remaining bytes 1) ≡ ascending (holidays bytes)
  unfolding ascending
  ascend_first h = ap ascending (sym (one_less 0 h) ∙ all_remain)

  module _ (last i : ℕ) where
    pub last_above : length bytes / 4 ≤ i → true ≡ above last (remaining bytes i)
    unfolding above
    last_above h = ap (above last) (sym (none_left i h))

    pub next_below : i < length bytes / 4 → date_at bytes i ≤ last → false ≡ above last (remaining bytes i)
    unfolding above
    next_below h l = rw (one_less i h, le-ltb last (date_at bytes i) l)

    pub next_above : i < length bytes / 4 → last < date_at bytes i → above (date_at bytes i) (remaining bytes (i + 1)) ≡ above last (remaining bytes i)
    unfolding above
    next_above h l =
        sym (ap (above last) (one_less i h) ∙ ap (λ (t : Bool). t && above (date_at bytes i) (remaining bytes (i + 1))) (lt-ltb last (date_at bytes i) l))

  -- holidays that are accepted: each is valid, and a later one is a later date
  pub each_valid : every valid (holidays bytes) ≡ true → (i : ℕ) → i < length bytes / 4 → valid (date_at bytes i) ≡ true
  unfolding holidays
  each_valid e i h =
      every_at (λ k. valid (date_at bytes k)) 0 (length bytes / 4) i (sym (every_map valid (date_at bytes) (range 0 (length bytes / 4))) ∙ e) (omega arith) (omega arith)

-- of an ascending list that f makes of a range, any two in their order
module _ (f : ℕ → ℕ) where
  above_all : (x a n j : ℕ) → above x (map f (range a n)) ≡ true → a ≤ j → j < a + n → x < f j
  unfolding above
  above_all x a zero j e h l = absurd (omega arith)
  above_all x a (suc n) j e h l =
      let first = ltb-true x (f a) (and_left (ltb x (f a)) (above (f a) (map f (range (suc a) n))) e) in
      ⊎_elim (λ q. subst (λ (k : ℕ). x < f k) q first)
      (λ lt. omega (arith, first, above_all (f a) (suc a) n j (and_right (ltb x (f a)) (above (f a) (map f (range (suc a) n))) e) lt (omega arith)))
      (eq-or-lt_of_le h)

  tail_ascends : (x a n : ℕ) → above x (map f (range a n)) ≡ true → ascending (map f (range a n)) ≡ true
  unfolding above ascending
  tail_ascends x a zero e = refl
  tail_ascends x a (suc n) e = and_right (ltb x (f a)) (above (f a) (map f (range (suc a) n))) e

  pub in_order : (a n i j : ℕ) → ascending (map f (range a n)) ≡ true → a ≤ i → i < j → j < a + n → f i < f j
  unfolding ascending
  in_order a zero i j e h l k = absurd (omega arith)
  in_order a (suc n) i j e h l k =
      ⊎_elim (λ q. subst (λ (m : ℕ). f m < f j) q (above_all (f a) (suc a) n j e (omega arith) (omega arith)))
      (λ lt. in_order (suc a) n i j (tail_ascends (f a) (suc a) n e) lt l (omega arith)) (eq-or-lt_of_le h)

-- the calendar days of the holidays, and of the day after 2099 past the last
module _ (bytes : List ℕ) where
  pub day_at : (i : ℕ) → i < length bytes / 4 → holiday_day bytes i ≡ day_number (date_at bytes i)
  unfolding holiday_day
  day_at i h = rw (lt-ltb i (length bytes / 4) h)

  pub day_past : (i : ℕ) → length bytes / 4 ≤ i → holiday_day bytes i ≡ all_days
  unfolding holiday_day
  day_past i h = rw (le-ltb i (length bytes / 4) h)

  pub index_below : (i : ℕ) → holiday_day bytes i < all_days → i < length bytes / 4
  index_below i h = lt_of_not-le (λ le. omega (arith, day_past i le))

  pub day_rises : Ordered bytes → (i j : ℕ) → holiday_day bytes i < all_days → i < j → holiday_day bytes i < holiday_day bytes j
  unfolding holidays
  day_rises o i j h l = by (ask (ltb j (length bytes / 4)))
    where
      below : i < length bytes / 4
      below = index_below i h

      by : Said (ltb j (length bytes / 4)) → holiday_day bytes i < holiday_day bytes j
      by (passed t) =
          let k : j < length bytes / 4 = ltb-true j (length bytes / 4) t in
          let lt = later_day (date_at bytes i) (date_at bytes j) (each_valid bytes o.dates i below) (each_valid bytes o.dates j k)
          (in_order (date_at bytes) 0 (length bytes / 4) i j o.rising (omega arith) l (omega arith)) in
          omega (arith, day_at i below, day_at j k)
      by (failed t) = omega (arith, day_past j (ltb-false j (length bytes / 4) t))

  -- whether a day is a holiday, by the next holiday alone
  module _ (o : Ordered bytes) (day : ℕ) (lt : day < all_days) (next : Upcoming) (a : Ahead bytes day next) where
    is_holiday : next.day.0 ≡ day → some (λ h. eqb (day_number h) day) (holidays bytes) ≡ true
    unfolding holidays
    is_holiday e =
        let b : next.index < length bytes / 4 = index_below next.index (omega (arith, a.known)) in
        some_map (λ h. eqb (day_number h) day) (date_at bytes) (range 0 (length bytes / 4))
        ∙ some_at (λ i. eqb (day_number (date_at bytes i)) day) 0 (length bytes / 4) next.index (omega arith) (omega arith)
        (eq-eqb (day_number (date_at bytes next.index)) day (omega (arith, a.known, day_at next.index b)))

    differs : next.day.0 ≢ day → (i : ℕ) → i < length bytes / 4 → day_number (date_at bytes i) ≢ day
    differs n i h e = by (ask (ltb i next.index))
      where
        same : holiday_day bytes i ≡ day
        same = day_at i h ∙ e

        after : next.index ≤ i → ⊥
        after l =
            let k : next.index < length bytes / 4 = omega arith in
            let b = day_below (date_at bytes next.index) (each_valid bytes o.dates next.index k) in
            ⊎_elim (λ q. n (a.known ∙ (ap (holiday_day bytes) q ∙ same)))
            (λ lt. omega (arith, day_rises o next.index i (omega (arith, day_at next.index k)) lt, a.ahead, a.known, same))
            (eq-or-lt_of_le l)

        by : Said (ltb i next.index) → ⊥
        by (passed t) = omega (arith, a.passed i (ltb-true i next.index t), same)
        by (failed t) = after (ltb-false i next.index t)

    not_holiday : next.day.0 ≢ day → some (λ h. eqb (day_number h) day) (holidays bytes) ≡ false
    unfolding holidays
    not_holiday n =
        some_map (λ h. eqb (day_number h) day) (date_at bytes) (range 0 (length bytes / 4))
        ∙ some_none (λ i. eqb (day_number (date_at bytes i)) day) 0 (length bytes / 4)
        (λ i l h. ne_eqb (day_number (date_at bytes i)) day (differs n i (omega arith)))

    pub by_next : (ltb (weekday day) 5 && not (eqb next.day.0 day)) ≡ business (holidays bytes) day
    unfolding business
    by_next = by (ask (eqb next.day.0 day))
      where
        by : Said (eqb next.day.0 day) → (ltb (weekday day) 5 && not (eqb next.day.0 day)) ≡ business (holidays bytes) day
        by (passed e) = ap (λ (t : Bool). ltb (weekday day) 5 && not t) (e ∙ sym (is_holiday (eqb-true next.day.0 day e)))
        by (failed e) = ap (λ (t : Bool). ltb (weekday day) 5 && not t) (e ∙ sym (not_holiday (eqb-false next.day.0 day e)))

  -- the next holiday once a day has passed: the one after, where the day was it, else the same
  pub after : Ordered bytes → (day : ℕ) (next : Upcoming) (later : CalendarDay) → Ahead bytes day next → day < all_days → next.day.0 ≡ day → later.0 ≡ holiday_day bytes (next.index + 1) → Ahead bytes (day + 1) (record { index = next.index + 1; day = later })
  after o day next later a lt e k =
      record {
        passed = below_more (λ i. holiday_day bytes i < day + 1) next.index (λ i l. omega (arith, a.passed i l)) (omega (arith, a.known));
        ahead = omega (arith, day_rises o next.index (next.index + 1) (omega (arith, a.known)) (omega arith), a.known);
        known = k;
      }

  pub kept : (day : ℕ) (next : Upcoming) → Ahead bytes day next → next.day.0 ≢ day → Ahead bytes (day + 1) next
  kept day next a n =
      record {
        passed = λ i l. omega (arith, a.passed i l);
        ahead = omega (arith, a.ahead);
        known = a.known;
      }
