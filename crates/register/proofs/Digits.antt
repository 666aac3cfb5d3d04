-- The digits of an ISIN's characters: how large they are, and what one character adds to the sum from the right.
use Prim.Native.Nat.{ℕ, suc, ◌+◌, ◌-◌, ◌*◌, ◌/◌, ◌%◌, ◌≤◌, ◌<◌}
use native.Mathlib.Nat.{add-zero, add_assoc}
use native.Mathlib.Omega.{arith}
use mathlib.Core.Path.{◌≡◌}
use mathlib.Core.List.{List, [], ◌∷◌, ◌++◌, reverse, append-nil, reverse-append}
use mathlib.Core.Bool.{Bool, true, false, not, not-not}
use lib.ListN.{length, get_or, take}
use lib.Seq.{take-suc}
use Rattle.laws.specs.Lists.{each}
use Rattle.laws.specs.Listed.{each_append}
use Rattle.laws.specs.Asked.{Said, passed, failed, ask, within_high}
use Rattle.register.specs.Isin.{is_capital, is_digit, value, digits, digit_sum, twice, digit_sums, doubled_before}

module _ (c : ℕ) where
  letter_value : is_capital c ≡ true → value c ≡ c - 55
  unfolding value
  letter_value e = simp e

  digit_value : is_capital c ≡ false → is_digit c ≡ true → value c ≡ c - 48
  unfolding value
  digit_value e f = simp (e, f)

  other_value : is_capital c ≡ false → is_digit c ≡ false → value c ≡ 0
  unfolding value
  other_value e f = simp (e, f)

  pub letter_most : is_capital c ≡ true → value c ≤ 35
  letter_most e = omega (arith, letter_value e, within_high 65 90 c e)

  pub digit_most : is_capital c ≡ false → value c ≤ 9
  digit_most e = go (ask (is_digit c))
    where
      go : Said (is_digit c) → value c ≤ 9
      go (passed f) = omega (arith, digit_value e f, within_high 48 57 c f)
      go (failed f) = omega (arith, other_value e f)

  -- what one character adds: two digit sums of a letter, one of a digit
  pub letter_adds : (d : Bool) → is_capital c ≡ true → digit_sum (twice d (value c % 10)) + digit_sum (twice (not d) (value c / 10)) ≡ digit_sums d (reverse (digits c))
  unfolding digits digit_sums
  letter_adds d e = simp (e, add-zero)

  pub digit_adds : (d : Bool) → is_capital c ≡ false → digit_sum (twice d (value c)) ≡ digit_sums d (reverse (digits c))
  unfolding digits digit_sums
  digit_adds d e = simp (e, add-zero)

  character_adds : (d : Bool) (ds : List ℕ) → digit_sums d (reverse (digits c) ++ ds) ≡ digit_sums d (reverse (digits c)) + digit_sums (doubled_before c d) ds
  unfolding digits digit_sums doubled_before
  character_adds d ds = go (ask (is_capital c))
    where
      go : Said (is_capital c) → digit_sums d (reverse (digits c) ++ ds) ≡ digit_sums d (reverse (digits c)) + digit_sums (doubled_before c d) ds
      go (passed e) = simp (e, add-zero, add_assoc, not-not)
      go (failed e) = simp (e, add-zero)

pub digit_sum_most : (d : Bool) (n : ℕ) → digit_sum (twice d n) ≤ 2 * n
unfolding digit_sum
digit_sum_most true n = omega arith
digit_sum_most false n = omega arith

-- the sum over the first i characters, by its last
pub sum_last : (text : List ℕ) (d : Bool) (i j : ℕ) → i ≡ suc j → j < length text
    → digit_sums d (reverse (each digits (take i text)))
    ≡ digit_sums d (reverse (digits (get_or text j 0))) + digit_sums (doubled_before (get_or text j 0) d) (reverse (each digits (take j text)))
sum_last text d i j e h =
    let c = get_or text j 0 in
    rw (e, take-suc text j 0 h, each_append digits (take j text) (c ∷ []), append-nil (digits c), reverse-append (each digits (take j text)) (digits c))
    (character_adds c d (reverse (each digits (take j text))))
