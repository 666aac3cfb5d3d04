-- A register's entries, from one on: what refuses them.
use Prim.Native.Nat.{ℕ, ◌+◌, ◌-◌, ◌≤◌, ◌<◌}
use native.Mathlib.Nat.{sub-zero}
use mathlib.Core.Path.{◌≡◌, ap, ◌∙◌}
use mathlib.Core.List.{List, ◌++◌}
use mathlib.Core.Bool.{true, false}
use Rattle.laws.specs.Lists.{range, each}
use Rattle.laws.specs.Refusals.{first, first_past, first_there}
use Rattle.laws.specs.Places.{range_at, range_end}
use Rattle.register.specs.Isin.{isin}
use Rattle.register.specs.Register.{count, class_at, is_class, isin_at, stands_earlier, entry_reasons, entries_refusal}
use Rattle.register.specs.Accepted.{entry_numbered}

-- what refuses the entries from i to n
unfoldable pub refusal_from : List ℕ → ℕ → ℕ → ℕ
refusal_from bytes n i = first (each (entry_reasons bytes) (range i (n - i)))

module _ (bytes : List ℕ) where
  pub refusal_start : (n : ℕ) → n ≡ count bytes → refusal_from bytes n 0 ≡ entries_refusal bytes
  unfolding refusal_from entries_refusal
  refusal_start n e = rw (sub-zero, e)

  pub refusal_end : (n i : ℕ) → n ≤ i → refusal_from bytes n i ≡ 0
  unfolding refusal_from
  refusal_end n i h = ap (λ (l : List ℕ). first (each (entry_reasons bytes) l)) (range_end n i h)

  refusal_at : (n i : ℕ) → i < n → refusal_from bytes n i ≡ first (entry_reasons bytes i ++ each (entry_reasons bytes) (range (i + 1) (n - (i + 1))))
  unfolding refusal_from
  refusal_at n i h = ap (λ (l : List ℕ). first (each (entry_reasons bytes) l)) (range_at n i h)

  pub refusal_there : (n i : ℕ) → i < n → (first (entry_reasons bytes i) ≡ 0 → ⊥) → refusal_from bytes n i ≡ first (entry_reasons bytes i)
  refusal_there n i h k = refusal_at n i h ∙ first_there (entry_reasons bytes i) (each (entry_reasons bytes) (range (i + 1) (n - (i + 1)))) k

  pub refusal_past : (n i : ℕ) → i < n → first (entry_reasons bytes i) ≡ 0 → refusal_from bytes n i ≡ refusal_from bytes n (i + 1)
  unfolding refusal_from
  refusal_past n i h k =
      refusal_at n i h ∙ first_past (entry_reasons bytes i) (each (entry_reasons bytes) (range (i + 1) (n - (i + 1)))) (entry_numbered bytes i) k

  -- the reasons of one entry, one after the other
  module _ (i : ℕ) where
    pub reason_2 : is_class (class_at bytes i) ≡ false → first (entry_reasons bytes i) ≡ 2
    unfolding entry_reasons
    reason_2 e = simp e

    module _ (class : is_class (class_at bytes i) ≡ true) where
      pub reason_3 : isin (isin_at bytes i) ≡ false → first (entry_reasons bytes i) ≡ 3
      unfolding entry_reasons
      reason_3 e = simp (class, e)

      module _ (checked : isin (isin_at bytes i) ≡ true) where
        pub reason_4 : stands_earlier bytes i ≡ true → first (entry_reasons bytes i) ≡ 4
        unfolding entry_reasons
        reason_4 e = simp (class, checked, e)

        pub no_reason : stands_earlier bytes i ≡ false → first (entry_reasons bytes i) ≡ 0
        unfolding entry_reasons
        no_reason e = simp (class, checked, e)
