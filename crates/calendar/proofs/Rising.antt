-- Numbers ascend where each is above the one before it.
use Rattle.std.proofs.Common.{ℕ, zero, suc, ◌-◌, ◌≡◌, refl, map, ltb, arith, ap, ap₂, ◌∙◌}
use mathlib.Core.Bool.{Bool, ◌&&◌}
use Rattle.laws.specs.Lists.{range, every}
use Rattle.calendar.specs.BusinessDays.{above, ascending}

rises : (f : ℕ → ℕ) (a m : ℕ) → every (λ i. ltb (f (i - 1)) (f i)) (range (suc a) m) ≡ above (f a) (map f (range (suc a) m))
unfolding above
rises f a zero = refl
rises f a (suc m) =
    ap₂ (λ (x y : Bool). x && y) (ap (λ (k : ℕ). ltb (f k) (f (suc a))) (omega arith)) (rises f (suc a) m)

pub ascends : (f : ℕ → ℕ) (n : ℕ) → every (λ i. ltb (f (i - 1)) (f i)) (range 1 (n - 1)) ≡ ascending (map f (range 0 n))
unfolding ascending
ascends f zero = refl
ascends f (suc n) =
    ap (λ (k : ℕ). every (λ i. ltb (f (i - 1)) (f i)) (range 1 k)) (omega arith) ∙ rises f 0 n
