-- Tests that were asked: a Bool with what it said, what a joined test says of its parts, and the test that a number is low to high.
use Rattle.std.specs.Prelude.{ℕ, ◌≤◌, ◌≡◌, refl, Bool, true, false, not, cond, ◌&&◌, ◌||◌, leb}
use Rattle.std.proofs.Common.{sym, ◌∙◌, true≢false, leb-true}

-- what a test said: it passed or it failed
pub data Said (b : Bool) : Type 0 where
  passed : b ≡ true → Said b
  failed : b ≡ false → Said b

pub ask : (b : Bool) → Said b
ask true = passed refl
ask false = failed refl

-- what holds of both choices, each where the test says so, holds of the one that is taken
pub decided : {A : Type 0} (P : A → Type 0) (t : Bool) (x y : A) → (t ≡ true → P x) → (t ≡ false → P y) → P (cond t x y)
decided P true x y h k = h refl
decided P false x y h k = k refl

pub and_left : (a b : Bool) → a && b ≡ true → a ≡ true
and_left true b e = refl
and_left false b e = e

pub and_right : (a b : Bool) → a && b ≡ true → b ≡ true
and_right true b e = e
and_right false b e = absurd (true≢false (sym e))

pub both : (a b : Bool) → a ≡ true → b ≡ true → a && b ≡ true
both true b e f = f
both false b e f = e

pub or_left : (a b : Bool) → a || b ≡ false → a ≡ false
or_left true b e = e
or_left false b e = refl

pub or_right : (a b : Bool) → a || b ≡ false → b ≡ false
or_right true b e = absurd (true≢false e)
or_right false b e = e

pub neither : (a b : Bool) → a ≡ false → b ≡ false → a || b ≡ false
neither true b e f = e
neither false b e f = f

-- a test that the code made by a call which answers r
pub fails : {r t : Bool} → not r ≡ true → r ≡ t → t ≡ false
fails {r = true} e same = sym same ∙ sym e
fails {r = false} e same = sym same

pub passes : {r t : Bool} → not r ≡ false → r ≡ t → t ≡ true
passes {r = true} e same = sym same
passes {r = false} e same = sym same ∙ sym e

-- n is low to high, both included
unfoldable pub within : ℕ → ℕ → ℕ → Bool
within low high n = leb low n && leb n high

pub within_low : (low high n : ℕ) → within low high n ≡ true → low ≤ n
unfolding within
within_low low high n e = leb-true low n (and_left (leb low n) (leb n high) e)

pub within_high : (low high n : ℕ) → within low high n ≡ true → n ≤ high
unfolding within
within_high low high n e = leb-true n high (and_right (leb low n) (leb n high) e)

-- the same as two facts
pub record Within (low high n : ℕ) : Type 0 where
  pub above : low ≤ n
  pub below : n ≤ high

pub both_bounds : (low high n : ℕ) → within low high n ≡ true → Within low high n
both_bounds low high n e = record { above = within_low low high n e; below = within_high low high n e }
