-- Periods that follow one another: where a day falls, and that it falls nowhere else.
use Prim.Native.Nat.{ℕ, zero, suc, ◌+◌, ◌-◌, ◌≤◌, ◌<◌}
use native.Mathlib.Omega.{arith}
use Rattle.std.proofs.Common.{add-one, eq-or-lt_of_le, ap}
use Rattle.std.specs.Prelude.{◌≡◌, ltb}
use Rattle.std.proofs.Math.Path.{sym, subst}
use Rattle.std.proofs.Math.Logic.{⊎_elim}
use borrow.Author.Tests.{ltb-true, ltb-false, lt-ltb, le-ltb}
use Rattle.laws.specs.Lists.{range, sum}
use Rattle.laws.specs.Asked.{Said, passed, failed, ask}
use Rattle.laws.specs.Ranges.{range_up_to, range_ended}
use Rattle.calendar.specs.Dates.{placed}
use Rattle.calendar.specs.declared.Place.{Place}

module _ (long : ℕ → ℕ) where
  -- the days of the periods from p on before q
  abbrev pub before : ℕ → ℕ → ℕ
  before p q = sum long (range p (q - p))

  before_first : (p q : ℕ) → q ≤ p → before p q ≡ 0
  before_first p q h = ap (sum long) (range_ended p q h)

  before_later : (p q : ℕ) → p < q → before p q ≡ long p + before (suc p) q
  before_later p q h = ap (sum long) (range_up_to p q h)

  -- day n falls into the period of place r, among k periods after p
  pub record Falls (k p n : ℕ) (r : Place) : Type 0 where
    pub from : p ≤ r.period
    pub to : r.period ≤ p + k
    pub days : before p r.period + r.left ≡ n
    pub inside : n < sum long (range p (suc k)) → r.left < long r.period

  here : (k p n : ℕ) → (n < sum long (range p (suc k)) → n < long p) → Falls k p n (record { period = p; left = n })
  here k p n h =
      record {
        from = omega arith;
        to = omega arith;
        days = omega (arith, before_first p p (omega arith));
        inside = h;
      }

  later : (k p n : ℕ) (r : Place) → long p ≤ n → Falls k (suc p) (n - long p) r → Falls (suc k) p n r
  later k p n r h f =
      record {
        from = omega (arith, f.from);
        to = omega (arith, f.to);
        days = omega (arith, f.days, before_later p r.period f.from);
        inside = λ l. f.inside (omega arith);
      }

  pub falls : (k p n : ℕ) → Falls k p n (placed long k p n)
  unfolding placed
  falls zero p n = here zero p n (λ l. omega arith)
  falls (suc k) p n = by (ask (ltb n (long p))) (falls k (suc p) (n - long p))
    where
      by : Said (ltb n (long p)) → Falls k (suc p) (n - long p) (placed long k (suc p) (n - long p)) → Falls (suc k) p n (placed long (suc k) p n)
      by (passed e) f = rw e (here (suc k) p n (λ l. ltb-true n (long p) e))
      by (failed e) f = rw e (later k p n _ (ltb-false n (long p) e) f)

  -- a day of period q falls there
  pub exact : (k p q r : ℕ) → p ≤ q → q ≤ p + k → r < long q → placed long k p (before p q + r) ≡ record { period = q; left = r }
  unfolding placed
  exact zero p q r h l s =
      let e : q ≡ p = omega arith in
      let d : before p q + r ≡ r = omega (arith, before_first p q (omega arith)) in
      (λ i. record { period = sym e i; left = d i })
  exact (suc k) p q r h l s = ⊎_elim at (λ lt. past lt (exact k (suc p) q r lt (omega arith) s)) (eq-or-lt_of_le h)
    where
      at : p ≡ q → placed long (suc k) p (before p q + r) ≡ record { period = q; left = r }
      at e =
          let d : before p q + r ≡ r = omega (arith, before_first p q (omega arith)) in
          let t : r < long p = subst (λ (i : ℕ). r < long i) (sym e) s in
          rw (d, lt-ltb r (long p) t) (λ i. record { period = e i; left = r })

      past : p < q → placed long k (suc p) (before (suc p) q + r) ≡ record { period = q; left = r } → placed long (suc k) p (before p q + r) ≡ record { period = q; left = r }
      past lt rest =
          let d : before p q + r ≡ long p + (before (suc p) q + r) = omega (arith, before_later p q lt) in
          let m : long p + (before (suc p) q + r) - long p ≡ before (suc p) q + r = omega arith in
          rw (d, le-ltb (long p + (before (suc p) q + r)) (long p) (omega arith), m) rest

  -- where the place is sought from period p on up to the last, one period after the other
  pub sought_here : (last p n : ℕ) → p < last → n < long p → record { period = p; left = n } ≡ placed long (last - p) p n
  unfolding placed
  sought_here last p n h l =
      let e : last - p ≡ suc (last - suc p) = omega arith in
      rw (e, lt-ltb n (long p) l)

  pub sought_later : (last p n : ℕ) → p < last → long p ≤ n → placed long (last - (p + 1)) (p + 1) (n - long p) ≡ placed long (last - p) p n
  unfolding placed
  sought_later last p n h l =
      let e : last - p ≡ suc (last - suc p) = omega arith in
      rw (e, le-ltb n (long p) l, add-one)

  pub sought_last : (last p n : ℕ) → last ≤ p → record { period = p; left = n } ≡ placed long (last - p) p n
  unfolding placed
  sought_last last p n h =
      let e : last - p ≡ 0 = omega arith in
      rw e
