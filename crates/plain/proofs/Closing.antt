-- What a close makes of the positions: those that fall due next are even, since they were netted even and are untouched.
use Prim.Native.Nat.{ℕ, suc, ◌+◌, ◌-◌, ◌≤◌, ◌<◌}
use native.Mathlib.Omega.{arith}
use mathlib.Core.Path.{◌≡◌, refl, ap}
use mathlib.Core.Logic.{◌≢◌}
use mathlib.Core.List.{List, ◌++◌}
use mathlib.Core.Bool.{Bool, true, false, ◌&&◌}
use lib.Dec.{leb, eqb}
use borrow.Author.Tests.{ne_eqb, eqb-true, eqb-false, leb-true, leb-false, le-leb, lt-leb}
use Rattle.laws.specs.Lists.{All, only}
use Rattle.laws.specs.Asked.{Said, passed, failed, ask}
use Rattle.laws.specs.Listed.{sum_append}
use Rattle.laws.specs.Sums.{sum_same, sum_same_all, sum_add, sum_zero}
use Rattle.laws.specs.Alls.{all_append, all_of}
use Rattle.plain.specs.declared.Position.{Position}
use Rattle.plain.specs.Dealing.{due, long_of}
use Rattle.plain.specs.Invariants.{Whole, Untouched, open_of, netted_of, short_on, long_on, Even}
use Rattle.plain.proofs.Netted.{New, new_whole}

pub made_untouched : (day next : ℕ) (ps : List Position) → All (New day) ps → All (Untouched next) ps
made_untouched day next ps h = all_of (New day) (Untouched next) ps (λ p m e. m.unsettled) h

later_untouched : (day : ℕ) (ps : List Position) → All (Untouched day) ps → All (Untouched (suc day)) ps
later_untouched day ps h = all_of (Untouched day) (Untouched (suc day)) ps (λ p u e. u (omega arith)) h

-- due by tomorrow: due today, or falling due tomorrow
split_due : (a : Bool) (s day n : ℕ) → only (a && leb s (suc day)) n ≡ only (a && leb s day) n + only (a && eqb s (suc day)) n
split_due false s day n = refl
split_due true s day n = go (ask (leb s day)) (ask (eqb s (suc day)))
  where
    go : Said (leb s day) → Said (eqb s (suc day)) → only (leb s (suc day)) n ≡ only (leb s day) n + only (eqb s (suc day)) n
    go (passed e) f =
        let l : s ≤ day = leb-true s day e in
        rw (e, le-leb s (suc day) (omega arith), ne_eqb s (suc day) (omega arith)) (omega arith)
    go (failed e) (passed f) = rw (e, f, le-leb s (suc day) (omega (arith, eqb-true s (suc day) f))) (omega arith)
    go (failed e) (failed f) =
        let l : day < s = leb-false s day e in
        let d : s ≢ suc day = eqb-false s (suc day) f in
        rw (e, f, lt-leb s (suc day) (omega arith)) (omega arith)

module _ (day : ℕ) (ps made : List Position) (touched : All (Untouched day) ps) (new : All (New day) made) (test : Position → Bool) where
  -- what is open and due tomorrow, of the positions that pass a test
  due_tomorrow : open_of (λ p. test p && leb p.settlement.0 (suc day)) (ps ++ made)
      ≡ open_of (λ p. test p && leb p.settlement.0 day) ps + netted_of (λ p. test p && eqb p.settlement.0 (suc day)) ps
  due_tomorrow =
      omega (
        arith,
        sum_append (λ p. only (test p && leb p.settlement.0 (suc day)) p.unsettled) ps made,
        sum_same_all (λ p. only (test p && leb p.settlement.0 (suc day)) p.unsettled) (λ p. 0) made
            (all_of (New day) (λ p. only (test p && leb p.settlement.0 (suc day)) p.unsettled ≡ 0) made (λ p m. early p m.settlement) new),
        sum_zero made,
        sum_same (λ p. only (test p && leb p.settlement.0 (suc day)) p.unsettled) (λ p. only (test p && leb p.settlement.0 day) p.unsettled + only (test p && eqb p.settlement.0 (suc day)) p.unsettled) ps
            (λ p. split_due (test p) p.settlement.0 day p.unsettled),
        sum_add (λ p. only (test p && leb p.settlement.0 day) p.unsettled) (λ p. only (test p && eqb p.settlement.0 (suc day)) p.unsettled) ps,
        sum_same_all (λ p. only (test p && eqb p.settlement.0 (suc day)) p.unsettled) (λ p. only (test p && eqb p.settlement.0 (suc day)) p.netted) ps
            (all_of (Untouched day) (λ p. only (test p && eqb p.settlement.0 (suc day)) p.unsettled ≡ only (test p && eqb p.settlement.0 (suc day)) p.netted) ps (λ p u. open_whole p u (ask (eqb p.settlement.0 (suc day)))) touched),
      )
    where
      shut : (a : Bool) (n : ℕ) → only (a && false) n ≡ 0
      shut true n = refl
      shut false n = refl

      early : (p : Position) → p.settlement.0 ≡ day + 2 → only (test p && leb p.settlement.0 (suc day)) p.unsettled ≡ 0
      early p e = rw (lt-leb p.settlement.0 (suc day) (omega arith)) (shut (test p) p.unsettled)

      open_whole : (p : Position) → Untouched day p → Said (eqb p.settlement.0 (suc day)) → only (test p && eqb p.settlement.0 (suc day)) p.unsettled ≡ only (test p && eqb p.settlement.0 (suc day)) p.netted
      open_whole p u (passed e) =
          ap (λ (n : ℕ). only (test p && eqb p.settlement.0 (suc day)) n) (u (omega (arith, eqb-true p.settlement.0 (suc day) e)))
      open_whole p u (failed e) = rw (e, shut (test p) p.unsettled, shut (test p) p.netted)

pub even_closed : (day : ℕ) (ps made : List Position) → All (Untouched day) ps → All (New day) made → Even day ps → ((s d : ℕ) → netted_of (short_on d s) made ≡ netted_of (long_on d s) made) → Even (suc day) (ps ++ made)
unfolding due
even_closed day ps made touched new h even =
    record {
      opened = λ s.
          omega (
            arith,
            due_tomorrow day ps made touched new (λ p. p.short && eqb p.security s),
            due_tomorrow day ps made touched new (long_of s),
            h.opened s,
            h.made s (suc day),
          );
      made = λ s d.
          omega (
            arith,
            sum_append (λ p. only (short_on d s p) p.netted) ps made,
            sum_append (λ p. only (long_on d s p) p.netted) ps made,
            h.made s d,
            even s d,
          );
    }

pub untouched_closed : (day : ℕ) (ps made : List Position) → All (Untouched day) ps → All (New day) made → All (Untouched (suc day)) (ps ++ made)
untouched_closed day ps made h new = all_append (Untouched (suc day)) ps made (later_untouched day ps h) (made_untouched day (suc day) made new)

pub whole_closed : (day : ℕ) (ps made : List Position) → All Whole ps → All (New day) made → All Whole (ps ++ made)
whole_closed day ps made h new = all_append Whole ps made h (all_of (New day) Whole made (new_whole day) new)
