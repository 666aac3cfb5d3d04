-- Who is failing, by the counts; and the words and counts where one of them changes.
use Prim.Native.Nat.{ℕ, ◌+◌, ◌-◌, ◌^◌, ◌≤◌, ◌<◌}
use native.Mathlib.Nat.{zero-add}
use native.Mathlib.Omega.{arith}
use mathlib.Core.Path.{◌≡◌, refl, ap, sym, ◌∙◌}
use mathlib.Core.Logic.{◌≢◌}
use mathlib.Core.List.{List, [], ◌∷◌}
use mathlib.Core.Bool.{Bool, true, false, ◌&&◌, ◌||◌, true≢false}
use lib.Dec.{eqb, ltb}
use lib.ListN.{get_or, set, length-set}
use lib.Seq.{get_or-set_same, get_or-set_other, set-get_or}
use borrow.Author.Tests.{eqb-true, eqb-false, eq-eqb, lt-ltb}
use Rattle.laws.specs.Asked.{Said, passed, failed, ask, and_left, and_right, both, Within}
use Rattle.laws.specs.Lists.{only}
use Rattle.plain.specs.declared.Position.{Position}
use Rattle.plain.specs.Book.{nth}
use Rattle.plain.specs.Auction.{late, failing}
use Rattle.failing.specs.Members.{bit, FailingWord, Added}
use Rattle.failing.specs.Counts.{late_shorts, count_place, Counted, OneMore, Turned}
use Rattle.plain.proofs.Numbered.{nth_at, nth_set_same, nth_set_other}

-- one position more: the member is failing by it, or by the others
one_position : (late rest : Bool) (k : ℕ) → rest ≡ ltb 0 k → late || rest ≡ ltb 0 (only late 1 + k)
one_position true rest k e = sym (lt-ltb 0 (1 + k) (omega arith))
one_position false rest k e = rw (zero-add k) e

-- a member is failing in a security where it holds a late open short
pub failing_counted : (day : ℕ) (ps : List Position) (s m : ℕ) → failing day ps s m ≡ ltb 0 (late_shorts day ps s m)
unfolding failing late_shorts
failing_counted day [] s m = refl
failing_counted day (p ∷ ps) s m =
    one_position (late day s p && eqb p.member m) _ _ (failing_counted day ps s m)

failing_same : (day next : ℕ) (ps qs : List Position) (s m : ℕ) → late_shorts next qs s m ≡ late_shorts day ps s m → failing day ps s m ≡ failing next qs s m
failing_same day next ps qs s m e = failing_counted day ps s m ∙ ap (ltb 0) (sym e) ∙ sym (failing_counted next qs s m)

module _ (day next : ℕ) (ps qs : List Position) (words counts : List ℕ) (h : Counted day ps words counts) where
  word_same : (s : ℕ) → Within 1 32 s → ((m : ℕ) → late_shorts next qs s m ≡ late_shorts day ps s m) → FailingWord next qs s (nth 0 words s)
  word_same s w e =
      record { fits = (h.failing s w).fits; bits = λ m. (h.failing s w).bits m ∙ failing_same day next ps qs s m (e m) }

  -- where no count changes, words and counts stay as they are
  pub counted_same : ((s m : ℕ) → late_shorts next qs s m ≡ late_shorts day ps s m) → Counted next qs words counts
  counted_same e =
      record {
        securities = h.securities;
        places = h.places;
        failing = λ s w. word_same s w (e s);
        counted = λ s m w l. h.counted s m w l ∙ sym (e s m);
      }

  -- where one count changes, so does its word
  module _ (security member : ℕ) (inside : Within 1 32 security) (below : member ≤ 63) (word count : ℕ) (fits : word < 2 ^ 64)
      (bits : (m : ℕ) → eqb member m ≡ false → bit word m ≡ bit (nth 0 words security) m) (own : bit word member ≡ ltb 0 count)
      (is : late_shorts next qs security member ≡ count) (others : (s m : ℕ) → eqb security s && eqb member m ≡ false → late_shorts next qs s m ≡ late_shorts day ps s m) where
    bit_at : (m : ℕ) → Said (eqb member m) → bit word m ≡ failing next qs security m
    bit_at m (passed e) = rw (← eqb-true member m e) (own ∙ ap (ltb 0) (sym is) ∙ sym (failing_counted next qs security member))
    bit_at m (failed e) =
        bits m e
        ∙ (h.failing security inside).bits m
        ∙ failing_same day next ps qs security m (others security m (rw (eq-eqb security security refl) e))

    word_at : (s : ℕ) → Within 1 32 s → Said (eqb security s) → FailingWord next qs s (nth 0 (set words (security - 1) word) s)
    word_at s w (passed e) =
        rw (← eqb-true security s e, nth_set_same 0 words security word (rw h.securities inside))
        (record { fits = fits; bits = λ m. bit_at m (ask (eqb member m)) })
    word_at s w (failed e) =
        let other : s ≢ security = λ d. eqb-false security s e (sym d) in
        rw (nth_set_other 0 words security s word inside.above other) (word_same s w (λ m. others s m (rw e)))

    count_at : (s m : ℕ) → Within 1 32 s → m ≤ 63 → Said (eqb security s && eqb member m) → get_or (set counts (count_place security member) count) (count_place s m) 0 ≡ late_shorts next qs s m
    count_at s m w l (passed e) =
        let s_same : security ≡ s = eqb-true security s (and_left _ _ e) in
        let m_same : member ≡ m = eqb-true member m (and_right (eqb security s) _ e) in
        rw (← s_same, ← m_same, get_or-set_same counts (count_place security member) count 0 (omega (arith, h.places, inside.above, inside.below))) (sym is)
    count_at s m w l (failed e) =
        get_or-set_other counts (count_place security member) (count_place s m) count 0 apart ∙ h.counted s m w l ∙ sym (others s m e)
      where
        apart : count_place s m ≢ count_place security member
        apart d =
            true≢false (sym (both _ _ (eq-eqb security s (omega (arith, d, w.above, inside.above))) (eq-eqb member m (omega (arith, d, w.above, inside.above)))) ∙ e)

    counted_changed : Counted next qs (set words (security - 1) word) (set counts (count_place security member) count)
    counted_changed =
        record {
          securities = length-set words (security - 1) word ∙ h.securities;
          places = length-set counts (count_place security member) count ∙ h.places;
          failing = λ s w. word_at s w (ask (eqb security s));
          counted = λ s m w l. count_at s m w l (ask (eqb security s && eqb member m));
        }

-- A late open short more, and one less

pub own_place : (a b : ℕ) → eqb a a && eqb b b ≡ true
own_place a b = rw (eq-eqb a a refl, eq-eqb b b refl)

module _ (day next : ℕ) (ps qs : List Position) (security member : ℕ) (more : OneMore day ps next qs security member) where
  more_own : late_shorts next qs security member ≡ late_shorts day ps security member + 1
  unfolding OneMore
  more_own = rw (own_place security member) at (more security member)

  more_others : (s m : ℕ) → eqb security s && eqb member m ≡ false → late_shorts next qs s m ≡ late_shorts day ps s m
  unfolding OneMore
  more_others s m e = omega (arith, rw e at (more s m))

  pub counted_more : (words counts : List ℕ) → Counted day ps words counts → Within 1 32 security → member ≤ 63 → (word : ℕ) → Added (nth 0 words security) member word
      → Counted next qs (set words (security - 1) word) (set counts (count_place security member) (get_or counts (count_place security member) 0 + 1))
  counted_more words counts h inside below word added =
      counted_changed day next ps qs words counts h security member inside below word (get_or counts (count_place security member) 0 + 1) added.fits
      (λ m e. added.bits m ∙ rw e)
      (added.bits member ∙ (rw (eq-eqb member member refl) (sym (lt-ltb 0 (get_or counts (count_place security member) 0 + 1) (omega arith)))))
      (more_own ∙ ap (λ (n : ℕ). n + 1) (sym (h.counted security member inside below)))
      more_others

module _ (day : ℕ) (ps qs : List Position) (security member : ℕ) (more : OneMore day qs day ps security member) (words counts : List ℕ) (h : Counted day ps words counts) (inside : Within 1 32 security) (below : member ≤ 63) where
  left_is : late_shorts day qs security member ≡ get_or counts (count_place security member) 0 - 1
  left_is = omega (arith, more_own day day qs ps security member more, h.counted security member inside below)

  others_same : (s m : ℕ) → eqb security s && eqb member m ≡ false → late_shorts day qs s m ≡ late_shorts day ps s m
  others_same s m e = sym (more_others day day qs ps security member more s m e)

  was_failing : bit (nth 0 words security) member ≡ true
  was_failing =
      (h.failing security inside).bits member
      ∙ failing_counted day ps security member
      ∙ lt-ltb 0 (late_shorts day ps security member) (omega (arith, more_own day day qs ps security member more))

  -- the word stays where a late open short is left
  pub counted_less : 0 < get_or counts (count_place security member) 0 - 1 → Counted day qs words (set counts (count_place security member) (get_or counts (count_place security member) 0 - 1))
  counted_less some =
      rw (nth_at 0 words security inside.above, set-get_or words (security - 1) 0) at
      (counted_changed day day ps qs words counts h security member inside below (nth 0 words security) (get_or counts (count_place security member) 0 - 1) (h.failing security inside).fits
      (λ m e. refl)
      (was_failing ∙ sym (lt-ltb 0 (get_or counts (count_place security member) 0 - 1) some))
      left_is
      others_same)

  -- and loses its bit with the last
  pub counted_last : get_or counts (count_place security member) 0 - 1 ≡ 0 → (word : ℕ) → Turned (nth 0 words security) member word
      → Counted day qs (set words (security - 1) word) (set counts (count_place security member) (get_or counts (count_place security member) 0 - 1))
  counted_last last word turned =
      counted_changed day day ps qs words counts h security member inside below word (get_or counts (count_place security member) 0 - 1) turned.fits
      (λ m e. turned.bits m ∙ rw e)
      (turned.bits member ∙ rw (eq-eqb member member refl, was_failing, last))
      left_is
      others_same
