-- What a discharge makes of the counts: the short's member holds one late open short less where its last open units are discharged late.
use Prim.Native.Nat.{ℕ, zero, suc, ◌+◌, ◌-◌, ◌≤◌, ◌<◌}
use native.Mathlib.Nat.{sub-zero}
use native.Mathlib.Omega.{arith}
use mathlib.Core.Path.{◌≡◌, refl, ap, sym, ◌∙◌}
use mathlib.Core.Logic.{◌≢◌}
use mathlib.Core.List.{List, [], ◌∷◌}
use mathlib.Core.Bool.{true, and-false, true≢false}
use lib.Dec.{ltb}
use lib.ListN.{length, get_or}
use borrow.Author.Tests.{lt-ltb, le-ltb}
use Rattle.laws.specs.Asked.{Said, passed, failed, ask}
use Rattle.laws.specs.Lists.{sum}
use Rattle.plain.specs.declared.Position.{Position}
use Rattle.plain.specs.declared.Piece.{Piece}
use Rattle.plain.specs.declared.Manner.{Manner}
use Rattle.plain.specs.Book.{Book, no_position, position_of, nth}
use Rattle.plain.specs.Dealing.{taken, lowered, lowering}
use Rattle.plain.specs.Invariants.{Deals}
use Rattle.plain.proofs.Discharged.{length_lowering, lowering_at, taken_short, taken_other, no_long}
use Rattle.plain.specs.Auction.{late}
use Rattle.tables.specs.Late.{LateBefore}
use Rattle.failing.specs.Counts.{late_short, late_shorts, UnitsOf, Lowered, OneMore}
use Rattle.failing.proofs.Counting.{own_place}
use Rattle.failing.proofs.Shorts.{is_late, not_open, not_late}
use Rattle.plain.proofs.Numbered.{nth_at, sum_named}

module _ {A : Type 0} (f : A → ℕ) where
  -- sums that agree at each place, and at each but one
  sum_places : (xs ys : List A) (d : A) → length ys ≡ length xs → ((j : ℕ) → j < length xs → f (get_or ys j d) ≡ f (get_or xs j d)) → sum f ys ≡ sum f xs
  sum_places [] [] d l e = refl
  sum_places [] (y ∷ ys) d l e = absurd (omega arith)
  sum_places (x ∷ xs) [] d l e = absurd (omega arith)
  sum_places (x ∷ xs) (y ∷ ys) d l e =
      omega (arith, e 0 (omega arith), sum_places xs ys d (omega (arith, l)) (λ j k. e (suc j) (omega arith)))

  sum_apart : (xs ys : List A) (i : ℕ) (d : A) → length ys ≡ length xs → i < length xs → ((j : ℕ) → j < length xs → j ≢ i → f (get_or ys j d) ≡ f (get_or xs j d)) → sum f xs + f (get_or ys i d) ≡ sum f ys + f (get_or xs i d)
  sum_apart [] ys i d l h e = absurd (omega arith)
  sum_apart (x ∷ xs) [] i d l h e = absurd (omega arith)
  sum_apart (x ∷ xs) (y ∷ ys) zero d l h e =
      omega (arith, sum_places xs ys d (omega (arith, l)) (λ j k. e (suc j) (omega arith) (λ m. omega arith)))
  sum_apart (x ∷ xs) (y ∷ ys) (suc i) d l h e =
      omega (arith, e 0 (omega arith) (λ m. omega arith), sum_apart xs ys i d (omega (arith, l)) (omega arith) (λ j k n. e (suc j) (omega arith) (λ m. n (omega arith))))

module _ (day : ℕ) (ps : List Position) (n : ℕ) (p : Position) (quantity : ℕ) (u : UnitsOf ps n p quantity) where
  pub counts_one : quantity ≡ p.unsettled → p.settlement.0 < day → 0 < late_shorts day ps p.security p.member
  unfolding late_shorts
  counts_one e l =
      let at : late_short day p.security p.member (nth no_position ps n) ≤ sum (late_short day p.security p.member) ps = sum_named no_position (late_short day p.security p.member) ps n u.held in
      let one : late_short day p.security p.member p ≡ 1 = is_late day p.security p.member p u.short (omega (arith, u.above)) l ∙ (rw (own_place p.security p.member)) in
      omega (arith, rw (← u.is) at at, one)

  module _ (qs : List Position) (low : Lowered day ps qs n quantity) where
    abbrev after : Position
    after = nth no_position qs n

    moved : (s m : ℕ) → late_shorts day ps s m + late_short day s m after ≡ late_shorts day qs s m + late_short day s m p
    unfolding late_shorts
    moved s m =
        rw (u.is, nth_at no_position ps n u.held.above, nth_at no_position qs n u.held.above)
        (sum_apart (late_short day s m) ps qs (n - 1) no_position low.long (omega (arith, u.held.above, u.held.below))
        (λ j k d. rw (low.others j s k d, low.members j k)))

    -- a short that stays open, and one that is not late
    pub still_open : quantity < p.unsettled → (s m : ℕ) → late_shorts day qs s m ≡ late_shorts day ps s m
    still_open l s m =
        let mine : nth no_position ps n ≡ p = sym u.is in
        let left : ltb 0 after.unsettled ≡ ltb 0 p.unsettled = lt-ltb 0 after.unsettled (omega (arith, rw mine at low.unsettled)) ∙ sym (lt-ltb 0 p.unsettled (omega arith)) in
        let same_member : after.member ≡ (nth no_position ps n).member = rw (nth_at no_position qs n u.held.above, nth_at no_position ps n u.held.above) (low.members (n - 1) (omega (arith, u.held.above, u.held.below))) in
        let same : late_short day s m after ≡ late_short day s m p = rw (left, low.short, low.security, low.settlement, same_member, mine) in
        omega (arith, moved s m, same)

    pub not_yet_late : day ≤ p.settlement.0 → (s m : ℕ) → late_shorts day qs s m ≡ late_shorts day ps s m
    not_yet_late l s m =
        omega (arith, moved s m, not_late day s m p l, not_late day s m after (omega (arith, l, low.settlement, ap (λ (q : Position). q.settlement.0) u.is)))

    -- the last open units of a late short
    pub one_less : quantity ≡ p.unsettled → p.settlement.0 < day → OneMore day qs day ps p.security p.member
    unfolding OneMore
    one_less e l s m =
        omega (
          arith,
          moved s m,
          not_open day s m after (rw (le-ltb 0 after.unsettled (omega (arith, e, low.unsettled, ap (λ (q : Position). q.unsettled) u.is))) (and-false after.short)),
          is_late day s m p u.short (omega (arith, u.above, e)) l,
        )

-- The pieces of a discharge

lowered_field : {A : Type 0} (f : Position → A) (xs : List Piece) → ((k : ℕ) (p : Position) → f (lowered xs k p) ≡ f p) → (ps : List Position) (i : ℕ) → i < length ps → f (get_or (lowering xs ps) i no_position) ≡ f (get_or ps i no_position)
lowered_field f xs same ps i h = ap f (lowering_at xs ps i h) ∙ same (suc i) (get_or ps i no_position)

module _ {b : Book} {m : Manner} {n q : ℕ} {xs : List Piece} (f : Deals b m n q xs) where
  -- a short but the discharged one gives nothing
  none_taken : (j : ℕ) → j ≢ n - 1 → (get_or b.positions j no_position).short ≡ true → taken (suc j) xs ≡ 0
  none_taken j d e =
      taken_other f (suc j) (λ k. d (omega arith))
      ∙ no_long f (suc j) (λ l. true≢false (sym e ∙ l.long))

  late_kept : (day s k : ℕ) (p : Position) → (p.short ≡ true → taken k xs ≡ 0) → Said p.short → late day s (lowered xs k p) ≡ late day s p
  unfolding lowered
  late_kept day s k p none (passed e) = rw (none e, sub-zero p.unsettled)
  late_kept day s k p none (failed e) = rw e

  pub lowering_lowered : (day : ℕ) → Lowered day b.positions (lowering xs b.positions) n q
  unfolding lowered
  lowering_lowered day =
      record {
        long = length_lowering xs b.positions;
        members = λ j l. lowered_field (λ p. p.member) xs (λ k p. refl) b.positions j l;
        others = λ j s l d.
            ap (late day s) (lowering_at xs b.positions j l)
            ∙ late_kept day s (suc j) (get_or b.positions j no_position) (λ e. none_taken j d e) (ask (get_or b.positions j no_position).short);
        short = named (λ p. p.short) (λ k p. refl);
        security = named (λ p. p.security) (λ k p. refl);
        settlement = named (λ p. p.settlement.0) (λ k p. refl);
        unsettled =
            ap (λ (p : Position). p.unsettled) (nth_at no_position (lowering xs b.positions) n f.dealable.held.above ∙ lowering_at xs b.positions (n - 1) inside ∙ ap (lowered xs (suc (n - 1))) (sym (nth_at no_position b.positions n f.dealable.held.above)))
            ∙ ap (λ (k : ℕ). (position_of b n).unsettled - k) (ap (λ (k : ℕ). taken k xs) number ∙ taken_short f);
      }
    where
      inside : n - 1 < length b.positions
      inside = omega (arith, f.dealable.held.above, f.dealable.held.below)

      named : {A : Type 0} (g : Position → A) → ((k : ℕ) (p : Position) → g (lowered xs k p) ≡ g p) → g (nth no_position (lowering xs b.positions) n) ≡ g (position_of b n)
      named g same =
          rw (nth_at no_position (lowering xs b.positions) n f.dealable.held.above, nth_at no_position b.positions n f.dealable.held.above)
          (lowered_field g xs same b.positions (n - 1) inside)

      number : suc (n - 1) ≡ n
      number = omega (arith, f.dealable.held.above)

-- delivery days are as they were
pub late_before_lowered : (xs : List Piece) (day : ℕ) (ps : List Position) (place : ℕ) → LateBefore day ps place → LateBefore day (lowering xs ps) place
unfolding lowered
late_before_lowered xs day ps place h =
    record {
      inside = omega (arith, h.inside, length_lowering xs ps);
      earlier = λ j l. rw (settled j (omega (arith, h.inside))) (h.earlier j l);
      later = λ j k l. let in_table : j < length ps = omega (arith, length_lowering xs ps) in rw (settled j in_table) (h.later j k in_table);
    }
  where
    settled : (j : ℕ) → j < length ps → (get_or (lowering xs ps) j no_position).settlement.0 ≡ (get_or ps j no_position).settlement.0
    settled j l = lowered_field (λ p. p.settlement.0) xs (λ k p. refl) ps j l
