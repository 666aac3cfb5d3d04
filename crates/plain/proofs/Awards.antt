-- The auction, the attempt marks and the awards of a day: unconfirmed awards of a short never exceed what is open of it.
use Prim.Native.Nat.{ℕ, suc, ◌+◌, ◌-◌, ◌≤◌, ◌<◌}
use native.Mathlib.Omega.{arith}
use mathlib.Core.Path.{◌≡◌, refl, ap, sym, ◌∙◌, subst}
use mathlib.Core.Logic.{◌≢◌}
use mathlib.Core.List.{List, ◌++◌}
use mathlib.Core.Bool.{Bool, true, false, not, cond, ◌&&◌, true≢false}
use lib.ListN.{length, get_or}
use lib.Dec.{leb, eqb}
use borrow.Author.Tests.{ne_eqb, eqb-true, eqb-false, leb-false}
use Rattle.laws.specs.Lists.{All, only}
use Rattle.laws.specs.Asked.{Said, passed, failed, ask}
use Rattle.laws.specs.Listed.{sum_append}
use Rattle.laws.specs.Sums.{sum_same_all, sum_zero}
use Rattle.laws.specs.Alls.{all_of, all_at, some_of}
use Rattle.rules.specs.Windows.{step_on, share_step, recurring_step, step_kind}
use Rattle.register.specs.declared.Register.{Register}
use Rattle.plain.specs.declared.Position.{Position}
use Rattle.plain.specs.declared.Piece.{Piece}
use Rattle.plain.specs.declared.Award.{Award}
use Rattle.plain.specs.declared.Manner.{Manner}
use Rattle.plain.specs.Book.{Book, Auction, no_position, no_award, nth, position_of}
use Rattle.plain.specs.Dealing.{due, taken, lowered, lowering}
use Rattle.plain.specs.Auction.{unconfirmed}
use Rattle.plain.specs.Invariants.{as_long, Deals}
use Rattle.plain.proofs.Discharged.{length_lowering, lowering_at, taken_short, taken_other, no_long}
use Rattle.plain.specs.Sound.{Auctioned, Marked, kind_on, marked}
use Rattle.plain.proofs.Numbered.{nth_at, place_nth}

-- Windows

-- at r 0 no class allows a step, so a position with a window is due
kind_zero : (class : ℕ) → step_kind (step_on class 0) ≡ 0
unfolding step_on share_step recurring_step
kind_zero class = go (eqb class 1) (eqb class 2) (eqb class 3)
  where
    go : (a b c : Bool) → step_kind (cond a (share_step 0) (cond b (recurring_step 0) (cond c (recurring_step 0) Rattle.rules.specs.declared.Step.TheVariants.Nothing))) ≡ 0
    go true b c = refl
    go false true c = refl
    go false false true = refl
    go false false false = refl

pub window_due : (register : Register) (day : ℕ) (p : Position) → kind_on register day p ≢ 0 → due day p ≡ true
unfolding due
window_due register day p h = go (ask (leb p.settlement.0 day))
  where
    go : Said (leb p.settlement.0 day) → leb p.settlement.0 day ≡ true
    go (passed e) = e
    go (failed e) =
        let r : day - p.settlement.0 ≡ 0 = omega (arith, leb-false p.settlement.0 day e) in
        absurd (h (ap (λ (k : ℕ). step_kind (step_on (nth 0 register.classes p.security) k)) r ∙ kind_zero (nth 0 register.classes p.security)))

-- Awards on a position

-- no award on n: nothing of it is awarded
pub none_on : (n : ℕ) (awards : List Award) → All (λ a. a.position ≢ n) awards → unconfirmed n awards ≡ 0
unfolding unconfirmed
none_on n awards h =
    sum_same_all (λ a. only (eqb a.position n && not a.confirmed) a.quantity) (λ a. 0) awards
    (all_of (λ a. a.position ≢ n) (λ a. only (eqb a.position n && not a.confirmed) a.quantity ≡ 0) awards (λ a k. rw (ne_eqb a.position n k)) h)
    ∙ sum_zero awards

pub unconfirmed_append : (n : ℕ) (xs ys : List Award) → unconfirmed n (xs ++ ys) ≡ unconfirmed n xs + unconfirmed n ys
unfolding unconfirmed
unconfirmed_append n xs ys = sum_append (λ a. only (eqb a.position n && not a.confirmed) a.quantity) xs ys

module _ {register : Register} {day : ℕ} {ps : List Position} {auction : Auction} {awards : List Award} {marks : List ℕ} (h : Auctioned register day ps auction awards marks) where
  -- a marked position is a short in its window
  pub mark_of : (n : ℕ) → marked marks n ≡ true → Marked register day ps n
  mark_of n e =
      some_of (λ k. eqb k n) (Marked register day ps) (Marked register day ps n) marks e h.marks_fit
      (λ k t m. subst (λ (j : ℕ). Marked register day ps j) (eqb-true k n t) m)

  pub award_marked : (j : ℕ) → j < length awards → Marked register day ps (get_or awards j no_award).position
  award_marked j l = mark_of (get_or awards j no_award).position (all_at (λ a. marked marks a.position ≡ true) awards j no_award l h.awards_marked)

  -- a position that is not marked has no award
  pub unmarked_free : (n : ℕ) → (Marked register day ps n → ⊥) → unconfirmed n awards ≡ 0
  unmarked_free n d =
      none_on n awards
      (all_of (λ a. marked marks a.position ≡ true) (λ a. a.position ≢ n) awards (λ a e s. d (subst (λ (j : ℕ). Marked register day ps j) s (mark_of a.position e))) h.awards_marked)

-- Lowering keeps what the marks say
pub marked_lowered : (register : Register) (day : ℕ) (xs : List Piece) (ps : List Position) (n : ℕ) → Marked register day ps n → Marked register day (lowering xs ps) n
marked_lowered register day xs ps n m =
    let l : n - 1 < length ps = omega (arith, m.held.above, m.held.below) in
    let at : nth no_position (lowering xs ps) n ≡ lowered xs (suc (n - 1)) (nth no_position ps n) =
    nth_at no_position (lowering xs ps) n m.held.above ∙ lowering_at xs ps (n - 1) l ∙ ap (lowered xs (suc (n - 1))) (sym (nth_at no_position ps n m.held.above)) in
    record {
      held = record { above = m.held.above; below = rw (length_lowering xs ps) m.held.below };
      short = ap (λ (p : Position). p.short) at ∙ unfold lowered in m.short;
      window = ap (λ (p : Position). kind_on register day p) at ∙ unfold lowered in m.window;
    }

-- a discharge of q units of short n that leaves the awards covered
module _ {b : Book} {m : Manner} {n q : ℕ} {xs : List Piece} (f : Deals b m n q xs) (awards' : List Award)
    (h : Auctioned b.opening.register b.day b.positions b.auction b.awards b.marks) where
  pub covered_lowered : unconfirmed n awards' + q ≤ (position_of b n).unsettled → ((k : ℕ) → k ≢ n → unconfirmed k awards' ≡ unconfirmed k b.awards) → (i : ℕ) → i < length (lowering xs b.positions) → unconfirmed (suc i) awards' ≤ (get_or (lowering xs b.positions) i no_position).unsettled
  covered_lowered here others i l = rw (lowering_at xs b.positions i k) (at (ask (eqb (suc i) n)))
    where
      k : i < length b.positions
      k = omega (arith, length_lowering xs b.positions)

      p : Position
      p = get_or b.positions i no_position

      lower : (lowered xs (suc i) p).unsettled ≡ p.unsettled - taken (suc i) xs
      lower = unfold lowered in refl

      place : suc i - 1 ≡ i
      place = omega arith

      -- a short that is not the discharge's own gives nothing; a long has no award
      other : suc i ≢ n → Said p.short → unconfirmed (suc i) awards' ≤ (lowered xs (suc i) p).unsettled
      other d (passed s) =
          let none : as_long (suc i) xs ≡ 0 = no_long f (suc i) (λ t. true≢false (sym s ∙ t.long)) in
          omega (arith, lower, taken_other f (suc i) d, none, others (suc i) d, h.covered i k)
      other d (failed s) =
          let free : unconfirmed (suc i) b.awards ≡ 0 = unmarked_free h (suc i) (λ t. true≢false (sym t.short ∙ s)) in
          omega (arith, free, others (suc i) d)

      at : Said (eqb (suc i) n) → unconfirmed (suc i) awards' ≤ (lowered xs (suc i) p).unsettled
      at (passed e) =
          let same : suc i ≡ n = eqb-true (suc i) n e in
          let own : position_of b n ≡ p = place_nth no_position b.positions i n (sym same) in
          omega (arith, lower, here, ap (λ (j : ℕ). unconfirmed j awards') same, ap (λ (j : ℕ). taken j xs) same, taken_short f, ap (λ (r : Position). r.unsettled) own)
      at (failed e) = other (eqb-false (suc i) n e) (ask p.short)
