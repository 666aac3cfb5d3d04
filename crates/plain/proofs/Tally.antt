-- After every list of calls each position's figures are the pieces that name it, by manner, and its netted quantity is their sum with what is open.
use Prim.Native.Nat.{ℕ, zero, suc, ◌+◌, ◌-◌, ◌≤◌, ◌<◌}
use native.Mathlib.Omega.{arith}
use mathlib.Core.Path.{◌≡◌, refl, ap, sym, ◌∙◌}
use mathlib.Core.List.{List, [], ◌∷◌, ◌++◌}
use lib.ListN.{length, get_or, length-append, get_or-append, get_or-eq_default}
use lib.Seq.{get_or-append-add}
use lib.Dec.{ltb, eqb}
use borrow.Author.Tests.{ltb-true, ltb-false}
use Rattle.laws.specs.Lists.{All, only, sum}
use Rattle.laws.specs.Asked.{Said, passed, failed, ask}
use Rattle.laws.specs.Listed.{sum_append}
use Rattle.laws.specs.Sums.{only_zero}
use Rattle.laws.specs.Alls.{all_at}
use Rattle.laws.specs.Refusals.{accepted}
use Rattle.plain.specs.declared.Opening.{Opening}
use Rattle.events.specs.declared.Event.{Event}
use Rattle.plain.specs.declared.Position.{Position}
use Rattle.plain.specs.declared.Piece.{Piece}
use Rattle.plain.specs.declared.Manner.{Manner}
use Rattle.plain.specs.declared.Manner.TheVariants.{Delivered, BoughtIn, Cash, Paired}
use Rattle.plain.specs.Book.{Book, new, no_position}
use Rattle.plain.specs.Netting.{keys, netted}
use Rattle.plain.specs.Dealing.{manners, figure, manner_number, names, taken_by, lowered, lowering}
use Rattle.plain.specs.Calls.{Call, hands_out, done}
use Rattle.plain.specs.Refusals.{refusal}
use Rattle.plain.specs.Histories.{event_of, next, pieces, run, handed}
use Rattle.plain.proofs.Accepted.{next_keeps}
use Rattle.plain.specs.Invariants.{Whole, Deals}
use Rattle.plain.proofs.Netted.{New, netted_new}
use Rattle.plain.proofs.Discharged.{length_lowering, lowering_at, taken_past, taken_by_lem}
use Rattle.plain.proofs.Steps.{Step, discharge, close, stay}
use Rattle.plain.specs.Sound.{Sound}
use Rattle.plain.proofs.Sound.{done_sound, sound_step, sound, new_sound}

figure_none : (w : Manner) → figure w no_position ≡ 0
figure_none Delivered = refl
figure_none BoughtIn = refl
figure_none Cash = refl
figure_none Paired = refl

figure_new : (w : Manner) (day : ℕ) (p : Position) → New day p → figure w p ≡ 0
figure_new Delivered day p n = n.delivered
figure_new BoughtIn day p n = n.bought
figure_new Cash day p n = n.cash
figure_new Paired day p n = n.paired

figure_lowered : (w : Manner) (xs : List Piece) (n : ℕ) (p : Position) → figure w (lowered xs n p) ≡ figure w p + taken_by w n xs
unfolding lowered
figure_lowered Delivered xs n p = refl
figure_lowered BoughtIn xs n p = refl
figure_lowered Cash xs n p = refl
figure_lowered Paired xs n p = refl

taken_none : (w : Manner) (n : ℕ) → taken_by w n [] ≡ 0
unfolding taken_by
taken_none w n = refl

pub taken_append : (w : Manner) (n : ℕ) (xs ys : List Piece) → taken_by w n (xs ++ ys) ≡ taken_by w n xs + taken_by w n ys
unfolding taken_by
taken_append w n xs ys = sum_append (λ x. only (eqb (manner_number x.manner) (manner_number w)) (names n x)) xs ys

-- One accepted call

figure_appended : (w : Manner) (day : ℕ) (ps qs : List Position) (i : ℕ) → All (New day) qs → figure w (get_or (ps ++ qs) i no_position) ≡ figure w (get_or ps i no_position)
figure_appended w day ps qs i h = go (ask (ltb i (length ps))) (ask (ltb i (length ps + length qs)))
  where
    go : Said (ltb i (length ps)) → Said (ltb i (length ps + length qs)) → figure w (get_or (ps ++ qs) i no_position) ≡ figure w (get_or ps i no_position)
    go (passed e) t = ap (figure w) (get_or-append ps qs no_position i (ltb-true i (length ps) e))
    go (failed e) (passed f) =
        let l : length ps ≤ i = ltb-false i (length ps) e in
        let k : i ≡ length ps + (i - length ps) = omega arith in
        let at : get_or (ps ++ qs) i no_position ≡ get_or qs (i - length ps) no_position = ap (λ (j : ℕ). get_or (ps ++ qs) j no_position) k ∙ get_or-append-add ps qs (i - length ps) no_position in
        let m : i - length ps < length qs = omega (arith, ltb-true i (length ps + length qs) f) in
        ap (figure w) at ∙ figure_new w day (get_or qs (i - length ps) no_position) (all_at (New day) qs (i - length ps) no_position m h)
        ∙ sym (ap (figure w) (get_or-eq_default ps no_position l) ∙ figure_none w)
    go (failed e) (failed f) =
        let l : length ps ≤ i = ltb-false i (length ps) e in
        let m : length (ps ++ qs) ≤ i = omega (arith, ltb-false i (length ps + length qs) f, length-append ps qs) in
        ap (figure w) (get_or-eq_default (ps ++ qs) no_position m ∙ sym (get_or-eq_default ps no_position l))

figure_discharged : {b : Book} {m : Manner} {n q : ℕ} {xs : List Piece} → Deals b m n q xs → (w : Manner) (i : ℕ) → figure w (get_or (lowering xs b.positions) i no_position) ≡ figure w (get_or b.positions i no_position) + taken_by w (suc i) xs
figure_discharged {b} {m} {xs = xs} f w i = go (ask (ltb i (length b.positions)))
  where
    go : Said (ltb i (length b.positions)) → figure w (get_or (lowering xs b.positions) i no_position) ≡ figure w (get_or b.positions i no_position) + taken_by w (suc i) xs
    go (passed e) =
        ap (figure w) (lowering_at xs b.positions i (ltb-true i (length b.positions) e)) ∙ figure_lowered w xs (suc i) (get_or b.positions i no_position)
    go (failed e) =
        let l : length b.positions ≤ i = ltb-false i (length b.positions) e in
        let m' : length (lowering xs b.positions) ≤ i = omega (arith, length_lowering xs b.positions) in
        let none : taken_by w (suc i) xs ≡ 0 = taken_by_lem f w (suc i) ∙ ap (λ (k : ℕ). only (eqb (manner_number m) (manner_number w)) k) (taken_past f (suc i) (omega arith)) ∙ only_zero (eqb (manner_number m) (manner_number w)) in
        omega (arith, none, ap (figure w) (get_or-eq_default (lowering xs b.positions) no_position m'), ap (figure w) (get_or-eq_default b.positions no_position l))

figure_done : (b : Book) (e : Event) → Step b e → (w : Manner) (i : ℕ) → figure w (get_or (done b e).positions i no_position) ≡ figure w (get_or b.positions i no_position) + taken_by w (suc i) (hands_out b e)
figure_done b e (discharge f q ps day) w i = rw ps (figure_discharged f w i)
figure_done b e (close none ps day) w i =
    rw (ps, none) (figure_appended w b.day b.positions (netted b.day b.trades (keys b.opening.register.count)) i (netted_new b.day b.trades (keys b.opening.register.count)) ∙ omega (arith, taken_none w (suc i)))
figure_done b e (stay none ps day) w i = rw (ps, none) (omega (arith, taken_none w (suc i)))

-- Every list of calls

module _ (w : Manner) (i : ℕ) where
  next_figure : (b : Book) (c : Call) → Sound b → figure w (get_or (next b c).positions i no_position) ≡ figure w (get_or b.positions i no_position) + taken_by w (suc i) (pieces b c)
  unfolding next pieces
  next_figure b c h = go (refusal b c) refl
    where
      go : (n : ℕ) → refusal b c ≡ n → figure w (get_or (accepted n (done b (event_of c)) b).positions i no_position) ≡ figure w (get_or b.positions i no_position) + taken_by w (suc i) (accepted n (hands_out b (event_of c)) [])
      go zero e = figure_done b (event_of c) (sound_step b h c e) w i
      go (suc n) e = omega (arith, taken_none w (suc i))

  pub run_figure : (b : Book) (cs : List Call) → Sound b → figure w (get_or (run b cs).positions i no_position) ≡ figure w (get_or b.positions i no_position) + taken_by w (suc i) (handed b cs)
  unfolding run handed
  run_figure b [] h = omega (arith, taken_none w (suc i))
  run_figure b (c ∷ cs) h =
      omega (
        arith,
        next_figure b c h,
        run_figure (next b c) cs (next_keeps Sound done_sound b c h),
        taken_append w (suc i) (pieces b c) (handed (next b c) cs),
      )

-- netted is delivered, bought in, settled in cash, paired off and open, the first four summed over all pieces handed out, by manner
pub tally : (opening : Opening) (cs : List Call) (i : ℕ) → i < length (run (new opening) cs).positions
    → (get_or (run (new opening) cs).positions i no_position).netted
    ≡ sum (λ m. taken_by m (suc i) (handed (new opening) cs)) manners + (get_or (run (new opening) cs).positions i no_position).unsettled
unfolding new
tally opening cs i h =
    let s = sound opening cs in
    let n = new_sound opening in
    let b : Book = new opening in
    omega (
      arith,
      all_at Whole (run b cs).positions i no_position h s.settled.whole,
      run_figure Delivered i b cs n,
      run_figure BoughtIn i b cs n,
      run_figure Cash i b cs n,
      run_figure Paired i b cs n,
    )
