-- The places where walks start: a discharge lowers open quantities only, so what was closed stays closed.
use Prim.Native.Nat.{ℕ, suc, ◌-◌, ◌≤◌, ◌<◌}
use native.Mathlib.Omega.{arith}
use mathlib.Core.Path.{◌≡◌, ap, sym, ◌∙◌}
use mathlib.Core.Bool.{true}
use mathlib.Core.List.{List}
use lib.ListN.{length, get_or, take, set, length-set}
use lib.Seq.{get_or-take, length-take-le}
use lib.Dec.{eqb}
use borrow.Author.Tests.{eqb-true, eqb-false}
use Rattle.laws.specs.Asked.{Said, passed, failed, ask}
use Rattle.plain.specs.declared.Position.{Position}
use Rattle.plain.specs.declared.Piece.{Piece}
use Rattle.plain.specs.Book.{no_position, nth}
use Rattle.plain.specs.Dealing.{long_of, lowered, lowering}
use Rattle.plain.proofs.Discharged.{lowering_at}
use Rattle.positions.specs.Dealing.{ClosedBefore}
use Rattle.machine.specs.View.{Started}
use Rattle.laws.specs.Asked.{Within}
use Rattle.plain.proofs.Numbered.{nth_set_same, nth_set_other}

module _ (count : ℕ) (entry exit : List Position) (xs : List Piece) (places : count ≤ length entry) (low : take count exit ≡ lowering xs (take count entry)) where
  lowered_at : (j : ℕ) → j < count → get_or exit j no_position ≡ lowered xs (suc j) (get_or entry j no_position)
  lowered_at j l =
      sym (get_or-take count exit j no_position l)
      ∙ ap (λ (ps : List Position). get_or ps j no_position) low
      ∙ lowering_at xs (take count entry) j (omega (arith, length-take-le count entry places))
      ∙ ap (lowered xs (suc j)) (get_or-take count entry j no_position l)

  closed_at : (s : ℕ) (k : ℕ) (p : Position) → (long_of s p ≡ true → p.unsettled ≡ 0) → long_of s (lowered xs k p) ≡ true → (lowered xs k p).unsettled ≡ 0
  unfolding lowered long_of
  closed_at s k p c t = omega (arith, c t)

  pub closed_lowered : (s n : ℕ) → n ≤ count → ClosedBefore s entry n → ClosedBefore s exit n
  unfolding ClosedBefore
  closed_lowered s n few c = λ j l. rw (lowered_at j (omega (arith, l, few))) (closed_at s (suc j) (get_or entry j no_position) (c j l))

  -- the places stay, where no walk was made
  pub started_kept : (starts : List ℕ) → Started count starts entry → Started count starts exit
  started_kept starts st =
      record { places = st.places; within = st.within; closed = λ k l. closed_lowered k (nth 0 starts k) (st.within k) (st.closed k l) }

  module _ (starts : List ℕ) (st : Started count starts entry) (s end : ℕ) (above : 1 ≤ s) (below : s ≤ 32) (few : end ≤ count) (closed : ClosedBefore s exit end) where
    placed : Within 1 (length starts) s
    placed = record { above = above; below = omega (arith, st.places) }

    within_at : (k : ℕ) → Said (eqb k s) → nth 0 (set starts (s - 1) end) k ≤ count
    within_at k (passed e) = rw (eqb-true k s e, nth_set_same 0 starts s end placed) few
    within_at k (failed e) = rw (nth_set_other 0 starts s k end above (eqb-false k s e)) (st.within k)

    start_at : (k : ℕ) → 1 ≤ k → Said (eqb k s) → ClosedBefore k exit (nth 0 (set starts (s - 1) end) k)
    start_at k l (passed e) =
        rw (eqb-true k s e, nth_set_same 0 starts s end placed) closed
    start_at k l (failed e) =
        rw (nth_set_other 0 starts s k end above (eqb-false k s e)) (closed_lowered k (nth 0 starts k) (st.within k) (st.closed k l))

    pub started_after : Started count (set starts (s - 1) end) exit
    started_after =
        record {
          places = length-set starts (s - 1) end ∙ st.places;
          within = λ k. within_at k (ask (eqb k s));
          closed = λ k l. start_at k l (ask (eqb k s));
        }
