-- The closes that are left decide what the book will be.
use Prim.Native.Nat.{ℕ, zero, suc, ◌+◌, ◌-◌, ◌≤◌, ◌<◌, min}
use native.Mathlib.Omega.{arith}
use mathlib.Core.Path.{◌≡◌, refl, ap, sym, ◌∙◌}
use mathlib.Core.Logic.{◌≢◌}
use lib.Dec.{ltb}
use lib.ListN.{replicate}
use borrow.Author.Tests.{ltb-true, ltb-false}
use Rattle.laws.specs.Asked.{Said, passed, failed, ask}
use Rattle.laws.specs.Limits.{LAST_DAY}
use Rattle.laws.specs.Refusals.{accepted_zero, accepted_not}
use Rattle.events.specs.declared.Event.TheVariants as event
use Rattle.plain.specs.Book.{Book}
use Rattle.plain.specs.Calls.{done}
use Rattle.plain.specs.Refusals.{refusal}
use Rattle.plain.specs.Histories.{next, run}
use Rattle.plain.proofs.Accepted.{close_taken}
use Rattle.probe.specs.Last.{closing}

pub close_next : (b after : Book) (left : ℕ) → 0 < left → after ≡ next b closing → run after (replicate (left - 1) closing) ≡ run b (replicate left closing)
unfolding run
close_next b after zero h stepped = absurd (omega arith)
close_next b after (suc left) h stepped =
    let fewer : suc left - 1 ≡ left = omega arith in
    ap (λ (k : ℕ). run after (replicate k closing)) fewer ∙ ap (λ (p : Book). run p (replicate left closing)) stepped

pub close_none : (b : Book) (left : ℕ) → left ≤ 0 → run b (replicate left closing) ≡ b
unfolding run
close_none b zero h = refl
close_none b (suc left) h = absurd (omega arith)

-- a refused close changes nothing, and so all further ones are refused
refused_closes : (b : Book) (n : ℕ) → refusal b closing ≢ 0 → run b (replicate n closing) ≡ b
unfolding run next
refused_closes b zero h = refl
refused_closes b (suc n) h =
    ap (λ (p : Book). run p (replicate n closing)) (accepted_not (refusal b closing) (done b event.Close) b h) ∙ refused_closes b n h

-- an accepted one begins the next day
next_day : (b : Book) → refusal b closing ≡ 0 → (next b closing).day ≡ suc b.day
unfolding next done
next_day b e = ap (λ (p : Book). p.day) (accepted_zero (refusal b closing) (done b event.Close) b e)

-- a book that has at most k days left is changed by at most k closes
days_left : (k n : ℕ) (b : Book) → LAST_DAY ≤ b.day + k → k ≤ n → run b (replicate n closing) ≡ run b (replicate k closing)
unfolding run
days_left zero n b h l = refused_closes b n (λ e. omega (arith, h, (close_taken b 0 e).early))
days_left (suc k) zero b h l = absurd (omega arith)
days_left (suc k) (suc n) b h l = go (refusal b closing) refl (days_left k n (next b closing))
  where
    go : (r : ℕ) → refusal b closing ≡ r → (LAST_DAY ≤ (next b closing).day + k → k ≤ n → run (next b closing) (replicate n closing) ≡ run (next b closing) (replicate k closing))
        → run b (replicate (suc n) closing) ≡ run b (replicate (suc k) closing)
    go zero e further = further (omega (arith, h, next_day b e)) (omega arith)
    go (suc r) e further =
        let refused : refusal b closing ≢ 0 = λ z. omega (arith, e, z) in
        refused_closes b (suc n) refused ∙ sym (refused_closes b (suc k) refused)

-- as many closes as there are days make what any greater number makes
pub closes_enough : (most n : ℕ) (b : Book) → LAST_DAY ≤ b.day + most → run b (replicate (min n most) closing) ≡ run b (replicate n closing)
closes_enough most n b h = go (ask (ltb most n))
  where
    go : Said (ltb most n) → run b (replicate (min n most) closing) ≡ run b (replicate n closing)
    go (passed p) =
        let more : most < n = ltb-true most n p in
        let bound : min n most ≡ most = omega arith in
        ap (λ (k : ℕ). run b (replicate k closing)) bound ∙ sym (days_left most n b h (omega arith))
    go (failed p) =
        let few : n ≤ most = ltb-false most n p in
        let all : min n most ≡ n = omega arith in
        ap (λ (k : ℕ). run b (replicate k closing)) all
