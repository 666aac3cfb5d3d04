-- An answer tells whether it is a refusal: refusals are 1 to 31, and the bytes written 0 or at least 81.
use Prim.Native.Nat.{ℕ, zero, suc, ◌≤◌}
use native.Mathlib.Omega.{arith}
use mathlib.Core.Path.{◌≡◌, refl, ◌∙◌}
use mathlib.Core.Logic.{◌≢◌}
use mathlib.Core.List.{List, [], ◌∷◌}
use mathlib.Core.Bool.{Bool, not}
use lib.ListN.{length, take, drop}
use lib.Dec.{ltb, eqb}
use Rattle.laws.specs.Limits.{EVENTS}
use Rattle.laws.specs.Words.{word16_at}
use Rattle.laws.specs.Alls.{all_append}
use Rattle.laws.specs.Refusals.{◌⇒◌, choose, first, accepted_zero, accepted_not, AtMost, choose_most, first_most}
use Rattle.laws.specs.WordLaws.{nonzero}
use Rattle.register.specs.Register as register
use Rattle.register.specs.Accepted.{read_most}
use Rattle.events.specs.Layout.{BODY}
use Rattle.files.specs.Layout.{WIDTH_AT}
use Rattle.files.specs.File as file
use Rattle.replay.specs.Replay.{replay_refusal, passed_zero, passing_register}
use Rattle.page.specs.Answer.{end_of, too_short, page_refusal, answered, page_answer}
use Rattle.page.specs.Laws.{Told}
use Rattle.page.proofs.Legible.{every_page}

two_most : (s t : Bool) (k a b : ℕ) → a ≤ k → b ≤ k → first ((s ⇒ a) ∷ (t ⇒ b) ∷ []) ≤ k
two_most s t k a b h l = choose_most s k a (choose t b 0) h (choose_most t k b 0 l (omega arith))

-- a file refuses with at most 7
checks_most : (kinds bodies : List ℕ) → AtMost 7 (file.checks kinds bodies)
checks_most [] bodies = tt
checks_most (kind ∷ kinds) bodies =
    all_append (λ r. r.number ≤ 7) (file.reasons kind (take BODY bodies)) (file.checks kinds (drop BODY bodies)) (omega arith, (omega arith, tt)) (checks_most kinds (drop BODY bodies))

pub file_most : (bytes : List ℕ) → file.refusal bytes ≤ 7
unfolding file.refusal
file_most bytes =
    let kinds = file.kinds_in bytes (file.count bytes) in
    let bodies = file.bodies_in bytes (file.count bytes) in
    choose_most (ltb EVENTS (file.count bytes)) 7 5 _ (omega arith)
    (choose_most (not (eqb (word16_at bytes WIDTH_AT) BODY)) 7 5 _ (omega arith)
    (choose_most (not (eqb (length bytes) (file.size (file.count bytes)))) 7 5 _ (omega arith) (first_most 7 (file.checks kinds bodies) (checks_most kinds bodies))))

module _ (bytes events : List ℕ) (room : ℕ) where
  replay_most : replay_refusal bytes events ≤ 7
  unfolding replay_refusal
  replay_most =
      let a = (register.register_read bytes).number in
      let b = file.refusal events in
      two_most (nonzero a) (nonzero b) 7 a b (omega (arith, read_most bytes)) (file_most events)

  pub page_most : page_refusal bytes events room ≤ 31
  unfolding page_refusal
  page_most =
      let a = replay_refusal bytes events in
      two_most (nonzero a) (too_short (end_of bytes events) room) 31 a 31 (omega (arith, replay_most)) (omega arith)

  -- where the page is not refused, register and file are not
  not_refused : page_refusal bytes events room ≡ 0 → replay_refusal bytes events ≡ 0
  unfolding page_refusal
  not_refused e = passed_zero (replay_refusal bytes events) (first ((too_short (end_of bytes events) room ⇒ 31) ∷ [])) e

-- for all bytes
pub told : (register file page : List ℕ) → Told register file page
unfolding page_answer answered
told register file page =
    let n = page_refusal register file (length page) in
    record {
      written = λ e. accepted_zero n _ n e ∙ (every_page register _ (passing_register register file (not_refused register file (length page) e))).legible.bytes;
      refused = λ h.
          let same = accepted_not n _ n h in
          (same, rw same (record { above = positive n h; below = page_most register file (length page) }));
    }
  where
    positive : (n : ℕ) → n ≢ 0 → 1 ≤ n
    positive zero h = absurd (h refl)
    positive (suc n) h = omega arith
