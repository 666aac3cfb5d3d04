-- A call's answer as one number, by its refusal number.
use Rattle.std.proofs.Common.{ℕ, zero, suc, ◌≤◌, ◌≡◌, refl, ap, ap₂, ◌∙◌, arith, List, Result, Err}
use Rattle.laws.specs.declared.TurnedDown.{TurnedDown}
use Rattle.register.specs.declared.Register.{Register}
use Rattle.laws.specs.Answers.{REFUSALS, answer, answer_number, answer_with, number_answered, number_in, number_some, number_with, quantity_of, value_answered, value_in}
use Rattle.laws.specs.Refusals.{accepted, choose_most}
use Rattle.laws.specs.WordLaws.{nonzero}
use Rattle.files.specs.File.{refusal, copying_refusal}
use Rattle.register.specs.Register.{register_read, empty_register}
use Rattle.register.specs.Accepted.{read_refused, read_most}
use Rattle.page.proofs.Told.{file_most}
use Rattle.answers.specs.Packed.{packed}

-- a refusal has quantity 0
pub answer_packed : (n q : ℕ) → n ≤ REFUSALS → packed (number_in (answer n q)) (quantity_of (answer n q)) ≡ packed n (accepted n q 0)
answer_packed zero q h = refl
answer_packed (suc n) q h = ap (λ (m : ℕ). packed m 0) (answer_number (suc n) q h)

pub copying_most : (bytes : List ℕ) (room : ℕ) → copying_refusal bytes room ≤ REFUSALS
unfolding copying_refusal
copying_most bytes room =
    let n = refusal bytes in
    choose_most (nonzero n) REFUSALS n _ (omega (arith, file_most bytes))
    (choose_most _ REFUSALS 5 0 (omega arith) (omega arith))

-- a register's answer, with the count of the register that is read
module _ (bytes : List ℕ) where
  read_number : (r : Result Register (TurnedDown Register)) → r ≡ answer_with (register_read bytes).number (register_read bytes).register → number_with r ≡ (register_read bytes).number
  read_number r e =
      ap number_with e ∙ number_answered (register_read bytes).number (register_read bytes).register (omega (arith, read_most bytes))

  pub register_packed : (r : Result Register (TurnedDown Register)) → r ≡ answer_with (register_read bytes).number (register_read bytes).register
      → packed (number_with r) (value_in r).count ≡ packed (register_read bytes).number (register_read bytes).register.count
  register_packed r e =
      ap₂ packed (read_number r e)
      (ap (λ (x : Register). x.count) (ap value_in e ∙ value_answered (register_read bytes).number (register_read bytes).register))

  -- the count of a register that is refused is 0
  pub none_counted : (t : TurnedDown Register) → Err t ≡ answer_with (register_read bytes).number (register_read bytes).register → t.value.count ≡ 0
  unfolding register_read empty_register
  none_counted t e =
      let refused = λ (z : (register_read bytes).number ≡ 0). number_some t.refusal (read_number (Err t) e ∙ z) in
      ap (λ (x : Register). x.count)
      (ap value_in e ∙ value_answered (register_read bytes).number (register_read bytes).register ∙ read_refused bytes refused)
