-- `desk::desk_copy_file` meets its contract.
use Rattle.std.proofs.Common.{ℕ, ap, ◌∙◌, Result, length}
use Rattle.laws.specs.Answers.{number_in, quantity_of}
use Rattle.laws.specs.declared.Refusal.{Refusal}
use Rattle.answers.specs.Packed.{packed}
use Rattle.desk.proofs.Packing.{answer_packed, copying_most}
use Rattle.desk.proofs.desk_copy_file.Goals as goal

pub returns : goal.returns
returns c =
    let a = c.args in (
      c.answered.ensures
          ∙ ap (λ (r : Result ℕ Refusal). packed (number_in r) (quantity_of r)) c.copy_file.ensures.value
          ∙ answer_packed _ _ (copying_most a.bytes.now (length a.page.now)),
      c.copy_file.ensures.page_after,
    )
