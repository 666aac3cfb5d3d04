-- `desk::desk_page` meets its contract.
use Rattle.std.proofs.Common.{sym, ◌∙◌, arith, length}
use Rattle.laws.specs.Answers.{refused_number, done_number, done_value, number_some}
use Rattle.laws.specs.Refusals.{accepted_zero, accepted_not}
use Rattle.page.specs.Answer.{page_answer, answered}
use Rattle.page.proofs.Told.{page_most}
use Rattle.desk.proofs.desk_page.Goals as goal

pub returns-in-Ok : goal.returns-in-Ok
unfolding page_answer answered
returns-in-Ok c =
    let e = c.in-Ok.ensures.answer in
    (done_value _ _ _ e ∙ sym (accepted_zero _ _ _ (done_number _ _ _ e)), c.in-Ok.ensures.page)

pub returns-in-Err : goal.returns-in-Err
unfolding page_answer answered
returns-in-Err c =
    let a = c.args in
    let same = refused_number _ _ _ (omega (arith, page_most a.register.now a.file.now (length a.page.now))) c.in-Err.ensures.answer in
    (c.from-in-Err.ensures ∙ c.from.ensures ∙ same ∙ sym (accepted_not _ _ _ (λ z. number_some c.in-Err.refusal (same ∙ z))), c.in-Err.ensures.page)
