-- `probe::probe_last_call` meets its contract.
use mathlib.Core.Path.{◌≡◌, sym, ap, ◌∙◌}
use Rattle.answers.specs.Packed.{packed}
use Rattle.laws.specs.Answers.{Outcome, number_in, quantity_of}
use Rattle.probe.specs.Last.{number_for, quantity_for}
use Rattle.probe.proofs.Outcomes.{refused_input, last_packed}
use Rattle.probe.proofs.probe_last_call.Goals as goal
use Rattle.probe.proofs.probe_last_call.Goals.{in-Ok, in-Err}

pub last_answer-answer-requires : goal.last_answer-answer-requires
last_answer-answer-requires c = c.in-Ok.ensures.ready.opened.opened.held

pub returns : goal.returns
returns c =
    let a = c.args in
    let told : packed (number_in c.match-start.answer) (quantity_of c.match-start.answer) ≡ packed (number_for a.input.now a.closes a.sheet) (quantity_for a.input.now a.closes a.sheet) =
    elim c.match-start.branch [ in-Ok w ↦ rw w.answer-is (last_packed a.input.now a.closes a.sheet _ w.in-Ok.ensures _ (w.last_answer-answer.ensures _ w.in-Ok.ensures.ready.opened.opened.book)) | in-Err w ↦ rw w.answer-is (refused_input a.input.now a.closes a.sheet _ w.in-Err.ensures.number) ]
    in
    c.answered.ensures ∙ told
