use native.Mathlib.Numerals.{add-one}
use native.Mathlib.Omega.{arith}
use mathlib.Core.Path.{sym, ◌∙◌}
use Rattle.files.proofs.Checking.{left_here, left_next}
use Rattle.std.proofs.lemmas.Result.{err_from_is_err_and}
use Rattle.laws.specs.Answers.{number_some}
use Rattle.files.proofs.events_refusal.Goals as goal

pub returns-in_err-event_refusal : goal.returns-in_err-event_refusal
returns-in_err-event_refusal c =
    let e = c.in_err-event_refusal.ensures in
    let p = err_from_is_err_and c.from_residual.result c.from_residual.ensures.1 in
    rw (p.1, p.2)
    (sym (c.loop-i.invariant.1 ∙ left_here c.args.file.now c.args.count c.requires.1 c.loop-i.i c.loop-i-test.true (λ z. number_some _ (e ∙ z)) ∙ sym e))

pub loop-i-preserved : goal.loop-i-preserved
loop-i-preserved c = (
  omega arith,
  rw (add-one c.loop-i.i)
      (c.loop-i.invariant.1 ∙ left_next c.args.file.now c.args.count c.requires.1 c.loop-i.i c.loop-i-test.true (sym c.in_ok-event_refusal.ensures)),
)
