use Rattle.std.proofs.Common.{arith, sym, ◌∙◌}
use Rattle.std.proofs.lemmas.Result.{err_from_is_err_and}
use Rattle.laws.specs.Answers.{number_some}
use Rattle.register.proofs.Entries.{refusal_start, refusal_end, refusal_there, refusal_past}
use Rattle.register.proofs.entries_refusal.Goals as goal

pub loop-i-init : goal.loop-i-init
loop-i-init c = (omega arith, refusal_start _ _ c.requires.counted)

pub returns-in_err-entry_refusal : goal.returns-in_err-entry_refusal
returns-in_err-entry_refusal c =
    let a = c.args in
    let e = c.in_err-entry_refusal.ensures in
    let p = err_from_is_err_and c.from_residual.result c.from_residual.ensures.1 in
    rw (p.1, p.2)
    (e ∙ sym (refusal_there a.bytes.now a.n c.loop-i.i (omega arith) (λ z. number_some _ (e ∙ z))) ∙ c.loop-i.invariant.1)

pub loop-i-preserved : goal.loop-i-preserved
loop-i-preserved c =
    let a = c.args in
    (omega arith, sym (refusal_past a.bytes.now a.n c.loop-i.i (omega arith) (sym c.in_ok-entry_refusal.ensures)) ∙ c.loop-i.invariant.1)

pub returns : goal.returns
returns c =
    let a = c.args in
    sym (refusal_end a.bytes.now a.n c.loop-i.i c.loop-i-test.false) ∙ c.loop-i.invariant.1
