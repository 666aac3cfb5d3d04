-- `desk::desk_register` meets its contract.
use Rattle.std.proofs.Common.{ℕ, ap, sym, ◌∙◌}
use Rattle.answers.specs.Packed.{packed}
use Rattle.laws.specs.Answers.{number}
use Rattle.desk.proofs.Packing.{register_packed, none_counted}
use Rattle.desk.proofs.desk_register.Goals as goal

pub returns-in-Ok : goal.returns-in-Ok
returns-in-Ok c = c.answered.ensures ∙ ap (packed 0) c.from.ensures ∙ register_packed c.args.bytes.now _ c.in-Ok.ensures

pub returns-in-Err : goal.returns-in-Err
returns-in-Err c =
    c.answered-in-Err.ensures
    ∙ ap (λ (n : ℕ). packed (number c.in-Err.turned_down.refusal) n) (sym (none_counted c.args.bytes.now _ c.in-Err.ensures))
    ∙ register_packed c.args.bytes.now _ c.in-Err.ensures
