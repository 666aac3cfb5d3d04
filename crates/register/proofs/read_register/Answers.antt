-- `register::read_register` meets its contract.
use Rattle.std.proofs.Common.{◌≡◌, Ok, Err, sym, ap, ◌∙◌}
use Rattle.laws.specs.Answers.{number_some, turned_down_with, answered_with}
use Rattle.laws.specs.declared.TurnedDown.{TurnedDown}
use Rattle.register.specs.declared.Register.{Register}
use Rattle.register.specs.Register.{refusal, register_read}
use Rattle.register.specs.Accepted.{accepted_size, read_accepted, read_refused}
use Rattle.register.proofs.read_register.Goals as goal

pub register_of-requires : goal.register_of-requires
register_of-requires c = accepted_size c.args.bytes.now (sym c.in-Ok.ensures)

pub returns-in-Ok : goal.returns-in-Ok
unfolding register_read
returns-in-Ok c =
    let bytes = c.args.bytes.now in
    let taken = sym c.in-Ok.ensures in
    ap Ok (c.register_of.ensures ∙ sym (read_accepted bytes taken))
    ∙ answered_with (register_read bytes).number (register_read bytes).register taken

pub returns-in-Err : goal.returns-in-Err
unfolding register_read
returns-in-Err c =
    let bytes = c.args.bytes.now in
    let refused = λ (e : refusal bytes ≡ 0). number_some c.in-Err.refusal (c.in-Err.ensures ∙ e) in
    ap (λ (r : Register). Err (record { refusal = c.in-Err.refusal; value = r })) (c.empty_register.ensures ∙ sym (read_refused bytes refused))
    ∙ turned_down_with (register_read bytes).number (register_read bytes).register c.in-Err.refusal c.in-Err.ensures
