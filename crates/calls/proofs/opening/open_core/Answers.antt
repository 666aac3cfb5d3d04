-- `calls::opening::open_core` meets its contract.
use Rattle.std.proofs.Common.{◌≡◌, ap, sym, ◌∙◌, arith, subst}
use Rattle.laws.specs.Answers.{number_with, value_in, number_answered, value_answered}
use Rattle.register.specs.declared.Register.{Register}
use Rattle.register.specs.Register.{register_read}
use Rattle.register.specs.Accepted.{Registered, read_most, read_registered}
use Rattle.plain.specs.Book.{new}
use Rattle.calls.proofs.opening.open_core.Goals as goal

pub returns-in-Ok : goal.returns-in-Ok
returns-in-Ok c =
    let read = register_read c.args.bytes.now in
    let number : 0 ≡ read.number = ap number_with c.in-Ok.ensures ∙ number_answered read.number read.register (omega (arith, read_most c.args.bytes.now)) in
    let same : c.in-Ok.register ≡ read.register = ap value_in c.in-Ok.ensures ∙ value_answered read.number read.register in
    record {
      number = number;
      opened =
          record {
            book = λ a blank. (c.new_core.ensures a blank).0 ∙ ap (λ (r : Register). new (record { register = r })) same;
            held = λ a blank. (c.new_core.ensures a blank).1 (subst Registered (sym same) (read_registered c.args.bytes.now (sym number)));
          };
      empty = tt;
    }

pub returns-in-Err : goal.returns-in-Err
returns-in-Err c =
    let read = register_read c.args.bytes.now in
    let same : c.in-Err.turned_down.value ≡ read.register = ap value_in c.in-Err.ensures ∙ value_answered read.number read.register in
    record {
      number = ap number_with c.in-Err.ensures ∙ number_answered read.number read.register (omega (arith, read_most c.args.bytes.now));
      opened = tt;
      empty = λ a blank. (c.new_core-in-Err.ensures a blank).0 ∙ ap (λ (r : Register). new (record { register = r })) same;
    }
