-- `page::show` meets its contract.
use Rattle.std.proofs.lemmas.Result.{err_from_is_err_and}
use Rattle.plain.specs.Book.{opening_read, new}
use Rattle.page.proofs.Answers.{refused, taken}
use Rattle.page.proofs.show.Goals as goal

pub returns-in_err-core-clause-answer : goal.returns-in_err-core-clause-answer
returns-in_err-core-clause-answer c =
    let p = err_from_is_err_and c.from_residual.result c.from_residual.ensures.1 in
    rw (p.1, p.2) (refused c.args.register.now c.args.file.now c.args.page.now _ c.in_err-core.ensures.number).0

pub returns-in_err-core-clause-page : goal.returns-in_err-core-clause-page
returns-in_err-core-clause-page c = (refused c.args.register.now c.args.file.now c.args.page.now _ c.in_err-core.ensures.number).1

pub returns-clause-answer : goal.returns-clause-answer
returns-clause-answer c =
    let ready = c.in_ok-core.ensures in
    (taken c.args.register.now c.args.file.now c.args.page.now _ _ ready.number (c.show_played.ensures (new (opening_read c.args.register.now)) ready.opened.opened.book)).0

pub returns-clause-page : goal.returns-clause-page
returns-clause-page c =
    let ready = c.in_ok-core.ensures in
    (taken c.args.register.now c.args.file.now c.args.page.now _ c.show_played.result ready.number (c.show_played.ensures (new (opening_read c.args.register.now)) ready.opened.opened.book)).1
