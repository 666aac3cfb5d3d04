-- `files::write_file` meets its contract. Refused, the page is untouched; else its parts are written one after the other.
use native.Mathlib.Omega.{arith}
use Prim.Native.Nat.{ℕ, ◌+◌}
use mathlib.Core.Path.{◌≡◌, ap, ◌∙◌}
use lib.ListN.{length, take}
use lib.Seq.{sets, length-take-le}
use Rattle.laws.specs.Limits.{EVENTS}
use Rattle.laws.specs.Lists.{each}
use Rattle.events.specs.Body.{body_of}
use Rattle.files.specs.Layout.{HEADER}
use Rattle.files.specs.File.{writing_refusal}
use Rattle.files.proofs.Answers.{many, short, enough}
use Rattle.files.proofs.Writing.{file_written, read_back}
use borrow.Author.Rules.{rules}
use Rattle.files.proofs.write_file.Goals as goal

pub returns-then-count-gt-EVENTS : goal.returns-then-count-gt-EVENTS
returns-then-count-gt-EVENTS c =
    let e : writing_refusal c.args.count (length c.args.page.now) ≡ 5 = many c.args.count (length c.args.page.now) c.if-count-gt-EVENTS.true in
    record { value = rw e; page_after = rw e; reads_back = λ z. absurd (omega arith) }

pub returns-then-page-bytes : goal.returns-then-page-bytes
returns-then-page-bytes c =
    let e : writing_refusal c.args.count (length c.args.page.now) ≡ 5 = short c.args.count (length c.args.page.now) c.if-count-gt-EVENTS.false c.if-page-bytes.true in
    record { value = rw e; page_after = rw e; reads_back = λ z. absurd (omega arith) }

pub returns : goal.returns
returns c =
    let n = c.args.count in
    let page = c.args.page.now in
    let events = take n c.args.events in
    let e : writing_refusal n (length page) ≡ 0 = enough n (length page) c.if-count-gt-EVENTS.false c.if-page-bytes.false in
    let listed : length c.args.events ≡ EVENTS = search rules in
    let long : length events ≡ n = length-take-le n c.args.events (omega (arith, c.if-count-gt-EVENTS.false)) in
    let written = file_written page c.put16.new.page c.put16-2.new.page c.put_kinds.new.page c.put_bodies.new.page events n long c.if-page-bytes.false c.put16.ensures c.put16-2.ensures c.put_kinds.ensures
    (c.put_bodies.ensures.page_after ∙ ap (λ (k : ℕ). sets c.put_kinds.new.page (HEADER + k) (each body_of events)) long) in
    record { value = rw e; page_after = rw e written; reads_back = λ z. read_back events _ _ n long c.if-count-gt-EVENTS.false c.put_bodies.ensures.all written }
