-- `probe::last_answer` meets its contract.
use Prim.Native.Nat.{◌<◌}
use native.Mathlib.Omega.{arith}
use lib.ListN.{length}
use borrow.Author.Rules.{rules}
use Rattle.files.specs.File.{events_of}
use Rattle.book.specs.View.{view}
use Rattle.probe.proofs.Outcomes.{last_none, last_some}
use Rattle.probe.proofs.last_answer.Goals as goal

pub returns-then-events_in-eq0 : goal.returns-then-events_in-eq0
returns-then-events_in-eq0 c =
    let a = c.args in
    λ b opens. last_none b a.closes (events_of a.file.now) a.sheet (omega (arith, c.events_in.ensures, c.if-events_in-eq0.true))

pub before_last-before-requires : goal.before_last-before-requires
before_last-before-requires c = c.requires

pub outcome_on-requires : goal.outcome_on-requires
outcome_on-requires c = c.before_last-before.ensures.valid

pub returns : goal.returns
returns c =
    let a = c.args in
    let events = events_of a.file.now in
    let some : 0 < length events = omega (arith, c.events_in.ensures, c.if-events_in-eq0.false) in
    λ b opens.
    last_some b a.closes events a.sheet some _ (view c.before_last-before.result) c.last_event.result (c.before_last-before.ensures.book b opens) c.last_event.ensures c.outcome_on.ensures
