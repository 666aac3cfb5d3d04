-- `timed::timed_play` meets its contract.
use Prim.Native.Nat.{ℕ}
use native.Mathlib.Omega.{arith}
use mathlib.Core.Path.{◌≡◌, ap, ◌∙◌}
use mathlib.Core.List.{List}
use lib.ListN.{length}
use borrow.Author.Rules.{rules}
use Rattle.files.specs.File.{events_of}
use Rattle.report.specs.Pages.{put_text}
use Rattle.transcript.specs.Transcript.{events_in, opened}
use Rattle.transcript.specs.Whole.{left}
use Rattle.transcript.proofs.Ready.{back}
use Rattle.timed.proofs.Writing.{refused_play, no_room, written_play}
use Rattle.timed.proofs.timed_play.Goals as goal
use Rattle.timed.proofs.timed_play.Lts as lts
use Rattle.timed.proofs.timed_play.Tie as tie
use Rattle.timed.proofs.timed_play.Reads as reads

abbrev After-events_in-count : Type 0
After-events_in-count = lts.After-events_in tie.the-claims reads.Pre reads.Post

pub returns-in-Err : goal.returns-in-Err
returns-in-Err c = refused_play _ _ c.in-Err.ensures.number _ _ _ (rw c.from.ensures at c.refusal_line.ensures)

-- the events that are counted are the input's
counted : (c : After-events_in-count) → c.events_in-count.result ≡ length (events_in c.args.input.now)
counted c =
    c.events_in-count.ensures ∙ ap (λ (file : List ℕ). length (events_of file)) (back c.args.input.now c.in-Ok.started.file c.in-Ok.ensures.ready.file)

pub returns-then-page-count : goal.returns-then-page-count
returns-then-page-count c =
    no_room _ _ c.in-Ok.ensures _ (omega (arith, counted c.before.before, c.if-page-count.true))

pub write_played-requires : goal.write_played-requires
write_played-requires c =
    (c.in-Ok.ensures.ready.opened.opened.held, omega (arith, c.events_in-count.ensures, c.if-page-count.false))

pub returns : goal.returns
returns c =
    let input = c.args.input.now in
    let file = back input c.in-Ok.started.file c.in-Ok.ensures.ready.file in
    let put = put_text _ _ _ _ _ (ap (λ (f : List ℕ). left (events_of f) (opened input) 0) file) (c.write_played.ensures.0 (opened input) c.in-Ok.ensures.ready.opened.opened.book) in
    written_play input _ c.in-Ok.ensures _ _ _ (omega (arith, c.events_in-count.ensures, ap (λ (f : List ℕ). length (events_of f)) file, c.if-page-count.false)) (omega (arith, c.write_played.ensures.1, ap (λ (f : List ℕ). length (events_of f)) file)) put
