-- `timed::write_played` meets its contract.
use Prim.Native.Nat.{◌+◌, ◌≤◌}
use native.Mathlib.Omega.{arith}
use mathlib.Core.Path.{ap}
use lib.ListN.{length}
use borrow.Author.Rules.{rules}
use Rattle.files.specs.File.{events_of}
use Rattle.plain.specs.Book as plain
use Rattle.machine.specs.declared.Numbers.{Numbers}
use Rattle.machine.specs.View.{numbers, Blank}
use Rattle.report.specs.Pages.{put_text, put_length}
use Rattle.transcript.specs.Playing.{END}
use Rattle.transcript.specs.Whole.{left}
use Rattle.timed.proofs.Writing.{ended}
use Rattle.timed.proofs.write_played.Goals as goal
use Rattle.timed.proofs.write_played.Goals.{After-write_events-written}

pub write_events-written-requires : goal.write_events-written-requires
write_events-written-requires c =
    (c.requires.0 _ c.new_numbers-lent.ensures.blank, c.blank_numbers-sheet.ensures.1, omega (arith, c.requires.1))

-- the page after the events, and what the end's lines leave free of it
room : (c : After-write_events-written) → c.write_events-written.result.bytes + END ≤ length c.write_events-written.new.page
room c =
    let g = c.write_events-written.ensures.1 in
    omega (arith, c.requires.1, c.write_events-written.ensures.2, put_length _ _ _ _ g.put (omega (arith, c.requires.1, c.write_events-written.ensures.2)))

pub slice_bounds-end_lines-count : goal.slice_bounds-end_lines-count
slice_bounds-end_lines-count c = omega (arith, room (goal.at.slice_bounds-end_lines-count c).After-write_events-written)

pub slice_bounds-end_lines-start : goal.slice_bounds-end_lines-start
slice_bounds-end_lines-start c = omega (arith, room (goal.at.slice_bounds-end_lines-start c).After-write_events-written)

pub slice_bounds-end_lines-end : goal.slice_bounds-end_lines-end
slice_bounds-end_lines-end c = omega arith

pub end_lines-requires : goal.end_lines-requires
end_lines-requires c =
    let x = c.write_events-written.new in
    (x.lent, c.write_events-written.ensures.0)

pub overflow_add-result : goal.overflow_add-result
overflow_add-result c =
    let x = c.write_events-written.new in
    omega (arith, c.write_events-written.ensures.3, (c.end_lines.ensures x.lent).most)

pub returns : goal.returns
returns c =
    let x = c.write_events-written.new in
    let w = c.end_lines.ensures x.lent in
    let put = ended _ _ _ _ _ _ _ _ (room (goal.at.returns c).After-write_events-written) c.write_events-written.ensures.1 w in (
      λ b opens. put_text _ _ _ _ _ (ap (λ (b : plain.Book). left (events_of c.args.file.now) b 0) (opens _ c.new_numbers-lent.ensures.blank)) put,
      omega (arith, c.write_events-written.ensures.2, w.most),
    )
