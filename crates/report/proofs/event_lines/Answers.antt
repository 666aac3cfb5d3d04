-- `report::event_lines` meets its contract. The lines of the pieces follow that of the event.
use native.Mathlib.Omega.{arith}
use Prim.Native.Nat.{◌+◌, ◌*◌, ◌≤◌, min}
use mathlib.Core.Path.{◌≡◌}
use lib.ListN.{length, take}
use Rattle.pieces.specs.Sheet.{pieces_of}
use Rattle.report.specs.Lines.{LINE, event_line, event_lines, piece_lines}
use Rattle.report.specs.Pages.{put_wrote, wrote_put, wrote_lent, put_length}
use Rattle.report.proofs.event_lines.Goals as goal

pub returns : goal.returns
unfolding event_lines
returns c =
    let a = c.args in
    let v = c.event_line-at in
    let d = c.piece_lines in
    let text = event_line a.number a.refusal a.quantity in
    let enough : LINE * (1 + min a.count 1024) ≤ length a.page.now = omega (arith, c.if-page-stop.false, c.min-stop.ensures) in
    let first = wrote_put LINE text a.page.now v.new.page v.result (omega arith) v.ensures in
    let long : length v.new.page ≡ length a.page.now = put_length text a.page.now v.new.page v.result first (omega (arith, v.ensures.most)) in
    let more = take a.count (pieces_of a.sheet.now) in
    let all = wrote_lent text a.page.now v.new.page v.result first (LINE * min a.count 1024) (piece_lines more) d.new.page d.result (omega (arith, v.ensures.most)) d.ensures in
    put_wrote (LINE * (1 + min a.count 1024)) (event_lines a.number a.refusal a.quantity more) a.page.now _ _ enough (omega (arith, all.bytes, v.ensures.most, d.ensures.most)) all
