use Rattle.std.proofs.Common.{◌+◌, ◌≤◌, length, arith}
use Rattle.report.specs.Lines.{LINE}
use Rattle.report.proofs.Blocks.{kept_length, put_line_more}
use Rattle.report.proofs.put_lines.Goals as goal

pub loop-i-preserved : goal.loop-i-preserved
loop-i-preserved g c =
    let k = c.loop-i in
    let lines = k.invariant.1 in
    let enough = c.if-page-count.false in
    let wrote = c.requires.1.1.1 k.i _ _ _ c.loop-i-test.true c.line-at.ensures in
    let room : k.at + LINE ≤ length k.page = omega (arith, enough, kept_length _ _ _ k.at lines (omega (arith, lines.bytes, enough))) in
    (omega (arith, wrote.most), put_line_more g.text c.args.page.now k.page c.line-at.new.arg2 k.at c.line-at.result k.i room lines wrote)
