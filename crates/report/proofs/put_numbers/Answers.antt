use Rattle.std.proofs.Common.{ℕ, List, ◌≡◌, ◌+◌, ◌≤◌, ◌<◌, length, take, get_or, take_all, ap, arith}
use Rattle.report.specs.Lines.{number, numbers}
use Rattle.report.specs.Pages.{Put, length_lent}
use Rattle.report.proofs.Blocks.{each_shorter, each_room, put_next, kept_length}
use Rattle.report.proofs.put_numbers.Goals as goal

-- the next field has room where the others end
room : (list entry page : List ℕ) (at i : ℕ) → i < length list → length (numbers list) ≤ length entry → Put (numbers (take i list)) entry page at
    → at + length (number (get_or list i 0)) ≤ length page
room list entry page at i h enough w =
    let whole : length (numbers (take (length list) list)) ≡ length (numbers list) = ap (λ (l : List ℕ). length (numbers l)) (take_all (length list) list (omega arith)) in
    omega (arith, w.bytes, each_room number list 0 i (length list) h h, kept_length (numbers (take i list)) entry page at w (omega (arith, each_shorter number list 0 i (length list) (omega arith))))

pub put_number-at-requires : goal.put_number-at-requires
put_number-at-requires c =
    let k = c.loop-n in
    omega (arith, room c.args.list.now _ k.page k.at k.n-index c.loop-n-test.true c.requires k.invariant, length_lent k.at k.page)

pub loop-n-preserved : goal.loop-n-preserved
loop-n-preserved c =
    let k = c.loop-n in
    let d = c.put_number-at in
    put_next number c.args.list.now 0 c.args.page.now k.page d.new.page k.at d.result k.n-index c.loop-n-test.true k.invariant d.ensures
