-- `events::spare_set` meets its contract: a word has a bit in common with its mask where a spare byte of it is not zero.
use borrow.Author.Tests.{eq-eqb, ne_eqb}
use Rattle.events.proofs.TwoWords.{under_masks}
use Rattle.events.proofs.spare_set.Goals as goal

pub returns-then-low-masks-ne0 : goal.returns-then-low-masks-ne0
returns-then-low-masks-ne0 c =
    let a = c.args in
    let set = ne_eqb _ _ c.if-low-masks-ne0.true in
    let by = under_masks a.kind a.low a.high c.masks_of-masks.result c.masks_of-masks.ensures in
    rw set (rw set at by)

-- whatever the first word said, the second decides the rest
pub returns-else-low-masks-ne0 : goal.returns-else-low-masks-ne0
returns-else-low-masks-ne0 c =
    let a = c.args in
    let clear = eq-eqb _ _ c.if-low-masks-ne0.false in
    let by = under_masks a.kind a.low a.high c.masks_of-masks.result c.masks_of-masks.ensures in
    rw clear at by
