-- `sheet::step` meets its contract: its pieces have room in the sheet, and fill its first places.
use Rattle.sheet.proofs.Filling.{has_room, returned_on}
use Rattle.sheet.proofs.step.Goals as goal

pub fill-requires : goal.fill-requires
fill-requires c = (c.step-done.ensures.pieces_fit, has_room _ _ _ _ _ c.step-done.ensures)

pub returns : goal.returns
returns c = returned_on _ _ _ _ _ _ c.step-done.ensures c.fill.ensures
