-- `pairing::set_off` meets its contract.
use mathlib.Core.Path.{refl}
use Rattle.positions.proofs.Pairing.{set_off_out}
use Rattle.machine.proofs.Walking.{units_of, lowered_late, follows_after, starts_kept}
use Rattle.pairing.proofs.set_off.Goals as goal

pub discharged-requires : goal.discharged-requires
discharged-requires c =
    let f = c.requires.falling in
    ((_, _, f.follows.failing, units_of _ _ _ _ _ _ _ _ _ _ f), f.security, f.member)

pub returns-clause-paired : goal.returns-clause-paired
returns-clause-paired c =
    let f = c.requires.falling in
    let out = set_off_out _ _ c.args.core.positions _ _ _ _ _ f.fits.held c.set_off.ensures in
    let low = out.positions in
    record {
      dealt = out;
      filled = c.set_off.ensures.filled;
      follows =
          follows_after _ _ _ _ _ _ _ _ _ _ f _ low _ _ (starts_kept _ _ _ _ _ _ _ _ _ _ f _ low)
          (c.discharged.ensures.0 _ _ _ f.follows.failing (units_of _ _ _ _ _ _ _ _ _ _ f) (lowered_late _ _ _ _ _ _ _ _ _ _ f _ low))
          refl;
      rows_length = c.set_off.ensures.rows_length;
      sheet_length = c.set_off.ensures.sheet_length;
    }
