-- `positions::set_off` meets its contract.
use Prim.Native.Nat.{ℕ, ◌≤◌}
use native.Mathlib.Omega.{arith}
use mathlib.Core.Path.{◌≡◌, refl, ap, sym, subst}
use Rattle.plain.specs.declared.Position.{Position}
use Rattle.rows.specs.Lowering.{Sized, Lowerable}
use Rattle.positions.proofs.Pairing.{rows_fallen, piece_first, piece_alone}
use Rattle.positions.proofs.set_off.Goals as goal
use Rattle.positions.proofs.set_off.Lts as lts
use Rattle.positions.proofs.set_off.Tie as tie
use Rattle.positions.proofs.set_off.Reads as reads

abbrev Start : Type 0
Start = lts.Start tie.the-claims reads.Pre reads.Post

abbrev After-lower : Type 0
After-lower = lts.After-lower tie.the-claims reads.Pre reads.Post

-- where the function began, from where the short has fallen
abbrev start : After-lower → Start
start w = w.before.before

-- of a position that has the units, no more than them may fall: the need is answered by what the code asks for, so that a wrong quantity fails at the return
can_fall : {p own : Position} {units asked : ℕ} → p ≡ own → Lowerable own units → asked ≤ units → Lowerable p asked
can_fall e l h =
    record { enough = omega (arith, l.enough, ap (λ (x : Position). x.unsettled) e); sized = subst Sized (sym e) l.sized }

pub returns : goal.returns
returns c =
    let f = (start c.before.before.before.before).requires in
    record {
      fallen = rows_fallen _ _ _ _ f.short_held f.long_held f.apart _ c.lower.ensures.0 _ _ refl c.lower-2.ensures.0;
      piece = piece_first _ _ _ c.put_piece.ensures;
      filled = piece_alone _ _ _ f.sheet_length c.put_piece.ensures;
      rows_length = c.lower-2.ensures.1;
      sheet_length = c.put_piece.ensures.size;
    }
