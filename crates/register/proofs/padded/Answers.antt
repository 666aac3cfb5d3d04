-- `register::padded` meets its contract.
use Rattle.std.proofs.Common.{ℕ, List, ◌++◌, length, drop, replicate, ap, ◌∙◌}
use Rattle.laws.specs.Parts.{padded_copied}
use Rattle.register.proofs.padded.Goals as goal

pub returns : goal.returns
returns g c =
    let bytes = c.args.bytes.now in
    ap (λ (l : List ℕ). l ++ drop (length bytes) (replicate g.row.N 0)) c.copy_from_slice.ensures.after ∙ padded_copied 0 g.row.N bytes c.requires
