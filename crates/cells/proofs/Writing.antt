-- A part of a list into which as many elements are copied as it has.
use Prim.Native.Nat.{ℕ, ◌+◌, ◌≤◌}
use native.Mathlib.Omega.{arith}
use mathlib.Core.Path.{◌≡◌, sym, ap, ◌∙◌}
use mathlib.Core.List.{List, ◌++◌, append_assoc}
use lib.ListN.{length, take, drop}
use lib.Seq.{sets, sets-eq, drop-drop}
use borrow.Rule.Slice.PartMut.{put_mid}

pub part_put : {A : Type 0} (at n : ℕ) (l vs : List A) → length vs ≡ n → at + n ≤ length l → put_mid at n l vs ≡ sets l at vs
part_put {A} at n l vs long room =
    ap (λ (r : List A). take at l ++ (vs ++ r)) (drop-drop n at l ∙ ap (λ (k : ℕ). drop (at + k) l) (sym long))
    ∙ sym (append_assoc (take at l) vs (drop (at + length vs) l))
    ∙ sym (sets-eq vs l at (omega (arith, long, room)))
