-- A part of a page into which as many bytes are copied as it has.
use Prim.Native.Nat.{ℕ, ◌+◌, ◌≤◌}
use native.Mathlib.Omega.{arith}
use mathlib.Core.Path.{◌≡◌, sym, ap, ◌∙◌}
use mathlib.Core.List.{List, ◌++◌, append_assoc}
use lib.ListN.{length, take, drop}
use lib.Seq.{sets, sets-eq, drop-drop}
use borrow.Rule.Slice.PartMut.{put_mid}

pub part_put : (at n : ℕ) (page bytes : List ℕ) → length bytes ≡ n → at + n ≤ length page → put_mid at n page bytes ≡ sets page at bytes
part_put at n page bytes long room =
    ap (λ (l : List ℕ). take at page ++ (bytes ++ l)) (drop-drop n at page ∙ ap (λ (k : ℕ). drop (at + k) page) (sym long))
    ∙ sym (append_assoc (take at page) bytes (drop (at + length bytes) page))
    ∙ sym (sets-eq bytes page at (omega (arith, long, room)))
