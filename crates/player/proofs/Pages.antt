-- Pages of bytes, of which the used ones are printed, and the events of a file over several pages.
use Prim.Native.Nat.{ℕ, zero, suc, ◌+◌, ◌-◌, ◌≤◌}
use native.Mathlib.Nat.{zero-add, suc-add}
use native.Mathlib.Omega.{arith}
use mathlib.Core.Path.{◌≡◌, ap, sym, ◌∙◌}
use mathlib.Core.List.{List, [], ◌∷◌, ◌++◌}
use lib.ListN.{length, take, drop}
use lib.Seq.{take_all, take-nil}
use Rattle.events.specs.declared.Event.{Event}
use Rattle.files.specs.File.{events_of}
use Rattle.machine.specs.declared.Core.{Core}
use Rattle.machine.specs.declared.Numbers.{Numbers}
use Rattle.replay.specs.Replay.{PlayedUpTo}
use Rattle.replay.proofs.Playing.{then_played}
use Rattle.report.specs.Pages.{Wrote, wrote_put, put_length}
use Rattle.transcript.specs.declared.Played.{Played}
use Rattle.transcript.specs.Playing.{END, PlayedOn, between}

-- the bytes that were written are among those of the page
pub wrote_within : (least : ℕ) (text entry exit : List ℕ) (r : ℕ) → least ≤ length entry → Wrote least text entry exit r → r ≤ length exit
wrote_within least text entry exit r room w =
    omega (arith, put_length text entry exit r (wrote_put least text entry exit r room w) (omega (arith, w.most)), w.most)

module _ (file : List ℕ) (b : Core) (a : Numbers) (from : ℕ) (entry exit : List ℕ) (z : Numbers) (r : Played) (p : PlayedOn file b a from entry exit z r) where
  pub played_length : length exit ≡ length entry
  played_length = put_length _ entry exit r.used p.text p.fits

  pub played_within : r.used ≤ length exit
  played_within = omega (arith, played_length, p.fits)

take_add : (m n : ℕ) (l : List Event) → take (m + n) l ≡ take m l ++ take n (drop m l)
take_add zero n l = ap (λ (k : ℕ). take k l) (zero-add n)
take_add (suc m) n [] = ap (λ (k : ℕ). take k []) (suc-add m n) ∙ sym (take-nil n)
take_add (suc m) n (e ∷ l) = ap (λ (k : ℕ). take k (e ∷ l)) (suc-add m n) ∙ ap (λ (r : List Event). e ∷ r) (take_add m n l)

-- the events before a place, and those from it up to another
take_between : (l : List Event) (from to : ℕ) → from ≤ to → take to l ≡ take from l ++ take (to - from) (drop from l)
take_between l from to h =
    let e : to ≡ from + (to - from) = omega arith in
    ap (λ (k : ℕ). take k l) e ∙ take_add from (to - from) l

-- what holds between two pages: the events before a place are played
pub record Between (file : List ℕ) (b : Core) (a : Numbers) (page : List ℕ) (played : Core) (z : Numbers) (i : ℕ) : Type 0 where
  pub long : length page ≡ END
  pub place : i ≤ length (events_of file)
  pub played' : PlayedUpTo b a (take i (events_of file)) played z

pub next_page : (file : List ℕ) (b : Core) (a : Numbers) (entry exit : List ℕ) (played : Core) (z y : Numbers) (i : ℕ) (r : Played) → Between file b a entry played z i → PlayedOn file played z i entry exit y r → Between file b a exit r.core y r.next
next_page file b a entry exit played z y i r h p =
    record {
      long = played_length file played z i entry exit y r p ∙ h.long;
      place = omega (arith, p.within, h.place);
      played' = rw (take_between (events_of file) i r.next p.reached) (then_played b a (take i (events_of file)) (between file i r.next) played r.core z y h.played' p.played);
    }

pub all_played : (file : List ℕ) (b : Core) (a : Numbers) (page : List ℕ) (played : Core) (z : Numbers) (i : ℕ) → Between file b a page played z i → length (events_of file) ≤ i → PlayedUpTo b a (events_of file) played z
all_played file b a page played z i h end = rw (take_all i (events_of file) end) at h.played'
