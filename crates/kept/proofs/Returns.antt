-- What the plain book keeps, a book keeps that stands for the plain book's next.
use mathlib.Core.Path.{◌≡◌, ap, sym, subst}
use Rattle.plain.specs.Book as plain
use Rattle.plain.specs.Calls.{Call, done}
use Rattle.plain.specs.Refusals.{refusal}
use Rattle.plain.specs.Histories.{event_of}
use Rattle.plain.specs.Sound.{Sound, Balanced, Bound}
use Rattle.plain.proofs.Sound.{done_sound, sound_dealt}
use Rattle.plain.proofs.Accounts.{done_balanced}
use Rattle.plain.proofs.Bound.{done_bound}
use Rattle.plain.proofs.Claim.{bounding, accountable}
use Rattle.kept.specs.View.{Kept, view, Fits, Valid}

pub valid_done : (b : Kept) (c : Call) (after : Kept) → Valid b → refusal (view b) c ≡ 0 → view after ≡ done (view b) (event_of c) → Fits after → Valid after
unfolding view
valid_done b c after v e same fits =
    record {
      fits = fits;
      sound = subst Sound (sym same) (done_sound (view b) c e v.sound);
      balanced = subst Balanced (sym (ap (λ (x : plain.Book). x.ledger) same)) (done_balanced (view b) (event_of c) (accountable (view b) v.sound) v.fits.places v.balanced);
      bound = subst Bound (sym same) (done_bound (view b) c e (bounding (view b) v.sound) (sound_dealt (view b) v.sound c e) v.bound);
    }
