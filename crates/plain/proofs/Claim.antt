-- The claim about histories, for the plain book: what holds after every list of calls, refused ones included, from any new book.
use native.Mathlib.Omega.{arith}
use mathlib.Core.List.{List}
use Rattle.plain.specs.declared.Opening.{Opening}
use Rattle.plain.specs.Book.{Book, new}
use Rattle.plain.specs.Calls.{Call}
use Rattle.plain.specs.Histories.{run}
use Rattle.plain.proofs.Formed.{formed_new, formed_netted}
use Rattle.plain.proofs.ByKind.{by_kind_new}
use Rattle.plain.proofs.Prices.{last_new, given_today}
use Rattle.plain.proofs.Standing.{standing_few}
use Rattle.plain.specs.Sound.{Sound}
use Rattle.plain.proofs.Sound.{done_sound, new_sound, sound, sound_dealt}
use Rattle.plain.proofs.Tally.{tally}
use Rattle.plain.specs.Claim.{Claim}
use Rattle.plain.proofs.Discharges.{discharge, one_price, refused}
use Rattle.plain.proofs.Pairing.{pairs_off}
use Rattle.plain.proofs.Offered.{offered_new}
use Rattle.plain.proofs.Covering.{covered}
use Rattle.plain.proofs.Confirmed.{seller_pays}
use Rattle.plain.proofs.Accounts.{Accountable, new_places, run_places, accounts, next_balance, accounts_zero}
use Rattle.plain.proofs.Bound.{Bounding, accounts_small}

-- what the accounts ask of a book
pub bounding : (b : Book) → Sound b → Bounding b
bounding b h =
    record {
      prices = h.standing.prices.small;
      positions = h.standing.fair;
      awards = h.auctioned.awards_fit_lem;
      few = omega (arith, h.auctioned.few_awards, h.auctioned.few_marks);
      trades = h.standing.trades;
      room = h.standing.held;
    }

pub accountable : (b : Book) → Sound b → Accountable b
accountable b h = record { positions = h.standing.fair; awards = h.auctioned.awards_fit_lem }

pub claim : (opening : Opening) (cs : List Call) → Claim opening cs
claim opening cs =
    let n = new_sound opening in
    let h = sound opening cs in
    record {
      netted = formed_netted opening cs;
      positions = formed_new opening cs;
      by_kind = λ member security d kind h k. by_kind_new opening cs member security d kind h k;
      tallied = tally opening cs;
      prices = λ s known. last_new s known opening cs n.standing.prices;
      accounts' = accounts opening cs;
      booked = λ c k l. next_balance (run (new opening) cs) c k (run_places (new opening) cs (new_places opening)) l;
      zero_sum = accounts_zero Sound done_sound accountable opening cs n;
      small = accounts_small Sound done_sound bounding (λ b c e s. sound_dealt b s c e) opening cs n;
      few = standing_few (run (new opening) cs) h.standing;
      few_awards = (bounding (run (new opening) cs) h).few;
      holds = h;
      discharges = λ c e s. discharge (run (new opening) cs) c h e s;
      fresh = λ c s e k. given_today (run (new opening) cs) c s h.standing.prices e k;
      one_price = one_price (run (new opening) cs);
      pairs_off = pairs_off (run (new opening) cs);
      offers = offered_new opening cs;
      cheapest = covered (run (new opening) cs);
      pays_least = λ c a later e is confirmed. seller_pays (run (new opening) cs) c a later h e is confirmed;
      refuses = refused (run (new opening) cs);
    }
