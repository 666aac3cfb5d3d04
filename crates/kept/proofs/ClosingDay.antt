-- A close: what its parts ask holds of every valid book, and what they make stands for what the plain book makes.
use Prim.Native.Nat.{ℕ, suc, ◌+◌, ◌<◌}
use native.Mathlib.Omega.{arith}
use mathlib.Core.Path.{◌≡◌, refl, ap, sym, ◌∙◌, subst}
use mathlib.Core.List.{List, []}
use lib.ListN.{length, take, drop}
use lib.Seq.{length-take-le, drop-length}
use Rattle.laws.specs.Lists.{All}
use Rattle.laws.specs.Refusals.{first}
use Rattle.events.specs.declared.Event.TheVariants as event
use Rattle.events.specs.declared.Trade.{Trade}
use Rattle.plain.specs.declared.Position.{Position}
use Rattle.plain.specs.declared.Ledger.{Ledger}
use Rattle.plain.specs.Book as plain
use Rattle.plain.specs.Changing.{with_day, with_past, with_trades, with_positions, with_awards, with_marks, with_ledger}
use Rattle.plain.specs.Charging.{Charge, posted}
use Rattle.plain.specs.Calls.{call, charges, done}
use Rattle.plain.specs.Refusals.{close_reasons, reasons, refusal}
use Rattle.plain.proofs.Accepted.{close_taken}
use Rattle.plain.proofs.Sound.{sound_dealt}
use Rattle.plain.proofs.Accounts.{posted_places}
use Rattle.plain.proofs.Bound.{done_bound}
use Rattle.plain.proofs.Claim.{bounding, accountable}
use Rattle.tables.specs.Tables.{Trades, Positions}
use Rattle.tables.specs.Tables as table
use Rattle.netting.specs.Netting.{DayFits, DayNetted}
use Rattle.ledger.specs.Posts.{Room}
use Rattle.ledger.specs.Parts.{close_charges_of, close_charges_lem}
use Rattle.ledger.specs.Tabled.{Awarded, CloseFinable}
use Rattle.ledger.proofs.Reached.{call_room, positions_count, all_awarded}
use Rattle.kept.specs.View.{Kept, view, Fits, Valid}
use Rattle.kept.specs.Closing.{closed_book}
use Rattle.kept.proofs.Entered.{all_held}
use Rattle.kept.proofs.Discharging.{accounted}

pub close_number : (b : Kept) → refusal (view b) (call event.Close 0) ≡ first (close_reasons b.auction.position b.day.0)
unfolding view reasons refusal Rattle.tables.specs.Tables.auction
close_number b = refl

-- a close that is accepted has a next day
pub close_early : (b : Kept) → refusal (view b) (call event.Close 0) ≡ 0 → b.day.0 < 9999
unfolding view
close_early b e = (close_taken (view b) 0 e).early

-- the trades of today are all but the netted ones; after a close there is none
module _ (t : Trades) (f : table.TradesFit t) where
  in_use : length (take t.count t.items) ≡ t.count
  in_use = length-take-le t.count t.items (omega (arith, f.places, f.held))

  none_today : drop t.count (take t.count t.items) ≡ []
  none_today = ap (λ (n : ℕ). drop n (take t.count t.items)) (sym in_use) ∙ drop-length (take t.count t.items)

-- What the parts of a close ask

module _ (b : Kept) (v : Valid b) where
  same_charges : close_charges_of b.awards b.positions b.prices b.opening.register b.day ≡ charges (view b) event.Close
  unfolding view charges
  same_charges =
      close_charges_lem (view b) b.awards b.positions b.prices b.opening.register refl refl refl refl b.day refl

  close_room : refusal (view b) (call event.Close 0) ≡ 0 → Room b.ledger (charges (view b) event.Close)
  unfolding view done
  close_room e =
      call_room (view b) event.Close (accountable (view b) v.sound) v.fits.places v.balanced
      (done_bound (view b) (call event.Close 0) e (bounding (view b) v.sound) (sound_dealt (view b) v.sound (call event.Close 0) e) v.bound)
      v.sound.standing.held

  awarded : All (Awarded b.positions.count) (table.awards b.awards)
  unfolding view
  awarded =
      subst (λ (n : ℕ). All (Awarded n) (table.awards b.awards)) (positions_count b.positions v.fits.positions)
      (all_awarded (view b) v.sound.auctioned)

  pub close_finable : refusal (view b) (call event.Close 0) ≡ 0 → CloseFinable b.ledger b.awards b.positions b.prices b.opening.register b.day
  unfolding view
  close_finable e =
      record {
        room = subst (λ (cs : List Charge). Room b.ledger cs) (sym same_charges) (close_room e);
        prices_many = v.sound.standing.prices.many;
        positions_fit = v.fits.positions;
        accounted = accounted b v;
        awards_fit_lem = v.fits.awards;
        awarded = awarded;
      }

  pub day_fits : DayFits b.positions b.trades b.day b.opening.register.count
  unfolding view
  day_fits =
      let s = v.sound.standing in
      record {
        positions_fit = v.fits.positions;
        trades_fit = v.fits.trades;
        securities_fit = v.fits.register.high;
        fair = s.trades;
        room = omega (arith, s.counted, s.held, positions_count b.positions v.fits.positions);
        dated = s.day.below;
      }

-- The book after a close

module _
    (b : Kept)
    (v : Valid b)
    (p : Positions)
    (netted : DayNetted b.positions b.trades b.day b.opening.register.count p)
  where
    -- the plain book on another day, with other trades, positions and accounts, its awards and marks cleared
    abbrev closed_as : ℕ → ℕ → List Trade → List Position → Ledger → plain.Book
    closed_as day past trades ps l = with_day (with_marks (with_awards (with_trades (with_past (with_positions (with_ledger (view b) l) ps) past) trades) []) []) day

    pub closed_view : view (closed_book b p) ≡ done (view b) event.Close
    unfolding view done Rattle.tables.specs.Tables.today Rattle.tables.specs.Tables.awards Rattle.tables.specs.Tables.marks
    closed_view =
        let tomorrow : b.day.0 + 1 ≡ suc b.day.0 = omega arith in
        let past = sym (all_held b.trades v.fits.trades) in
        let trades = none_today b.trades v.fits.trades in
        let ledger = ap (λ (cs : List Charge). posted b.ledger cs) (same_charges b v) in
        λ i. closed_as (tomorrow i) (past i) (trades i) (netted.made i) (ledger i)

    pub closed_fits : Fits (closed_book b p)
    closed_fits =
        let f = v.fits in
        record {
          register = f.register;
          trades = record { places = f.trades.places; held = f.trades.held; past = omega arith };
          positions = netted.fits;
          auction = f.auction;
          awards = record { places = f.awards.places; held = omega arith };
          marks = record { places = f.marks.places; held = omega arith };
          places = posted_places b.ledger _ f.places;
        }
