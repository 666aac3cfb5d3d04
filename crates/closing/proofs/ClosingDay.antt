-- A close in place: the charges posted, the shorts that were due today made late, the day's trades netted into the lent table, awards and marks cleared.
use Rattle.std.proofs.Common.{Err, Ok}
use Prim.Native.Nat.{ℕ, ◌+◌, ◌≤◌, ◌<◌}
use native.Mathlib.Omega.{arith}
use mathlib.Core.Path.{◌≡◌, refl, ap, sym, ◌∙◌, subst}
use mathlib.Core.List.{List, ◌++◌}
use lib.ListN.{length, get_or, take, length-append, length-take, get_or-append}
use lib.Seq.{get_or-take, length-take-le}
use Rattle.laws.specs.Limits.{POSITION_CELLS}
use Rattle.laws.specs.Lists.{All}
use Rattle.laws.specs.Alls.{all_of}
use Rattle.events.specs.declared.Event.TheVariants as event
use Rattle.plain.specs.declared.Position.{Position}
use Rattle.plain.specs.declared.Ledger.{Ledger}
use Rattle.plain.specs.Book.{no_position, nth}
use Rattle.events.specs.declared.Trade.{Trade}
use Rattle.plain.specs.Netting.{Key, keys, netted}
use Rattle.plain.specs.Charging.{posted}
use Rattle.plain.specs.Calls.{call, amount, hands_out}
use Rattle.plain.specs.Refusals.{close_reasons}
use Rattle.laws.specs.Asked.{Within}
use Rattle.plain.proofs.Netted.{New, netted_new}
use Rattle.tables.specs.Tables as table
use Rattle.tables.specs.Lent.{position_table, trade_table, award_table}
use Rattle.rows.specs.Rows.{rows_of}
use Rattle.laws.specs.Refusals.{first}
use Rattle.laws.specs.Answers.{number}
use Rattle.laws.specs.declared.Refusal.{Refusal}
use Rattle.tables.specs.Late.{LateBefore}
use Rattle.failing.specs.Counts.{Counted, Numbered}
use Rattle.failing.proofs.Keeping.{counted_grown, late_before_grown}
use Rattle.ledger.specs.Parts.{close_charges_of}
use Rattle.positions.specs.Dealing.{ClosedBefore}
use Rattle.netting.specs.Netting.{DayNetted}
use Rattle.kept.specs.View.{view, Fits}
use Rattle.kept.specs.Closing.{closed_book}
use Rattle.kept.proofs.Auctions.{members_fit}
use Rattle.kept.proofs.Discharging.{accounted}
use Rattle.kept.proofs.ClosingDay.{close_number, closed_view, closed_fits}
use Rattle.machine.specs.declared.Core.{Core}
use Rattle.machine.specs.declared.Numbers.{Numbers}
use Rattle.machine.specs.View.{numbers, kept_of, held_in, Started, Held, Taken, CalledBare}
use Rattle.machine.specs.Cores.{closed_core}
use Rattle.machine.proofs.Returns.{refused, taken}

-- more positions behind those that are held: what was closed stays closed
module _ (held count : ℕ) (entry exit more : List Position) (places : held ≤ length entry) (made : take count exit ≡ take held entry ++ more) where
  grown : held ≤ count
  grown =
      omega (arith, length-take-le held entry places, simp (length-append, length-take) at (ap length made), length-take count exit)

  same_at : (j : ℕ) → j < held → get_or exit j no_position ≡ get_or entry j no_position
  same_at j l =
      sym (get_or-take count exit j no_position (omega (arith, l, grown)))
      ∙ ap (λ (ps : List Position). get_or ps j no_position) made
      ∙ get_or-append (take held entry) more no_position j (omega (arith, l, length-take-le held entry places))
      ∙ get_or-take held entry j no_position l

  closed_grown : (s n : ℕ) → n ≤ held → ClosedBefore s entry n → ClosedBefore s exit n
  unfolding ClosedBefore
  closed_grown s n few c = λ j l. rw (same_at j (omega (arith, l, few))) (c j l)

  pub started_grown : (starts : List ℕ) → Started held starts entry → Started count starts exit
  started_grown starts st =
      record {
        places = st.places;
        within = λ s. omega (arith, st.within s, grown);
        closed = λ s l. closed_grown s (nth 0 starts s) (st.within s) (st.closed s l);
      }

-- a new position's delivery day is the day after tomorrow
new_later : (day : ℕ) (trades : List Trade) (ks : List Key) → All (λ p. day + 1 ≤ p.settlement.0) (netted day trades ks)
new_later day trades ks = all_of (New day) (λ p. day + 1 ≤ p.settlement.0) (netted day trades ks) (λ p f. omega (arith, f.settlement)) (netted_new day trades ks)

module _ (b : Core) (a : Numbers) (h : Held b a) where
  pub close_refused : (r : Refusal) → number r ≡ first (close_reasons b.auction.position b.day.0) → CalledBare b a (call event.Close 0) b a (Err r) 0
  close_refused r e = refused b a (call event.Close 0) r h (close_number (kept_of b a) ∙ sym e)

  pub close_accepted : 0 ≡ first (close_reasons b.auction.position b.day.0) → Taken b a (call event.Close 0)
  close_accepted z = record { held = h; accepted = close_number (kept_of b a) ∙ sym z }

-- each position has a word and a count
pub numbered : (b : Core) (a : Numbers) → Held b a → Numbered (position_table a.rows b.positions)
numbered b a h =
    record {
      fit = h.valid.fits.positions;
      members = members_fit (kept_of b a) h.valid;
      securities = all_of _ (λ p. Within 1 32 p.security) (held_in a.rows b.positions) (λ p f. f.security) (accounted (kept_of b a) h.valid);
    }

module _ (b : Core) (a : Numbers) (t : Taken b a (call event.Close 0)) (zs cs ws : List ℕ) (until count : ℕ) (l : Ledger) (long : length zs ≡ POSITION_CELLS)
    (posts : l ≡ posted a.ledger (close_charges_of (award_table a.awards b.awards) (position_table a.rows b.positions) b.prices b.opening.register b.day))
    (counted : Counted (b.day.0 + 1) (held_in a.rows b.positions) ws cs) (late : LateBefore (b.day.0 + 1) (held_in a.rows b.positions) until)
    (day : DayNetted (position_table a.rows b.positions) (trade_table a.trades b.trades b.netted) b.day b.opening.register.count (position_table zs count)) where
  abbrev after : Core
  after = closed_core b until count

  abbrev later : Numbers
  later = numbers zs a.trades a.awards cs a.starts ws l

  same : kept_of after later ≡ closed_book (kept_of b a) (position_table zs count)
  same = rw posts

  pub close_done : CalledBare b a (call event.Close 0) after later (Ok 0) 0
  unfolding amount hands_out table.positions
  close_done =
      let h = t.held in
      let fits = h.valid.fits.positions in
      let early = new_later b.day.0 _ (keys b.opening.register.count) in
      taken b a (call event.Close 0) after later 0 h t.accepted refl refl
      (ap view same ∙ closed_view (kept_of b a) h.valid (position_table zs count) day)
      (subst Fits (sym same) (closed_fits (kept_of b a) h.valid (position_table zs count) day))
      (record {
        rows = long;
        trades = h.lent.trades;
        awards = h.lent.awards;
        follows =
            record {
              started = started_grown b.positions count (rows_of a.rows) (rows_of zs) _ (omega (arith, fits.places, fits.held)) day.made a.starts h.lent.follows.started;
              failing = rw day.made (counted_grown (b.day.0 + 1) (held_in a.rows b.positions) _ early _ cs counted);
              late = rw day.made (late_before_grown (b.day.0 + 1) (held_in a.rows b.positions) _ early until late);
            };
      })
