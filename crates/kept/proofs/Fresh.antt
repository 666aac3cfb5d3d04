-- A book whose tables are not in use yet stands for a new plain book, and is valid where its register is.
use Prim.Native.Nat.{ℕ}
use native.Mathlib.Omega.{arith}
use mathlib.Core.Path.{◌≡◌, ap, sym, subst}
use mathlib.Core.List.{List}
use lib.ListN.{length, replicate}
use Rattle.register.specs.Accepted.{Registered}
use Rattle.plain.specs.declared.Ledger.{Ledger}
use Rattle.plain.specs.Book as plain
use Rattle.plain.specs.Sound.{Sound, Places, Balanced, Bound}
use Rattle.plain.proofs.Sound.{new_sound}
use Rattle.plain.proofs.Accounts.{new_places, new_balanced}
use Rattle.plain.proofs.Bound.{new_bound}
use Rattle.tables.specs.Tables.{today, positions, auction, awards, marks}
use Rattle.tables.specs.Tables as table
use Rattle.kept.specs.View.{Kept, view, Fits, Valid}

pub record Unused (b : Kept) : Type 0 where
  pub day : b.day.0 ≡ plain.first_day b.opening
  pub trades : (b.trades.count ≡ 0) × (b.trades.netted ≡ 0) × (length b.trades.items ≡ 512)
  pub prices : table.prices b.prices ≡ replicate 32 plain.no_price
  pub positions : (b.positions.count ≡ 0) × (length b.positions.items ≡ 1024)
  pub auction : (b.auction.position ≡ 0) × (b.auction.ceiling ≡ 0) × (b.auction.count ≡ 0) × (length b.auction.offers ≡ 16)
  pub awards : (b.awards.count ≡ 0) × (length b.awards.items ≡ 256)
  pub marks : (b.marks.count ≡ 0) × (length b.marks.items ≡ 16)
  pub ledger : (b.ledger.credits ≡ replicate 64 0) × (b.ledger.debits ≡ replicate 64 0)

ledger_of_lem : (l : Ledger) (credits debits : List ℕ) → l.credits ≡ credits → l.debits ≡ debits → l ≡ record { credits = credits; debits = debits }
ledger_of_lem l credits debits c d = rw (← c, ← d)

module _ (b : Kept) (u : Unused b) where
  pub unused_view : view b ≡ plain.new b.opening
  unfolding view Rattle.plain.specs.Book.new today positions auction awards marks
  unused_view =
      rw (u.day, u.trades.1, u.trades.0, u.prices, u.positions.0, u.auction.0, u.auction.1, u.auction.2, u.awards.0, u.marks.0, ledger_of_lem b.ledger (replicate 64 0) (replicate 64 0) u.ledger.0 u.ledger.1)

  same_ledger : b.ledger ≡ (plain.new b.opening).ledger
  unfolding view
  same_ledger = ap (λ (x : plain.Book). x.ledger) unused_view

  unused_fits : Registered b.opening.register → Fits b
  unused_fits r =
      record {
        register = r;
        trades = record { places = u.trades.2; held = omega (arith, u.trades.0); past = omega (arith, u.trades.1) };
        positions = record { places = u.positions.1; held = omega (arith, u.positions.0) };
        auction = record { places = u.auction.3; held = omega (arith, u.auction.2) };
        awards = record { places = u.awards.1; held = omega (arith, u.awards.0) };
        marks = record { places = u.marks.1; held = omega (arith, u.marks.0) };
        places = subst Places (sym same_ledger) (new_places b.opening);
      }

  pub unused_valid : Registered b.opening.register → Valid b
  unused_valid r =
      record {
        fits = unused_fits r;
        sound = subst Sound (sym unused_view) (new_sound b.opening);
        balanced = subst Balanced (sym same_ledger) (new_balanced b.opening);
        bound = subst Bound (sym unused_view) (new_bound b.opening);
      }
