-- A pair-off in place: its refusals are the plain book's, and what it changes stands for what the plain book changes.
use Rattle.std.proofs.Common.{Err, Ok}
use Prim.Native.Nat.{ℕ, ◌-◌, ◌≤◌}
use native.Mathlib.Omega.{arith}
use mathlib.Core.Path.{◌≡◌, sym, ◌∙◌, subst}
use mathlib.Core.List.{List, [], ◌∷◌}
use lib.ListN.{length}
use Rattle.laws.specs.Limits.{SHEET_CELLS}
use Rattle.events.specs.declared.PairOff.{PairOff}
use Rattle.events.specs.declared.Event.TheVariants as event
use Rattle.plain.specs.declared.Position.{Position}
use Rattle.plain.specs.declared.Manner.TheVariants as manner
use Rattle.plain.specs.Auction.{unconfirmed}
use Rattle.plain.specs.Book.{position_of}
use Rattle.plain.specs.Calls.{call, paired_piece}
use Rattle.plain.specs.Refusals.{both_lookup_reasons, pair_off_reasons, refusal}
use Rattle.plain.proofs.Accepted.{PairOffTaken, pair_off_taken}
use Rattle.plain.proofs.Pairing.{pair_dealable, pair_long, pair_deals}
use Rattle.plain.proofs.Discharged.{long_other}
use Rattle.laws.specs.Asked.{Within}
use Rattle.laws.specs.Answers.{number, number_some}
use Rattle.laws.specs.Refusals.{first}
use Rattle.laws.specs.declared.Refusal.{Refusal}
use Rattle.tables.specs.Tables as table
use Rattle.tables.specs.Lent.{row_of}
use Rattle.rows.specs.Lowering.{Lowerable}
use Rattle.positions.specs.Pairing.{SettingOff}
use Rattle.kept.specs.View.{view}
use Rattle.kept.proofs.Discharging.{both_there, missing_number, lowerable, pair_off_split, pair_off_number, paired_off_lem}
use Rattle.machine.specs.declared.Core.{Core}
use Rattle.machine.specs.declared.Numbers.{Numbers}
use Rattle.machine.specs.View.{followed, followed_in, kept_of, book_of, Held, CalledOn, PairingOff, PairedOff}
use Rattle.machine.proofs.Returns.{refused_on, taken_on}
use Rattle.machine.proofs.Walking.{row_is, falling, filled_read}

module _ (b : Core) (a : Numbers) (h : Held b a) (x : PairOff) where
  pub pair_off_missing : (r : Refusal) (sheet : List ℕ) → number r ≡ first (both_lookup_reasons 1024 b.positions x.short x.long) → length sheet ≡ SHEET_CELLS
      → CalledOn b a (call (event.PairOff x) 1024) sheet b a sheet (Err r) 0
  pair_off_missing r sheet e long =
      refused_on b a (call (event.PairOff x) 1024) sheet r h (missing_number (both_lookup_reasons 1024 _ _ _) _ _ (pair_off_split (kept_of b a) h.valid x 1024) (number r) e (number_some r)) long

  module _ (p q : Position) (reserved : ℕ) (there : 0 ≡ first (both_lookup_reasons 1024 b.positions x.short x.long)) (own : p ≡ row_of a.rows x.short) (other : q ≡ row_of a.rows x.long)
      (units : reserved ≡ unconfirmed x.short (table.awards (kept_of b a).awards)) where
    inside : (Within 1 b.positions x.short) × (Within 1 b.positions x.long)
    inside = both_there 1024 b.positions x.short x.long (sym there)

    number_is : (n : ℕ) → n ≡ first (pair_off_reasons p q b.day.0 b.auction.position (p.unsettled - reserved) x) → refusal (book_of b a) (call (event.PairOff x) 1024) ≡ n
    number_is n is =
        pair_off_number (kept_of b a) h.valid x 1024 p q reserved n (sym there) (own ∙ row_is b a h x.short inside.0) (other ∙ row_is b a h x.long inside.1) units is

    pub pair_off_refused : (r : Refusal) (sheet : List ℕ) → number r ≡ first (pair_off_reasons p q b.day.0 b.auction.position (p.unsettled - reserved) x) → length sheet ≡ SHEET_CELLS
        → CalledOn b a (call (event.PairOff x) 1024) sheet b a sheet (Err r) 0
    pair_off_refused r sheet is long = refused_on b a (call (event.PairOff x) 1024) sheet r h (number_is (number r) is) long

    module _ (none : 0 ≡ first (pair_off_reasons p q b.day.0 b.auction.position (p.unsettled - reserved) x)) where
      taken : PairOffTaken (book_of b a) x
      taken = pair_off_taken (book_of b a) x 1024 (number_is 0 none)

      -- a position of which the units are open, as its row has it
      row_lowerable : (n : ℕ) → Within 1 b.positions n → Within 1 (length (book_of b a).positions) n → x.quantity ≤ (position_of (book_of b a) n).unsettled → Lowerable (row_of a.rows n) x.quantity
      unfolding view
      row_lowerable n w v enough = rw (row_is b a h n w) (lowerable (kept_of b a) h.valid n x.quantity v enough)

      setting : (sheet : List ℕ) → length sheet ≡ SHEET_CELLS → SettingOff a.rows sheet x.short x.long x.quantity
      setting sheet long =
          let few : b.positions ≤ 1024 = h.valid.fits.positions.held in
          record {
            short_held = record { above = inside.0.above; below = omega (arith, inside.0.below) };
            long_held = record { above = inside.1.above; below = omega (arith, inside.1.below) };
            apart = long_other (pair_deals (book_of b a) x taken) x.long (pair_long (book_of b a) x taken);
            own = row_lowerable x.short inside.0 taken.held (pair_dealable (book_of b a) x taken).enough;
            other = row_lowerable x.long inside.1 taken.long_held taken.long_enough;
            rows_length = h.lent.rows;
            sheet_length = long;
          }

      pub pairing : (sheet : List ℕ) → length sheet ≡ SHEET_CELLS → PairingOff b.day.0 a.rows b.positions a.counts sheet (followed_in b a) p x
      pairing sheet long =
          record {
            setting = setting sheet long;
            falling = falling b a h x.short x.quantity manner.Paired (paired_piece x ∷ []) (pair_deals (book_of b a) x taken) p taken.some_units own;
          }

      pub pair_off_done : (z : Numbers) (sheet left : List ℕ) → z ≡ record a { rows = z.rows; counts = z.counts; words = z.words }
          → PairedOff b.day.0 a.rows sheet b.positions x z.rows z.counts left (followed a.starts z.words b.late)
          → CalledOn b a (call (event.PairOff x) 1024) sheet b z left (Ok x.quantity) 1
      unfolding table.pieces
      pair_off_done z sheet left kept w =
          let r = paired_off_lem (kept_of b a) h.valid x _ w.dealt in
          subst (λ (n : Numbers). CalledOn b a (call (event.PairOff x) 1024) sheet b n left (Ok x.quantity) 1) (sym kept)
          (taken_on b a (call (event.PairOff x) 1024) sheet b (record a { rows = z.rows; counts = z.counts; words = z.words }) left x.quantity 1 h (number_is 0 none) r.quantity r.pieces r.book r.fits
          (record { rows = w.rows_length; trades = h.lent.trades; awards = h.lent.awards; follows = w.follows }) (filled_read w) w.sheet_length w.dealt.pieces_fit.held)
