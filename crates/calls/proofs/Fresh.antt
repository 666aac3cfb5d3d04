-- A new core, with any numbers for its tables, and zeros for the rest: it stands for the new plain book.
use Prim.Native.Nat.{ℕ, zero, suc, ◌-◌}
use native.Mathlib.Omega.{arith}
use mathlib.Core.Path.{◌≡◌, refl, ap, ◌∙◌}
use mathlib.Core.List.{List}
use lib.ListN.{length, get_or, replicate}
use Rattle.register.specs.Accepted.{Registered}
use Rattle.plain.specs.Book.{first_day, no_price, new, nth}
use Rattle.rows.specs.Rows.{rows_of}
use Rattle.rows.proofs.Cells.{length_rows, length_trades, length_awards}
use Rattle.positions.specs.Dealing.{ClosedBefore}
use Rattle.plain.specs.declared.Position.{Position}
use Rattle.kept.proofs.Fresh.{Unused, unused_view, unused_valid}
use Rattle.machine.specs.declared.Core.{Core}
use Rattle.tables.specs.Tables as table
use Rattle.failing.proofs.Keeping.{counted_new, late_before_new}
use Rattle.machine.specs.declared.Numbers.{Numbers}
use Rattle.machine.specs.View.{followed_in, kept_of, book_of, Started, Follows, Held, Blank}

zeros_at : (n i : ℕ) → get_or {A = ℕ} (replicate n 0) i 0 ≡ 0
zeros_at zero i = refl
zeros_at (suc n) zero = refl
zeros_at (suc n) (suc i) = zeros_at n i

none_before : (s : ℕ) (items : List Position) → ClosedBefore s items 0
unfolding ClosedBefore
none_before s items = λ j l. absurd (omega (arith, l))

started_new : (starts : List ℕ) (items : List Position) → starts ≡ replicate 32 0 → Started 0 starts items
started_new starts items e =
    record {
      places = ap length e ∙ refl;
      within = λ s. omega (arith, zero_at s);
      closed = λ s l. rw (zero_at s) (none_before s items);
    }
  where
    zero_at : (s : ℕ) → nth 0 starts s ≡ 0
    zero_at s = ap (λ (xs : List ℕ). nth 0 xs s) e ∙ zeros_at 33 s

-- what each part of a new core ensures
pub record New (b : Core) : Type 0 where
  pub day : b.day.0 ≡ first_day b.opening
  pub prices : table.prices b.prices ≡ replicate 32 no_price
  pub auction : (b.auction.position ≡ 0) × (b.auction.ceiling ≡ 0) × (b.auction.count ≡ 0) × (length b.auction.offers ≡ 16)
  pub marks : (b.marks.count ≡ 0) × (length b.marks.items ≡ 16)
  pub late : b.late ≡ 0
  pub uses : (b.positions ≡ 0) × (b.trades ≡ 0) × (b.netted ≡ 0) × (b.awards ≡ 0)

module _ (b : Core) (u : New b) (a : Numbers) (blank : Blank a) where
  unused : Unused (kept_of b a)
  unused =
      record {
        day = u.day;
        trades = (u.uses.1, u.uses.2, length_trades a.trades);
        prices = u.prices;
        positions = (u.uses.0, length_rows a.rows);
        auction = u.auction;
        awards = (u.uses.3, length_awards a.awards);
        marks = u.marks;
        ledger = blank.ledger;
      }

  follows : Follows b.day.0 a.rows b.positions a.counts (followed_in b a)
  unfolding table.positions
  follows =
      rw u.uses.0
      (record {
        started = started_new a.starts (rows_of a.rows) blank.starts;
        failing = rw (blank.words, blank.counts) (counted_new b.day.0);
        late = rw u.late (late_before_new b.day.0);
      })

  pub opened : (book_of b a ≡ new b.opening) × (Registered b.opening.register → Held b a)
  opened = (
    unused_view (kept_of b a) unused,
    λ r. record { valid = unused_valid (kept_of b a) unused r; lent = record { rows = blank.rows; trades = blank.trades; awards = blank.awards; follows = follows } },
  )
