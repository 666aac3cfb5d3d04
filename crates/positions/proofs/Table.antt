-- The walk begins at the table that the caller gives, and what has come of it at its end is what the definitions say.
use Prim.Native.Nat.{ℕ, ◌-◌, ◌≤◌}
use native.Mathlib.Omega.{arith}
use mathlib.Core.Path.{◌≡◌, refl, ap, sym, ◌∙◌}
use mathlib.Core.List.{List}
use lib.ListN.{length, get_or, set, take, length-set}
use lib.Seq.{length-take-le, take-set-lt}
use Rattle.laws.specs.Lists.{All}
use Rattle.laws.specs.Alls.{all_both, all_of, all_set}
use Rattle.plain.specs.declared.Position.{Position}
use Rattle.plain.specs.declared.Piece.{Piece}
use Rattle.plain.specs.declared.Manner.{Manner}
use Rattle.plain.specs.Book.{no_position}
use Rattle.plain.specs.Dealing.{lowering}
use Rattle.laws.specs.Asked.{Within}
use Rattle.plain.specs.Invariants.{Whole}
use Rattle.plain.proofs.Order.{takers_in_order}
use Rattle.tables.specs.Tables.{Positions}
use Rattle.tables.specs.Tables as tables
use Rattle.rows.specs.Lowering.{lowered_by, Sized, Lowerable}
use Rattle.positions.specs.Dealing.{position_of, Dealing, dealt_out, DealtOut}
use Rattle.positions.proofs.Shares.{handed}
use Rattle.positions.proofs.Lowered.{rising_set, lowered_sized, same_pieces, same_positions}
use Rattle.positions.proofs.Walk.{State, Stands, Walked, held}
use Rattle.plain.proofs.Numbered.{nth_at, nth_take, nth_all}

module _ (table : Positions) (day short quantity : ℕ) (h : Dealing table day short quantity) where
  -- the short
  abbrev own : Position
  own = get_or table.items (short - 1) no_position

  abbrev ps : List Position
  ps = tables.positions table

  pub own_is : position_of table short ≡ own
  unfolding tables.positions
  own_is = nth_take no_position table.items table.count short h.held

  table_length : length ps ≡ table.count
  unfolding tables.positions
  table_length = length-take-le table.count table.items (omega (arith, h.fits.places, h.fits.held))

  all_sized : All Sized ps
  all_sized =
      all_of (λ p. Whole p × (p.netted ≤ 512000000)) Sized ps (λ p e. record { whole = e.0; bounded = e.1 })
      (all_both Whole (λ p. p.netted ≤ 512000000) ps h.whole h.bounded)

  own_lowerable : Lowerable (position_of table short) quantity
  own_lowerable =
      record {
        enough = h.enough;
        sized = nth_all no_position Sized ps short (rw table_length h.held) all_sized;
      }

  pub short_lowerable : Lowerable own quantity
  short_lowerable = rw own_is at own_lowerable

  -- the walk begins where the short, now x, has fallen by the quantity
  module _ (manner : Manner) (x : Position) (low : x ≡ lowered_by manner quantity own) (none : List Piece) (e : length none ≡ 1024) where
    abbrev pub start : State
    start =
        record {
          items = set table.items (short - 1) x;
          shares = none;
          dealt = 0;
          left = quantity;
          place = 0;
        }

    abbrev fallen : Position
    fallen = lowered_by manner quantity (position_of table short)

    started : held table.count start ≡ set ps (short - 1) fallen
    unfolding tables.positions
    started =
        take-set-lt table.count table.items (short - 1) x (omega (arith, h.held.above, h.held.below))
        ∙ ap (set (take table.count table.items) (short - 1)) (low ∙ ap (lowered_by manner quantity) (sym own_is))

    pub start_stands : Stands table.count start
    start_stands =
        record {
          few = h.fits.held;
          within = omega arith;
          places = simp length-set h.fits.places;
          room = omega arith;
          sheet = e;
          rising = rw started (rising_set ps (short - 1) fallen (omega (arith, table_length, h.held.above, h.held.below)) (unfold lowered_by in ap (λ (p : Position). p.settlement.0) (nth_at no_position ps short h.held.above)) h.rising);
          sized = rw started (all_set Sized ps (short - 1) fallen (lowered_sized manner quantity (position_of table short) own_lowerable) all_sized);
        }

    dealt_list : handed manner short day (position_of table short).security 1 quantity ps ≡ dealt_out table day short quantity manner
    dealt_list = rw (takers_in_order day (position_of table short).security ps h.rising)

    -- what has come of the walk is what the definitions say
    pub walked_deals : (now : State) → Stands table.count now → Walked manner short day own.security table.count start now
        → DealtOut table day short quantity manner (record { positions = record { items = now.items; count = table.count }; pieces = record { items = now.shares; count = now.dealt } })
    unfolding tables.positions tables.pieces
    walked_deals now s w =
        record {
          pieces = w'.pieces ∙ rw started (same_pieces manner short day quantity ps in_table h.is_short h.suffice ∙ dealt_list);
          positions = w'.positions ∙ rw started (same_positions manner short day quantity ps in_table h.is_short h.suffice ∙ ap (λ (xs : List Piece). lowering xs ps) dealt_list);
          pieces_fit = record { places = s.sheet; held = omega (arith, s.room, s.within, s.few) };
          positions_fit = record { places = s.places; held = s.few };
          count = refl;
        }
      where
        w' : Walked manner short day (position_of table short).security table.count start now
        w' = rw own_is w

        in_table : Within 1 (length ps) short
        in_table = record { above = h.held.above; below = omega (arith, h.held.below, table_length) }
