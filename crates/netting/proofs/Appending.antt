-- The table of positions as the day's are appended to it, member by member, kind by kind and security by security.
use Prim.Native.Nat.{ℕ, ◌+◌, ◌-◌, ◌≤◌, ◌<◌}
use native.Mathlib.Omega.{arith}
use mathlib.Core.Path.{◌≡◌, refl, ap, sym, ◌∙◌}
use mathlib.Core.List.{List, [], ◌++◌, append_assoc, append-nil}
use lib.ListN.{length, length-take, length-drop, length-append}
use Rattle.laws.specs.Lists.{each, range}
use Rattle.laws.specs.Places.{range_at, range_end}
use Rattle.laws.specs.Alls.{all_of}
use Rattle.laws.specs.declared.BusinessDay.{BusinessDay}
use Rattle.plain.specs.declared.Position.{Position}
use Rattle.plain.specs.declared.Kind.{Kind}
use Rattle.plain.specs.Netting.{keys, netted}
use Rattle.plain.specs.Invariants.{TradeFits}
use Rattle.plain.proofs.Netted.{netted_count, keys_once}
use Rattle.rows.proofs.Cells.{length_rows}
use Rattle.tables.specs.Tables.{Trades, Positions, today, positions}
use Rattle.netting.specs.declared.Side.TheVariants.{Sale, Purchase}
use Rattle.netting.specs.declared.Total.{Total}
use Rattle.netting.specs.Gathering.{key_for, total_in, Gatherable}
use Rattle.netting.specs.Members.{net_from, net_in, MembersFit, Appended}
use Rattle.netting.specs.Netting.{DayFits, DayNetted}
use Rattle.tables.specs.Lent.{position_table}
use Rattle.rows.specs.Rows.{rows_of}
use Rattle.netting.proofs.Filling.{Filling, filling_as, filling_run, filled}
use Rattle.netting.proofs.Made.{netted_nothing}

-- what is made of each number, from one up to the last
module _ {A : Type 0} (f : ℕ → List A) (last : ℕ) where
  pub each_from : ℕ → List A
  each_from i = each f (range i (last + 1 - i))

  pub each_first : each f (range 1 last) ≡ each_from 1
  unfolding each_from
  each_first = let e : last ≡ last + 1 - 1 = omega arith in ap (λ (n : ℕ). each f (range 1 n)) e

  pub each_next : (i : ℕ) → i ≤ last → each_from i ≡ f i ++ each_from (i + 1)
  unfolding each_from
  each_next i h = ap (each f) (range_at (last + 1) i (omega arith))

  pub each_done : (i : ℕ) → last < i → each_from i ≡ []
  unfolding each_from
  each_done i h = ap (each f) (range_end (last + 1) i (omega arith))

-- so many positions of a table, with some more, are the whole that it is filled up to
module _ (table : Positions) (ps : List Position) where
  table_start : length table.items ≡ 1024 → table.count + length ps ≤ 1024 → Filling (positions table ++ ps) ps table.count table.items
  unfolding positions
  table_start long room = record { same = refl; room = omega arith }

  table_filled : (r : Positions) → length r.items ≡ 1024 → Filling (positions table ++ ps) [] r.count r.items → Appended table ps r
  unfolding positions
  table_filled r long f =
      record {
        made = filled (positions table ++ ps) r.count r.items f;
        fits = record { places = long; held = omega (arith, f.room) };
      }

-- THE POSITIONS OF EACH NUMBER, FROM ONE UP TO THE LAST

module _ (f : ℕ → List Position) (last : ℕ) where
  abbrev all : List Position
  all = each f (range 1 last)

  module _ (before : List ℕ) (held : ℕ) where
    abbrev pub run_table : List Position
    run_table = positions (position_table before held) ++ all

    pub run_start : held + length all ≤ 1024 → Filling run_table (each_from f last 1) held (rows_of before)
    run_start room =
        filling_as run_table all held (rows_of before) (each_from f last 1) (each_first f last)
        (table_start (position_table before held) all (length_rows before) room)

    pub run_appended : (i : ℕ) → last < i → (after : List ℕ) (r : ℕ) → Filling run_table (each_from f last i) r (rows_of after) → Appended (position_table before held) all (position_table after r)
    run_appended i h after r g =
        table_filled (position_table before held) all (position_table after r) (length_rows after)
        (filling_as run_table (each_from f last i) r (rows_of after) [] (each_done f last i h) g)

  -- those of the next number
  pub run_next : (i : ℕ) → i ≤ last → (whole : List Position) (n : ℕ) (l : List Position) → Filling whole (each_from f last i) n l → Filling whole (f i ++ each_from f last (i + 1)) n l
  run_next i h whole n l g = filling_as whole (each_from f last i) n l (f i ++ each_from f last (i + 1)) (each_next f last i h) g

-- some positions that a function has put into the table where they come next
module _ (whole here rest : List Position) (n : ℕ) (before : List ℕ) (f : Filling whole (here ++ rest) n (rows_of before)) where
  pub part_room : n + length here ≤ 1024
  part_room = omega (arith, length_rows before, f.room, length-append here rest)

  pub part_more : (after : List ℕ) (r : ℕ) → Appended (position_table before n) here (position_table after r) → Filling whole rest r (rows_of after)
  unfolding positions
  part_more after r a =
      filling_run whole rest n (rows_of before) here f r (rows_of after) (length_rows after ∙ sym (length_rows before)) (omega (arith, a.fits.held, length_rows after)) a.made

-- two parts, one after the other
pub two_parts : (whole here there rest : List Position) (n : ℕ) (l : List Position) → Filling whole ((here ++ there) ++ rest) n l → Filling whole (here ++ (there ++ rest)) n l
two_parts whole here there rest n l f = filling_as whole ((here ++ there) ++ rest) n l (here ++ (there ++ rest)) (append_assoc here there rest) f

-- ONE MEMBER'S BUSINESS OF A KIND

module _ (day : ℕ) (totals : List Total) (member : ℕ) (kind : Kind) (securities : ℕ) where
  -- the position of a security, or none
  abbrev pub of_security : ℕ → List Position
  of_security s = net_in day totals (key_for member kind s)

  pub security_next : (security : ℕ) → security ≤ securities → (bought sold : Total) → bought ≡ total_in totals Purchase (key_for member kind security) → sold ≡ total_in totals Sale (key_for member kind security)
      → (ps : List Position) → net_from day (key_for member kind security) bought sold ≡ ps
      → (whole : List Position) (n : ℕ) (l : List Position) → Filling whole (each_from of_security securities security) n l → Filling whole (ps ++ each_from of_security securities (security + 1)) n l
  security_next security h bought sold b s ps e whole n l f =
      filling_as whole (of_security security ++ each_from of_security securities (security + 1)) n l (ps ++ each_from of_security securities (security + 1))
      (ap (λ (xs : List Position). xs ++ each_from of_security securities (security + 1)) (rw (b, s) at e)) (run_next of_security securities security h whole n l f)

-- THE WHOLE DAY

module _ (table : Positions) (trades : Trades) (day : BusinessDay) (securities : ℕ) (d : DayFits table trades day securities) where
  pub gatherable : Gatherable trades
  gatherable =
      record {
        fit = d.trades_fit;
        fair =
            all_of (TradeFits securities) (TradeFits 32) (today trades)
            (λ t f.
            record {
              seller = f.seller;
              buyer = f.buyer;
              security = record { above = f.security.above; below = omega (arith, f.security.below, d.securities_fit) };
              quantity = f.quantity;
              price = f.price;
              sellerkind = f.sellerkind;
              buyerkind = f.buyerkind;
            })
            d.fair;
      }

  -- what the members' positions are, where they are those of the day
  module _ (f : ℕ → List Position) (same : netted day.0 (today trades) (keys securities) ≡ each f (range 1 63)) where
    pub members_fit : MembersFit f day securities table.count
    members_fit =
        record {
          securities_fit = d.securities_fit;
          dated = d.dated;
          room = omega (arith, d.room, ap length same, netted_count day.0 (today trades) (keys securities) (keys_once securities));
        }

    pub members_netted : (r : Positions) → Appended table (each f (range 1 63)) r → DayNetted table trades day securities r
    members_netted r a = record { made = a.made ∙ ap (λ (l : List Position). positions table ++ l) (sym same); fits = a.fits }

  -- a day without trades leaves the table as it is
  pub none_netted : trades.netted ≡ trades.count → DayNetted table trades day securities table
  unfolding today
  none_netted e =
      let none : length (today trades) ≡ 0 = simp (length-drop, length-take) (omega arith) in
      record {
        made = sym (ap (λ (l : List Position). positions table ++ l) (netted_nothing day.0 (today trades) securities none) ∙ append-nil (positions table));
        fits = d.positions_fit;
      }
