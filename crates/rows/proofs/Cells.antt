-- The three tables as numbers: each row is read from its own numbers alone, and the numbers that are stored say the row.
use Prim.Native.Nat.{ℕ, ◌*◌, ◌<◌}
use native.Mathlib.Nat.{mod-eq_of_lt}
use native.Mathlib.Omega.{arith}
use mathlib.Core.Path.{◌≡◌, refl}
use mathlib.Core.List.{List, [], ◌∷◌}
use lib.ListN.{length, get_or, set, take, drop}
use lib.Seq.{sets}
use Rattle.std.specs.Int.{from_bool}
use mathlib.Core.Bool.{Bool, true, false}
use lib.Dec.{eqb}
use Rattle.laws.specs.Limits.{AWARD_CELLS, POSITION_CELLS, TRADE_CELLS}
use Rattle.cells.specs.Table.{Reads}
use Rattle.cells.proofs.Rows as cells
use Rattle.cells.specs.Laws as law
use Rattle.cells.specs.Laws.{first_cell}
use Rattle.events.specs.declared.Trade.{Trade}
use Rattle.plain.specs.declared.Kind.{Kind}
use Rattle.plain.specs.declared.Kind.TheVariants.{Own, Client}
use Rattle.plain.specs.declared.Position.{Position}
use Rattle.plain.specs.declared.Award.{Award}
use Rattle.plain.specs.Book.{no_position, no_award}
use Rattle.plain.specs.Netting.{kind_number, kind_of}
use Rattle.rows.specs.Rows.{row_from, rows_of, trade_from, trades_of, no_trade, award_from, awards_of}

bit_back : (b : Bool) → eqb (from_bool b) 1 ≡ b
bit_back true = refl
bit_back false = refl

-- Positions

kind_back : (kind : Kind) → kind_of (kind_number kind) ≡ kind
kind_back Own = refl
kind_back Client = refl

pub row_reads : Reads 12 row_from
row_reads xs ys i j e =
    rw (first_cell 12 xs ys i j (omega arith) e, e 1 (omega arith), e 2 (omega arith), e 3 (omega arith), e 4 (omega arith), e 5 (omega arith), e 6 (omega arith), e 7 (omega arith), e 8 (omega arith), e 9 (omega arith), e 10 (omega arith), e 11 (omega arith))

pub row_is : (xs : List ℕ) (k : ℕ) → k < 1024 → get_or (rows_of xs) k no_position ≡ row_from xs (12 * k)
unfolding rows_of
row_is = law.place_is no_position 12 1024 row_from

pub length_rows : (xs : List ℕ) → length (rows_of xs) ≡ 1024
unfolding rows_of
length_rows = law.length_table no_position 12 1024 row_from

pub row_taken : (xs cells : List ℕ) (k : ℕ) → k < 1024 → cells ≡ take 12 (drop (12 * k) xs) → row_from cells 0 ≡ get_or (rows_of xs) k no_position
unfolding rows_of
row_taken = cells.row_taken no_position 12 1024 row_from row_reads

pub row_put : (xs ys : List ℕ) (k : ℕ) (p : Position) (n : ℕ) → length xs ≡ POSITION_CELLS → k < 1024 → p.member < 256 → p.security < 65536 → p.settlement.0 < 65536 → n ≡ kind_number p.kind
    → ys ≡ sets xs (12 * k) (p.member ∷ p.security ∷ from_bool p.short ∷ p.settlement.0 ∷ p.reference ∷ p.netted ∷ p.delivered ∷ p.bought ∷ p.cash ∷ p.paired ∷ p.unsettled ∷ n ∷ [])
    → rows_of ys ≡ set (rows_of xs) k p
unfolding rows_of
row_put xs ys k p n long inside m s d f =
    cells.row_put no_position 12 1024 row_from row_reads xs ys k p.member (p.security ∷ from_bool p.short ∷ p.settlement.0 ∷ p.reference ∷ p.netted ∷ p.delivered ∷ p.bought ∷ p.cash ∷ p.paired ∷ p.unsettled ∷ n ∷ []) p long inside refl
    (rw (f, bit_back p.short, kind_back p.kind, mod-eq_of_lt m, mod-eq_of_lt s, mod-eq_of_lt d))

-- Trades

trade_reads : Reads 7 trade_from
trade_reads xs ys i j e =
    rw (first_cell 7 xs ys i j (omega arith) e, e 1 (omega arith), e 2 (omega arith), e 3 (omega arith), e 4 (omega arith), e 5 (omega arith), e 6 (omega arith))

pub trade_is : (xs : List ℕ) (k : ℕ) → k < 512 → get_or (trades_of xs) k no_trade ≡ trade_from xs (7 * k)
unfolding trades_of
trade_is = law.place_is no_trade 7 512 trade_from

pub length_trades : (xs : List ℕ) → length (trades_of xs) ≡ 512
unfolding trades_of
length_trades = law.length_table no_trade 7 512 trade_from

pub trade_taken : (xs cells : List ℕ) (k : ℕ) → k < 512 → cells ≡ take 7 (drop (7 * k) xs) → trade_from cells 0 ≡ get_or (trades_of xs) k no_trade
unfolding trades_of
trade_taken = cells.row_taken no_trade 7 512 trade_from trade_reads

pub trade_put : (xs ys : List ℕ) (k : ℕ) (t : Trade) → length xs ≡ TRADE_CELLS → k < 512 → t.seller < 256 → t.buyer < 256 → t.security < 65536 → t.sellerkind < 256 → t.buyerkind < 256
    → ys ≡ sets xs (7 * k) (t.seller ∷ t.buyer ∷ t.security ∷ t.quantity ∷ t.price ∷ t.sellerkind ∷ t.buyerkind ∷ []) → trades_of ys ≡ set (trades_of xs) k t
unfolding trades_of
trade_put xs ys k t long inside s b c m n =
    cells.row_put no_trade 7 512 trade_from trade_reads xs ys k t.seller (t.buyer ∷ t.security ∷ t.quantity ∷ t.price ∷ t.sellerkind ∷ t.buyerkind ∷ []) t long inside refl
    (rw (mod-eq_of_lt s, mod-eq_of_lt b, mod-eq_of_lt c, mod-eq_of_lt m, mod-eq_of_lt n))

-- Awards

award_reads : Reads 5 award_from
award_reads xs ys i j e =
    rw (first_cell 5 xs ys i j (omega arith) e, e 1 (omega arith), e 2 (omega arith), e 3 (omega arith), e 4 (omega arith))

pub award_is : (xs : List ℕ) (k : ℕ) → k < 256 → get_or (awards_of xs) k no_award ≡ award_from xs (5 * k)
unfolding awards_of
award_is = law.place_is no_award 5 256 award_from

pub length_awards : (xs : List ℕ) → length (awards_of xs) ≡ 256
unfolding awards_of
length_awards = law.length_table no_award 5 256 award_from

pub award_taken : (xs cells : List ℕ) (k : ℕ) → k < 256 → cells ≡ take 5 (drop (5 * k) xs) → award_from cells 0 ≡ get_or (awards_of xs) k no_award
unfolding awards_of
award_taken = cells.row_taken no_award 5 256 award_from award_reads

pub award_put : (xs ys : List ℕ) (k : ℕ) (a : Award) → length xs ≡ AWARD_CELLS → k < 256 → a.position < 65536 → a.offerer < 256
    → ys ≡ sets xs (5 * k) (a.position ∷ a.offerer ∷ a.quantity ∷ a.price ∷ from_bool a.confirmed ∷ []) → awards_of ys ≡ set (awards_of xs) k a
unfolding awards_of
award_put xs ys k a long inside p o =
    cells.row_put no_award 5 256 award_from award_reads xs ys k a.position (a.offerer ∷ a.quantity ∷ a.price ∷ from_bool a.confirmed ∷ []) a long inside refl
    (rw (bit_back a.confirmed, mod-eq_of_lt p, mod-eq_of_lt o))
