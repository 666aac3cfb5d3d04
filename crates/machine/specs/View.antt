-- What a core and the lent numbers stand for, what holds of them, and what a call in place returns.
use Rattle.std.specs.Prelude.{ℕ, ◌≤◌, ◌<◌, ◌≡◌, ◌≢◌, List, [], ◌∷◌, length, take, replicate}
use Rattle.laws.specs.Limits.{ACCOUNTS, AWARD_CELLS, COUNT_CELLS, MEMBERS, PLACES, POSITION_CELLS, SECURITIES, SHEET_CELLS, TRADE_CELLS}
use Rattle.events.specs.declared.PairOff.{PairOff}
use Rattle.plain.specs.declared.Piece.{Piece}
use Rattle.plain.specs.declared.Position.{Position}
use Rattle.plain.specs.declared.Manner.{Manner}
use Rattle.plain.specs.declared.Manner.TheVariants.{Paired}
use Rattle.plain.specs.declared.Ledger.{Ledger}
use Rattle.laws.specs.Answers.{Outcome, answer}
use Rattle.plain.specs.Book as plain
use Rattle.plain.specs.Calls.{Call, paired_piece}
use Rattle.plain.specs.Refusals.{refusal}
use Rattle.plain.specs.Histories.{next, pieces, quantity}
use Rattle.laws.specs.Asked.{Within}
use Rattle.plain.specs.Invariants.{Deals}
use Rattle.rows.specs.Rows.{rows_of}
use Rattle.pieces.specs.Sheet.{pieces_of, sheet_with}
use Rattle.tables.specs.Tables as table
use Rattle.tables.specs.Lent.{position_table, trade_table, award_table, piece_table, row_of}
use Rattle.tables.specs.Late.{LateBefore}
use Rattle.failing.specs.Counts.{Counted}
use Rattle.positions.specs.Dealing.{Dealing, dealt_out, HandedOut, ClosedBefore}
use Rattle.positions.specs.Pairing.{SettingOff}
use Rattle.kept.specs.View.{Kept, Valid, view}
use Rattle.machine.specs.declared.Core.{Core}
use Rattle.machine.specs.declared.Numbers.{Numbers}

-- what is lent beside the core, part by part
abbrev pub numbers : List ℕ → List ℕ → List ℕ → List ℕ → List ℕ → List ℕ → Ledger → Numbers
numbers rows trades awards counts starts words ledger =
    record { rows = rows; trades = trades; awards = awards; counts = counts; starts = starts; words = words; ledger = ledger }

-- any numbers, with these for one of the tables: what a call that takes only that table speaks of
abbrev pub on_rows : Numbers → List ℕ → Numbers
on_rows a x = numbers x a.trades a.awards a.counts a.starts a.words a.ledger

abbrev pub on_trades : Numbers → List ℕ → Numbers
on_trades a x = numbers a.rows x a.awards a.counts a.starts a.words a.ledger

abbrev pub on_awards : Numbers → List ℕ → Numbers
on_awards a x = numbers a.rows a.trades x a.counts a.starts a.words a.ledger

abbrev pub on_words : Numbers → List ℕ → Numbers
on_words a x = numbers a.rows a.trades a.awards a.counts a.starts x a.ledger

abbrev pub on_ledger : Numbers → Ledger → Numbers
on_ledger a x = numbers a.rows a.trades a.awards a.counts a.starts a.words x

-- the book as one record: its tables are made of the numbers
abbrev pub kept_of : Core → Numbers → Kept
kept_of b a =
    record {
      opening = b.opening;
      day = b.day;
      trades = trade_table a.trades b.trades b.netted;
      prices = b.prices;
      positions = position_table a.rows b.positions;
      auction = b.auction;
      awards = award_table a.awards b.awards;
      marks = b.marks;
      ledger = a.ledger;
    }

-- the plain book that a core and the numbers stand for
abbrev pub book_of : Core → Numbers → plain.Book
book_of b a = view (kept_of b a)

-- the positions in use
abbrev pub held_in : List ℕ → ℕ → List Position
held_in rows count = table.positions (position_table rows count)

-- for each security a place before which no long of it is open
pub record Started (count : ℕ) (starts : List ℕ) (items : List Position) : Type 0 where
  pub places : length starts ≡ SECURITIES
  pub within : (s : ℕ) → plain.nth 0 starts s ≤ count
  pub closed : (s : ℕ) → 1 ≤ s → ClosedBefore s items (plain.nth 0 starts s)

-- the places where walks start and the words of failing members, with the place before which all positions are late
pub record Followed : Type 0 where
  pub starts : List ℕ
  pub words : List ℕ
  pub late : ℕ

abbrev pub followed : List ℕ → List ℕ → ℕ → Followed
followed starts words late = record { starts = starts; words = words; late = late }

abbrev pub followed_in : Core → Numbers → Followed
followed_in b a = followed a.starts a.words b.late

-- what is followed of the positions besides: where the walk of a discharge starts, who is failing, and up to where positions are late
pub record Follows (day : ℕ) (rows : List ℕ) (count : ℕ) (counts : List ℕ) (f : Followed) : Type 0 where
  pub started : Started count f.starts (rows_of rows)
  pub failing : Counted day (held_in rows count) f.words counts
  pub late : LateBefore day (held_in rows count) f.late

-- the numbers have their places, and what the core follows is true of them
pub record Lent (b : Core) (a : Numbers) : Type 0 where
  pub rows : length a.rows ≡ POSITION_CELLS
  pub trades : length a.trades ≡ TRADE_CELLS
  pub awards : length a.awards ≡ AWARD_CELLS
  pub follows : Follows b.day.0 a.rows b.positions a.counts (followed_in b a)

-- what holds of every core with its numbers that opening or a call leaves. Every call asks for it, so that none takes a core or numbers that other code has
-- made or changed
pub record Held (b : Core) (a : Numbers) : Type 0 where
  pub valid : Valid (kept_of b a)
  pub lent : Lent b a

-- what the call c on the book b returns: the book after it, its outcome and its pieces
pub record Returned (b : Kept) (c : Call) (after : Kept) (o : Outcome) (xs : List Piece) : Type 0 where
  pub outcome : o ≡ answer (refusal (view b) c) (quantity (view b) c)
  pub pieces : xs ≡ pieces (view b) c
  pub book : view after ≡ next (view b) c
  pub valid : Valid after
  pub kept : refusal (view b) c ≢ 0 → after ≡ b

-- the same of a call in place: a refused call leaves the core and every lent number as it was
pub record Called (b : Core) (a : Numbers) (c : Call) (after : Core) (z : Numbers) (o : Outcome) (xs : List Piece) : Type 0 where
  pub returned : Returned (kept_of b a) c (kept_of after z) o xs
  pub lent : Lent after z
  pub kept : refusal (book_of b a) c ≢ 0 → (after ≡ b) × (z ≡ a)

-- a call that has no sheet reports no piece
pub record CalledBare (b : Core) (a : Numbers) (c : Call) (after : Core) (z : Numbers) (o : Outcome) (n : ℕ) : Type 0 where
  pub called : Called b a c after z o []
  pub none : n ≡ 0

-- a call that hands out n pieces on a lent sheet, of numbers too, which it leaves as the plain book's pieces fill it, to its last number: a refused call, which
-- hands out none, leaves it as it was
pub record CalledOn (b : Core) (a : Numbers) (c : Call) (sheet : List ℕ) (after : Core) (z : Numbers) (left : List ℕ) (o : Outcome) (n : ℕ) : Type 0 where
  pub called : Called b a c after z o (take n (pieces_of left))
  pub filled : left ≡ sheet_with (pieces (book_of b a) c) sheet
  pub places : length left ≡ SHEET_CELLS
  pub few : n ≤ PLACES

-- what a discharge of q units of the short p, of number n, by these pieces asks of the lent positions and of what is followed of them
pub record Falling (day : ℕ) (rows : List ℕ) (count : ℕ) (counts : List ℕ) (f : Followed) (n : ℕ) (p : Position) (q : ℕ) (m : Manner) (xs : List Piece) : Type 0 where
  pub fits : table.PositionsFit (position_table rows count)
  pub deals : ((b : plain.Book) × (b.positions ≡ held_in rows count) × Deals b m n q xs)
  pub own : p ≡ row_of rows n
  pub security : Within 1 SECURITIES p.security
  pub member : p.member ≤ MEMBERS
  pub some : 0 < q
  pub follows : Follows day rows count counts f

-- and what it leaves of them, with so many pieces on the sheet
pub record DischargedBy (day : ℕ) (rows sheet : List ℕ) (count : ℕ) (xs : List Piece) (after counts left : List ℕ) (f : Followed) (made : ℕ) : Type 0 where
  pub dealt : HandedOut (position_table rows count) xs (record { positions = position_table after count; pieces = piece_table left made })
  pub filled : left ≡ sheet_with xs sheet
  pub follows : Follows day after count counts f
  pub rows_length : length after ≡ POSITION_CELLS
  pub sheet_length : length left ≡ SHEET_CELLS

-- the same of a discharge that is dealt out
pub record Discharging (day : ℕ) (rows : List ℕ) (count : ℕ) (counts sheet : List ℕ) (f : Followed) (n : ℕ) (p : Position) (q : ℕ) (m : Manner) : Type 0 where
  pub dealing : Dealing (position_table rows count) day n q
  pub falling : Falling day rows count counts f n p q m (dealt_out (position_table rows count) day n q m)
  pub rows_length : length rows ≡ POSITION_CELLS
  pub sheet_length : length sheet ≡ SHEET_CELLS

abbrev pub Discharged : ℕ → List ℕ → List ℕ → ℕ → ℕ → ℕ → Manner → List ℕ → List ℕ → List ℕ → Followed → ℕ → Type 0
Discharged day rows sheet count n q m after counts left f made =
    DischargedBy day rows sheet count (dealt_out (position_table rows count) day n q m) after counts left f made

-- and of a pair-off, whose one piece is given
pub record PairingOff (day : ℕ) (rows : List ℕ) (count : ℕ) (counts sheet : List ℕ) (f : Followed) (p : Position) (x : PairOff) : Type 0 where
  pub setting : SettingOff rows sheet x.short x.long x.quantity
  pub falling : Falling day rows count counts f x.short p x.quantity Paired (paired_piece x ∷ [])

abbrev pub PairedOff : ℕ → List ℕ → List ℕ → ℕ → PairOff → List ℕ → List ℕ → List ℕ → Followed → Type 0
PairedOff day rows sheet count x after counts left f = DischargedBy day rows sheet count (paired_piece x ∷ []) after counts left f 1

-- a call that nothing turns down
pub record Taken (b : Core) (a : Numbers) (c : Call) : Type 0 where
  pub held : Held b a
  pub accepted : refusal (book_of b a) c ≡ 0

-- what a cash settlement of position n goes by: the position, and the class and the latest price of its security
pub record CashTerms (b : Core) (rows : List ℕ) (n : ℕ) (p : Position) (class latest : ℕ) : Type 0 where
  pub own : p ≡ row_of rows n
  pub classed : class ≡ plain.nth 0 b.opening.register.classes p.security
  pub priced : latest ≡ (plain.nth plain.no_price (table.prices b.prices) p.security).price

-- the numbers that are lent with a new book: no short is late, no walk was made, no account has a cent, and the tables have their places
pub record Blank (a : Numbers) : Type 0 where
  pub rows : length a.rows ≡ POSITION_CELLS
  pub trades : length a.trades ≡ TRADE_CELLS
  pub awards : length a.awards ≡ AWARD_CELLS
  pub counts : a.counts ≡ replicate COUNT_CELLS 0
  pub starts : a.starts ≡ replicate SECURITIES 0
  pub words : a.words ≡ replicate SECURITIES 0
  pub ledger : (a.ledger.credits ≡ replicate ACCOUNTS 0) × (a.ledger.debits ≡ replicate ACCOUNTS 0)
