-- The charges of a close, over the parts of the machine's book that they go by, and that they are the plain book's.
use Rattle.std.specs.Prelude.{ℕ, ◌≡◌, List, ◌++◌}
use Rattle.laws.specs.declared.BusinessDay.{BusinessDay}
use Rattle.laws.specs.Lists.{each}
use Rattle.register.specs.declared.Register.{Register}
use Rattle.plain.specs.declared.Latest.{Latest}
use Rattle.plain.specs.declared.Position.{Position}
use Rattle.plain.specs.Book.{Book, new}
use Rattle.plain.specs.Changing.{with_day, with_prices, with_positions}
use Rattle.plain.specs.Charging.{Charge, award_fines, late_fines, close_charges}
use Rattle.tables.specs.Tables as table
use Rattle.tables.specs.Tables.{Positions, Awards, positions, awards}
use Rattle.tables.specs.declared.Prices.{Prices}

-- a plain book of the parts that charges go by; it holds nothing else
abbrev pub book_of : Register → ℕ → List Latest → List Position → Book
book_of register day prices ps = with_positions (with_prices (with_day (new (record { register = register })) day) prices) ps

-- Close. The fines of awards go by no day.

unfoldable pub award_fines_of : Awards → Positions → Prices → Register → List Charge
award_fines_of a p prices register = each (award_fines (book_of register 0 (table.prices prices) (positions p))) (awards a)

unfoldable pub late_fines_of : Positions → Prices → Register → BusinessDay → List Charge
late_fines_of p prices register day = each (late_fines (book_of register day.0 (table.prices prices) (positions p))) (positions p)

unfoldable pub close_charges_of : Awards → Positions → Prices → Register → BusinessDay → List Charge
close_charges_of a p prices register day = award_fines_of a p prices register ++ late_fines_of p prices register day

-- they are the fines and the charges of a close of every plain book with these parts
module _
    (b : Book)
    (a : Awards)
    (p : Positions)
    (prices : Prices)
    (register : Register)
    (awards-same : b.awards ≡ awards a)
    (positions-same : b.positions ≡ positions p)
    (prices-same : b.prices ≡ table.prices prices)
    (register-same : b.opening.register ≡ register)
  where
    pub award_fines_lem : award_fines_of a p prices register ≡ each (award_fines b) b.awards
    unfolding award_fines_of award_fines new
    award_fines_lem = rw (← awards-same, ← positions-same, ← prices-same, ← register-same)

    pub late_fines_lem : (day : BusinessDay) → b.day ≡ day.0 → late_fines_of p prices register day ≡ each (late_fines b) b.positions
    unfolding late_fines_of late_fines new
    late_fines_lem day day-same = rw (← positions-same, ← prices-same, ← register-same, ← day-same)

    pub close_charges_lem : (day : BusinessDay) → b.day ≡ day.0 → close_charges_of a p prices register day ≡ close_charges b
    unfolding close_charges_of close_charges
    close_charges_lem day day-same = rw (award_fines_lem, late_fines_lem day day-same)
