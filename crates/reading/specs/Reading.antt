-- What the reads of a book answer: what is asked for, or why it is refused.
use Rattle.std.specs.Prelude.{ℕ, suc, cond, ltb, ℤ, pos, negsuc, Result, Ok, Err, Option}
use Rattle.laws.specs.Limits.{MEMBERS}
use Rattle.laws.specs.Asked.{within}
use Rattle.laws.specs.declared.Refusal.{Refusal}
use Rattle.laws.specs.declared.Refusal.TheVariants.{NoMember, NotRegistered, NotThere}
use Rattle.rules.specs.declared.Amount.{Amount}
use Rattle.rules.specs.declared.Amount.TheVariants.{Debit, Credit}
use Rattle.plain.specs.declared.Position.{Position}
use Rattle.plain.specs.declared.Award.{Award}
use Rattle.plain.specs.declared.Latest.{Latest}
use Rattle.plain.specs.Book as plain
use Rattle.plain.specs.Histories as histories

-- 11. "The position, or today's award, is not there."
abbrev pub position_answer : plain.Book → ℕ → Result Position Refusal
position_answer b n = cond (plain.there b.positions n) (Ok (plain.position_of b n)) (Err NotThere)

abbrev pub award_answer : plain.Book → ℕ → Result Award Refusal
award_answer b n = cond (plain.there b.awards n) (Ok (plain.award_of b n)) (Err NotThere)

-- "The lookup of the latest price shall also tell the day it was given" (document 02, Slip 3); 10. "The security is not registered."
abbrev pub price_answer : plain.Book → ℕ → Result (Option Latest) Refusal
price_answer b security =
    cond (within 1 b.opening.register.count security) (Ok (plain.latest_price b security)) (Err NotRegistered)

-- "a credit is positive": a balance by its sign. A balance of 0 is a credit
abbrev pub signed : ℤ → Amount
signed (pos cents) = Credit cents
signed (negsuc cents) = Debit (suc cents)

-- the accounts are the house, 0, and the members, 1 to 63; 9. "A member is not 1 to 63."
abbrev pub balance_answer : plain.Book → ℕ → Result Amount Refusal
balance_answer b account = cond (ltb MEMBERS account) (Err NoMember) (Ok (signed (histories.balance b account)))
