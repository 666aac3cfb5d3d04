-- An outcome that is fixed by a number and a quantity: what its parts are.
use Rattle.std.specs.Prelude.{ℕ, zero, suc, ◌≡◌}
use Rattle.std.proofs.Common.{arith, ap, sym, ◌∙◌}
use Rattle.laws.specs.Refusals.{accepted, accepted_not}
use Rattle.laws.specs.Answers.{Outcome, answer, answer_number, number_in, quantity_of}
use Rattle.plain.specs.Book.{Book}
use Rattle.plain.specs.Calls.{Call, amount}
use Rattle.plain.specs.Refusals.{refusal}
use Rattle.plain.proofs.Listed.{refusal_listed}
use Rattle.plain.specs.Histories.{event_of, quantity}

-- a call's number
pub answered_number : (b : Book) (c : Call) (o : Outcome) → o ≡ answer (refusal b c) (quantity b c) → number_in o ≡ refusal b c
answered_number b c o e = ap number_in e ∙ answer_number (refusal b c) (quantity b c) (refusal_listed b c)

units_of : (o : Outcome) (n units : ℕ) → o ≡ answer n (accepted n units 0) → quantity_of o ≡ accepted n units 0
units_of o zero units e = ap quantity_of e
units_of o (suc n) units e = ap quantity_of e ∙ sym (accepted_not (suc n) units 0 (λ z. omega (arith, z)))

-- a refused call's quantity is 0
pub answered_quantity : (b : Book) (c : Call) (o : Outcome) → o ≡ answer (refusal b c) (quantity b c) → quantity_of o ≡ quantity b c
unfolding quantity
answered_quantity b c o e = units_of o (refusal b c) (amount b (event_of c)) e
