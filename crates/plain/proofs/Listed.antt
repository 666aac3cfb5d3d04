-- Every call's reasons have numbers of the papers' list, so that its refusal number is 0 or one of them.
use Rattle.std.specs.Prelude.{ℕ, ◌≤◌, ◌≡◌, refl, true}
use Rattle.laws.specs.Answers.{REFUSALS, listed, first_listed}
use Rattle.events.specs.declared.Event.TheVariants as event
use Rattle.plain.specs.Book.{Book}
use Rattle.plain.specs.Calls.{Call, call}
use Rattle.plain.specs.Refusals.{reasons, refusal}

reasons_listed : (b : Book) (c : Call) → listed (reasons b c) ≡ true
unfolding reasons
reasons_listed b (call (event.Trade t) sheet) = refl
reasons_listed b (call (event.Price p) sheet) = refl
reasons_listed b (call (event.Delivery d) sheet) = refl
reasons_listed b (call (event.Attempt a) sheet) = refl
reasons_listed b (call (event.Offer o) sheet) = refl
reasons_listed b (call (event.Award a) sheet) = refl
reasons_listed b (call (event.Confirm c) sheet) = refl
reasons_listed b (call (event.Cash c) sheet) = refl
reasons_listed b (call event.Close sheet) = refl
reasons_listed b (call (event.PairOff x) sheet) = refl

pub refusal_listed : (b : Book) (c : Call) → refusal b c ≤ REFUSALS
unfolding refusal
refusal_listed b c = first_listed (reasons b c) (reasons_listed b c)
