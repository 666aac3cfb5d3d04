-- The offers of the running auction: what the accepted attempts, offers and awards alone make them.
use mathlib.Core.Path.{◌≡◌, refl}
use mathlib.Core.List.{List, ◌∷◌}
use Rattle.events.specs.declared.Event.{Event}
use Rattle.events.specs.declared.Event.TheVariants as event
use Rattle.plain.specs.declared.Opening.{Opening}
use Rattle.plain.specs.Book.{Book, new}
use Rattle.plain.specs.Calls.{Call, discharged, done}
use Rattle.plain.specs.Histories.{event_of, run, accepted_events, offered, offers_by}
use Rattle.plain.proofs.Accepted.{run_tells}

done_offered : (b : Book) (e : Event) (es : List Event) → offered (done b e).auction.offers es ≡ offered b.auction.offers (e ∷ es)
unfolding done discharged offered
done_offered b (event.Trade t) es = refl
done_offered b (event.Price p) es = refl
done_offered b (event.Delivery d) es = refl
done_offered b (event.Attempt a) es = refl
done_offered b (event.Offer o) es = refl
done_offered b (event.Award a) es = refl
done_offered b (event.Confirm c) es = refl
done_offered b (event.Cash c) es = refl
done_offered b event.Close es = refl
done_offered b (event.PairOff x) es = refl

offered_run : (b : Book) (cs : List Call) → (run b cs).auction.offers ≡ offered b.auction.offers (accepted_events b cs)
unfolding offered
offered_run b cs =
    run_tells (λ x es. offered x.auction.offers es) (λ x. Unit {0}) (λ x c e h. tt) (λ x c e h es. done_offered x (event_of c) es) b cs tt

-- of a new book, in which no auction runs
pub offered_new : (opening : Opening) (cs : List Call) → (run (new opening) cs).auction.offers ≡ offers_by (accepted_events (new opening) cs)
unfolding new
offered_new opening cs = offered_run (new opening) cs
