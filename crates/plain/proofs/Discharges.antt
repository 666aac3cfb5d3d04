-- What one call hands out: an accepted discharge's pieces add up to its quantity; a cash settlement's have one price; a refused call hands out and
-- changes nothing.
use Prim.Native.Nat.{ℕ, ◌*◌}
use mathlib.Core.Path.{◌≡◌, refl, sym, subst}
use mathlib.Core.Bool.{true, true≢false}
use mathlib.Core.Logic.{◌≢◌}
use mathlib.Core.List.{List, [], ◌∷◌, map, map-map}
use Rattle.laws.specs.Lists.{All}
use Rattle.laws.specs.Highest.{highest_above, highest_among}
use Rattle.laws.specs.Refusals.{accepted_zero, accepted_not}
use Rattle.events.specs.declared.Cash.{Cash}
use Rattle.events.specs.declared.Event.{Event}
use Rattle.events.specs.declared.Event.TheVariants as event
use Rattle.rules.specs.Prices.{raised}
use Rattle.plain.specs.declared.Position.{Position}
use Rattle.plain.specs.declared.Piece.{Piece}
use Rattle.plain.specs.declared.Manner.{Manner}
use Rattle.plain.specs.declared.Manner.TheVariants as manner
use Rattle.plain.specs.Book.{Book, no_position, nth, position_of, award_of, class_of, latest_of}
use Rattle.plain.specs.Charging.{long_references, settlement_terms, settlement_price, priced_at}
use Rattle.plain.specs.Calls.{Call, call, is_discharge, dealt, hands_out, charges, amount, short_of, done}
use Rattle.plain.specs.Refusals.{refusal}
use Rattle.plain.specs.Histories.{event_of, next, pieces, quantity, charged}
use Rattle.plain.specs.Invariants.{Deals}
use Rattle.plain.specs.Sound.{Sound}
use Rattle.plain.proofs.Sound.{sound_dealt}
use Rattle.plain.specs.Claim.{Discharge, OnePrice, Refused}

dealt_out_lem : (b : Book) (c : Call) (m : Manner) (n : ℕ) → refusal b c ≡ 0 → Deals b m n (amount b (event_of c)) (hands_out b (event_of c)) → Discharge b c n
unfolding pieces quantity
dealt_out_lem b c m n e f =
    let given = accepted_zero (refusal b c) (hands_out b (event_of c)) [] e in
    let much = accepted_zero (refusal b c) (amount b (event_of c)) 0 e in
    record {
      dealable = rw much f.dealable;
      total = rw (given, much) f.total;
      shorts = rw given f.shorts;
      longs = rw given f.longs;
    }

-- every accepted delivery, confirm, cash settlement and pair-off
pub discharge : (b : Book) (c : Call) → Sound b → refusal b c ≡ 0 → is_discharge (event_of c) ≡ true → Discharge b c (short_of b (event_of c))
unfolding short_of amount
discharge b (call (event.Trade t) sheet) h e s = absurd (true≢false (sym s))
discharge b (call (event.Price p) sheet) h e s = absurd (true≢false (sym s))
discharge b (call (event.Delivery d) sheet) h e s =
    let c = call (event.Delivery d) sheet in
    dealt_out_lem b c manner.Delivered d.position e (sound_dealt b h c e)
discharge b (call (event.Attempt a) sheet) h e s = absurd (true≢false (sym s))
discharge b (call (event.Offer o) sheet) h e s = absurd (true≢false (sym s))
discharge b (call (event.Award a) sheet) h e s = absurd (true≢false (sym s))
discharge b (call (event.Confirm c) sheet) h e s =
    let k = call (event.Confirm c) sheet in
    dealt_out_lem b k manner.BoughtIn (award_of b c.award).position e (sound_dealt b h k e)
discharge b (call (event.Cash c) sheet) h e s =
    let k = call (event.Cash c) sheet in
    dealt_out_lem b k manner.Cash c.position e (sound_dealt b h k e)
discharge b (call event.Close sheet) h e s = absurd (true≢false (sym s))
discharge b (call (event.PairOff x) sheet) h e s =
    let k = call (event.PairOff x) sheet in
    dealt_out_lem b k manner.Paired x.short e (sound_dealt b h k e)

-- every accepted cash settlement

same_longs : (ps : List Position) (price : ℕ) (xs : List Piece) → long_references ps (map (priced_at price) xs) ≡ long_references ps xs
unfolding priced_at
same_longs ps price xs = map-map (λ x. (nth no_position ps x.long).reference) (priced_at price) xs

costs_of : (price : ℕ) (xs : List Piece) → All (λ x. x.cents ≡ x.quantity * price) (map (priced_at price) xs)
unfolding priced_at
costs_of price [] = tt
costs_of price (x ∷ xs) = (refl, costs_of price xs)

priced_at_lem : (b : Book) (n : ℕ) (xs : List Piece) → OnePrice b n (map (priced_at (settlement_price b n xs)) xs)
unfolding settlement_price
priced_at_lem b n xs =
    let short = position_of b n in
    let price = settlement_price b n xs in
    let longs = same_longs b.positions price xs in
    record {
      price = price;
      costs = costs_of price xs;
      most = rw longs (highest_above (settlement_terms b n xs));
      among = rw longs (highest_among short.reference (raised (class_of b short.security) (latest_of b short.security) ∷ long_references b.positions xs));
    }

settled_at : (b : Book) (s : Cash) (sheet : ℕ) → refusal b (call (event.Cash s) sheet) ≡ 0 → OnePrice b s.position (pieces b (call (event.Cash s) sheet))
unfolding pieces hands_out
settled_at b s sheet e =
    rw (accepted_zero (refusal b (call (event.Cash s) sheet)) (hands_out b (event.Cash s)) [] e)
    (priced_at_lem b s.position (dealt b manner.Cash s.position (position_of b s.position).unsettled))

pub one_price : (b : Book) (c : Call) (s : Cash) → refusal b c ≡ 0 → event_of c ≡ event.Cash s → OnePrice b s.position (pieces b c)
one_price b (call e sheet) s taken is =
    subst (λ (f : Event). refusal b (call f sheet) ≡ 0 → OnePrice b s.position (pieces b (call f sheet))) (sym is) (settled_at b s sheet) taken

pub refused : (b : Book) (c : Call) → refusal b c ≢ 0 → Refused b c
unfolding next pieces quantity charged
refused b c e =
    record {
      book = accepted_not (refusal b c) (done b (event_of c)) b e;
      pieces' = accepted_not (refusal b c) (hands_out b (event_of c)) [] e;
      quantity' = accepted_not (refusal b c) (amount b (event_of c)) 0 e;
      charges' = accepted_not (refusal b c) (charges b (event_of c)) [] e;
    }
