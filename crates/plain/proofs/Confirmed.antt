-- What the confirmations of a day charge: once all awards of an auction are confirmed, the charges of these awards, each once.
use Prim.Native.Nat.{ℕ, zero, suc, ◌+◌, ◌≤◌, ◌<◌}
use native.Mathlib.Omega.{arith}
use mathlib.Core.Path.{◌≡◌, refl, ap, sym, ◌∙◌, subst}
use mathlib.Core.Logic.{◌≢◌}
use mathlib.Core.List.{List, [], ◌∷◌, ◌++◌, append-nil}
use mathlib.Core.Bool.{Bool, true, false, cond}
use lib.ListN.{length, get_or, length-append}
use lib.Dec.{eqb}
use borrow.Author.Tests.{eqb-true, eqb-false, eq-eqb, ne_eqb}
use Rattle.laws.specs.Lists.{All, only, range, sum, number}
use Rattle.laws.specs.Asked.{Said, passed, failed, ask, within, Within}
use Rattle.laws.specs.Sums.{sum_add, sum_same, sum_same_all, sum_zero, sum_each, sum_within}
use Rattle.laws.specs.Listed.{sum_append}
use Rattle.laws.specs.Alls.{all_of, all_any, all_range, length_number}
use Rattle.laws.specs.Integers.{sum_from}
use Rattle.laws.specs.Refusals.{accepted, accepted_zero}
use Rattle.rules.specs.Charges.{buy_in_charge}
use Rattle.events.specs.declared.Award as asked
use Rattle.events.specs.declared.Event.{Event}
use Rattle.events.specs.declared.Event.TheVariants as event
use Rattle.plain.specs.declared.Position.{Position}
use Rattle.plain.specs.declared.Piece.{Piece}
use Rattle.plain.specs.declared.Award.{Award}
use Rattle.plain.specs.Book.{Book, no_position, no_award, nth, position_of, award_of}
use Rattle.plain.specs.Changing.{with_positions}
use Rattle.plain.specs.Dealing.{fresh, lowering}
use Rattle.plain.specs.Auction.{confirmed_award}
use Rattle.plain.specs.Charging.{Charge, credit_of, debit_of, charge, buy_in_charges}
use Rattle.plain.specs.Calls.{Call, call, discharged, hands_out, charges, auction_awards, done}
use Rattle.plain.specs.Refusals.{refusal}
use Rattle.plain.specs.Histories.{event_of, next, charged, run}
use Rattle.plain.specs.Cover.{added, buy_ins, PaysLeast, confirms_one_of, confirmation_charges, AllConfirmed, Confirmed, confirmations_of}
use Rattle.plain.specs.Invariants.{Fair, OfferFits}
use Rattle.plain.specs.Sound.{Sound}
use Rattle.plain.proofs.Accepted.{award_taken, confirm_taken, run_keeps}
use Rattle.plain.proofs.Numbered.{nth_append, nth_behind, nth_number, nth_alike, nth_all}
use Rattle.plain.proofs.Formed.{fresh_lowering, fresh_at}
use Rattle.plain.proofs.Kept.{done_steps}
use Rattle.plain.proofs.AwardSteps.{runs_on_lem}
use Rattle.plain.proofs.Cover.{awards_all}
use Rattle.plain.proofs.Covering.{covered, pays_least}

-- THE CHARGE OF AN AWARD STAYS

-- a discharge leaves what makes a position
lowered_alike : (xs : List Piece) (ps : List Position) (n : ℕ) → fresh (nth no_position (lowering xs ps) n) ≡ fresh (nth no_position ps n)
lowered_alike xs ps n =
    nth_alike no_position fresh (lowering xs ps) ps
    (λ i. fresh_at (lowering xs ps) i ∙ ap (λ (l : List Position). get_or l i no_position) (fresh_lowering xs ps) ∙ sym (fresh_at ps i)) n

discharged_alike : (b : Book) (xs : List Piece) (a : Award) → buy_in_charges (with_positions b (lowering xs b.positions)) a ≡ buy_in_charges b a
unfolding buy_in_charges fresh
discharged_alike b xs a =
    ap (λ (p : Position). charge p.member (buy_in_charge a.quantity a.price p.reference) ∷ []) (lowered_alike xs b.positions a.position)

-- THE DAY

-- no call goes back to an earlier day
rises : (day : ℕ) (b : Book) (c : Call) → refusal b c ≡ 0 → day ≤ b.day → day ≤ (done b (event_of c)).day
rises day b c e h =
    done_steps (λ x. day ≤ x.day) b c e
    (record { kept = h; traded = λ t k. h; priced = λ p k. h; lowers = λ xs. h; closed = λ k. omega arith })

run_rises : (b : Book) (cs : List Call) → b.day ≤ (run b cs).day
run_rises b cs = run_keeps (λ x. b.day ≤ x.day) (rises b.day) b cs (omega arith)

-- WHAT THE CONFIRMATIONS CHARGE

-- Of so many awards after the first ones: what f gives of each, summed
module _ (first many : ℕ) where
  abbrev summed : (Award → ℕ) → List Award → ℕ
  summed f awards = sum (λ n. f (nth no_award awards n)) (range (suc first) many)

  summed_alike : (f : ℕ → ℕ) (g : ℕ → ℕ) → ((n : ℕ) → Within (suc first) (first + many) n → f n ≡ g n) → sum f (range (suc first) many) ≡ sum g (range (suc first) many)
  summed_alike f g h =
      sum_same_all f g (range (suc first) many)
      (all_of (λ n. (suc first ≤ n) × (n < suc first + many)) (λ n. f n ≡ g n) (range (suc first) many)
      (λ n k. h n (record { above = k.0; below = omega (arith, k.1) })) (all_range (suc first) many))

  -- One sum of charges, as the debits of an account are one: what an award charges on the book that the list of calls met, and what of that is charged
  module _ (met : Book) (pick : Charge → ℕ) where
    abbrev charge_for : Award → ℕ
    charge_for a = sum pick (buy_in_charges met a)

    abbrev paid : Award → ℕ
    paid a = only a.confirmed (charge_for a)

    -- a call of the day and what it booked for these awards: what is charged rises by that
    record Confirming (b after : Book) (booked : List Charge) : Type 0 where
      pays : sum pick booked + summed paid b.awards ≡ summed paid after.awards
      same : summed charge_for after.awards ≡ summed charge_for b.awards
      room : first + many ≤ length after.awards
      alike : (a : Award) → buy_in_charges after a ≡ buy_in_charges b a

    -- awards stay as they are, with others behind them
    stays : (b after : Book) (new : List Award) → first + many ≤ length b.awards → after.awards ≡ b.awards ++ new → ((a : Award) → buy_in_charges after a ≡ buy_in_charges b a) → Confirming b after []
    stays b after new room more alike =
        record {
          pays = omega (arith, still paid);
          same = still charge_for;
          room = omega (arith, ap length more, length-append b.awards new);
          alike = alike;
        }
      where
        still : (f : Award → ℕ) → summed f after.awards ≡ summed f b.awards
        still f =
            rw more
            (summed_alike (λ n. f (nth no_award (b.awards ++ new) n)) (λ n. f (nth no_award b.awards n))
            (λ n w. ap f (nth_append no_award b.awards new n (omega (arith, room, w.below)))))

    kept_all : (b after : Book) → first + many ≤ length b.awards → after.awards ≡ b.awards → ((a : Award) → buy_in_charges after a ≡ buy_in_charges b a) → Confirming b after []
    kept_all b after room same alike = stays b after [] room (same ∙ sym (append-nil b.awards)) alike

    -- one is confirmed
    confirm_charge : (j n : ℕ) (a : Award) → charge_for (confirmed_award j n a) ≡ charge_for a
    unfolding confirmed_award buy_in_charges
    confirm_charge j n a = go (eqb n j)
      where
        go : (t : Bool) → charge_for (cond t (record { position = a.position; offerer = a.offerer; quantity = a.quantity; price = a.price; confirmed = true }) a) ≡ charge_for a
        go true = refl
        go false = refl

    confirm_paid : (j n : ℕ) (awards : List Award) → (nth no_award awards j).confirmed ≡ false
        → paid (confirmed_award j n (nth no_award awards n)) ≡ paid (nth no_award awards n) + only (eqb j n) (charge_for (nth no_award awards j))
    unfolding confirmed_award buy_in_charges
    confirm_paid j n awards h = go (ask (eqb n j))
      where
        go : Said (eqb n j) → paid (confirmed_award j n (nth no_award awards n)) ≡ paid (nth no_award awards n) + only (eqb j n) (charge_for (nth no_award awards j))
        go (passed e) =
            let same : n ≡ j = eqb-true n j e in
            rw (same, eq-eqb j j refl, h) (omega arith)
        go (failed e) =
            let other : n ≢ j = eqb-false n j e in
            rw (e, ne_eqb j n (λ k. other (sym k))) (omega arith)

    cond_sum : (t : Bool) (cs : List Charge) → sum pick (cond t cs []) ≡ only t (sum pick cs)
    cond_sum true cs = refl
    cond_sum false cs = refl

    confirms : (b after : Book) (j : ℕ) → first + many ≤ length b.awards → (award_of b j).confirmed ≡ false → ((a : Award) → buy_in_charges b a ≡ buy_in_charges met a)
        → after.awards ≡ number (confirmed_award j) 1 b.awards → ((a : Award) → buy_in_charges after a ≡ buy_in_charges b a)
        → Confirming b after (cond (within (suc first) (first + many) j) (buy_in_charges b (award_of b j)) [])
    confirms b after j room h ours marked alike =
        record {
          pays =
              omega (
                arith,
                cond_sum (within (suc first) (first + many) j) (buy_in_charges b (award_of b j)),
                ap (λ (cs : List Charge). only (within (suc first) (first + many) j) (sum pick cs)) (ours (award_of b j)),
                sum_within j (charge_for (award_of b j)) first many,
                sum_add (λ n. paid (award_of b n)) (λ n. only (eqb j n) (charge_for (award_of b j))) (range (suc first) many),
                now paid (λ n. paid (award_of b n) + only (eqb j n) (charge_for (award_of b j))) (λ n. confirm_paid j n b.awards h),
              );
          same = now charge_for (λ n. charge_for (award_of b n)) (λ n. confirm_charge j n (award_of b n));
          room = omega (arith, ap length marked, length_number (confirmed_award j) 1 b.awards);
          alike = alike;
        }
      where
        now : (f : Award → ℕ) (g : ℕ → ℕ) → ((n : ℕ) → f (confirmed_award j n (award_of b n)) ≡ g n) → summed f after.awards ≡ sum g (range (suc first) many)
        now f g k =
            rw marked
            (summed_alike (λ n. f (nth no_award (number (confirmed_award j) 1 b.awards) n)) g
            (λ n w. ap f (nth_number no_award (confirmed_award j) no_award b.awards n (record { above = omega (arith, w.above); below = omega (arith, room, w.below) })) ∙ k n))

    -- each call of the day
    done_confirms : (b : Book) (c : Call) → refusal b c ≡ 0 → (done b (event_of c)).day ≡ b.day → first + many ≤ length b.awards → ((a : Award) → buy_in_charges b a ≡ buy_in_charges met a)
        → Confirming b (done b (event_of c)) (cond (confirms_one_of first many (event_of c)) (charges b (event_of c)) [])
    unfolding done discharged charges buy_in_charges
    done_confirms b (call (event.Trade t) sheet) e day room ours = kept_all b (done b (event.Trade t)) room refl (λ a. refl)
    done_confirms b (call (event.Price p) sheet) e day room ours = kept_all b (done b (event.Price p)) room refl (λ a. refl)
    done_confirms b (call (event.Delivery d) sheet) e day room ours = kept_all b (done b (event.Delivery d)) room refl (discharged_alike b (hands_out b (event.Delivery d)))
    done_confirms b (call (event.Attempt a) sheet) e day room ours = kept_all b (done b (event.Attempt a)) room refl (λ a. refl)
    done_confirms b (call (event.Offer o) sheet) e day room ours = kept_all b (done b (event.Offer o)) room refl (λ a. refl)
    done_confirms b (call (event.Award a) sheet) e day room ours = stays b (done b (event.Award a)) (auction_awards b) room refl (λ a. refl)
    done_confirms b (call (event.Confirm c) sheet) e day room ours =
        confirms b (done b (event.Confirm c)) c.award room (confirm_taken b c sheet e).unconfirmed ours refl (discharged_alike b (hands_out b (event.Confirm c)))
    done_confirms b (call (event.Cash c) sheet) e day room ours = kept_all b (done b (event.Cash c)) room refl (discharged_alike b (hands_out b (event.Cash c)))
    done_confirms b (call event.Close sheet) e day room ours = absurd (omega arith)
    done_confirms b (call (event.PairOff x) sheet) e day room ours = kept_all b (done b (event.PairOff x)) room refl (discharged_alike b (hands_out b (event.PairOff x)))

    next_confirms : (b : Book) (c : Call) → (next b c).day ≡ b.day → first + many ≤ length b.awards → ((a : Award) → buy_in_charges b a ≡ buy_in_charges met a)
        → Confirming b (next b c) (cond (confirms_one_of first many (event_of c)) (charged b c) [])
    unfolding next charged
    next_confirms b c day room ours = go (refusal b c) refl day
      where
        nothing : (t : Bool) → cond {A = List Charge} t [] [] ≡ []
        nothing true = refl
        nothing false = refl

        go : (n : ℕ) → refusal b c ≡ n → (accepted n (done b (event_of c)) b).day ≡ b.day
            → Confirming b (accepted n (done b (event_of c)) b) (cond (confirms_one_of first many (event_of c)) (accepted n (charges b (event_of c)) []) [])
        go zero e d = done_confirms b c e d room ours
        go (suc n) e d = subst (Confirming b b) (sym (nothing (confirms_one_of first many (event_of c)))) (kept_all b b room refl (λ a. refl))

    confirmations : (b : Book) (cs : List Call) → first + many ≤ length b.awards → ((a : Award) → buy_in_charges b a ≡ buy_in_charges met a) → (run b cs).day ≡ b.day
        → (sum pick (confirmation_charges first many b cs) + summed paid b.awards ≡ summed paid (run b cs).awards) × (summed charge_for (run b cs).awards ≡ summed charge_for b.awards)
    unfolding run confirmation_charges
    confirmations b [] room ours day = (omega arith, refl)
    confirmations b (c ∷ cs) room ours day =
        let today : (next b c).day ≡ b.day = omega (arith, day, run_rises (next b c) cs, run_rises b (c ∷ [])) in
        let s = next_confirms b c today room ours in
        let rest = confirmations (next b c) cs s.room (λ a. s.alike a ∙ ours a) (day ∙ sym today) in (
          omega (
            arith,
            sum_append pick (cond (confirms_one_of first many (event_of c)) (charged b c) []) (confirmation_charges first many (next b c) cs),
            s.pays,
            rest.0,
          ),
          rest.1 ∙ s.same,
        )

-- of awards that stand behind others, none of them confirmed, and all of them at the end
all_charged : (b : Book) (xs new : List Award) (cs : List Call) (pick : Charge → ℕ) → b.awards ≡ xs ++ new → All (λ a. a.confirmed ≡ false) new → (run b cs).day ≡ b.day
    → AllConfirmed (length xs) (length new) (run b cs) → sum pick (confirmation_charges (length xs) (length new) b cs) ≡ sum pick (buy_ins b new)
all_charged b xs new cs pick behind none day all =
    let k = confirmations first many b pick b cs (omega (arith, ap length behind, length-append xs new)) (λ a. refl) day in
    let begun : summed first many (paid first many b pick) b.awards ≡ 0 = of_new (paid first many b pick) ∙ unpaid in
    let whole : summed first many (charge_for first many b pick) b.awards ≡ sum pick (buy_ins b new) = of_new (charge_for first many b pick) ∙ sym (sum_each pick (buy_in_charges b) new) in
    omega (arith, k.0, k.1, begun, whole, ended)
  where
    first : ℕ
    first = length xs

    many : ℕ
    many = length new

    of_new : (f : Award → ℕ) → summed first many f b.awards ≡ sum f new
    of_new f =
        rw behind (sum_from f no_award new (suc first) (λ n. f (nth no_award (xs ++ new) n)) (λ i. ap f (nth_behind no_award xs new i)))

    unpaid : sum (paid first many b pick) new ≡ 0
    unpaid =
        sum_same_all (paid first many b pick) (λ a. 0) new
        (all_of (λ a. a.confirmed ≡ false) (λ a. paid first many b pick a ≡ 0) new (λ a e. rw e) none)
        ∙ sum_zero new

    ended : summed first many (paid first many b pick) (run b cs).awards ≡ summed first many (charge_for first many b pick) (run b cs).awards
    ended =
        summed_alike first many (λ n. paid first many b pick (award_of (run b cs) n)) (λ n. charge_for first many b pick (award_of (run b cs) n)) (λ n w. rw (all n w))

-- AFTER AN AWARD

module _ (b : Book) (h : Sound b) (a : asked.Award) (sheet : ℕ) (e : refusal b (call (event.Award a) sheet) ≡ 0) where
  abbrev award_call : Call
  award_call = call (event.Award a) sheet

  award_alike : (x : Award) → buy_in_charges (next b award_call) x ≡ buy_in_charges b x
  unfolding next done buy_in_charges
  award_alike x = ap (λ (after : Book). buy_in_charges after x) (accepted_zero (refusal b award_call) (done b (event.Award a)) b e)

  award_day : (next b award_call).day ≡ b.day
  unfolding next done
  award_day = ap (λ (after : Book). after.day) (accepted_zero (refusal b award_call) (done b (event.Award a)) b e)

  after_award : (later : List Call) → Confirmed b (next b award_call) (run (next b award_call) later)
      → PaysLeast b a.position (added b (next b award_call)) (confirmations_of b (next b award_call) later)
  unfolding debit_of credit_of
  after_award later confirmed =
      let new : List Award = added b (next b award_call) in
      let k = covered b award_call a e refl in
      let none : All (λ x. x.confirmed ≡ false) new =
      awards_all k.cheapest (λ x. x.confirmed ≡ false) (λ o. Unit {0}) (λ o q l m u. refl) (all_any (λ o. Unit {0}) b.auction.offers (λ o. tt)) in
      let total : (pick : Charge → ℕ) → sum pick (confirmation_charges (length b.awards) (length new) (next b award_call) later) ≡ sum pick (buy_ins b new) = λ pick.
      all_charged (next b award_call) b.awards new later pick k.kept none (confirmed.today ∙ sym award_day) confirmed.all
      ∙ sum_each pick (buy_in_charges (next b award_call)) new
      ∙ sum_same (λ x. sum pick (buy_in_charges (next b award_call) x)) (λ x. sum pick (buy_in_charges b x)) new (λ x. ap (sum pick) (award_alike x))
      ∙ sym (sum_each pick (buy_in_charges b) new) in
      let taken = award_taken b a sheet e in
      let on : b.auction.position ≡ a.position = (runs_on_lem b a.position taken.running).1 in
      let offers_on : All (λ o. o.position ≡ a.position) b.auction.offers =
      all_of (OfferFits b.auction) (λ o. o.position ≡ a.position) b.auction.offers (λ o f. f.position ∙ on) h.auctioned.offers_fit in
      let fair = nth_all no_position (Fair b.opening.register.count b.day) b.positions a.position taken.held h.standing.fair in
      pays_least b a.position fair.member.above (position_of b a.position).unsettled new
      (confirmation_charges (length b.awards) (length new) (next b award_call) later) offers_on k.cheapest (total _) (total _)

-- every award that is accepted, once all that it awarded is confirmed on the same day
pub seller_pays : (b : Book) (c : Call) (a : asked.Award) (later : List Call) → Sound b → refusal b c ≡ 0 → event_of c ≡ event.Award a → Confirmed b (next b c) (run (next b c) later)
    → PaysLeast b a.position (added b (next b c)) (confirmations_of b (next b c) later)
seller_pays b (call e sheet) a later h taken is =
    subst
    (λ (f : Event). refusal b (call f sheet) ≡ 0 → Confirmed b (next b (call f sheet)) (run (next b (call f sheet)) later)
    → PaysLeast b a.position (added b (next b (call f sheet))) (confirmations_of b (next b (call f sheet)) later))
    (sym is) (λ t confirmed. after_award b h a sheet t later confirmed) taken
