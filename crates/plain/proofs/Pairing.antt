-- A pair-off as a discharge: its one piece fits its short and its long, so that the laws of discharges hold of it.
use Prim.Native.Nat.{ℕ, suc, ◌+◌, ◌≤◌, ◌<◌}
use native.Mathlib.Omega.{arith}
use native.Mathlib.Nat.{add-zero}
use mathlib.Core.Path.{◌≡◌, refl, ap, sym, ◌∙◌, subst}
use mathlib.Core.Bool.{Bool, true, false, not, ◌&&◌}
use mathlib.Core.List.{[], ◌∷◌}
use lib.ListN.{length, get_or}
use lib.Dec.{eqb}
use borrow.Author.Tests.{eq-eqb, eqb-true, not-true}
use Rattle.laws.specs.Lists.{only}
use Rattle.laws.specs.Asked.{Said, passed, failed, ask, and_left, and_right}
use Rattle.laws.specs.Refusals.{accepted_zero}
use Rattle.events.specs.declared.PairOff.{PairOff}
use Rattle.events.specs.declared.Event.{Event}
use Rattle.events.specs.declared.Event.TheVariants as event
use Rattle.plain.specs.declared.Kind.{Kind}
use Rattle.plain.specs.declared.Kind.TheVariants.{Own, Client}
use Rattle.plain.specs.declared.Position.{Position}
use Rattle.plain.specs.declared.Manner.TheVariants.{Paired}
use Rattle.plain.specs.Book.{Book, no_position, position_of}
use Rattle.plain.specs.Netting.{kind_number}
use Rattle.plain.specs.Dealing.{due, taken}
use Rattle.plain.specs.Charging.{posted, credited, debited}
use Rattle.plain.specs.Calls.{Call, call, paired_piece, discharged, hands_out, charges, done}
use Rattle.plain.specs.Refusals.{is_pairable, refusal}
use Rattle.plain.specs.Histories.{event_of, next, pieces}
use Rattle.plain.specs.Invariants.{DueLong, as_long, Dealable, Deals}
use Rattle.plain.specs.Claim.{SetOff}
use Rattle.plain.proofs.Accepted.{PairOffTaken, pair_off_taken}
use Rattle.plain.proofs.AwardSteps.{free_open}
use Rattle.plain.proofs.Discharged.{length_lowering, left_open, long_other, taken_short, taken_other}
use Rattle.plain.proofs.Numbered.{place_nth}

-- kinds with one number are one kind
pub same_kind : (j k : Kind) → kind_number j ≡ kind_number k → j ≡ k
same_kind Own Own e = refl
same_kind Own Client e = absurd (omega arith)
same_kind Client Own e = absurd (omega arith)
same_kind Client Client e = refl

-- what 34 leaves: q is a due long of the same member, kind and security as p
pub record Pairable (day : ℕ) (p q : Position) : Type 0 where
  pub long : q.short ≡ false
  pub is_due : due day q ≡ true
  pub member : q.member ≡ p.member
  pub kind : q.kind ≡ p.kind
  pub security : q.security ≡ p.security

pub pairable : (day : ℕ) (p q : Position) → is_pairable day p q ≡ true → Pairable day p q
pairable day p q e =
    let long = not q.short in
    let ready = long && due day q in
    let own = ready && eqb q.member p.member in
    let alike = own && eqb (kind_number q.kind) (kind_number p.kind) in
    let four = and_left alike (eqb q.security p.security) e in
    let three = and_left own (eqb (kind_number q.kind) (kind_number p.kind)) four in
    let two = and_left ready (eqb q.member p.member) three in
    record {
      long = not-true q.short (and_left long (due day q) two);
      is_due = and_right long (due day q) two;
      member = eqb-true _ _ (and_right ready (eqb q.member p.member) three);
      kind = same_kind q.kind p.kind (eqb-true _ _ (and_right own (eqb (kind_number q.kind) (kind_number p.kind)) four));
      security = eqb-true _ _ (and_right alike (eqb q.security p.security) e);
    }

module _ (b : Book) (x : PairOff) (t : PairOffTaken b x) where
  pair_facts : Pairable b.day (position_of b x.short) (position_of b x.long)
  pair_facts = pairable b.day (position_of b x.short) (position_of b x.long) t.pairable

  pub pair_dealable : Dealable b x.short x.quantity
  pair_dealable =
      record { held = t.held; short = t.short; is_due = t.is_due; enough = free_open b x.short x.quantity t.enough }

  pub pair_long : DueLong b (position_of b x.short).security x.long
  pair_long =
      record { held = t.long_held; long = pair_facts.long; same = pair_facts.security; is_due = pair_facts.is_due }

  pair_fits : (i : ℕ) → i < length b.positions → as_long (suc i) (paired_piece x ∷ []) ≤ (get_or b.positions i no_position).unsettled
  pair_fits i h = go (ask (eqb x.long (suc i)))
    where
      go : Said (eqb x.long (suc i)) → only (eqb x.long (suc i)) x.quantity + 0 ≤ (get_or b.positions i no_position).unsettled
      go (passed e) =
          let place : position_of b x.long ≡ get_or b.positions i no_position = place_nth no_position b.positions i x.long (eqb-true x.long (suc i) e) in
          rw e (omega (arith, t.long_enough, ap (λ (p : Position). p.unsettled) place))
      go (failed e) = rw e (omega arith)

  -- the one piece is a discharge of the short, whatever else is open of other longs
  pub pair_deals : Deals b Paired x.short x.quantity (paired_piece x ∷ [])
  pair_deals =
      record {
        dealable = pair_dealable;
        shorts = (refl, tt);
        manners = (refl, tt);
        longs = (pair_long, tt);
        fits = pair_fits;
        total = add-zero x.quantity;
      }

  -- and what it gives its long is all of it
  long_gives : taken x.long (paired_piece x ∷ []) ≡ x.quantity
  long_gives =
      taken_other pair_deals x.long (long_other pair_deals x.long pair_long)
      ∙ rw (eq-eqb x.long x.long refl) (add-zero x.quantity)

  -- "Both fall by the quantity"
  pub sets_off : SetOff b (discharged b (paired_piece x ∷ []) []) x (paired_piece x ∷ [])
  unfolding discharged posted credited debited
  sets_off =
      let xs = paired_piece x ∷ [] in
      record {
        short_held = t.held;
        long_held = t.long_held;
        many = length_lowering xs b.positions;
        piece = refl;
        member = pair_facts.member;
        kind = pair_facts.kind;
        short_falls = omega (arith, left_open b xs [] x.short t.held, taken_short pair_deals, pair_dealable.enough);
        long_falls = omega (arith, left_open b xs [] x.long t.long_held, long_gives, t.long_enough);
        unpaid = refl;
      }

set_off_at : (b : Book) (x : PairOff) (sheet : ℕ) → refusal b (call (event.PairOff x) sheet) ≡ 0
    → SetOff b (next b (call (event.PairOff x) sheet)) x (pieces b (call (event.PairOff x) sheet))
unfolding next pieces hands_out charges done
set_off_at b x sheet e =
    let c = call (event.PairOff x) sheet in
    rw (accepted_zero (refusal b c) (done b (event.PairOff x)) b e, accepted_zero (refusal b c) (hands_out b (event.PairOff x)) [] e)
    (sets_off b x (pair_off_taken b x sheet e))

-- every accepted pair-off
pub pairs_off : (b : Book) (c : Call) (x : PairOff) → refusal b c ≡ 0 → event_of c ≡ event.PairOff x → SetOff b (next b c) x (pieces b c)
pairs_off b (call e sheet) x taken is =
    subst (λ (f : Event). refusal b (call f sheet) ≡ 0 → SetOff b (next b (call f sheet)) x (pieces b (call f sheet))) (sym is) (set_off_at b x sheet) taken
