-- The pieces of a discharge: dealt out to the due longs of the short's security, they add up to its quantity and no long is given more than is open of it.
use Prim.Native.Nat.{ℕ, zero, suc, ◌+◌, ◌-◌, ◌≤◌, ◌<◌, min}
use native.Mathlib.Omega.{arith}
use native.Mathlib.Nat.{add-zero}
use mathlib.Core.Path.{◌≡◌, refl, ap, ◌∙◌, subst}
use mathlib.Core.List.{List, [], ◌∷◌, map}
use mathlib.Core.Bool.{Bool, true, false, not, ◌&&◌}
use lib.ListN.{length, get_or}
use lib.Dec.{ltb, leb, eqb}
use borrow.Author.Tests.{eq-eqb, ne_eqb, eqb-true, leb-true, leb-false, le-leb, lt-ltb, not-true}
use Rattle.laws.specs.Lists.{All, only, keep, sum, range}
use Rattle.laws.specs.Asked.{Said, passed, failed, ask, and_left, and_right, both}
use Rattle.laws.specs.Sums.{only_zero, only_le, only_mono, sum_keep, sum_each, sum_same, sum_le, sum_swap, sum_one, sum_once, sum_map}
use Rattle.laws.specs.Alls.{all_keep, all_each, all_map, all_range}
use Rattle.plain.specs.declared.Position.{Position}
use Rattle.plain.specs.declared.Piece.{Piece}
use Rattle.plain.specs.declared.Manner.{Manner}
use Rattle.plain.specs.Book.{Book, no_position, position_of}
use Rattle.plain.specs.Dealing.{due, long_of, Taker, longs_on, takers, share, deal_to}
use Rattle.plain.specs.Charging.{priced_at}
use Rattle.plain.specs.Calls.{dealt}
use Rattle.plain.specs.Invariants.{due_short, due_long, open_of, Even, DueLong, as_long, Dealable, Deals}
use Rattle.plain.proofs.Numbered.{place_nth, sum_named}

-- Over any list of takers

abbrev piece : Manner → ℕ → ℕ → ℕ → Piece
piece m n k q = record { short = n; long = k; quantity = q; manner = m; cents = 0 }

module _ (m : Manner) (n : ℕ) where
  -- what each taker's piece has, each piece has
  deal_all : (P : Piece → Type 0) (Q : Taker → Type 0) → ((t : Taker) (q : ℕ) → Q t → P (piece m n t.number q)) → (ts : List Taker) (left : ℕ) → All Q ts → All P (deal_to m n ts left)
  unfolding deal_to
  deal_all P Q f [] left h = tt
  deal_all P Q f (t ∷ ts) left h =
      all_keep P (ltb 0 (share t left)) (piece m n t.number (share t left)) (deal_to m n ts (left - share t left)) (λ e. f t (share t left) h.0)
      (deal_all P Q f ts (left - share t left) h.1)

  -- a share of 0 makes no piece, and adds nothing
  sum_piece : (f : Piece → ℕ) → ((k : ℕ) → f (piece m n k 0) ≡ 0) → (k s : ℕ) (rest : List Piece) → sum f (keep (ltb 0 s) (piece m n k s) rest) ≡ f (piece m n k s) + sum f rest
  sum_piece f z k zero rest = omega (arith, z k)
  sum_piece f z k (suc s) rest = simp (lt-ltb 0 (suc s) (omega arith))

  deal_total : (ts : List Taker) (left : ℕ) → sum (λ x. x.quantity) (deal_to m n ts left) ≡ min left (sum (λ t. t.unsettled) ts)
  unfolding deal_to share
  deal_total [] left = omega arith
  deal_total (t ∷ ts) left =
      omega (arith, sum_piece (λ x. x.quantity) (λ k. refl) t.number (share t left) (deal_to m n ts (left - share t left)), deal_total ts (left - share t left))

  deal_long : (k : ℕ) (ts : List Taker) (left : ℕ) → as_long k (deal_to m n ts left) ≤ sum (λ t. only (eqb t.number k) t.unsettled) ts
  unfolding deal_to share
  deal_long k [] left = omega arith
  deal_long k (t ∷ ts) left =
      omega (
        arith,
        sum_piece (λ x. only (eqb x.long k) x.quantity) (λ j. only_zero (eqb j k)) t.number (share t left) (deal_to m n ts (left - share t left)),
        only_mono (eqb t.number k) (min t.unsettled left) t.unsettled (omega arith),
        deal_long k ts (left - share t left),
      )

-- The takers of a table

-- a number of a range of days from 0 on, met once where it is at most the last
sum_until : (k c day : ℕ) → sum (λ d. only (eqb k d) c) (range 0 (suc day)) ≡ only (leb k day) c
sum_until k c day = go (ask (leb k day))
  where
    past : (a n : ℕ) → a + n ≤ k → sum (λ d. only (eqb k d) c) (range a n) ≡ 0
    past a zero h = refl
    past a (suc n) h = simp (ne_eqb k a (omega arith)) (omega (arith, past (suc a) n (omega arith)))

    go : Said (leb k day) → sum (λ d. only (eqb k d) c) (range 0 (suc day)) ≡ only (leb k day) c
    go (passed e) = simp e (sum_one k c 0 (suc day) (omega arith) (omega (arith, leb-true k day e)))
    go (failed e) = simp e (past 0 (suc day) (omega (arith, leb-false k day e)))

longs_sum : (f : Taker → ℕ) (d s n : ℕ) (ps : List Position) (g : Position → ℕ) → ((k : ℕ) (p : Position) → f (record { number = k; unsettled = p.unsettled }) ≡ g p) → sum f (longs_on d s n ps) ≡ sum (λ p. only (long_of s p && eqb p.settlement.0 d) (g p)) ps
unfolding longs_on
longs_sum f d s n [] g h = refl
longs_sum f d s n (p ∷ ps) g h =
    omega (
      arith,
      sum_keep f (long_of s p && eqb p.settlement.0 d) (record { number = n; unsettled = p.unsettled }) (longs_on d s (suc n) ps),
      ap (λ (x : ℕ). only (long_of s p && eqb p.settlement.0 d) x) (h n p),
      longs_sum f d s (suc n) ps g h,
    )

-- one position over all days
over_days : (s day : ℕ) (p : Position) (x : ℕ) → sum (λ d. only (long_of s p && eqb p.settlement.0 d) x) (range 0 (suc day)) ≡ only (due_long day s p) x
unfolding due
over_days s day p x = go (long_of s p)
  where
    go : (l : Bool) → sum (λ d. only (l && eqb p.settlement.0 d) x) (range 0 (suc day)) ≡ only (l && leb p.settlement.0 day) x
    go true = sum_until p.settlement.0 x day
    go false = Rattle.laws.specs.Sums.sum_zero (range 0 (suc day))

takers_sum : (day s : ℕ) (ps : List Position) → sum (λ t. t.unsettled) (takers day s ps) ≡ open_of (due_long day s) ps
unfolding takers
takers_sum day s ps =
    sum_each (λ t. t.unsettled) (λ d. longs_on d s 1 ps) (range 0 (suc day))
    ∙ sum_same (λ d. sum (λ t. t.unsettled) (longs_on d s 1 ps)) (λ d. sum (λ p. only (long_of s p && eqb p.settlement.0 d) p.unsettled) ps) (range 0 (suc day))
    (λ d. longs_sum (λ t. t.unsettled) d s 1 ps (λ p. p.unsettled) (λ k p. refl))
    ∙ sum_swap (λ d p. only (long_of s p && eqb p.settlement.0 d) p.unsettled) (range 0 (suc day)) ps
    ∙ sum_same (λ p. sum (λ d. only (long_of s p && eqb p.settlement.0 d) p.unsettled) (range 0 (suc day))) (λ p. only (due_long day s p) p.unsettled) ps
    (λ p. over_days s day p p.unsettled)

-- what the takers of number k have
has : ℕ → Taker → ℕ
has k t = only (eqb t.number k) t.unsettled

has_none : (k d s n : ℕ) (ps : List Position) → k < n → sum (has k) (longs_on d s n ps) ≡ 0
unfolding longs_on has
has_none k d s n [] h = refl
has_none k d s n (p ∷ ps) h =
    let test : Bool = long_of s p && eqb p.settlement.0 d in
    let skip : only test (only (eqb n k) p.unsettled) ≡ 0 = rw (ne_eqb n k (omega arith)) (only_zero test) in
    omega (arith, skip, sum_keep (has k) test (record { number = n; unsettled = p.unsettled }) (longs_on d s (suc n) ps), has_none k d s (suc n) ps (omega arith))

has_one : (d s n : ℕ) (ps : List Position) (i : ℕ) → i < length ps → sum (has (n + i)) (longs_on d s n ps) ≤ only (eqb (get_or ps i no_position).settlement.0 d) (get_or ps i no_position).unsettled
unfolding longs_on has
has_one d s n [] i h = absurd (omega arith)
has_one d s n (p ∷ ps) zero h =
    omega (
      arith,
      sum_keep (has (n + 0)) (long_of s p && eqb p.settlement.0 d) (record { number = n; unsettled = p.unsettled }) (longs_on d s (suc n) ps),
      at_most (long_of s p) (eqb p.settlement.0 d) (only_le (eqb n (n + 0)) p.unsettled),
      has_none (n + 0) d s (suc n) ps (omega arith),
    )
  where
    at_most : (a b : Bool) {x : ℕ} → x ≤ p.unsettled → only (a && b) x ≤ only b p.unsettled
    at_most true true h = h
    at_most true false h = omega arith
    at_most false b h = omega arith
has_one d s n (p ∷ ps) (suc i) h =
    let test : Bool = long_of s p && eqb p.settlement.0 d in
    let skip : only test (only (eqb n (n + suc i)) p.unsettled) ≡ 0 = rw (ne_eqb n (n + suc i) (omega arith)) (only_zero test) in
    let same : n + suc i ≡ suc n + i = omega arith in
    omega (
      arith,
      skip,
      sum_keep (has (n + suc i)) test (record { number = n; unsettled = p.unsettled }) (longs_on d s (suc n) ps),
      ap (λ (k : ℕ). sum (has k) (longs_on d s (suc n) ps)) same,
      has_one d s (suc n) ps i (omega arith),
    )

takers_has : (day s : ℕ) (ps : List Position) (i : ℕ) → i < length ps → sum (has (suc i)) (takers day s ps) ≤ (get_or ps i no_position).unsettled
unfolding takers
takers_has day s ps i h =
    let p : Position = get_or ps i no_position in
    let k : 1 + i ≡ suc i = omega arith in
    omega (
      arith,
      sum_each (has (suc i)) (λ d. longs_on d s 1 ps) (range 0 (suc day)),
      sum_le (λ d. sum (has (suc i)) (longs_on d s 1 ps)) (λ d. only (eqb p.settlement.0 d) p.unsettled) (range 0 (suc day)) (λ d. rw (← k) (has_one d s 1 ps i h)),
      sum_once p.settlement.0 p.unsettled 0 (suc day),
    )

-- each taker is a long of the table on one of the days
longs_all : (Q : ℕ → Type 0) (d s n : ℕ) (ps : List Position) → ((i : ℕ) → i < length ps → long_of s (get_or ps i no_position) && eqb (get_or ps i no_position).settlement.0 d ≡ true → Q (n + i)) → All (λ t. Q t.number) (longs_on d s n ps)
unfolding longs_on
longs_all Q d s n [] f = tt
longs_all Q d s n (p ∷ ps) f =
    all_keep (λ t. Q t.number) (long_of s p && eqb p.settlement.0 d) (record { number = n; unsettled = p.unsettled }) (longs_on d s (suc n) ps)
    (λ e. subst Q (add-zero n) (f 0 (omega arith) e))
    (longs_all Q d s (suc n) ps (λ i h e. let k : suc n + i ≡ n + suc i = omega arith in rw k (f (suc i) (omega arith) e)))

takers_all : (b : Book) (s : ℕ) → All (λ t. DueLong b s t.number) (takers b.day s b.positions)
unfolding takers long_of due
takers_all b s =
    all_each (λ t. DueLong b s t.number) (λ d. longs_on d s 1 b.positions) (λ d. (0 ≤ d) × (d < 0 + suc b.day)) (range 0 (suc b.day)) on_day
    (all_range 0 (suc b.day))
  where
    found : (d i : ℕ) → d ≤ b.day → i < length b.positions → long_of s (get_or b.positions i no_position) && eqb (get_or b.positions i no_position).settlement.0 d ≡ true → DueLong b s (1 + i)
    found d i l h e =
        let p : Position = get_or b.positions i no_position in
        let long : not p.short && eqb p.security s ≡ true = and_left _ (eqb p.settlement.0 d) e in
        let on : p.settlement.0 ≡ d = eqb-true _ _ (and_right (not p.short && eqb p.security s) _ e) in
        let place : position_of b (1 + i) ≡ p = place_nth no_position b.positions i (1 + i) (omega arith) in
        record {
          held = record { above = omega arith; below = omega arith };
          long = rw place (not-true p.short (and_left _ (eqb p.security s) long));
          same = rw place (eqb-true _ _ (and_right (not p.short) _ long));
          is_due = rw place (le-leb p.settlement.0 b.day (omega arith));
        }

    on_day : (d : ℕ) → (0 ≤ d) × (d < 0 + suc b.day) → All (λ t. DueLong b s t.number) (longs_on d s 1 b.positions)
    on_day d h = longs_all (λ k. DueLong b s k) d s 1 b.positions (λ i l e. found d i (omega (arith, h.1)) l e)

-- Where the totals are equal, the due longs of a security suffice for what is open of its due shorts
pub longs_suffice : (b : Book) (n q : ℕ) → Even b.day b.positions → Dealable b n q → q ≤ open_of (due_long b.day (position_of b n).security) b.positions
longs_suffice b n q even f =
    let p : Position = position_of b n in
    let s : ℕ = p.security in
    let is : due_short b.day s p ≡ true = both (p.short && eqb p.security s) _ (both p.short _ f.short (eq-eqb s s refl)) f.is_due in
    let at : only (due_short b.day s p) p.unsettled ≤ open_of (due_short b.day s) b.positions = sum_named no_position (λ q. only (due_short b.day s q) q.unsettled) b.positions n f.held in
    omega (arith, rw is at at, even.opened s, f.enough)

-- and a discharge is dealt out whole
pub deals : (b : Book) (m : Manner) (n q : ℕ) → Even b.day b.positions → Dealable b n q → Deals b m n q (dealt b m n q)
unfolding dealt
deals b m n q even f =
    record {
      dealable = f;
      shorts = deal_all m n (λ x. x.short ≡ n) (λ t. Unit {0}) (λ t k h. refl) ts q (Rattle.laws.specs.Alls.all_any (λ t. Unit {0}) ts (λ t. tt));
      manners = deal_all m n (λ x. x.manner ≡ m) (λ t. Unit {0}) (λ t k h. refl) ts q (Rattle.laws.specs.Alls.all_any (λ t. Unit {0}) ts (λ t. tt));
      longs = deal_all m n (λ x. DueLong b s x.long) (λ t. DueLong b s t.number) (λ t k h. h) ts q (takers_all b s);
      fits = λ i h. unfold has in omega (arith, deal_long m n (suc i) ts q, takers_has b.day s b.positions i h);
      total = omega (arith, deal_total m n ts q, takers_sum b.day s b.positions, longs_suffice b n q even f);
    }
  where
    s : ℕ
    s = (position_of b n).security

    ts : List Taker
    ts = takers b.day s b.positions

-- Pricing changes no short, long, quantity or manner, whatever the price of each piece is
pub deals_priced : (b : Book) (m : Manner) (n q : ℕ) (price : Piece → ℕ) (xs : List Piece) → Deals b m n q xs → Deals b m n q (map (λ x. priced_at (price x) x) xs)
unfolding priced_at
deals_priced b m n q price xs f =
    record {
      dealable = f.dealable;
      shorts = all_map (λ x. x.short ≡ n) (λ x. priced_at (price x) x) (λ x. x.short ≡ n) xs (λ x h. h) f.shorts;
      manners = all_map (λ x. x.manner ≡ m) (λ x. priced_at (price x) x) (λ x. x.manner ≡ m) xs (λ x h. h) f.manners;
      longs =
          all_map (λ x. DueLong b (position_of b n).security x.long) (λ x. priced_at (price x) x) (λ x. DueLong b (position_of b n).security x.long) xs (λ x h. h) f.longs;
      fits = λ i h. omega (arith, sum_map (λ x. only (eqb x.long (suc i)) x.quantity) (λ x. priced_at (price x) x) xs, f.fits i h);
      total = sum_map (λ x. x.quantity) (λ x. priced_at (price x) x) xs ∙ f.total;
    }
