-- What the pieces of a discharge make of the whole table: the short falls by the quantity, each long by its share.
use Prim.Native.Nat.{ℕ, zero, suc, ◌+◌, ◌-◌, ◌≤◌, ◌<◌, min}
use native.Mathlib.Nat.{add-zero, zero-add}
use native.Mathlib.Omega.{arith}
use mathlib.Core.Path.{◌≡◌, refl, ap, sym, ◌∙◌, subst}
use mathlib.Core.Logic.{◌≢◌}
use mathlib.Core.List.{List, [], ◌∷◌}
use mathlib.Core.Bool.{true, false}
use lib.ListN.{length, get_or, set, length-set}
use lib.Seq.{get_or-set_same, get_or-set_other, ext_get_or}
use lib.Dec.{ltb, eqb}
use borrow.Author.Tests.{eq-eqb, ne_eqb, eqb-true, eqb-false, lt-ltb}
use Rattle.laws.specs.Lists.{All, only, keep, sum}
use Rattle.laws.specs.Asked.{Said, passed, failed, ask, Within}
use Rattle.laws.specs.Sums.{only_zero, only_min, only_sum, sum_same_all, sum_add}
use Rattle.laws.specs.Alls.{all_of, all_keep, all_at, all_set}
use Rattle.plain.specs.declared.Position.{Position}
use Rattle.plain.specs.declared.Piece.{Piece}
use Rattle.plain.specs.declared.Manner.{Manner}
use Rattle.plain.specs.declared.Manner.TheVariants.{Delivered, BoughtIn, Cash, Paired}
use Rattle.plain.specs.Book.{no_position, nth}
use Rattle.plain.specs.Dealing.{manner_number, long_of, Taker, deal_to, names, taken, taken_by, lowered, lowering}
use Rattle.plain.specs.Invariants.{Rising, due_long, open_of, as_long}
use Rattle.plain.proofs.Order.{longs_from}
use Rattle.plain.proofs.Discharged.{length_lowering, lowering_at}
use Rattle.rows.specs.Lowering.{in_manner, lowered_by, Sized, Lowerable}
use Rattle.positions.specs.Dealing.{piece_of}
use Rattle.positions.proofs.Shares.{due_share, lowered_none, after, handed, handed_cons}
use Rattle.plain.proofs.Numbered.{nth_at}

-- THE SHARE OF EACH POSITION

-- what the position at place i of a list takes in its turn
share_at : ℕ → ℕ → ℕ → ℕ → List Position → ℕ
share_at day security left i [] = 0
share_at day security left zero (p ∷ ps) = due_share day security left p
share_at day security left (suc i) (p ∷ ps) = share_at day security (left - due_share day security left p) i ps

share_other : (day security left i : ℕ) (ps : List Position) → due_long day security (get_or ps i no_position) ≡ false → share_at day security left i ps ≡ 0
unfolding share_at due_share
share_other day security left i [] e = refl
share_other day security left zero (p ∷ ps) e = rw e
share_other day security left (suc i) (p ∷ ps) e = share_other day security (left - due_share day security left p) i ps e

module _ (manner : Manner) (day security : ℕ) where
  length_after : (left : ℕ) (ps : List Position) → length (after manner day security left ps) ≡ length ps
  unfolding after
  length_after left [] = refl
  length_after left (p ∷ ps) = ap suc (length_after (left - due_share day security left p) ps)

  after_at : (left i : ℕ) (ps : List Position) → i < length ps → get_or (after manner day security left ps) i no_position ≡ lowered_by manner (share_at day security left i ps) (get_or ps i no_position)
  unfolding after share_at
  after_at left i [] h = absurd (omega arith)
  after_at left zero (p ∷ ps) h = refl
  after_at left (suc i) (p ∷ ps) h = after_at (left - due_share day security left p) i ps (omega arith)

-- THE PIECES OF A LIST

module _ (manner : Manner) (short day security : ℕ) where
  -- a share of 0 makes no piece, and adds nothing
  sum_piece : (f : Piece → ℕ) → ((n : ℕ) → f (piece_of manner short n 0) ≡ 0) → (n k : ℕ) (rest : List Piece) → sum f (keep (ltb 0 k) (piece_of manner short n k) rest) ≡ f (piece_of manner short n k) + sum f rest
  sum_piece f z n zero rest = omega (arith, z n)
  sum_piece f z n (suc k) rest = simp (lt-ltb 0 (suc k) (omega arith))

  sum_handed : (f : Piece → ℕ) → ((n : ℕ) → f (piece_of manner short n 0) ≡ 0) → (n left : ℕ) (p : Position) (ps : List Position)
      → sum f (handed manner short day security n left (p ∷ ps))
      ≡ f (piece_of manner short n (due_share day security left p)) + sum f (handed manner short day security (suc n) (left - due_share day security left p) ps)
  sum_handed f z n left p ps =
      ap (sum f) (handed_cons manner short day security n left p ps)
      ∙ sum_piece f z n (due_share day security left p) (handed manner short day security (suc n) (left - due_share day security left p) ps)

  total : (n left : ℕ) (ps : List Position) → sum (λ x. x.quantity) (handed manner short day security n left ps) ≡ min left (open_of (due_long day security) ps)
  unfolding longs_from deal_to due_share
  total n left [] = omega arith
  total n left (p ∷ ps) =
      omega (
        arith,
        sum_handed (λ x. x.quantity) (λ j. refl) n left p ps,
        total (suc n) (left - due_share day security left p) ps,
        only_min (due_long day security p) p.unsettled left,
      )

  long_none : (k n left : ℕ) (ps : List Position) → k < n → as_long k (handed manner short day security n left ps) ≡ 0
  unfolding longs_from deal_to
  long_none k n left [] h = refl
  long_none k n left (p ∷ ps) h =
      let skip : only (eqb n k) (due_share day security left p) ≡ 0 = rw (ne_eqb n k (omega arith)) in
      omega (
        arith,
        skip,
        sum_handed (λ x. only (eqb x.long k) x.quantity) (λ j. only_zero (eqb j k)) n left p ps,
        long_none k (suc n) (left - due_share day security left p) ps (omega arith),
      )

  -- each position takes its share as the long of its number
  long_at : (n left i : ℕ) (ps : List Position) → as_long (n + i) (handed manner short day security n left ps) ≡ share_at day security left i ps
  unfolding longs_from deal_to share_at
  long_at n left i [] = refl
  long_at n left zero (p ∷ ps) =
      let here : only (eqb n (n + 0)) (due_share day security left p) ≡ due_share day security left p = rw (eq-eqb n (n + 0) (omega arith)) in
      omega (
        arith,
        here,
        sum_handed (λ x. only (eqb x.long (n + 0)) x.quantity) (λ j. only_zero (eqb j (n + 0))) n left p ps,
        long_none (n + 0) (suc n) (left - due_share day security left p) ps (omega arith),
      )
  long_at n left (suc i) (p ∷ ps) =
      let skip : only (eqb n (n + suc i)) (due_share day security left p) ≡ 0 = rw (ne_eqb n (n + suc i) (omega arith)) in
      let same : n + suc i ≡ suc n + i = omega arith in
      omega (
        arith,
        skip,
        sum_handed (λ x. only (eqb x.long (n + suc i)) x.quantity) (λ j. only_zero (eqb j (n + suc i))) n left p ps,
        ap (λ (k : ℕ). as_long k (handed manner short day security (suc n) (left - due_share day security left p) ps)) same,
        long_at (suc n) (left - due_share day security left p) i ps,
      )

-- WHAT PIECES OF ONE SHORT AND ONE MANNER TAKE

module _ (manner : Manner) (short : ℕ) where
  unfoldable pub Own : Piece → Type 0
  Own x = (x.short ≡ short) × (x.manner ≡ manner)

  all_own : (day security n left : ℕ) (ps : List Position) → All Own (handed manner short day security n left ps)
  unfolding longs_from deal_to Own
  all_own day security n left [] = tt
  all_own day security n left (p ∷ ps) =
      let units : ℕ = due_share day security left p in
      rw (handed_cons manner short day security n left p ps)
      (all_keep Own (ltb 0 units) (piece_of manner short n units) (handed manner short day security (suc n) (left - units) ps) (λ e. (refl, refl)) (all_own day security (suc n) (left - units) ps))

  module _ (xs : List Piece) (h : All Own xs) (k : ℕ) where
    taken_own : taken k xs ≡ only (eqb short k) (sum (λ x. x.quantity) xs) + as_long k xs
    unfolding taken names Own
    taken_own =
        sum_same_all (λ x. only (eqb x.short k) x.quantity + only (eqb x.long k) x.quantity) (λ x. only (eqb short k) x.quantity + only (eqb x.long k) x.quantity) xs
        (all_of Own (λ x. only (eqb x.short k) x.quantity + only (eqb x.long k) x.quantity ≡ only (eqb short k) x.quantity + only (eqb x.long k) x.quantity) xs (λ x e. rw e.0) h)
        ∙ sum_add (λ x. only (eqb short k) x.quantity) (λ x. only (eqb x.long k) x.quantity) xs
        ∙ ap (λ (n : ℕ). n + as_long k xs) (sym (only_sum (eqb short k) (λ x. x.quantity) xs))

    taken_by_lem : (figure : Manner) → taken_by figure k xs ≡ in_manner manner figure (taken k xs)
    unfolding taken taken_by Own
    taken_by_lem figure =
        sum_same_all (λ x. in_manner x.manner figure (names k x)) (λ x. in_manner manner figure (names k x)) xs
        (all_of Own (λ x. in_manner x.manner figure (names k x) ≡ in_manner manner figure (names k x)) xs (λ x e. ap (λ (m : Manner). in_manner m figure (names k x)) e.1) h)
        ∙ sym (only_sum (eqb (manner_number manner) (manner_number figure)) (names k) xs)

    pub lowered_own : (p : Position) → lowered xs k p ≡ lowered_by manner (taken k xs) p
    unfolding lowered lowered_by
    lowered_own p = rw (taken_by_lem Delivered, taken_by_lem BoughtIn, taken_by_lem Cash, taken_by_lem Paired)

-- THE TABLE WHOSE SHORT HAS FALLEN

-- a position that is no taker, set at the place of one that is none
longs_set : (day security n : ℕ) (ps : List Position) (i : ℕ) (x : Position) → due_long day security (get_or ps i no_position) ≡ false → due_long day security x ≡ false → longs_from day security n (set ps i x) ≡ longs_from day security n ps
unfolding longs_from
longs_set day security n [] i x e f = refl
longs_set day security n (p ∷ ps) zero x e f = rw (e, f)
longs_set day security n (p ∷ ps) (suc i) x e f =
    ap (λ (l : List Taker). keep (due_long day security p) (record { number = n; unsettled = p.unsettled }) l) (longs_set day security (suc n) ps i x e f)

pub rising_set : (ps : List Position) (i : ℕ) (x : Position) → i < length ps → x.settlement.0 ≡ (get_or ps i no_position).settlement.0 → Rising ps → Rising (set ps i x)
rising_set [] i x h e r = tt
rising_set (p ∷ ps) zero x h e r =
    (all_of (λ q. p.settlement.0 ≤ q.settlement.0) (λ q. x.settlement.0 ≤ q.settlement.0) ps (λ q l. omega arith) r.0, r.1)
rising_set (p ∷ ps) (suc i) x h e r =
    let later : p.settlement.0 ≤ (get_or ps i no_position).settlement.0 = all_at (λ q. p.settlement.0 ≤ q.settlement.0) ps i no_position (omega arith) r.0 in
    (all_set (λ q. p.settlement.0 ≤ q.settlement.0) ps i x (omega arith) r.0, rising_set ps i x (omega arith) e r.1)

-- figures still add up after a discharge
pub lowered_sized : (manner : Manner) (units : ℕ) (p : Position) → Lowerable p units → Sized (lowered_by manner units p)
unfolding lowered_by
lowered_sized manner units p h =
    record { whole = omega (arith, h.enough, h.sized.whole, by_manner manner); bounded = h.sized.bounded }
  where
    by_manner : (m : Manner) → in_manner m Delivered units + in_manner m BoughtIn units + in_manner m Cash units + in_manner m Paired units ≡ units
    by_manner Delivered = omega arith
    by_manner BoughtIn = omega arith
    by_manner Cash = omega arith
    by_manner Paired = omega arith

module _ (manner : Manner) (short day quantity : ℕ) (ps : List Position) (held : Within 1 (length ps) short) (is_short : (nth no_position ps short).short ≡ true)
    (suffice : quantity ≤ open_of (due_long day (nth no_position ps short).security) ps) where
  abbrev own : Position
  own = nth no_position ps short

  abbrev fallen : Position
  fallen = lowered_by manner quantity own

  own_place : own ≡ get_or ps (short - 1) no_position
  own_place = nth_at no_position ps short held.above

  no_taker : due_long day own.security own ≡ false
  unfolding long_of
  no_taker = rw is_short

  still_none : due_long day own.security fallen ≡ false
  unfolding long_of lowered_by
  still_none = rw is_short

  pub same_pieces : handed manner short day own.security 1 quantity (set ps (short - 1) fallen) ≡ handed manner short day own.security 1 quantity ps
  same_pieces =
      ap (λ (ts : List Taker). deal_to manner short ts quantity)
      (longs_set day own.security 1 ps (short - 1) fallen (subst (λ (p : Position). due_long day own.security p ≡ false) own_place no_taker) still_none)

  pub same_positions : after manner day own.security quantity (set ps (short - 1) fallen) ≡ lowering (handed manner short day own.security 1 quantity ps) ps
  same_positions =
      ext_get_or no_position (after manner day sec quantity started) (lowering xs ps)
      (length_after manner day sec quantity started ∙ length-set ps (short - 1) fallen ∙ sym (length_lowering xs ps))
      (λ i h. at i (omega (arith, h, length_after manner day sec quantity started, length-set ps (short - 1) fallen)))
    where
      sec : ℕ
      sec = own.security

      started : List Position
      started = set ps (short - 1) fallen

      xs : List Piece
      xs = handed manner short day sec 1 quantity ps

      all_dealt : sum (λ x. x.quantity) xs ≡ quantity
      all_dealt = omega (arith, total manner short day sec 1 quantity ps, suffice)

      share_of_long : (i : ℕ) → as_long (suc i) xs ≡ share_at day sec quantity i started
      share_of_long i =
          let k : suc i ≡ 1 + i = omega arith in
          ap (λ (n : ℕ). as_long n xs) k ∙ ap (as_long (1 + i)) (sym same_pieces) ∙ long_at manner short day sec 1 quantity i started

      taken_at : (i : ℕ) → taken (suc i) xs ≡ only (eqb short (suc i)) quantity + share_at day sec quantity i started
      taken_at i =
          taken_own manner short xs (all_own manner short day sec 1 quantity ps) (suc i)
          ∙ rw (all_dealt, share_of_long i)

      lowered_at : (i : ℕ) → i < length ps → get_or (lowering xs ps) i no_position ≡ lowered_by manner (only (eqb short (suc i)) quantity + share_at day sec quantity i started) (get_or ps i no_position)
      lowered_at i h =
          lowering_at xs ps i h ∙ lowered_own manner short xs (all_own manner short day sec 1 quantity ps) (suc i) (get_or ps i no_position)
          ∙ ap (λ (n : ℕ). lowered_by manner n (get_or ps i no_position)) (taken_at i)

      at : (i : ℕ) → i < length ps → get_or (after manner day sec quantity started) i no_position ≡ get_or (lowering xs ps) i no_position
      at i h =
          let there : i < length started = omega (arith, length-set ps (short - 1) fallen) in
          after_at manner day sec quantity i started there ∙ go (ask (eqb short (suc i))) ∙ sym (lowered_at i h)
        where
          go : Said (eqb short (suc i)) → lowered_by manner (share_at day sec quantity i started) (get_or started i no_position) ≡ lowered_by manner (only (eqb short (suc i)) quantity + share_at day sec quantity i started) (get_or ps i no_position)
          go (passed e) =
              let here : short - 1 ≡ i = omega (arith, eqb-true short (suc i) e) in
              let now : get_or started i no_position ≡ fallen = ap (λ (j : ℕ). get_or started j no_position) (sym here) ∙ get_or-set_same ps (short - 1) fallen no_position (omega arith) in
              let none : share_at day sec quantity i started ≡ 0 = share_other day sec quantity i started (ap (due_long day sec) now ∙ still_none) in
              rw (e, none, now, add-zero) (lowered_none manner fallen ∙ ap (lowered_by manner quantity) own_place ∙ ap (λ (j : ℕ). lowered_by manner quantity (get_or ps j no_position)) here)
          go (failed e) =
              let other : i ≢ short - 1 = λ d. eqb-false short (suc i) e (omega (arith, d, held.above)) in
              rw (e, zero-add, get_or-set_other ps (short - 1) i fallen no_position other)
