-- What each position of a list takes in turn, and the pieces that this makes.
use Prim.Native.Nat.{ℕ, suc, ◌+◌, ◌-◌, ◌≤◌, ◌<◌, min}
use native.Mathlib.Nat.{add-zero, sub-zero, min-zero}
use native.Mathlib.Numerals.{add-one}
use native.Mathlib.Omega.{arith}
use mathlib.Core.Path.{◌≡◌, refl, ap, ◌∙◌}
use mathlib.Core.List.{List, [], ◌∷◌, ◌++◌, append_assoc}
use mathlib.Core.Bool.{Bool, true, false, and-true, and-false}
use lib.ListN.{length, get_or, set, take, drop}
use lib.Seq.{take-suc-set, drop-set-lt}
use lib.Dec.{ltb}
use borrow.Author.Tests.{le-leb, lt-leb}
use Rattle.laws.specs.Lists.{All, only, keep}
use Rattle.laws.specs.Alls.{all_of}
use Rattle.laws.specs.Sums.{only_zero, only_le}
use Rattle.laws.specs.Places.{drop_at}
use Rattle.plain.specs.declared.Position.{Position}
use Rattle.plain.specs.declared.Piece.{Piece}
use Rattle.plain.specs.declared.Manner.{Manner}
use Rattle.plain.specs.Book.{no_position}
use Rattle.plain.specs.Dealing.{due, long_of, share, deal_to}
use Rattle.plain.specs.Invariants.{Rising, due_long}
use Rattle.plain.proofs.Order.{longs_from}
use Rattle.rows.specs.Lowering.{lowered_by}
use Rattle.positions.specs.Dealing.{share_of, piece_of}

-- what a position takes of what is left: as a due long of the security its share, else nothing
unfoldable pub due_share : ℕ → ℕ → ℕ → Position → ℕ
due_share day security left p = only (due_long day security p) (min p.unsettled left)

pub due_share_is : (day security left : ℕ) (p : Position) → p.settlement.0 ≤ day → due_share day security left p ≡ share_of security left p
unfolding due_share share_of due
due_share_is day security left p h = rw (le-leb p.settlement.0 day h, and-true)

-- a share is no more than what is open, and no more than what is left
pub share_open : (security left : ℕ) (p : Position) → share_of security left p ≤ p.unsettled
unfolding share_of
share_open security left p = omega (arith, only_le (long_of security p) (min p.unsettled left))

pub share_left : (security left : ℕ) (p : Position) → share_of security left p ≤ left
unfolding share_of
share_left security left p = omega (arith, only_le (long_of security p) (min p.unsettled left))

-- a position whose day has not come takes nothing, and of nothing nothing is taken
pub due_share_late : (day security left : ℕ) (p : Position) → day < p.settlement.0 → due_share day security left p ≡ 0
unfolding due_share due
due_share_late day security left p h = rw (lt-leb p.settlement.0 day h, and-false)

pub due_share_of_none : (day security : ℕ) (p : Position) → due_share day security 0 p ≡ 0
unfolding due_share
due_share_of_none day security p = rw min-zero (only_zero (due_long day security p))

-- a discharge of nothing
pub lowered_none : (manner : Manner) (p : Position) → lowered_by manner 0 p ≡ p
unfolding lowered_by
lowered_none manner p = simp (only_zero, add-zero, sub-zero)

-- the positions of a list, once each in turn has taken its share
unfoldable pub after : Manner → ℕ → ℕ → ℕ → List Position → List Position
after manner day security left [] = []
after manner day security left (p ∷ ps) =
    lowered_by manner (due_share day security left p) p ∷ after manner day security (left - due_share day security left p) ps

-- the pieces that are dealt to a list of positions, numbered from n
abbrev pub handed : Manner → ℕ → ℕ → ℕ → ℕ → ℕ → List Position → List Piece
handed manner short day security n left ps = deal_to manner short (longs_from day security n ps) left

module _ (manner : Manner) (short day security : ℕ) where
  pub handed_cons : (n left : ℕ) (p : Position) (ps : List Position)
      → handed manner short day security n left (p ∷ ps)
      ≡ keep (ltb 0 (due_share day security left p)) (piece_of manner short n (due_share day security left p)) (handed manner short day security (suc n) (left - due_share day security left p) ps)
  unfolding longs_from deal_to share due_share
  handed_cons n left p ps = go (due_long day security p)
    where
      go : (b : Bool) → deal_to manner short (keep b (record { number = n; unsettled = p.unsettled }) (longs_from day security (suc n) ps)) left
          ≡ keep (ltb 0 (only b (min p.unsettled left))) (piece_of manner short n (only b (min p.unsettled left))) (handed manner short day security (suc n) (left - only b (min p.unsettled left)) ps)
      go true = refl
      go false = rw sub-zero

  -- where none of the list takes anything, the list stays as it is and makes no piece
  pub after_idle : (left : ℕ) (ps : List Position) → All (λ p. due_share day security left p ≡ 0) ps → after manner day security left ps ≡ ps
  unfolding after
  after_idle left [] h = refl
  after_idle left (p ∷ ps) h = rw (h.0, sub-zero left) (rw (lowered_none manner p) (ap (λ (l : List Position). p ∷ l) (after_idle left ps h.1)))

  pub handed_idle : (n left : ℕ) (ps : List Position) → All (λ p. due_share day security left p ≡ 0) ps → handed manner short day security n left ps ≡ []
  unfolding longs_from deal_to
  handed_idle n left [] h = refl
  handed_idle n left (p ∷ ps) h = handed_cons n left p ps ∙ rw (h.0, sub-zero left) (handed_idle (suc n) left ps h.1)

  -- what comes of the positions, and of the pieces, where the walk goes on from place i: the places before it stand as they are
  abbrev pub final_positions : ℕ → ℕ → List Position → List Position
  final_positions left i ps = take i ps ++ after manner day security left (drop i ps)

  abbrev pub final_pieces : ℕ → ℕ → List Position → List Piece → List Piece
  final_pieces left i ps out = out ++ handed manner short day security (suc i) left (drop i ps)

  -- both stay the same when the position at i takes its share
  module _ (left i : ℕ) (ps : List Position) (h : i < length ps) where
    abbrev units : ℕ
    units = due_share day security left (get_or ps i no_position)

    abbrev lower : Position
    lower = lowered_by manner units (get_or ps i no_position)

    pub final_positions_next : final_positions (left - units) (i + 1) (set ps i lower) ≡ final_positions left i ps
    unfolding after
    final_positions_next =
        rw (drop-set-lt (i + 1) ps i lower (omega arith), drop_at ps i no_position h, add-one i, take-suc-set ps i lower h)
        (append_assoc (take i ps) (lower ∷ []) (after manner day security (left - units) (drop (suc i) ps)))

    pub final_pieces_next : (out : List Piece) → final_pieces (left - units) (i + 1) (set ps i lower) (out ++ keep (ltb 0 units) (piece_of manner short (suc i) units) []) ≡ final_pieces left i ps out
    final_pieces_next out =
        rw (drop-set-lt (i + 1) ps i lower (omega arith), drop_at ps i no_position h, handed_cons (suc i) left (get_or ps i no_position) (drop (i + 1) ps), add-one i)
        (append_assoc out (keep (ltb 0 units) (piece_of manner short (suc i) units) []) _ ∙ ap (λ (l : List Piece). out ++ l) (kept (ltb 0 units)))
      where
        kept : (b : Bool) → keep b (piece_of manner short (suc i) units) [] ++ handed manner short day security (suc (suc i)) (left - units) (drop (suc i) ps)
            ≡ keep b (piece_of manner short (suc i) units) (handed manner short day security (suc (suc i)) (left - units) (drop (suc i) ps))
        kept true = refl
        kept false = refl

-- in a rising table no position from a late one on is due
pub late_all : (day security left : ℕ) (ps : List Position) → Rising ps → (p : Position) (qs : List Position) → ps ≡ p ∷ qs → day < p.settlement.0 → All (λ q. due_share day security left q ≡ 0) ps
late_all day security left ps r p qs e l = rw e (due_share_late day security left p l, all_of (λ q. p.settlement.0 ≤ q.settlement.0) (λ q. due_share day security left q ≡ 0) qs (λ q k. due_share_late day security left q (omega arith)) (rw e at r).0)
