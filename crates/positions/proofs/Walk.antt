-- The walk along the table: where it stands, what a step does, and what has come of it where it ends.
use Prim.Native.Nat.{ℕ, suc, ◌+◌, ◌-◌, ◌≤◌, ◌<◌}
use native.Mathlib.Numerals.{add-one}
use native.Mathlib.Omega.{arith}
use mathlib.Core.Path.{◌≡◌, refl, ap, sym, ◌∙◌}
use mathlib.Core.List.{List, [], ◌∷◌, ◌++◌, append-nil}
use lib.ListN.{length, get_or, set, take, drop, length-set, drop_of_length-le, take-append-drop}
use lib.Seq.{length-take-le, get_or-take, set-get_or, take-set-lt, drop-set-lt, take-suc-set}
use lib.Dec.{ltb}
use borrow.Author.Tests.{lt-ltb}
use Rattle.laws.specs.Lists.{All, keep}
use Rattle.laws.specs.Alls.{all_any}
use Rattle.laws.specs.Places.{drop_at}
use Rattle.plain.specs.declared.Position.{Position}
use Rattle.plain.specs.declared.Piece.{Piece}
use Rattle.plain.specs.declared.Manner.{Manner}
use Rattle.plain.specs.Book.{no_position}
use Rattle.plain.specs.Invariants.{Rising}
use Rattle.rows.specs.Lowering.{lowered_by, Sized}
use Rattle.positions.specs.Dealing.{piece_of}
use Rattle.positions.proofs.Shares.{due_share, due_share_of_none, lowered_none, after_idle, handed_idle, final_positions, final_pieces, final_positions_next, final_pieces_next, late_all}

-- what the walk changes: the places of the table, the pieces with their count, what is left, and the place that it stands at
pub record State : Type 0 where
  pub items : List Position
  pub shares : List Piece
  pub dealt : ℕ
  pub left : ℕ
  pub place : ℕ

-- the pieces so far
abbrev pub made : State → List Piece
made s = take s.dealt s.shares

-- the position that the walk stands at
abbrev pub here : State → Position
here s = get_or s.items s.place no_position

-- the positions, of which there are so many, and those from there on
abbrev pub held : ℕ → State → List Position
held count s = take count s.items

abbrev pub ahead : ℕ → State → List Position
ahead count s = drop s.place (held count s)

-- a walk along a table of so many positions
pub record Stands (count : ℕ) (s : State) : Type 0 where
  pub few : count ≤ 1024
  pub within : s.place ≤ count
  pub places : length s.items ≡ 1024
  pub room : s.dealt ≤ s.place
  pub sheet : length s.shares ≡ 1024
  pub rising : Rising (ahead count s)
  pub sized : All Sized (ahead count s)

module _ (count : ℕ) (s : State) (h : Stands count s) where
  held_length : length (held count s) ≡ count
  held_length = length-take-le count s.items (omega (arith, h.places, h.few))

  held_here : s.place < count → get_or (held count s) s.place no_position ≡ here s
  held_here l = get_or-take count s.items s.place no_position l

  ahead_here : s.place < count → ahead count s ≡ here s ∷ drop (s.place + 1) (held count s)
  ahead_here l =
      drop_at (held count s) s.place no_position (omega (arith, held_length))
      ∙ ap (λ (p : Position). p ∷ drop (s.place + 1) (held count s)) (held_here l)

  pub here_sized : s.place < count → Sized (here s)
  here_sized l = (rw (ahead_here l) at h.sized).0

  ahead_over : count ≤ s.place → ahead count s ≡ []
  ahead_over l =
      let short : length (held count s) ≤ s.place = omega (arith, held_length) in
      drop_of_length-le (held count s) short

module _ (manner : Manner) (short day security : ℕ) where
  abbrev pub units : State → ℕ
  units s = due_share day security s.left (here s)

  -- the position takes its share
  pub record Stepped (s t : State) : Type 0 where
    pub left : t.left ≡ s.left - units s
    pub place : t.place ≡ s.place + 1
    pub items : t.items ≡ set s.items s.place (lowered_by manner (units s) (here s))
    pub pieces : made t ≡ made s ++ keep (ltb 0 (units s)) (piece_of manner short (suc s.place) (units s)) []
    pub few : t.dealt ≤ s.dealt + 1
    pub sheet : length t.shares ≡ length s.shares

  -- what is to come of the positions and of the pieces has stayed the same since the walk stood elsewhere
  pub record Walk (count : ℕ) (from now : State) : Type 0 where
    pub stands : Stands count now
    pub positions : final_positions manner short day security now.left now.place (held count now)
        ≡ final_positions manner short day security from.left from.place (held count from)
    pub pieces : final_pieces manner short day security now.left now.place (held count now) (made now)
        ≡ final_pieces manner short day security from.left from.place (held count from) (made from)

  pub walk_begin : (count : ℕ) (s : State) → Stands count s → Walk count s s
  walk_begin count s h = record { stands = h; positions = refl; pieces = refl }

  pub walk_join : (count : ℕ) (a b s : State) → Walk count a b → Walk count b s → Walk count a s
  walk_join count a b s v w =
      record { stands = w.stands; positions = w.positions ∙ v.positions; pieces = w.pieces ∙ v.pieces }

  pub stepped_none : (s t : State) → units s ≡ 0 → t.left ≡ s.left → t.place ≡ s.place + 1 → t.items ≡ s.items → t.shares ≡ s.shares → t.dealt ≡ s.dealt → Stepped s t
  stepped_none s t e l i p q n =
      record {
        left = omega (arith, e, l);
        place = i;
        items = p ∙ sym (rw (e, lowered_none manner (here s)) (set-get_or s.items s.place no_position));
        pieces = rw (e, append-nil, q, n);
        few = omega (arith, n);
        sheet = ap length q;
      }

  pub stepped_some : (s t : State) (k : ℕ) (y : Piece) → units s ≡ k → 0 < k → y ≡ piece_of manner short (s.place + 1) k → s.dealt < length s.shares
      → t.left ≡ s.left - k → t.place ≡ s.place + 1 → t.items ≡ set s.items s.place (lowered_by manner k (here s)) → t.shares ≡ set s.shares s.dealt y → t.dealt ≡ s.dealt + 1
      → Stepped s t
  stepped_some s t k y e some piece room l i p q n =
      record {
        left = rw e l;
        place = i;
        items = rw e p;
        pieces = rw (q, n, piece, e, lt-ltb 0 k some, add-one s.dealt, take-suc-set, add-one s.place);
        few = omega (arith, n);
        sheet = ap length q ∙ simp length-set;
      }

  -- a step keeps all of it
  module _ (count : ℕ) (s t : State) (h : Stands count s) (l : s.place < count) (st : Stepped s t) where
    abbrev ps : List Position
    ps = held count s

    next_positions : held count t ≡ set ps s.place (lowered_by manner (units s) (here s))
    next_positions = rw st.items (take-set-lt count s.items s.place (lowered_by manner (units s) (here s)) l)

    next_ahead : ahead count t ≡ drop (s.place + 1) ps
    next_ahead = rw (st.place, next_positions) (drop-set-lt (s.place + 1) ps s.place (lowered_by manner (units s) (here s)) (omega arith))

    next_stands : Stands count t
    next_stands =
        record {
          few = h.few;
          within = omega (arith, st.place);
          places = ap length st.items ∙ simp length-set h.places;
          room = omega (arith, st.place, st.few, h.room);
          sheet = st.sheet ∙ h.sheet;
          rising = rw next_ahead (rw (ahead_here count s h l) at h.rising).1;
          sized = rw next_ahead (rw (ahead_here count s h l) at h.sized).1;
        }

    same_here : get_or ps s.place no_position ≡ here s
    same_here = held_here count s h l

    inside : s.place < length ps
    inside = omega (arith, held_length count s h)

    next_positions_final : final_positions manner short day security t.left t.place (held count t) ≡ final_positions manner short day security s.left s.place ps
    next_positions_final = rw (st.left, st.place, next_positions, ← same_here) (final_positions_next manner short day security s.left s.place ps inside)

    next_pieces_final : final_pieces manner short day security t.left t.place (held count t) (made t) ≡ final_pieces manner short day security s.left s.place ps (made s)
    next_pieces_final = rw (st.pieces, st.left, st.place, next_positions, ← same_here) (final_pieces_next manner short day security s.left s.place ps inside (made s))

  pub walk_next : (count : ℕ) (a s t : State) → Walk count a s → s.place < count → Stepped s t → Walk count a t
  walk_next count a s t w l st =
      record {
        stands = next_stands count s t w.stands l st;
        positions = next_positions_final count s t w.stands l st ∙ w.positions;
        pieces = next_pieces_final count s t w.stands l st ∙ w.pieces;
      }

  -- nothing is to come
  pub record Walked (count : ℕ) (from now : State) : Type 0 where
    pub positions : held count now ≡ final_positions manner short day security from.left from.place (held count from)
    pub pieces : made now ≡ final_pieces manner short day security from.left from.place (held count from) (made from)

  walk_idle : (count : ℕ) (a s : State) → Walk count a s → All (λ p. due_share day security s.left p ≡ 0) (ahead count s) → Walked count a s
  walk_idle count a s w none =
      record {
        positions = sym (take-append-drop s.place (held count s)) ∙ (rw (after_idle manner short day security s.left (ahead count s) none) at w.positions);
        pieces = sym (append-nil (made s)) ∙ (rw (handed_idle manner short day security (suc s.place) s.left (ahead count s) none) at w.pieces);
      }

  -- the table has ended, or the next position is not due and so is no later one, or the quantity is dealt out
  pub walk_over : (count : ℕ) (a s : State) → Walk count a s → count ≤ s.place → Walked count a s
  walk_over count a s w l = walk_idle count a s w (rw (ahead_over count s w.stands l) tt)

  pub walk_late : (count : ℕ) (a s : State) → Walk count a s → s.place < count → day < (here s).settlement.0 → Walked count a s
  walk_late count a s w l late =
      walk_idle count a s w (late_all day security s.left (ahead count s) w.stands.rising (here s) _ (ahead_here count s w.stands l) late)

  pub walk_done : (count : ℕ) (a s : State) → Walk count a s → s.left ≡ 0 → Walked count a s
  walk_done count a s w z =
      walk_idle count a s w (all_any (λ p. due_share day security s.left p ≡ 0) (ahead count s) (λ p. rw z (due_share_of_none day security p)))
