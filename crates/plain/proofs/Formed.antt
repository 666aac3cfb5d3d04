-- The positions of a book are those that the accepted trades and closes alone make, but for what was discharged of them.
use Prim.Native.Nat.{ℕ, suc}
use mathlib.Core.Path.{◌≡◌, refl, ap, sym, ◌∙◌}
use mathlib.Core.List.{List, [], ◌∷◌, ◌++◌, map, append_assoc, append-nil, map-append}
use lib.ListN.{length, length-map, get_or, get_or-map}
use Rattle.laws.specs.Lists.{number, All}
use Rattle.plain.specs.declared.Opening.{Opening}
use Rattle.events.specs.declared.Trade.{Trade}
use Rattle.events.specs.declared.Event.{Event}
use Rattle.events.specs.declared.Event.TheVariants as event
use Rattle.plain.specs.declared.Position.{Position}
use Rattle.plain.specs.declared.Piece.{Piece}
use Rattle.plain.specs.Book.{Book, new, no_position}
use Rattle.plain.specs.Netting.{Key, keys, netted}
use Rattle.plain.specs.Dealing.{lowered, lowering, fresh}
use Rattle.plain.specs.Calls.{Call, discharged, hands_out, done}
use Rattle.plain.specs.Histories.{event_of, run, accepted_events, formed, formed_by}
use Rattle.plain.proofs.Accepted.{run_tells}
use Rattle.plain.proofs.Netted.{New, netted_new}

fresh_number : (xs : List Piece) (n : ℕ) (ps : List Position) → map fresh (number (lowered xs) n ps) ≡ map fresh ps
unfolding fresh lowered
fresh_number xs n [] = refl
fresh_number xs n (p ∷ ps) = ap (λ (l : List Position). fresh p ∷ l) (fresh_number xs (suc n) ps)

-- a discharge leaves positions as they were made
pub fresh_lowering : (xs : List Piece) (ps : List Position) → map fresh (lowering xs ps) ≡ map fresh ps
unfolding lowering
fresh_lowering xs ps = fresh_number xs 1 ps

-- a new position is as it was made
pub fresh_new : (day : ℕ) (p : Position) → New day p → fresh p ≡ p
unfolding fresh
fresh_new day p h = λ i.
    record {
      member = p.member;
      kind = p.kind;
      security = p.security;
      short = p.short;
      settlement = p.settlement;
      reference = p.reference;
      netted = p.netted;
      delivered = sym h.delivered i;
      bought = sym h.bought i;
      cash = sym h.cash i;
      paired = sym h.paired i;
      unsettled = sym h.unsettled i;
    }

all_fresh : (day : ℕ) (ps : List Position) → All (New day) ps → map fresh ps ≡ ps
all_fresh day [] h = refl
all_fresh day (p ∷ ps) h =
    ap (λ (q : Position). q ∷ map fresh ps) (fresh_new day p h.0) ∙ ap (λ (l : List Position). p ∷ l) (all_fresh day ps h.1)

pub fresh_netted : (day : ℕ) (trades : List Trade) (ks : List Key) → map fresh (netted day trades ks) ≡ netted day trades ks
fresh_netted day trades ks = all_fresh day (netted day trades ks) (netted_new day trades ks)

-- what a book's positions were made as, and what later events make
abbrev with_later : Book → List Event → List Position
with_later b es = map fresh b.positions ++ formed (keys b.opening.register.count) b.day b.trades es

discharge_forms : (xs : List Piece) (ps later : List Position) → map fresh (lowering xs ps) ++ later ≡ map fresh ps ++ later
discharge_forms xs ps later = ap (λ (l : List Position). l ++ later) (fresh_lowering xs ps)

close_forms : (day : ℕ) (trades : List Trade) (ks : List Key) (ps later : List Position) → map fresh (ps ++ netted day trades ks) ++ later ≡ map fresh ps ++ (netted day trades ks ++ later)
close_forms day trades ks ps later =
    ap (λ (l : List Position). l ++ later) (map-append fresh ps (netted day trades ks) ∙ ap (λ (l : List Position). map fresh ps ++ l) (fresh_netted day trades ks))
    ∙ append_assoc (map fresh ps) (netted day trades ks) later

done_forms : (b : Book) (e : Event) (es : List Event) → with_later (done b e) es ≡ with_later b (e ∷ es)
unfolding done discharged formed
done_forms b (event.Trade t) es = refl
done_forms b (event.Price p) es = refl
done_forms b (event.Delivery d) es = discharge_forms (hands_out b (event.Delivery d)) b.positions (formed (keys b.opening.register.count) b.day b.trades es)
done_forms b (event.Attempt a) es = refl
done_forms b (event.Offer o) es = refl
done_forms b (event.Award a) es = refl
done_forms b (event.Confirm c) es = discharge_forms (hands_out b (event.Confirm c)) b.positions (formed (keys b.opening.register.count) b.day b.trades es)
done_forms b (event.Cash c) es = discharge_forms (hands_out b (event.Cash c)) b.positions (formed (keys b.opening.register.count) b.day b.trades es)
done_forms b event.Close es = close_forms b.day b.trades (keys b.opening.register.count) b.positions (formed (keys b.opening.register.count) (suc b.day) [] es)
done_forms b (event.PairOff x) es = discharge_forms (hands_out b (event.PairOff x)) b.positions (formed (keys b.opening.register.count) b.day b.trades es)

pub formed_run : (b : Book) (cs : List Call) → map fresh (run b cs).positions ≡ map fresh b.positions ++ formed (keys b.opening.register.count) b.day b.trades (accepted_events b cs)
unfolding formed
formed_run b cs =
    sym (append-nil (map fresh (run b cs).positions))
    ∙ run_tells with_later (λ x. Unit {0}) (λ x c e h. tt) (λ x c e h es. done_forms x (event_of c) es) b cs tt

-- from a new book: what the accepted trades and closes make
pub formed_new : (opening : Opening) (cs : List Call) → map fresh (run (new opening) cs).positions ≡ formed_by opening (accepted_events (new opening) cs)
unfolding new
formed_new opening cs = formed_run (new opening) cs

-- the same of each place
pub fresh_at : (ps : List Position) (i : ℕ) → fresh (get_or ps i no_position) ≡ get_or (map fresh ps) i no_position
unfolding fresh
fresh_at ps i = sym (get_or-map fresh ps i no_position)

pub formed_many : (opening : Opening) (cs : List Call) → length (run (new opening) cs).positions ≡ length (formed_by opening (accepted_events (new opening) cs))
formed_many opening cs = sym (length-map (run (new opening) cs).positions fresh) ∙ ap length (formed_new opening cs)

pub formed_at : (opening : Opening) (cs : List Call) (i : ℕ) → fresh (get_or (run (new opening) cs).positions i no_position) ≡ get_or (formed_by opening (accepted_events (new opening) cs)) i no_position
formed_at opening cs i =
    fresh_at (run (new opening) cs).positions i ∙ ap (λ (l : List Position). get_or l i no_position) (formed_new opening cs)

pub formed_netted : (opening : Opening) (cs : List Call) (i : ℕ) → (get_or (run (new opening) cs).positions i no_position).netted ≡ (get_or (formed_by opening (accepted_events (new opening) cs)) i no_position).netted
unfolding fresh
formed_netted opening cs i = ap (λ (p : Position). p.netted) (formed_at opening cs i)
