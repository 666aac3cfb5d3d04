-- The claim about histories: after every list of the calls from any opened book, refused ones included, in place or by value, with sheets of
-- any length.
use Rattle.std.proofs.Common.{Option, Ok, Err, ℤ}
use Rattle.plain.specs.declared.Latest.{Latest}
use Prim.Native.Nat.{ℕ, suc, ◌+◌, ◌-◌, ◌≤◌, ◌<◌}
use native.Mathlib.Omega.{arith}
use mathlib.Core.Path.{◌≡◌, refl, ap, sym, ◌∙◌, subst}
use mathlib.Core.Logic.{◌≢◌}
use mathlib.Core.Bool.{cond}
use mathlib.Core.List.{List, ◌∷◌, ◌++◌, map}
use lib.Seq.{take-length, length-take-le}
use lib.ListN.{length, get_or, length-append}
use lib.Dec.{leb}
use borrow.Author.Tests.{le-ltb, le-leb, lt-leb, leb-true, leb-false}
use Rattle.laws.specs.Limits.{ACCOUNTS, SECURITIES}
use Rattle.laws.specs.Refusals.{accepted_zero}
use Rattle.laws.specs.Asked.{Said, passed, failed, ask, Within, within, both_bounds}
use Rattle.register.specs.Accepted.{read_registered}
use Rattle.events.specs.declared.Award as asked
use Rattle.events.specs.declared.Event.{Event}
use Rattle.events.specs.declared.Event.TheVariants as event
use Rattle.plain.specs.declared.Opening.{Opening}
use Rattle.plain.specs.declared.Position.{Position}
use Rattle.plain.specs.declared.Award.{Award}
use Rattle.plain.specs.declared.Piece.{Piece}
use Rattle.plain.specs.Book as plain
use Rattle.plain.specs.Book.{opening_read, new, no_position, no_award, position_of, latest_price}
use Rattle.plain.specs.Calls.{Call, call, amount}
use Rattle.plain.specs.Refusals.{refusal}
use Rattle.plain.specs.Histories.{event_of, next, pieces, quantity, along, run, handed, accepted_events, formed_by, latest_by, balance}
use Rattle.plain.specs.Claim.{SetOff}
use Rattle.plain.specs.Cover.{added, Covered, Confirmed}
use Rattle.plain.specs.Sound.{Sound, Places}
use Rattle.plain.proofs.Numbered.{nth_at, nth_append, nth_behind}
use Rattle.plain.proofs.Accepted.{award_taken, next_keeps}
use Rattle.plain.proofs.Kept.{run_opening}
use Rattle.plain.proofs.Prices.{given_today}
use Rattle.plain.proofs.Sound.{done_sound, new_sound}
use Rattle.plain.proofs.Discharges as discharges
use Rattle.plain.proofs.Discharges.{discharge, one_price}
use Rattle.plain.proofs.Pairing.{pairs_off}
use Rattle.plain.proofs.Covering.{covered}
use Rattle.plain.proofs.Confirmed.{seller_pays}
use Rattle.plain.proofs.Accounts.{done_places, new_places, next_balance}
use Rattle.plain.proofs.Claim as told
use Rattle.pieces.specs.Sheet.{pieces_of, sheet_with}
use Rattle.pieces.proofs.Cells.{length_pieces}
use Rattle.laws.specs.Answers.{answer, number_in, quantity_of}
use Rattle.machine.specs.View.{Called}
use Rattle.machine.specs.Answers.{answered_number, answered_quantity}
use Rattle.laws.specs.declared.Refusal.{Refusal}
use Rattle.laws.specs.declared.Refusal.TheVariants.{NotRegistered, NotThere}
use Rattle.reading.specs.Reading.{position_answer, award_answer, price_answer, signed, balance_answer}
use Rattle.book.specs.View as whole
use Rattle.book.proofs.Returns as book
use Rattle.history.specs.Runs.{Stand, view, Return, pieces_on, Answers, bare, on_numbers, by_value, lent, Runs, stop, step, last, sheets, RunsTo, Begins, in_place, as_one_value}
use Rattle.history.specs.Claim.{Onward, none, one, Each, DealtOut, Fresh, PricedOnce, PairsOff, answer_in, CheapestRead, SellerPaysLeast, Booked, Kept, Filled, History}

-- What one call returned, with its pieces as the sheet has them: the same, however it was made

called : {s : Stand} {c : Call} {r : Return} → Answers s c r → Called s.core s.numbers c r.stand.core r.stand.numbers r.outcome (pieces_on r)
unfolding pieces_on
called (bare d) = rw d.none d.called
called (on_numbers d) = d.called
called (by_value {b = b} {after = after} {c = c} {o = o} {xs = xs} k) = rw (take-length xs) (book.called b after o xs c k)
called (lent {b = b} {after = after} {o = o} k) = book.called b after o _ _ k.returned

-- The machine's calls follow the plain book

module _ {s : Stand} {c : Call} {r : Return} (k : Answers s c r) where
  number : number_in r.outcome ≡ refusal (view s) c
  number = answered_number (view s) c r.outcome (called k).returned.outcome

  reported : quantity_of r.outcome ≡ quantity (view s) c
  reported = answered_quantity (view s) c r.outcome (called k).returned.outcome

  -- a call that answers with a number is refused
  turned_down : number_in r.outcome ≢ 0 → refusal (view s) c ≢ 0
  turned_down e z = e (number ∙ z)

pub agrees : {s : Stand} {cs : List Call} {rs : List Return} → Runs s cs rs → view (last s rs) ≡ run (view s) cs
unfolding last run
agrees stop = refl
agrees (step {cs = cs} k rs) = agrees rs ∙ ap (λ (p : plain.Book). run p cs) (called k).returned.book

-- what each call returned, g, is what the plain book gives it, f
module _ {A : Type 0} (g : Return → A) (f : plain.Book → Call → A) (same : (s : Stand) (c : Call) (r : Return) → Answers s c r → g r ≡ f (view s) c) where
  all_same : {s : Stand} {cs : List Call} {rs : List Return} (b : plain.Book) → view s ≡ b → Runs s cs rs → map g rs ≡ along f b cs
  unfolding along
  all_same b e stop = refl
  all_same b e (step {s = s} {c = c} {r = r} {rs = rs} k ks) =
      ap (λ (x : A). x ∷ map g rs) (same s c r k ∙ ap (λ (p : plain.Book). f p c) e)
      ∙ ap (λ (l : List A). f b c ∷ l) (all_same (next b c) ((called k).returned.book ∙ ap (λ (p : plain.Book). next p c) e) ks)

same_sheets : {s : Stand} {cs : List Call} {rs : List Return} → Runs s cs rs → sheets rs ≡ handed (view s) cs
unfolding sheets handed
same_sheets stop = refl
same_sheets (step {s = s} {c = c} {cs = cs} k rs) =
    rw (called k).returned.pieces (ap (λ (l : List Piece). pieces (view s) c ++ l) (same_sheets rs ∙ ap (λ (p : plain.Book). handed p cs) (called k).returned.book))

-- Each call of the list, where the history stood when it was made, with those that follow it

-- by what holds of every book that a history reaches
module _ (Holding : plain.Book → Type 0) (keeps : (b : plain.Book) (c : Call) → Holding b → Holding (next b c)) where
  onward : {P : Stand → Call → Return → List Call → List Return → Type 0}
      → ((s : Stand) (c : Call) (r : Return) (cs : List Call) (rs : List Return) → Holding (view s) → Answers s c r → Runs r.stand cs rs → P s c r cs rs)
      → {s : Stand} {cs : List Call} {rs : List Return} → Holding (view s) → Runs s cs rs → Onward P s cs rs
  onward p h stop = none
  onward p h (step {s = s} {c = c} {r = r} {cs = cs} {rs = rs} k ks) =
      one (p s c r cs rs h k ks) (onward p (subst Holding (sym (called k).returned.book) (keeps (view s) c h)) ks)

  every : {P : Stand → Call → Return → Type 0} → ((s : Stand) (c : Call) (r : Return) → Holding (view s) → Answers s c r → P s c r)
      → {s : Stand} {cs : List Call} {rs : List Return} → Holding (view s) → Runs s cs rs → Each P s cs rs
  every p h runs = onward (λ s c r cs rs h k ks. p s c r h k) h runs

sound_keeps : (b : plain.Book) (c : Call) → Sound b → Sound (next b c)
sound_keeps = next_keeps Sound done_sound

-- the ledger has its 64 places
abbrev Placed : plain.Book → Type 0
Placed b = Places b.ledger

placed_keeps : (b : plain.Book) (c : Call) → Placed b → Placed (next b c)
placed_keeps = next_keeps Placed (λ b c e h. done_places b (event_of c) h)

dealt_out_lem : (s : Stand) (c : Call) (r : Return) → Sound (view s) → Answers s c r → DealtOut s c r
dealt_out_lem s c r h k e kind =
    let d = discharge (view s) c h (sym (number k) ∙ e) kind in
    let given = (called k).returned.pieces in
    record { total = rw (given, reported k) d.total; shorts = rw given d.shorts; longs = rw given d.longs }

fresh : (s : Stand) (c : Call) (r : Return) → Sound (view s) → Answers s c r → Fresh s c r
fresh s c r h k n e needs = given_today (view s) c n h.standing.prices (sym (number k) ∙ e) needs

priced_once : (s : Stand) (c : Call) (r : Return) → Sound (view s) → Answers s c r → PricedOnce s c r
priced_once s c r h k x e is = rw (called k).returned.pieces (one_price (view s) c x (sym (number k) ∙ e) is)

-- what the read answers to the number of a position that is there
position_read : (b : plain.Book) (n : ℕ) → Within 1 (length b.positions) n → position_answer b n ≡ Ok (position_of b n)
unfolding within
position_read b n w = rw (le-leb 1 n w.above, le-leb n (length b.positions) w.below)

-- accounts that were not touched are read as they were
balance_kept : (b after : plain.Book) → after.ledger ≡ b.ledger → (k : ℕ) → balance_answer after k ≡ balance_answer b k
unfolding balance
balance_kept b after same k = rw same

pair_read : (s : Stand) (c : Call) (r : Return) → Sound (view s) → Answers s c r → PairsOff s c r
unfolding quantity amount
pair_read s c r h k x e is =
    let taken : refusal (view s) c ≡ 0 = sym (number k) ∙ e in
    let same : view r.stand ≡ next (view s) c = (called k).returned.book in
    let d = subst (λ (b : plain.Book). SetOff (view s) b x (pieces (view s) c)) (sym same) (pairs_off (view s) c x taken is) in
    let after : (n : ℕ) → Within 1 (length (view s).positions) n → Within 1 (length (view r.stand).positions) n =
    λ n w. record { above = w.above; below = omega (arith, w.below, d.many) } in
    record {
      short = position_of (view s) x.short;
      long = position_of (view s) x.long;
      short_after = position_of (view r.stand) x.short;
      long_after = position_of (view r.stand) x.long;
      found_short = position_read (view s) x.short d.short_held;
      found_long = position_read (view s) x.long d.long_held;
      found_short_after = position_read (view r.stand) x.short (after x.short d.short_held);
      found_long_after = position_read (view r.stand) x.long (after x.long d.long_held);
      piece = (called k).returned.pieces ∙ d.piece;
      reported = reported k ∙ accepted_zero (refusal (view s) c) (amount (view s) (event_of c)) 0 taken ∙ ap (amount (view s)) is;
      member = d.member;
      kind = d.kind;
      short_falls = d.short_falls;
      long_falls = d.long_falls;
      unpaid = balance_kept (view s) (view r.stand) d.unpaid;
    }

-- awards that stand behind others: what the read answers to the numbers before them, and to theirs
answers_earlier : (xs new : List Award) (i : ℕ) → i ≤ length xs → answer_in (xs ++ new) i ≡ answer_in xs i
unfolding within
answers_earlier xs new i h =
    rw (le-leb i (length (xs ++ new)) (omega (arith, length-append xs new)), le-leb i (length xs) h, nth_append no_award xs new i h)

answers_later : (xs new : List Award) (i : ℕ) → answer_in (xs ++ new) (suc (length xs) + i) ≡ answer_in new (suc i)
unfolding within
answers_later xs new i =
    rw (nth_behind no_award xs new i, le-leb 1 (suc (length xs) + i) (omega arith), le-leb 1 (suc i) (omega arith)) (go (ask (leb (suc i) (length new))))
  where
    go : Said (leb (suc i) (length new))
        → cond (leb (suc (length xs) + i) (length (xs ++ new))) (Ok (get_or new i no_award)) (Err NotThere) ≡ cond (leb (suc i) (length new)) (Ok (get_or new i no_award)) (Err NotThere)
    go (passed t) = rw (t, le-leb (suc (length xs) + i) (length (xs ++ new)) (omega (arith, leb-true (suc i) (length new) t, length-append xs new)))
    go (failed t) = rw (t, lt-leb (suc (length xs) + i) (length (xs ++ new)) (omega (arith, leb-false (suc i) (length new) t, length-append xs new)))

-- the short of an award that was accepted is found
award_short : (b : plain.Book) (c : Call) (a : asked.Award) → refusal b c ≡ 0 → event_of c ≡ event.Award a → position_answer b a.position ≡ Ok (position_of b a.position)
award_short b (call e sheet) a taken is =
    position_read b a.position (award_taken b a sheet (subst (λ (f : Event). refusal b (call f sheet) ≡ 0) is taken)).held

cheapest_read : (s : Stand) (c : Call) (r : Return) → Sound (view s) → Answers s c r → CheapestRead s c r
cheapest_read s c r h k a e is =
    let same : next (view s) c ≡ view r.stand = sym (called k).returned.book in
    let d : Covered (view s) (view r.stand) a.position (quantity (view s) c) = rw same at (covered (view s) c a (sym (number k) ∙ e) is) in
    record {
      short = position_of (view s) a.position;
      found = award_short (view s) c a (sym (number k) ∙ e) is;
      awards = added (view s) (view r.stand);
      earlier = λ i l. ap (λ (xs : List Award). answer_in xs i) d.kept ∙ answers_earlier (view s).awards (added (view s) (view r.stand)) i l;
      later = λ i. ap (λ (xs : List Award). answer_in xs (suc (length (view s).awards) + i)) d.kept ∙ answers_later (view s).awards (added (view s) (view r.stand)) i;
      reported = reported k ∙ d.reported;
      cheapest = d.cheapest;
    }

same_stand : (s z : Stand) → (z.core ≡ s.core) × (z.numbers ≡ s.numbers) → z ≡ s
same_stand s z e i = record { core = e.0 i; numbers = e.1 i }

kept : {s : Stand} {c : Call} {r : Return} → Answers s c r → Kept s c r
kept {s} {c} {r} k e =
    let f = discharges.refused (view s) c (turned_down k e) in
    (same_stand s r.stand ((called k).kept (turned_down k e)), (called k).returned.pieces ∙ f.pieces', reported k ∙ f.quantity')

filled : {s : Stand} {c : Call} {r : Return} → Answers s c r → Filled s c r
unfolding whole.view
filled (bare d) =
    record { count = d.none ∙ ap length d.called.returned.pieces; filled = d.called.returned.pieces; kept = λ e. tt }
filled {s} {c} (on_numbers {entry = entry} {exit = exit} {n = n} d) =
    record {
      count = sym (length-take-le n (pieces_of exit) (omega (arith, d.few, length_pieces exit))) ∙ ap length d.called.returned.pieces;
      filled = d.filled;
      kept = λ e. d.filled ∙ ap (λ (xs : List Piece). sheet_with xs entry) (discharges.refused (view s) c (turned_down (on_numbers d) e)).pieces';
    }
filled {s} {c} (by_value k) =
    record {
      count = ap length k.pieces;
      filled = k.pieces;
      kept = λ e. k.pieces ∙ (discharges.refused (view s) c (turned_down (by_value k) e)).pieces';
    }
filled (lent k) = record { count = k.count; filled = k.sheet; kept = λ e. k.kept (turned_down (lent k) e) }

-- What the reads report

-- what is found by its number is there, and is the book's
module _ {A Answer : Type 0} (found : A → Answer) (refused' : Answer) (same : (x y : A) → found x ≡ found y → x ≡ y) (apart : (x : A) → refused' ≡ found x → ⊥) where
  read_found : (d : A) (l : List A) (n : ℕ) (x : A) → cond (plain.there l n) (found (plain.nth d l n)) refused' ≡ found x → (Within 1 (length l) n) × (plain.nth d l n ≡ x)
  read_found d l n x e = go (ask (plain.there l n))
    where
      go : Said (plain.there l n) → (Within 1 (length l) n) × (plain.nth d l n ≡ x)
      go (passed t) = (both_bounds 1 (length l) n t, same (plain.nth d l n) x (rw t at e))
      go (failed t) = absurd (apart x (rw t at e))

position_found : (b : plain.Book) (n : ℕ) (p : Position) → position_answer b n ≡ Ok p → (Within 1 (length b.positions) n) × (position_of b n ≡ p)
position_found b n p e =
    read_found Ok (Err NotThere) (λ x y k. cc) (λ x k. let z : ◌≡◌ {A = ℕ} 0 1 = cc in absurd (omega arith)) no_position b.positions n p e

award_found : (b : plain.Book) (n : ℕ) (x : Award) → award_answer b n ≡ Ok x → plain.award_of b n ≡ x
award_found b n x e =
    (read_found Ok (Err NotThere) (λ x y k. cc) (λ x k. let z : ◌≡◌ {A = ℕ} 0 1 = cc in absurd (omega arith)) no_award b.awards n x e).1

seller_pays_least : (s : Stand) (c : Call) (r : Return) (cs : List Call) (rs : List Return) → Sound (view s) → Answers s c r → Runs r.stand cs rs → SellerPaysLeast s c r cs rs
seller_pays_least s c r cs rs h k runs a e is day all =
    let same : view r.stand ≡ next (view s) c = (called k).returned.book in
    let taken : refusal (view s) c ≡ 0 = sym (number k) ∙ e in
    let grown : (view r.stand).awards ≡ (view s).awards ++ added (view s) (view r.stand) = rw same (covered (view s) c a taken is).kept in
    let many = length-append (view s).awards (added (view s) (view r.stand)) in
    let confirmed : Confirmed (view s) (view r.stand) (view (last r.stand rs)) =
    record {
      today = day;
      all = λ n w.
          let x = all n (record { above = w.above; below = omega (arith, w.below, many, ap length grown) }) in
          ap (λ (y : Award). y.confirmed) (award_found (view (last r.stand rs)) n x.award' x.found) ∙ x.confirmed;
    } in
    let agreed : view (last r.stand rs) ≡ run (next (view s) c) cs = agrees runs ∙ ap (λ (p : plain.Book). run p cs) same in
    let there = subst (λ (p : plain.Book). Confirmed (view s) (view r.stand) p) agreed confirmed in
    rw same (seller_pays (view s) c a cs h taken is (subst (λ (p : plain.Book). Confirmed (view s) p (run (next (view s) c) cs)) same there))

-- the latest price of a security that is registered, and refusal 10 of any other
read_latest : (b : plain.Book) (opening : Opening) (given : ℕ → Option Latest) → b.opening ≡ opening → opening.register.count ≤ SECURITIES
    → ((security : ℕ) → Within 1 SECURITIES security → latest_price b security ≡ given security) → (security : ℕ)
    → price_answer b security ≡ cond (within 1 opening.register.count security) (Ok (given security)) (Err NotRegistered)
read_latest b opening given same few is security = rw same (go (ask (within 1 opening.register.count security)))
  where
    go : Said (within 1 opening.register.count security)
        → cond (within 1 opening.register.count security) (Ok (latest_price b security)) (Err NotRegistered)
        ≡ cond (within 1 opening.register.count security) (Ok (given security)) (Err NotRegistered)
    go (passed t) =
        let w = both_bounds 1 opening.register.count security t in
        rw (t, is security (record { above = w.above; below = omega (arith, w.below, few) }))
    go (failed t) = rw t

-- the balance of an account that is there
read_balance : (b : plain.Book) (k : ℕ) → k < ACCOUNTS → balance_answer b k ≡ Ok (signed (balance b k))
read_balance b k h = rw (le-ltb 63 k (omega arith))

booked : (s : Stand) (c : Call) (r : Return) → Placed (view s) → Answers s c r → Booked s c r
booked s c r h a k l =
    read_balance (view r.stand) k l ∙ ap (λ (z : ℤ). Ok (signed z)) (ap (λ (p : plain.Book). balance p k) (called a).returned.book ∙ next_balance (view s) c k h l)

-- The claim

-- what every history begins with: the new plain book of what the register's bytes open a book with, on a register that passes
begun : {bytes : List ℕ} {s : Stand} → Begins bytes s → view s ≡ new (opening_read bytes)
unfolding whole.view
begun (in_place {a = a} o blank) = o.opened.book a blank
begun (as_one_value o) = o.opened.book

few_registered : {bytes : List ℕ} {s : Stand} → Begins bytes s → (opening_read bytes).register.count ≤ SECURITIES
few_registered {bytes} (in_place o blank) = (read_registered bytes (sym o.number)).high
few_registered {bytes} (as_one_value o) = (read_registered bytes (sym o.number)).high

opened : (opening : Opening) (cs : List Call) → (run (new opening) cs).opening ≡ opening
unfolding new
opened opening cs = run_opening (new opening) cs

claim : (opening : Opening) {s : Stand} {cs : List Call} {rs : List Return} → view s ≡ new opening → opening.register.count ≤ SECURITIES → Runs s cs rs → History opening s cs rs
claim opening {s} {cs} {rs} e few runs =
    let same : view (last s rs) ≡ run (new opening) cs = agrees runs ∙ ap (λ (p : plain.Book). run p cs) e in
    let given : sheets rs ≡ handed (new opening) cs = same_sheets runs ∙ ap (λ (p : plain.Book). handed p cs) e in
    let claim = told.claim opening cs in
    let sound : Sound (view s) = subst Sound (sym e) (new_sound opening) in
    let placed : Placed (view s) = subst Placed (sym e) (new_places opening) in
    record {
      answered = all_same (λ r. r.outcome) (λ b c. answer (refusal b c) (quantity b c)) (λ s c r k. (called k).returned.outcome) (new opening) e runs;
      numbers = all_same (λ r. number_in r.outcome) refusal (λ s c r k. number k) (new opening) e runs;
      reported = all_same (λ r. quantity_of r.outcome) quantity (λ s c r k. reported k) (new opening) e runs;
      book = same;
      netted = rw (same, given) (λ i h. sym (claim.netted i) ∙ claim.tallied i h);
      open_units = λ n p found.
          let f = position_found (view (last s rs)) n p found in
          let place : suc (n - 1) ≡ n = omega (arith, f.0.above) in
          let here : n - 1 < length (run (new opening) cs).positions = omega (arith, f.0.above, f.0.below, ap (λ (p : plain.Book). length p.positions) same) in
          rw (given, ← f.1, same, nth_at no_position (formed_by opening (accepted_events (new opening) cs)) n f.0.above, nth_at no_position (run (new opening) cs).positions n f.0.above)
          (rw place at (sym (claim.netted (n - 1)) ∙ claim.tallied (n - 1) here));
      positions = rw same claim.positions;
      by_kind = rw same claim.by_kind;
      latest_prices = rw same (read_latest (run (new opening) cs) opening (latest_by opening (accepted_events (new opening) cs)) (opened opening cs) few claim.prices);
      fresh = every Sound sound_keeps fresh sound runs;
      dealt = all_same pieces_on pieces (λ s c r k. (called k).returned.pieces) (new opening) e runs;
      discharges = every Sound sound_keeps dealt_out_lem sound runs;
      one_price = every Sound sound_keeps priced_once sound runs;
      pairs_off = every Sound sound_keeps pair_read sound runs;
      offers = rw same claim.offers;
      cheapest = every Sound sound_keeps cheapest_read sound runs;
      booked = every Placed placed_keeps booked placed runs;
      pays_least = onward Sound sound_keeps seller_pays_least sound runs;
      accounts = rw same claim.accounts';
      balances = λ k h. read_balance (view (last s rs)) k h ∙ ap (λ (z : ℤ). Ok (signed z)) (ap (λ (p : plain.Book). balance p k) same ∙ claim.accounts' k h);
      zero_sum = rw same claim.zero_sum;
      small = rw same claim.small;
      refused = every Sound sound_keeps (λ s c r h k. kept k) sound runs;
      filled = every Sound sound_keeps (λ s c r h k. filled k) sound runs;
    }

-- the claim about histories, from what opening was given and answered
pub history : {bytes : List ℕ} {s : Stand} {cs : List Call} {rs : List Return} → Begins bytes s → Runs s cs rs → History (opening_read bytes) s cs rs
history {bytes} b runs = claim (opening_read bytes) (begun b) (few_registered b) runs

-- and so of what was played: `replay` and the player ensure `RunsTo` of the calls of a file
pub played : {bytes : List ℕ} {s z : Stand} {cs : List Call} → Begins bytes s → (r : RunsTo s cs z) → History (opening_read bytes) s cs r.returns
played b r = history b r.runs
