-- After every history each text fits its column, and what the page shows can be read back.
use Prim.Native.Nat.{ℕ, zero, suc, ◌+◌, ◌-◌, ◌*◌, ◌≤◌, ◌<◌}
use native.Mathlib.Omega.{arith}
use mathlib.Core.Path.{◌≡◌, refl, ap, sym, ◌∙◌}
use mathlib.Core.List.{List, [], ◌∷◌, ◌++◌}
use mathlib.Core.Bool.{true}
use lib.ListN.{length, take, drop, length-append, length-drop}
use lib.Seq.{length-take-le, take-take, drop-drop, ext_get_or}
use Rattle.laws.specs.Lists.{each, range}
use Rattle.laws.specs.Asked.{Within}
use Rattle.laws.specs.Parts.{padded, length_padded, get_or_padded, get_or_part}
use Rattle.register.specs.Register.{count, isin_at, isin_bytes, register_of, register_read}
use Rattle.register.specs.Accepted.{Registered, accepted_size, read_accepted, read_registered}
use Rattle.plain.specs.declared.Position.{Position}
use Rattle.plain.specs.Book.{Book, no_position, position_of, opening_read, new}
use Rattle.plain.specs.Calls.{Call}
use Rattle.plain.specs.Histories.{run}
use Rattle.plain.specs.Invariants.{Fair, Whole}
use Rattle.plain.specs.Sound.{Sound}
use Rattle.plain.proofs.Numbered.{nth_all}
use Rattle.plain.proofs.Standing.{standing_few}
use Rattle.plain.proofs.Sound.{sound}
use Rattle.plain.proofs.Kept.{run_opening}
use Rattle.report.specs.Digits.{digits, digits_most}
use Rattle.page.specs.Columns.{blanks, LINE, Fits, in_order}
use Rattle.page.specs.Page.{isin_of, columns, page_line, line_of, page_lines, page_text}
use Rattle.page.specs.Laws.{Legible, LegiblePage, EveryPage}
use Rattle.page.proofs.Laying.{laid, length_isin, length_line, line_read, figure_read}

-- position at most 1,024, member 63, figures 512,000,000, delivery day 10,000
pub record Small (isins : List ℕ) (n : ℕ) (p : Position) : Type 0 where
  pub number : n ≤ 1024
  pub member : p.member ≤ 63
  pub isins_long : length isins ≡ 384
  pub security : Within 1 32 p.security
  pub netted : p.netted ≤ 512000000
  pub whole : Whole p
  pub settlement : p.settlement.0 ≤ 10000

figure_fits : (n : ℕ) → n ≤ 512000000 → length (digits n) ≤ 9
figure_fits n h = digits_most 8 n (omega arith)

pub small_fits : (isins : List ℕ) (n : ℕ) (p : Position) → Small isins n p → Fits (columns isins n p)
unfolding columns
small_fits isins n p s =
    let whole = s.whole in
    let most = s.netted in
    let number = digits_most 3 n (omega (arith, s.number)) in
    let member = digits_most 1 p.member (omega (arith, s.member)) in
    let isin : length (isin_of isins p.security) ≤ 12 = omega (arith, length_isin isins p.security s.isins_long s.security) in
    let netted = figure_fits p.netted most in
    let delivered = figure_fits p.delivered (omega arith) in
    let bought = figure_fits p.bought (omega arith) in
    let cash = figure_fits p.cash (omega arith) in
    let unsettled = figure_fits p.unsettled (omega arith) in
    let settlement = digits_most 4 p.settlement.0 (omega (arith, s.settlement)) in
    (number, (member, (isin, (omega arith, (netted, (delivered, (bought, (cash, (unsettled, (settlement, (omega arith, tt)))))))))))

-- the columns follow each other in any line
pub in_order_lem : (isins : List ℕ) (n : ℕ) (p : Position) → in_order 1 (columns isins n p) ≡ true
unfolding columns
in_order_lem isins n p = refl

pub legible : (isins : List ℕ) (n : ℕ) (p : Position) → Fits (columns isins n p) → length (isin_of isins p.security) ≡ 12 → Legible isins n p
unfolding columns page_line
legible isins n p h twelve =
    let cs = columns isins n p in
    let l = laid 1 cs (in_order_lem isins n p) h in
    record {
      fits = h;
      bytes = length_line cs l;
      number = figure_read cs 0 n l (omega arith) refl;
      member = figure_read cs 1 p.member l (omega arith) refl;
      isin = line_read cs 2 l (omega arith) ∙ ap (λ (k : ℕ). blanks (12 - k) ++ isin_of isins p.security) twelve;
      letter = line_read cs 3 l (omega arith);
      netted = figure_read cs 4 p.netted l (omega arith) refl;
      delivered = figure_read cs 5 p.delivered l (omega arith) refl;
      bought = figure_read cs 6 p.bought l (omega arith) refl;
      cash = figure_read cs 7 p.cash l (omega arith) refl;
      unsettled = figure_read cs 8 p.unsettled l (omega arith) refl;
      settlement = figure_read cs 9 p.settlement.0 l (omega arith) refl;
      kind = line_read cs 10 l (omega arith);
    }

small_legible : (isins : List ℕ) (n : ℕ) (p : Position) → Small isins n p → Legible isins n p
small_legible isins n p s = legible isins n p (small_fits isins n p s) (length_isin isins p.security s.isins_long s.security)

-- ---- a book

module _ (b : Book) (registered : Registered b.opening.register) (h : Sound b) where
  pub small : (n : ℕ) → Within 1 (length b.positions) n → Small b.opening.register.isins n (position_of b n)
  small n w =
      let fair : Fair b.opening.register.count b.day (position_of b n) = nth_all no_position (Fair b.opening.register.count b.day) b.positions n w h.standing.fair in
      record {
        number = omega (arith, w.below, standing_few b h.standing);
        member = fair.member.below;
        isins_long = registered.isins_long;
        security = record { above = fair.security.above; below = omega (arith, fair.security.below, registered.high) };
        netted = fair.netted.below;
        whole = nth_all no_position Whole b.positions n w h.settled.whole;
        settlement = omega (arith, fair.settlement, h.standing.day.below);
      }

  -- the lines of n numbers that are there have 81 bytes each
  all_lines : (from n : ℕ) → 1 ≤ from → from + n ≤ length b.positions + 1 → length (each (line_of b.opening.register.isins b.positions) (range from n)) ≡ LINE * n
  all_lines from zero l k = refl
  all_lines from (suc n) l k =
      let s = small from (record { above = l; below = omega arith }) in
      length-append (line_of b.opening.register.isins b.positions from) (each (line_of b.opening.register.isins b.positions) (range (suc from) n))
      ∙ omega (arith, (small_legible b.opening.register.isins from (position_of b from) s).bytes, all_lines (suc from) n (omega arith) (omega arith))

  pub legible_page : LegiblePage b
  unfolding page_text page_lines
  legible_page =
      record {
        lines = λ n w. small_legible b.opening.register.isins n (position_of b n) (small n w);
        bytes = all_lines 1 (length b.positions) (omega arith) (omega arith);
      }

-- ---- the register's bytes

-- a part of a list that stands in its first places is that part of the padded list too
part_padded : (n m : ℕ) (l : List ℕ) (at : ℕ) → length l ≤ n → at + m ≤ length l → take m (drop at (padded 0 n l)) ≡ take m (drop at l)
part_padded n m l at h k =
    let long : (x : List ℕ) → at + m ≤ length x → length (take m (drop at x)) ≡ m = λ x e. length-take-le m (drop at x) (omega (arith, length-drop at x)) in
    ext_get_or 0 (take m (drop at (padded 0 n l))) (take m (drop at l)) (long (padded 0 n l) (omega (arith, length_padded 0 n l)) ∙ sym (long l k))
    (λ i e.
    let few : i < m = omega (arith, long (padded 0 n l) (omega (arith, length_padded 0 n l))) in
    get_or_part (padded 0 n l) at m i 0 few ∙ get_or_padded 0 n l (at + i) (omega arith) ∙ sym (get_or_part l at m i 0 few))

-- and of a list that is cut off after it
part_taken : (n m : ℕ) (l : List ℕ) (at : ℕ) → at + m ≤ n → take m (drop at (take n l)) ≡ take m (drop at l)
part_taken n m l zero h = take-take m n l (omega arith)
part_taken zero m l (suc at) h = absurd (omega arith)
part_taken (suc n) m [] (suc at) h = refl
part_taken (suc n) m (x ∷ l) (suc at) h = part_taken n m l at (omega arith)

-- the ISIN of an entry of an accepted register
isin_read : (bytes : List ℕ) (security : ℕ) → (register_read bytes).number ≡ 0 → Within 1 (register_read bytes).register.count security
    → isin_of (register_read bytes).register.isins security ≡ isin_at bytes (security - 1)
unfolding register_read register_of isin_bytes isin_at
isin_read bytes security taken h =
    let size = accepted_size bytes taken in
    let same = read_accepted bytes taken in
    let there : Within 1 (count bytes) security = rw same at h in
    let n = 12 * count bytes in
    let from = 2 + count bytes in
    let at = 12 * (security - 1) in
    let body = drop from bytes in
    let all : length (take n body) ≡ n = length-take-le n body (omega (arith, size.long, length-drop from bytes)) in
    rw same
    (part_padded 384 12 (take n body) at (omega (arith, all, size.high)) (omega (arith, all, there.above, there.below))
    ∙ part_taken n 12 body at (omega (arith, there.above, there.below))
    ∙ ap (take 12) (drop-drop at from bytes))

-- the page after every list of calls from a new book
pub every_page : (register : List ℕ) (cs : List Call) → (register_read register).number ≡ 0 → EveryPage register cs
unfolding new
every_page register cs taken =
    let opening = opening_read register in
    let b = run (new opening) cs in
    let same = run_opening (new opening) cs in
    let known : Registered b.opening.register = rw same (read_registered register taken) in
    record {
      legible = legible_page b known (sound opening cs);
      isins = λ n h.
          let fair : Fair b.opening.register.count b.day (position_of b n) = nth_all no_position (Fair b.opening.register.count b.day) b.positions n h (sound opening cs).standing.fair in
          rw same (isin_read register (position_of b n).security taken (rw same at fair.security));
    }
