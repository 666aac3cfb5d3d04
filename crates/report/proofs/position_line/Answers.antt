-- `report::position_line` meets its contract. The parts of the line are put one after the other.
use native.Mathlib.Omega.{arith}
use Prim.Native.Nat.{ℕ, ◌+◌, ◌≤◌}
use mathlib.Core.Path.{ap, ◌∙◌}
use mathlib.Core.List.{List, [], ◌∷◌, ◌++◌}
use lib.ListN.{length, set, length-set}
use Rattle.plain.specs.declared.Position.{Position}
use Rattle.report.specs.Lines.{LINE, numbers, position_line}
use Rattle.report.specs.Lengths.{named_most, figures_most, position_most}
use Rattle.report.specs.Pages.{Put, back, put_none, put_byte, put_lent, put_text, put_count, put_wrote, length_lent, back_length}
use Rattle.report.proofs.Texts.{position_text_lem}
use Rattle.report.proofs.position_line.Goals as goal
use Rattle.report.proofs.position_line.Lts as lts
use Rattle.report.proofs.position_line.Tie as tie
use Rattle.report.proofs.position_line.Reads as reads

abbrev Start : Type 0
Start = lts.Start tie.the-claims reads.Pre reads.Post

abbrev Else-page-lt-LINE : Type 0
Else-page-lt-LINE = lts.Else1 tie.the-claims reads.Pre reads.Post

abbrev After-struct_known-7-1 : Type 0
After-struct_known-7-1 = lts.After-struct_known7 tie.the-claims reads.Pre reads.Post

abbrev After-slice_known-2-1 : Type 0
After-slice_known-2-1 = lts.After-slice_known2 tie.the-claims reads.Pre reads.Post

abbrev After-side_of : Type 0
After-side_of = lts.After-side_of tie.the-claims reads.Pre reads.Post

abbrev After-slice_known-3-1 : Type 0
After-slice_known-3-1 = lts.After-slice_known3 tie.the-claims reads.Pre reads.Post

-- the places at which the numbers are known, the first of them are put, and the rest of them are
abbrev enough : After-struct_known-7-1 → Else-page-lt-LINE
enough c = c.before.before.before.before.before.before.before

abbrev start : After-struct_known-7-1 → Start
start c = (enough c).before.before

abbrev begun : After-slice_known-2-1 → After-struct_known-7-1
begun m = m.before.before.before.before.before

abbrev sided : After-slice_known-3-1 → After-side_of
sided e = e.before.before.before.before.before

-- the position's name, and its figures
abbrev names : After-struct_known-7-1 → List ℕ
names c =
    let a = (start c).args in
    a.number ∷ a.position.member ∷ []

abbrev figures : Position → List ℕ
figures p = p.netted ∷ p.delivered ∷ p.bought ∷ p.cash ∷ p.paired ∷ p.unsettled ∷ []

-- the stored letter leaves the page as long as it was
long : (c : After-struct_known-7-1) → 80 ≤ length (set (start c).args.page.now 0 115)
long c = omega (arith, length-set (start c).args.page.now 0 115, (enough c).if-page-lt-LINE.false)

-- the name has at most 10 bytes, the figures at most 66, and the line at most 80
named_few : (c : After-struct_known-7-1) → length (numbers (names c)) ≤ 10
named_few c =
    named_most (start c).args.number (start c).args.position.member (start c).ranges.number.fits (omega arith)

figures_few : (c : After-struct_known-7-1) → length (numbers (figures (start c).args.position)) ≤ 66
figures_few c =
    figures_most (figures (start c).args.position) (omega (arith, c.struct_known-7-1.given), (omega (arith, c.struct_known-7-1.given), (omega (arith, c.struct_known-7-1.given), (omega (arith, c.struct_known-7-1.given), (omega (arith, c.struct_known-7-1.given), (omega (arith, c.struct_known-7-1.given), tt))))))

brief : (c : After-struct_known-7-1) → length (position_line (start c).args.number (start c).args.position) ≤ LINE
brief c =
    position_most (start c).args.number (start c).args.position (start c).ranges.number.fits (omega (arith, c.struct_known-7-1.given)) (omega (arith, c.struct_known-7-1.given)) (omega (arith, c.struct_known-7-1.given)) (omega (arith, c.struct_known-7-1.given)) (omega (arith, c.struct_known-7-1.given)) (omega (arith, c.struct_known-7-1.given)) (omega (arith, c.struct_known-7-1.given))

pub put_numbers-named-requires : goal.put_numbers-named-requires
put_numbers-named-requires c =
    omega (arith, long c.before.before, length_lent 1 (set (start c.before.before).args.page.now 0 115), named_few c.before.before)

-- the page after the letter, the number and the member, in at most 11 bytes
abbrev page₁ : After-slice_known-2-1 → List ℕ
page₁ m = back 1 (set (start (begun m)).args.page.now 0 115) m.put_numbers-named.new.page

named : (m : After-slice_known-2-1) → Put (115 ∷ numbers (names (begun m))) (start (begun m)).args.page.now (page₁ m) (1 + m.put_numbers-named.result)
named m =
    let page = (start (begun m)).args.page.now in
    let d = m.put_numbers-named in
    put_lent (115 ∷ []) page (set page 0 115) 1 (put_byte [] page page 0 (put_none page) 115 (omega (arith, (enough (begun m)).if-page-lt-LINE.false))) (numbers (names (begun m))) d.new.page d.result d.ensures

short : (m : After-slice_known-2-1) → m.put_numbers-named.result ≤ 10
short m = omega (arith, m.put_numbers-named.ensures.bytes, named_few (begun m))

long₁ : (m : After-slice_known-2-1) → 80 ≤ length (page₁ m)
long₁ m =
    let d = m.put_numbers-named in
    omega (arith, back_length 1 (set (start (begun m)).args.page.now 0 115) d.new.page d.auto.page, long (begun m))

pub bounds-page-named : goal.bounds-page-named
bounds-page-named c = omega (arith, short c, long₁ c)

-- the page after the position's side
abbrev page₂ : After-side_of → List ℕ
page₂ o =
    let r = o.put_numbers-named.result in
    set (set (page₁ o.before) (1 + r) 32) (1 + r + 1) o.side_of.result

long₂ : (o : After-side_of) → 80 ≤ length (page₂ o)
long₂ o =
    let r = o.put_numbers-named.result in
    let p = page₁ o.before in
    omega (arith, length-set (set p (1 + r) 32) (1 + r + 1) o.side_of.result, length-set p (1 + r) 32, long₁ o.before)

pub bounds-page-letter : goal.bounds-page-letter
bounds-page-letter c =
    let r = c.put_numbers-named.result in
    omega (arith, length-set (page₁ c.before) (1 + r) 32, short c.before, long₁ c.before)

pub slice_bounds-put_numbers-count-2 : goal.slice_bounds-put_numbers-count-2
slice_bounds-put_numbers-count-2 c = omega (arith, short c.before, long₂ c)

pub slice_bounds-put_numbers-start-2 : goal.slice_bounds-put_numbers-start-2
slice_bounds-put_numbers-start-2 c = omega (arith, short c.before, long₂ c)

pub put_numbers-requires : goal.put_numbers-requires
put_numbers-requires c =
    omega (arith, short c.before.before.before, long₂ c.before.before, figures_few (begun c.before.before.before), length_lent (1 + c.put_numbers-named.result + 2) (page₂ c.before.before))

-- where the line ends, and the page after the figures
abbrev end : After-slice_known-3-1 → ℕ
end e = 1 + (sided e).put_numbers-named.result + 2 + e.put_numbers.result

abbrev page₃ : After-slice_known-3-1 → List ℕ
page₃ e = back (1 + (sided e).put_numbers-named.result + 2) (page₂ (sided e)) e.put_numbers.new.page

long₃ : (e : After-slice_known-3-1) → 80 ≤ length (page₃ e)
long₃ e =
    let o = sided e in
    let d = e.put_numbers in
    omega (arith, back_length (1 + o.put_numbers-named.result + 2) (page₂ o) d.new.page d.auto.page, long₂ o)

little : (e : After-slice_known-3-1) → end e ≤ 79
little e =
    let m = (sided e).before in
    omega (arith, e.put_numbers.ensures.bytes, figures_few (begun m), short m)

pub bounds-page-end : goal.bounds-page-end
bounds-page-end c = omega (arith, little c, long₃ c)

-- the whole line is put
whole : (e : After-slice_known-3-1) → let a = (start (begun (sided e).before)).args in
    Put (position_line a.number a.position) a.page.now (set (page₃ e) (end e) 10) (end e + 1)
whole e =
    let o = sided e in
    let m = o.before in
    let a = (start (begun m)).args in
    let page = a.page.now in
    let p = a.position in
    let r = m.before.before.put_numbers-named.result in
    let d = e.put_numbers in
    let t₁ : List ℕ = 115 ∷ numbers (a.number ∷ p.member ∷ []) in
    let six : List ℕ = numbers (figures p) in
    let s : ℕ = o.side_of.result in
    let w₁ = put_byte t₁ page (page₁ m) (1 + r) (named m) 32 (omega (arith, short m, long₁ m)) in
    let w₂ = put_byte (t₁ ++ (32 ∷ [])) page (set (page₁ m) (1 + r) 32) (1 + r + 1) w₁ s (omega (arith, length-set (page₁ m) (1 + r) 32, short m, long₁ m)) in
    let w₃ = put_count (t₁ ++ (32 ∷ []) ++ (s ∷ [])) page (page₂ o) (1 + r + 1 + 1) (1 + r + 2) (omega arith) w₂ in
    let w₄ = put_lent (t₁ ++ (32 ∷ []) ++ (s ∷ [])) page (page₂ o) (1 + r + 2) w₃ six d.new.page d.result d.ensures in
    let w₅ = put_byte (t₁ ++ (32 ∷ []) ++ (s ∷ []) ++ six) page (page₃ e) (end e) w₄ 10 (omega (arith, little e, long₃ e)) in
    put_text (t₁ ++ (32 ∷ []) ++ (s ∷ []) ++ six ++ (10 ∷ [])) (position_line a.number p) page (set (page₃ e) (end e) 10) (end e + 1)
    (ap (λ (x : ℕ). t₁ ++ (32 ∷ []) ++ (x ∷ []) ++ six ++ (10 ∷ [])) o.side_of.ensures ∙ position_text_lem a.number p) w₅

pub returns : goal.returns
returns c =
    let k = begun (sided c).before in
    let a = (start k).args in
    put_wrote LINE (position_line a.number a.position) a.page.now _ _ (enough k).if-page-lt-LINE.false (brief k) (whole c)
