-- Columns laid out in a line: how long the line is, what is read back from it, and a text stored in the next column of a line.
use Prim.Native.Nat.{ℕ, zero, suc, ◌+◌, ◌-◌, ◌*◌, ◌≤◌, ◌<◌}
use native.Mathlib.Omega.{arith}
use mathlib.Core.Path.{◌≡◌, refl, ap, ap₂, sym, ◌∙◌}
use mathlib.Core.List.{List, [], ◌∷◌, ◌++◌, append_assoc}
use mathlib.Core.Bool.{true, false, not, ◌&&◌}
use lib.ListN.{length, get_or, take, drop, length-append, length-drop, length-replicate, replicate-append-replicate}
use lib.Seq.{sets, take_at, drop_at, drop-append-add, length-take-le}
use lib.Dec.{leb, eqb}
use borrow.Author.Tests.{ne_eqb, leb-true}
use Rattle.laws.specs.Lists.{All, filter}
use Rattle.laws.specs.Asked.{Within, and_left, and_right}
use Rattle.laws.specs.Parts.{sets_front}
use Rattle.report.specs.Digits.{digits, value, digits_value, digits_are, Digit}
use Rattle.report.specs.Pages.{sets_past}
use Rattle.page.specs.Page.{isin_of}
use Rattle.page.specs.Columns.{Column, column, width, blanks, right_aligned, COLUMNS, LINE, columns_from, line, Fits, in_order, places_of, figure_in}

-- ---- columns that are in order and fit

-- the same, column by column
abbrev pub Laid : ℕ → List Column → Type 0
Laid place [] = place ≤ COLUMNS + 1
Laid place (c ∷ cs) = (place ≤ c.first) × (c.first ≤ c.last) × (length c.text ≤ width c) × Laid (c.last + 1) cs

pub laid : (place : ℕ) (cs : List Column) → in_order place cs ≡ true → Fits cs → Laid place cs
laid place [] e h = leb-true place (COLUMNS + 1) e
laid place (c ∷ cs) e h =
    let both = and_left (leb place c.first && leb c.first c.last) (in_order (c.last + 1) cs) e in (
      leb-true place c.first (and_left (leb place c.first) (leb c.first c.last) both),
      leb-true c.first c.last (and_right (leb place c.first) (leb c.first c.last) both),
      h.0,
      laid (c.last + 1) cs (and_right (leb place c.first && leb c.first c.last) (in_order (c.last + 1) cs) e) h.1,
    )

-- ---- lengths

length_blanks : (n : ℕ) → length (blanks n) ≡ n
length_blanks n = length-replicate n 32

pub length_right : (places : ℕ) (text : List ℕ) → length text ≤ places → length (right_aligned places text) ≡ places
length_right places text h =
    length-append (blanks (places - length text)) text ∙ omega (arith, length_blanks (places - length text))

pub length_isin : (isins : List ℕ) (security : ℕ) → length isins ≡ 384 → Within 1 32 security → length (isin_of isins security) ≡ 12
length_isin isins security e h =
    length-take-le 12 (drop (12 * (security - 1)) isins) (omega (arith, e, h.above, h.below, length-drop (12 * (security - 1)) isins))

-- what stands before the columns that follow a first one
abbrev head : ℕ → Column → List ℕ
head place c = blanks (c.first - place) ++ right_aligned (width c) c.text

length_head : (place : ℕ) (c : Column) (cs : List Column) → Laid place (c ∷ cs) → length (head place c) ≡ c.last + 1 - place
length_head place c cs h =
    length-append (blanks (c.first - place)) (right_aligned (width c) c.text)
    ∙ omega (arith, h.0, h.1, length_blanks (c.first - place), length_right (width c) c.text h.2)

from_head : (place : ℕ) (c : Column) (cs : List Column) → columns_from place (c ∷ cs) ≡ head place c ++ columns_from (c.last + 1) cs
unfolding columns_from
from_head place c cs = sym (append_assoc (blanks (c.first - place)) (right_aligned (width c) c.text) (columns_from (c.last + 1) cs))

laid_within : (place : ℕ) (cs : List Column) → Laid place cs → place ≤ COLUMNS + 1
laid_within place [] h = h
laid_within place (c ∷ cs) h = omega (arith, h.0, h.1, laid_within (c.last + 1) cs h.3)

pub length_columns : (place : ℕ) (cs : List Column) → Laid place cs → length (columns_from place cs) ≡ COLUMNS + 1 - place
unfolding columns_from
length_columns place [] h = length_blanks (COLUMNS + 1 - place)
length_columns place (c ∷ cs) h =
    ap length (from_head place c cs)
    ∙ length-append (head place c) (columns_from (c.last + 1) cs)
    ∙ omega (arith, h.0, h.1, length_head place c cs h, length_columns (c.last + 1) cs h.3, laid_within (c.last + 1) cs h.3)

-- a line has 81 bytes
pub length_line : (cs : List Column) → Laid 1 cs → length (line cs) ≡ LINE
unfolding line
length_line cs h = length-append (columns_from 1 cs) (10 ∷ []) ∙ omega (arith, length_columns 1 cs h)

-- ---- a text stored at the right end of blanks

stored_blank : (a k : ℕ) (text rest : List ℕ) → k + length text ≤ a
    → sets (blanks a ++ rest) k text ≡ blanks k ++ (text ++ (blanks (a - (k + length text)) ++ rest))
stored_blank a k text rest h =
    let n = length text in
    let m = a - (k + n) in
    let more : blanks a ≡ blanks k ++ (blanks n ++ blanks m) =
    ap blanks (let e : a ≡ k + (n + m) = omega arith in e)
    ∙ sym (replicate-append-replicate k (n + m) 32)
    ∙ ap (λ (l : List ℕ). blanks k ++ l) (sym (replicate-append-replicate n m 32)) in
    let tail : List ℕ = blanks m ++ rest in
    let cut : blanks a ++ rest ≡ blanks k ++ (blanks n ++ tail) =
    ap (λ (l : List ℕ). l ++ rest) more
    ∙ append_assoc (blanks k) (blanks n ++ blanks m) rest
    ∙ ap (λ (l : List ℕ). blanks k ++ l) (append_assoc (blanks n) (blanks m) rest) in
    let long : n ≤ length (blanks n ++ tail) = omega (arith, length-append (blanks n) tail, length_blanks n) in
    ap (λ (l : List ℕ). sets l k text) cut
    ∙ sets_past (blanks k) (blanks n ++ tail) text k 0 (omega (arith, length_blanks k))
    ∙ ap (λ (l : List ℕ). blanks k ++ l) (sets_front (blanks n ++ tail) text long ∙ ap (λ (l : List ℕ). text ++ l) (drop_at (blanks n) tail n (length_blanks n)))

-- ---- a text stored in the next column

-- the columns of a list and then one more
abbrev pub adding : List Column → Column → List Column
adding cs c = cs ++ (c ∷ [])

-- the next column ends far enough behind the place
next_low : (place : ℕ) (cs : List Column) (c : Column) → Laid place (adding cs c) → place + length c.text ≤ c.last + 1
next_low place [] c h = omega (arith, h.0, h.1, h.2)
next_low place (d ∷ ds) c h = omega (arith, h.0, h.1, next_low (d.last + 1) ds c h.3)

next_column : (place : ℕ) (cs : List Column) (c : Column) (rest : List ℕ) → Laid place (adding cs c)
    → sets (columns_from place cs ++ rest) (c.last + 1 - (place + length c.text)) c.text ≡ columns_from place (adding cs c) ++ rest
unfolding columns_from
next_column place [] c rest h =
    let n = length c.text in
    let k = c.last + 1 - (place + n) in
    let gap = c.first - place in
    let pad = width c - n in
    let after = COLUMNS + 1 - (c.last + 1) in
    let fits : n ≤ width c = h.2 in
    let before : blanks k ≡ blanks gap ++ blanks pad = ap blanks (let e : k ≡ gap + pad = omega (arith, h.0, h.1) in e) ∙ sym (replicate-append-replicate gap pad 32) in
    let ends : COLUMNS + 1 - place - (k + n) ≡ after = omega (arith, h.0, h.1, h.3) in
    stored_blank (COLUMNS + 1 - place) k c.text rest (omega (arith, h.0, h.1, h.3))
    ∙ ap₂ (λ (l : List ℕ) (m : ℕ). l ++ (c.text ++ (blanks m ++ rest))) before ends
    ∙ shape (blanks gap) (blanks pad) c.text (blanks after) rest
  where
    shape : (a b t d r : List ℕ) → (a ++ b) ++ (t ++ (d ++ r)) ≡ (a ++ ((b ++ t) ++ d)) ++ r
    shape a b t d r =
        append_assoc a b (t ++ (d ++ r))
        ∙ ap (λ (l : List ℕ). a ++ l) (sym (append_assoc b t (d ++ r)) ∙ sym (append_assoc (b ++ t) d r))
        ∙ sym (append_assoc a ((b ++ t) ++ d) r)
next_column place (d ∷ ds) c rest h =
    let at = c.last + 1 - (place + length c.text) in
    let k = c.last + 1 - (d.last + 1 + length c.text) in
    let low : d.last + 1 + length c.text ≤ c.last + 1 = next_low (d.last + 1) ds c h.3 in
    ap (λ (l : List ℕ). sets (l ++ rest) at c.text) (from_head place d ds)
    ∙ ap (λ (l : List ℕ). sets l at c.text) (append_assoc (head place d) (columns_from (d.last + 1) ds) rest)
    ∙ sets_past (head place d) (columns_from (d.last + 1) ds ++ rest) c.text at k (omega (arith, low, h.0, h.1, length_head place d (adding ds c) h))
    ∙ ap (λ (l : List ℕ). head place d ++ l) (next_column (d.last + 1) ds c rest h.3)
    ∙ sym (append_assoc (head place d) (columns_from (d.last + 1) (adding ds c)) rest)
    ∙ ap (λ (l : List ℕ). l ++ rest) (sym (from_head place d (adding ds c)))

pub line_next : (cs : List Column) (c : Column) (rest : List ℕ) → Laid 1 (adding cs c)
    → sets (line cs ++ rest) (c.last - length c.text) c.text ≡ line (adding cs c) ++ rest
unfolding line
line_next cs c rest h =
    let at : c.last - length c.text ≡ c.last + 1 - (1 + length c.text) = omega arith in
    ap₂ (λ (l : List ℕ) (n : ℕ). sets l n c.text) (append_assoc (columns_from 1 cs) (10 ∷ []) rest) at
    ∙ next_column 1 cs c (10 ∷ rest) h
    ∙ sym (append_assoc (columns_from 1 (adding cs c)) (10 ∷ []) rest)

-- ---- what is read back

abbrev pub nowhere : Column
nowhere = column 0 0 []

laid_low : (place : ℕ) (cs : List Column) (i : ℕ) → Laid place cs → i < length cs → place ≤ (get_or cs i nowhere).first
laid_low place [] i h l = absurd (omega arith)
laid_low place (c ∷ cs) zero h l = h.0
laid_low place (c ∷ cs) (suc i) h l = omega (arith, h.0, h.1, laid_low (c.last + 1) cs i h.3 (omega arith))

column_read : (place : ℕ) (cs : List Column) (i : ℕ) (rest : List ℕ) → Laid place cs → i < length cs → let c = get_or cs i nowhere in
    take (width c) (drop (c.first - place) (columns_from place cs ++ rest)) ≡ right_aligned (width c) c.text
column_read place [] i rest h l = absurd (omega arith)
column_read place (c ∷ cs) zero rest h l =
    let tail = columns_from (c.last + 1) cs ++ rest in
    let text = right_aligned (width c) c.text in
    let gap = c.first - place in
    let cut : columns_from place (c ∷ cs) ++ rest ≡ blanks gap ++ (text ++ tail) =
    ap (λ (l : List ℕ). l ++ rest) (from_head place c cs)
    ∙ append_assoc (head place c) (columns_from (c.last + 1) cs) rest
    ∙ append_assoc (blanks gap) text tail in
    ap (λ (l : List ℕ). take (width c) (drop gap l)) cut
    ∙ ap (take (width c)) (drop_at (blanks gap) (text ++ tail) gap (length_blanks gap))
    ∙ take_at text tail (width c) (length_right (width c) c.text h.2)
column_read place (d ∷ ds) (suc i) rest h l =
    let c = get_or ds i nowhere in
    let tail = columns_from (d.last + 1) ds ++ rest in
    let k = c.first - (d.last + 1) in
    let low : d.last + 1 ≤ c.first = laid_low (d.last + 1) ds i h.3 (omega arith) in
    ap (λ (l : List ℕ). take (width c) (drop (c.first - place) l))
    (ap (λ (l : List ℕ). l ++ rest) (from_head place d ds) ∙ append_assoc (head place d) (columns_from (d.last + 1) ds) rest)
    ∙ ap (λ (n : ℕ). take (width c) (drop n (head place d ++ tail))) (let e : c.first - place ≡ length (head place d) + k = omega (arith, low, h.0, h.1, length_head place d ds h) in e)
    ∙ ap (take (width c)) (drop-append-add (head place d) tail k)
    ∙ column_read (d.last + 1) ds i rest h.3 (omega arith)

-- the places of column i of a line
pub line_read : (cs : List Column) (i : ℕ) → Laid 1 cs → i < length cs → let c = get_or cs i nowhere in
    places_of c.first c.last (line cs) ≡ right_aligned (width c) c.text
unfolding line
line_read cs i h l = column_read 1 cs i (10 ∷ []) h l

-- blanks are left out, and digits are not
no_blank : (t : List ℕ) → All Digit t → filter (λ byte. not (eqb byte 32)) t ≡ t
no_blank [] h = refl
no_blank (x ∷ t) h =
    let e : eqb x 32 ≡ false = ne_eqb x 32 (λ z. omega (arith, h.0.0)) in
    rw e (ap (λ (l : List ℕ). x ∷ l) (no_blank t h.1))

without_blanks : (k : ℕ) (t : List ℕ) → All Digit t → filter (λ byte. not (eqb byte 32)) (blanks k ++ t) ≡ t
without_blanks zero t h = no_blank t h
without_blanks (suc k) t h = without_blanks k t h

-- the digits of a column read back give the figure
pub figure_read : (cs : List Column) (i n : ℕ) → Laid 1 cs → i < length cs → (get_or cs i nowhere).text ≡ digits n → let c = get_or cs i nowhere in
    figure_in c.first c.last (line cs) ≡ n
figure_read cs i n h l e =
    let c = get_or cs i nowhere in
    ap (λ (bytes : List ℕ). value (filter (λ byte. not (eqb byte 32)) bytes)) (line_read cs i h l ∙ ap (right_aligned (width c)) e)
    ∙ ap value (without_blanks (width c - length (digits n)) (digits n) (digits_are n))
    ∙ digits_value n
