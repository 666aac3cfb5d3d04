-- How long each line and each block of lines can be.
use Rattle.std.specs.Prelude.{ℕ, zero, suc, ◌+◌, ◌*◌, ◌^◌, ◌≤◌, ◌<◌, ◌≡◌, refl, List, [], ◌∷◌, Bool, true, false, length}
use Rattle.std.proofs.Common.{arith, length-append}
use Rattle.laws.specs.Lists.{sum, each, All}
use Rattle.plain.specs.declared.Position.{Position}
use Rattle.plain.specs.declared.Piece.{Piece}
use Rattle.report.specs.Digits.{digits, digits_most}
use Rattle.report.specs.Lines.{field, line, numbers, side, signed, amount, event_line, piece_line, position_line, account_line, refusal_line, LINE}

-- a field has a byte more than what stands in it, its blank
pub length_fields : (fields : List (List ℕ)) → length (each field fields) ≡ sum (λ f. length f + 1) fields
length_fields [] = refl
length_fields (f ∷ fs) = omega (arith, length-append f (each field fs), length_fields fs)

pub length_numbers : (ns : List ℕ) → length (numbers ns) ≡ sum (λ n. length (digits n) + 1) ns
length_numbers [] = refl
length_numbers (n ∷ ns) = omega (arith, length-append (digits n) (numbers ns), length_numbers ns)

-- a line has a letter and a line feed besides
pub length_line : (letter : ℕ) (fields : List (List ℕ)) → length (line letter fields) ≡ sum (λ f. length f + 1) fields + 2
length_line letter fields = omega (arith, length-append (each field fields) (10 ∷ []), length_fields fields)

-- the most digits of numbers of 8, 16, 32 and 64 bits
pub most8 : (n : ℕ) → n < 2 ^ 8 → length (digits n) ≤ 3
most8 n h = digits_most 2 n (omega arith)

pub most16 : (n : ℕ) → n < 2 ^ 16 → length (digits n) ≤ 5
most16 n h = digits_most 4 n (omega arith)

pub most32 : (n : ℕ) → n < 2 ^ 32 → length (digits n) ≤ 10
most32 n h = digits_most 9 n (omega arith)

pub most64 : (n : ℕ) → n < 2 ^ 64 → length (digits n) ≤ 20
most64 n h = digits_most 19 n (omega arith)

-- an amount of 64 bits has at most a sign more
pub most_amount : (negative : Bool) (n : ℕ) → n < 2 ^ 64 → length (signed (amount negative n)) ≤ 21
unfolding signed
most_amount true zero h = omega (arith, most64 0 h)
most_amount true (suc n) h = omega (arith, most64 (suc n) h)
most_amount false n h = omega (arith, most64 n h)

-- ---- each line is at most `LINE` bytes long
pub event_most : (number refusal quantity : ℕ) → number < 2 ^ 32 → refusal < 2 ^ 8 → quantity < 2 ^ 32 → length (event_line number refusal quantity) ≤ LINE
unfolding event_line
event_most number refusal quantity h k l =
    let e = length_line 101 (digits number ∷ digits refusal ∷ digits quantity ∷ []) in
    omega (arith, most32 number h, most8 refusal k, most32 quantity l)

pub refusal_most : (number : ℕ) → number < 2 ^ 8 → length (refusal_line number) ≤ LINE
unfolding refusal_line
refusal_most number h =
    let e = length_line 102 (digits number ∷ []) in
    omega (arith, most8 number h)

pub piece_most : (p : Piece) → p.short < 2 ^ 16 → p.long < 2 ^ 16 → p.quantity < 2 ^ 32 → p.cents < 2 ^ 64 → length (piece_line p) ≤ LINE
unfolding piece_line
piece_most p h k l m =
    let e = length_line 112 (digits p.short ∷ digits p.long ∷ digits p.quantity ∷ digits p.cents ∷ []) in
    omega (arith, most16 p.short h, most16 p.long k, most32 p.quantity l, most64 p.cents m)

pub account_most : (account : ℕ) (negative : Bool) (cents : ℕ) → account < 2 ^ 8 → cents < 2 ^ 64 → length (account_line account (amount negative cents)) ≤ LINE
unfolding account_line
account_most account negative cents h k =
    let e = length_line 97 (digits account ∷ signed (amount negative cents) ∷ []) in
    omega (arith, most8 account h, most_amount negative cents k)

-- a position's numbers before and after its letter, however many, and its line
pub named_most : (number member : ℕ) → number < 2 ^ 16 → member < 2 ^ 8 → length (numbers (number ∷ member ∷ [])) ≤ 10
named_most number member h k =
    let e = length_numbers (number ∷ member ∷ []) in
    omega (arith, most16 number h, most8 member k)

pub figures_most : (ns : List ℕ) → All (λ n. n < 2 ^ 32) ns → length (numbers ns) ≤ 11 * length ns
figures_most [] h = omega arith
figures_most (n ∷ ns) h = omega (arith, length-append (digits n) (numbers ns), most32 n h.0, figures_most ns h.1)

pub position_most : (n : ℕ) (p : Position) → n < 2 ^ 16 → p.member < 2 ^ 8 → p.netted < 2 ^ 32 → p.delivered < 2 ^ 32 → p.bought < 2 ^ 32 → p.cash < 2 ^ 32 → p.paired < 2 ^ 32 → p.unsettled < 2 ^ 32
    → length (position_line n p) ≤ LINE
unfolding position_line
position_most n p hn hm ha hb hc hd he hf =
    let l =
    length_line 115 (digits n ∷ digits p.member ∷ (side p.short ∷ []) ∷ digits p.netted ∷ digits p.delivered ∷ digits p.bought ∷ digits p.cash ∷ digits p.paired ∷ digits p.unsettled ∷ []) in
    omega (arith, most16 n hn, most8 p.member hm, most32 p.netted ha, most32 p.delivered hb, most32 p.bought hc, most32 p.cash hd, most32 p.paired he, most32 p.unsettled hf)
