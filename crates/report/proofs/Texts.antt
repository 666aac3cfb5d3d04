-- Lines whose fields are put one by one.
use Prim.Native.Nat.{ℕ}
use mathlib.Core.Path.{◌≡◌, ap}
use mathlib.Core.List.{List, [], ◌∷◌, ◌++◌, append_assoc, append-nil}
use lib.IntN.{ℤ}
use Rattle.plain.specs.declared.Position.{Position}
use Rattle.report.specs.Digits.{digits}
use Rattle.report.specs.Lines.{field, numbers, number, side, signed, account_line, position_line}

account_fields : (a b : List ℕ) → ((97 ∷ 32 ∷ a) ++ (32 ∷ b)) ++ (10 ∷ []) ≡ 97 ∷ 32 ∷ ((a ++ (32 ∷ (b ++ []))) ++ (10 ∷ []))
account_fields a b = simp (append-nil)

pub account_text_lem : (account : ℕ) (cents : ℤ) → ((97 ∷ number account) ++ field (signed cents)) ++ (10 ∷ []) ≡ account_line account cents
unfolding account_line
account_text_lem account cents = account_fields (digits account) (signed cents)

position_fields : (a b r : List ℕ) (s : ℕ) → ((((115 ∷ 32 ∷ (a ++ (32 ∷ (b ++ [])))) ++ (32 ∷ [])) ++ (s ∷ [])) ++ r) ++ (10 ∷ []) ≡ 115 ∷ 32 ∷ ((a ++ (32 ∷ (b ++ (32 ∷ s ∷ r)))) ++ (10 ∷ []))
position_fields a b r s =
    simp (append_assoc, append-nil) (ap (λ (l : List ℕ). 115 ∷ 32 ∷ (a ++ 32 ∷ l)) (append_assoc b (32 ∷ s ∷ r) (10 ∷ [])))

pub position_text_lem : (n : ℕ) (p : Position) → ((((115 ∷ numbers (n ∷ p.member ∷ [])) ++ (32 ∷ [])) ++ (side p.short ∷ [])) ++ numbers (p.netted ∷ p.delivered ∷ p.bought ∷ p.cash ∷ p.paired ∷ p.unsettled ∷ [])) ++ (10 ∷ []) ≡ position_line n p
unfolding position_line
position_text_lem n p =
    position_fields (digits n) (digits p.member) (numbers (p.netted ∷ p.delivered ∷ p.bought ∷ p.cash ∷ p.paired ∷ p.unsettled ∷ [])) (side p.short)
