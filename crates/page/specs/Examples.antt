-- Worked examples, by computation: the page of document 01's squeeze, and answers.
use Rattle.std.specs.Prelude.{ℕ, ◌≡◌, refl, List, [], ◌∷◌, ◌++◌}
use Rattle.laws.specs.Lists.{each}
use Rattle.rules.specs.Windows.{share_step, recurring_step, step_on}
use Rattle.rules.specs.Prices.{ceiling, raised, cash_price}
use Rattle.rules.specs.Charges.{rounded_half_up, fee, cash_fee, award_fine, late_fine, buy_in_charge, in_cents}
use Rattle.register.specs.Register as register
use Rattle.plain.specs.Histories as histories
use Rattle.plain.specs.Worked.{xx, one_share, squeeze}
use Rattle.page.specs.Columns.{blanks}
use Rattle.page.specs.Page.{page_text, computing}

-- a line by its texts and the blanks before each; it ends with column 79, the letter O of own business and a line feed
abbrev shown : List ℕ → List ℕ → ℕ → List (List ℕ) → List ℕ
shown number member side figures =
    each (λ text. text)
    ((blanks 3 ++ number) ∷ (blanks 2 ++ member) ∷ (blanks 1 ++ xx 50) ∷ (32 ∷ side ∷ []) ∷ figures)
    ++ (32 ∷ 79 ∷ 10 ∷ [])

-- the line `   1  1 XX0000000002 D       150        30        30        90         0     3 O`, and those of the two longs
page : page_text (histories.run one_share squeeze)
    ≡ shown (49 ∷ []) (49 ∷ []) 68 (
    (blanks 7 ++ (49 ∷ 53 ∷ 48 ∷ []))
    ∷ (blanks 8 ++ (51 ∷ 48 ∷ []))
    ∷ (blanks 8 ++ (51 ∷ 48 ∷ []))
    ∷ (blanks 8 ++ (57 ∷ 48 ∷ []))
    ∷ (blanks 9 ++ (48 ∷ []))
    ∷ (blanks 5 ++ (51 ∷ []))
    ∷ [])
    ++ shown (50 ∷ []) (50 ∷ []) 82 (
    (blanks 7 ++ (49 ∷ 48 ∷ 48 ∷ []))
    ∷ (blanks 8 ++ (51 ∷ 48 ∷ []))
    ∷ (blanks 8 ++ (51 ∷ 48 ∷ []))
    ∷ (blanks 8 ++ (52 ∷ 48 ∷ []))
    ∷ (blanks 9 ++ (48 ∷ []))
    ∷ (blanks 5 ++ (51 ∷ []))
    ∷ [])
    ++ shown (51 ∷ []) (51 ∷ []) 82 (
    (blanks 8 ++ (53 ∷ 48 ∷ []))
    ∷ (blanks 9 ++ (48 ∷ []))
    ∷ (blanks 9 ++ (48 ∷ []))
    ∷ (blanks 8 ++ (53 ∷ 48 ∷ []))
    ∷ (blanks 9 ++ (48 ∷ []))
    ∷ (blanks 5 ++ (51 ∷ []))
    ∷ [])
unfolding share_step recurring_step step_on ceiling raised cash_price rounded_half_up fee cash_fee award_fine late_fine buy_in_charge in_cents register.computing histories.computing computing
page = refl
