-- The check of an ISIN (document 01, 'Register and day'): "two capital letters, nine digits or capitals, one check digit:
-- letters become 10 to 35, the resulting digits are doubled at every second place from the right, starting beside the check
-- digit, digit sums are added, and the total is a multiple of 10."
use Rattle.std.specs.Prelude.{ℕ, ◌+◌, ◌-◌, ◌*◌, ◌/◌, ◌%◌, List, [], ◌∷◌, reverse, Bool, false, cond, not, ◌&&◌, ◌||◌, length, take, drop, eqb}
use Rattle.laws.specs.Lists.{only, each, every}
use Rattle.laws.specs.Asked.{within}

-- "capital letters", A to Z; "digits", 0 to 9; "digits or capitals": characters are ASCII
abbrev pub is_capital : ℕ → Bool
is_capital c = within 65 90 c

abbrev pub is_digit : ℕ → Bool
is_digit c = within 48 57 c

abbrev pub is_character : ℕ → Bool
is_character c = is_digit c || is_capital c

-- "letters become 10 to 35", a digit is its own value
unfoldable pub value : ℕ → ℕ
value c = cond (is_capital c) (c - 55) (only (is_digit c) (c - 48))

-- "the resulting digits": two of a letter, one of a digit
unfoldable pub digits : ℕ → List ℕ
digits c = cond (is_capital c) (value c / 10 ∷ value c % 10 ∷ []) (value c ∷ [])

-- the digit sum of a number below 100
unfoldable pub digit_sum : ℕ → ℕ
digit_sum n = n / 10 + n % 10

abbrev pub twice : Bool → ℕ → ℕ
twice doubled d = cond doubled (2 * d) d

-- the digit sums of a list of digits, every second digit doubled: the first one where `doubled` says so
unfoldable pub digit_sums : Bool → List ℕ → ℕ
digit_sums doubled [] = 0
digit_sums doubled (d ∷ ds) = digit_sum (twice doubled d) + digit_sums (not doubled) ds

-- "doubled at every second place from the right, starting beside the check digit": the check digit itself is not doubled
unfoldable pub check_sum : List ℕ → ℕ
check_sum text = digit_sums false (reverse (each digits text))

-- whether the digit to the left of c's digits is doubled, where c's right one is `doubled`: a letter has two digits, a digit one
unfoldable pub doubled_before : ℕ → Bool → Bool
doubled_before c doubled = cond (is_capital c) doubled (not doubled)

unfoldable pub isin : List ℕ → Bool
isin text =
    eqb (length text) 12
    && every is_capital (take 2 text)
    && every is_character (take 9 (drop 2 text))
    && every is_digit (drop 11 text)
    && eqb (check_sum text % 10) 0

-- Unfolding this unfolds the check: for worked examples.
unfoldable pub computing : Unit {0}
unfolding within value digits digit_sum digit_sums check_sum doubled_before isin
computing = tt
