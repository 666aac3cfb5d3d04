-- A register's bytes (document 01, 'Register and day'): "A register is a count (u16), then that many class bytes, then that many
-- 12-byte ISINs. Words are little-endian. Count is 1 to 32; securities are numbered from 1."
use Rattle.std.specs.Prelude.{ℕ, ◌+◌, ◌*◌, ◌≤◌, ◌≡◌, List, [], ◌∷◌, Bool, not, ◌&&◌, length, get_or, take, drop, replicate, eqb}
use Rattle.laws.specs.Limits.{SECURITIES}
use Rattle.laws.specs.Lists.{range, each, some}
use Rattle.laws.specs.Asked.{within}
use Rattle.laws.specs.Parts.{padded}
use Rattle.laws.specs.Refusals.{Reason, ◌⇒◌, first, accepted}
use Rattle.laws.specs.Words.{word16_at}
use Rattle.laws.specs.Places.{same}
use Rattle.register.specs.Isin.{isin}
use Rattle.register.specs.declared.Register.{Register}

unfoldable pub count : List ℕ → ℕ
count bytes = word16_at bytes 0

-- the class byte and the ISIN of an entry, counted from 0
unfoldable pub class_at : List ℕ → ℕ → ℕ
class_at bytes i = get_or bytes (2 + i) 0

unfoldable pub isin_at : List ℕ → ℕ → List ℕ
isin_at bytes i = take 12 (drop (2 + count bytes + 12 * i) bytes)

-- Refusals 1 to 4

-- "The register's count or length (2 plus 13 times the count) is wrong": where this fails
unfoldable pub right_size : List ℕ → Bool
right_size bytes = within 1 SECURITIES (count bytes) && eqb (length bytes) (2 + 13 * count bytes)

-- "Class 1 is a share under the short selling regulation, 2 another security, 3 fixed income"
abbrev pub is_class : ℕ → Bool
is_class class = within 1 3 class

-- "An ISIN stands earlier in the register."
unfoldable pub stands_earlier : List ℕ → ℕ → Bool
stands_earlier bytes i = some (λ j. same (isin_at bytes j) (isin_at bytes i)) (range 0 i)

unfoldable pub entry_reasons : List ℕ → ℕ → List Reason
entry_reasons bytes i =
    (not (is_class (class_at bytes i)) ⇒ 2) ∷ (not (isin (isin_at bytes i)) ⇒ 3) ∷ (stands_earlier bytes i ⇒ 4) ∷ []

-- "2 to 4 go entry by entry"
unfoldable pub entries_refusal : List ℕ → ℕ
entries_refusal bytes = first (each (entry_reasons bytes) (range 0 (count bytes)))

unfoldable pub refusal : List ℕ → ℕ
refusal bytes = first ((not (right_size bytes) ⇒ 1) ∷ each (entry_reasons bytes) (range 0 (count bytes)))

-- The register that the bytes give

unfoldable pub zeros : ℕ → List ℕ
zeros n = replicate n 0

unfoldable pub class_bytes : List ℕ → List ℕ
class_bytes bytes = take (count bytes) (drop 2 bytes)

unfoldable pub isin_bytes : List ℕ → List ℕ
isin_bytes bytes = take (12 * count bytes) (drop (2 + count bytes) bytes)

unfoldable pub register_of : List ℕ → Register
register_of bytes =
    record { count = count bytes; classes = padded 0 SECURITIES (class_bytes bytes); isins = padded 0 384 (isin_bytes bytes) }

unfoldable pub empty_register : Register
empty_register = record { count = 0; classes = zeros SECURITIES; isins = zeros 384 }

-- a refusal number, or 0, with the register that is read: where the bytes are refused, the empty one
pub record RegisterRead : Type 0 where
  pub number : ℕ
  pub register : Register

-- what reading answers: the refusal number, and the register where that is 0
unfoldable pub register_read : List ℕ → RegisterRead
register_read bytes =
    let r = register_of bytes in
    record { number = refusal bytes; register = accepted (refusal bytes) r empty_register }

-- the bytes are of the size that their count n asks for
pub record Sized (bytes : List ℕ) (n : ℕ) : Type 0 where
  pub counted : n ≡ count bytes
  pub low : 1 ≤ n
  pub high : n ≤ SECURITIES
  pub long : length bytes ≡ 2 + 13 * n

-- Unfolding this unfolds the reading of a register: for worked examples.
unfoldable pub computing : Unit {0}
unfolding Rattle.register.specs.Isin.computing count class_at isin_at right_size stands_earlier entry_reasons entries_refusal refusal zeros class_bytes isin_bytes register_of empty_register register_read
computing = tt
