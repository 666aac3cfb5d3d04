-- Document 01, 'The forms we expect': "a 64-bit word per security, one bit a member, tested at each offer".
use Rattle.std.specs.Prelude.{ℕ, ◌/◌, ◌%◌, ◌^◌, ◌<◌, ◌≡◌, Bool, ◌||◌, List, eqb}
use Rattle.plain.specs.declared.Position.{Position}
use Rattle.plain.specs.Auction.{failing}

-- bit m of a word
unfoldable pub bit : ℕ → ℕ → Bool
bit word m = eqb (word / 2 ^ m % 2) 1

-- the word whose bit m is set exactly where member m is failing in the security
pub record FailingWord (day : ℕ) (ps : List Position) (security word : ℕ) : Type 0 where
  pub fits : word < 2 ^ 64
  pub bits : (m : ℕ) → bit word m ≡ failing day ps security m

-- a word with one bit more
pub record Added (word member r : ℕ) : Type 0 where
  pub fits : r < 2 ^ 64
  pub bits : (m : ℕ) → bit r m ≡ eqb member m || bit word m
