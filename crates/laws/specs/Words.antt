-- Words are little-endian (document 01, 'Register and day').
use Rattle.std.specs.Prelude.{ℕ, zero, suc, ◌+◌, ◌*◌, ◌/◌, ◌%◌, List, [], ◌∷◌, get_or}

-- the word that bytes make, the lowest first, and the n lowest bytes of a word, its digits to 256
unfoldable pub word_of : List ℕ → ℕ
word_of [] = 0
word_of (byte ∷ bytes) = byte + 256 * word_of bytes

unfoldable pub bytes_of : ℕ → ℕ → List ℕ
bytes_of zero word = []
bytes_of (suc n) word = word % 256 ∷ bytes_of n (word / 256)

-- the words that two and four bytes make, and the one that two words of four bytes make, the lowest first
abbrev pub word16 : ℕ → ℕ → ℕ
word16 a b = a + 256 * b

abbrev pub word32 : ℕ → ℕ → ℕ → ℕ → ℕ
word32 a b c d = a + 256 * b + 65536 * c + 16777216 * d

abbrev pub word64 : ℕ → ℕ → ℕ
word64 low high = low + 4294967296 * high

-- the word that begins at a place of a list of bytes; a byte past the end counts 0
abbrev pub word16_at : List ℕ → ℕ → ℕ
word16_at bytes at = word16 (get_or bytes at 0) (get_or bytes (at + 1) 0)

abbrev pub word32_at : List ℕ → ℕ → ℕ
word32_at bytes at =
    word32 (get_or bytes at 0) (get_or bytes (at + 1) 0) (get_or bytes (at + 2) 0) (get_or bytes (at + 3) 0)

abbrev pub word64_at : List ℕ → ℕ → ℕ
word64_at bytes at = word64 (word32_at bytes at) (word32_at bytes (at + 4))

-- the bytes of a word of two and of four bytes
abbrev pub bytes16 : ℕ → List ℕ
bytes16 n = n % 256 ∷ n / 256 % 256 ∷ []

abbrev pub bytes32 : ℕ → List ℕ
bytes32 n = n % 256 ∷ n / 256 % 256 ∷ n / 65536 % 256 ∷ n / 16777216 % 256 ∷ []
