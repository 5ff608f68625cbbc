-- Numbers in bytes, lowest first. Definitions only; proofs/NumberLaws.antt has the laws.
use Rattle.std.specs.Prelude.{List, [], ◌∷◌, ◌%◌, ◌*◌, ◌+◌, ◌/◌, ℕ, get_or}

-- the number at i, of four bytes
abbrev pub number_at : List ℕ → ℕ → ℕ
number_at s i = get_or s i 0 + 256 * get_or s (i + 1) 0 + 65536 * get_or s (i + 2) 0 + 16777216 * get_or s (i + 3) 0

-- the four bytes of a number
abbrev pub four_bytes : ℕ → List ℕ
four_bytes n = n % 256 ∷ n / 256 % 256 ∷ n / 65536 % 256 ∷ n / 16777216 ∷ []

-- counters of two bytes each
unfoldable pub counters_of : List ℕ → List ℕ
counters_of [] = []
counters_of (a ∷ []) = []
counters_of (a ∷ b ∷ s) = (a + 256 * b) ∷ counters_of s

unfoldable pub counter_bytes : List ℕ → List ℕ
counter_bytes [] = []
counter_bytes (n ∷ c) = n % 256 ∷ n / 256 ∷ counter_bytes c
