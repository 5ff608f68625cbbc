-- The code of 000: base-3 run lengths in two-bit symbols, and symbols in bytes. A symbol is a number below 4: 0 the comma, d + 1 the digit d.
-- Definitions only; proofs/NumeralLaws.antt, SectionLaws.antt and PackLaws.antt have the laws.
use Rattle.std.specs.Prelude.{List, [], ◌++◌, ◌∷◌, map, cond, ◌%◌, ◌*◌, ◌+◌, ◌/◌, suc, zero, ℕ, ltb}

-- ---- runs as numerals

abbrev pub comma : ℕ
comma = 0

-- the base-3 digits of n, highest first, before ds; the first number bounds the digits
unfoldable pub numeral_before : ℕ → ℕ → List ℕ → List ℕ
numeral_before zero n ds = ds
numeral_before (suc f) n ds = let more = numeral_before f (n / 3) (n % 3 ∷ ds) in cond (ltb n 3) (n ∷ ds) more

-- the base-3 digits of n with no leading zero; 0 is the one digit 0
unfoldable pub numeral : ℕ → List ℕ
numeral n = numeral_before (suc n) n []

-- ---- sizes: a size is a list of runs, each a list of digits

abbrev pub digit_symbols : List ℕ → List ℕ
digit_symbols ds = map suc ds

-- commas part the runs
unfoldable pub parted : List (List ℕ) → List ℕ
parted [] = []
parted (w ∷ []) = digit_symbols w
parted (w ∷ v ∷ ws) = digit_symbols w ++ comma ∷ parted (v ∷ ws)

-- two commas end a size, empty or not
unfoldable pub section : List (List ℕ) → List ℕ
section ws = parted ws ++ comma ∷ comma ∷ []

-- sizes one after the other
unfoldable pub sections : List (List (List ℕ)) → List ℕ
sections [] = []
sections (ws ∷ sizes) = section ws ++ sections sizes

-- ---- bytes

-- four symbols, the first in the highest bits
abbrev pub quad : ℕ → ℕ → ℕ → ℕ → ℕ
quad a b c d = ((a * 4 + b) * 4 + c) * 4 + d

-- bits fill bytes from the top, the last padded with 0
unfoldable pub pack_symbols : List ℕ → List ℕ
pack_symbols [] = []
pack_symbols (a ∷ []) = quad a 0 0 0 ∷ []
pack_symbols (a ∷ b ∷ []) = quad a b 0 0 ∷ []
pack_symbols (a ∷ b ∷ c ∷ []) = quad a b c 0 ∷ []
pack_symbols (a ∷ b ∷ c ∷ d ∷ s) = quad a b c d ∷ pack_symbols s

-- the symbols that bytes hold, padding included
unfoldable pub symbols_of : List ℕ → List ℕ
symbols_of [] = []
symbols_of (v ∷ bytes) = v / 64 % 4 ∷ v / 16 % 4 ∷ v / 4 % 4 ∷ v % 4 ∷ symbols_of bytes
