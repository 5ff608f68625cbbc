-- Inputs and what is printed for them: the printed one of 01, case E, a short input. Definitions only; proofs/Cases.antt has the claim.
use Rattle.std.specs.Prelude.{List, [], ◌∷◌, map, ◌≡◌, ℕ}
use Rattle.listing.specs.Printed.{printed}

abbrev pub Case : Type 0
Case = List ℕ × List ℕ

-- 03 03 C0 39 07 00 E0 E0 E0 prints "3 3 1 1", "0 0 0", "0 2 0", "0 0 0"
abbrev pub square : Case
square = (
  3 ∷ 3 ∷ 192 ∷ 57 ∷ 7 ∷ 0 ∷ 224 ∷ 224 ∷ 224 ∷ [],
  51 ∷ 32 ∷ 51 ∷ 32 ∷ 49 ∷ 32 ∷ 49 ∷ 10 ∷ 48 ∷ 32 ∷ 48 ∷ 32 ∷ 48 ∷ 10 ∷ 48 ∷ 32 ∷ 50 ∷ 32 ∷ 48 ∷ 10 ∷ 48 ∷ 32 ∷ 48 ∷ 32 ∷ 48 ∷ 10 ∷ [],
)

-- 3 by 2, empty, SQUARE: "3 2 0 -", "0 0 0", "0 0 0"
abbrev pub empty : Case
empty = (
  3 ∷ 2 ∷ 192 ∷ 57 ∷ 7 ∷ 0 ∷ 0 ∷ 0 ∷ [],
  51 ∷ 32 ∷ 50 ∷ 32 ∷ 48 ∷ 32 ∷ 45 ∷ 10 ∷ 48 ∷ 32 ∷ 48 ∷ 32 ∷ 48 ∷ 10 ∷ 48 ∷ 32 ∷ 48 ∷ 32 ∷ 48 ∷ 10 ∷ [],
)

-- five bytes: "refused 3"
abbrev pub short : Case
short = (3 ∷ 3 ∷ 192 ∷ 57 ∷ 7 ∷ [], 114 ∷ 101 ∷ 102 ∷ 117 ∷ 115 ∷ 101 ∷ 100 ∷ 32 ∷ 51 ∷ 10 ∷ [])

abbrev pub cases : List Case
cases = square ∷ empty ∷ short ∷ []

abbrev pub Settled : Type 0
Settled = map (λ c. printed c.0) cases ≡ map (λ c. c.1) cases
