-- Ink in columns of rows. Definitions only; proofs/ColumnLaws.antt has the laws.
use Rattle.std.specs.Prelude.{Bool, List, ◌≡◌, ◌*◌, ◌+◌, ◌-◌, ◌<◌, ℕ}
use Rattle.morphology.specs.Image.{bit_of}
use Rattle.morphology.specs.Lists.{some_of, tabulate, up_to}
use Rattle.raster.specs.Rows.{row_bit}

-- column x of h rows of r bytes has ink
abbrev pub column_ink : List ℕ → ℕ → ℕ → ℕ → Bool
column_ink s r h x = some_of (λ y. row_bit s (8 * (y * r) + x)) (up_to h)

-- one of the columns from a up to b has
abbrev pub columns_ink : List ℕ → ℕ → ℕ → ℕ → ℕ → Bool
columns_ink s r h a b = some_of (column_ink s r h) (tabulate (λ x. x) a (b - a))

-- the pixels of v are those eight columns of the bytes c, or-ed
abbrev pub Seen : List ℕ → ℕ → ℕ → ℕ → ℕ → Type 0
Seen s r h c v = (k : ℕ) → k < 8 → bit_of v k ≡ column_ink s r h (8 * c + k)
