-- What a mask asks of the pixels around a pixel: its foreground element of the pixels, its background element of the pixels inverted.
-- And which columns and rows are not the edge. Definitions only; proofs/HitRows.antt and EdgeLaws.antt have the laws.
use Rattle.std.specs.Prelude.{Bool, ◌&&◌, false, not, ◌%◌, ◌*◌, ◌+◌, ◌/◌, ℕ, leb, ltb}
use Rattle.neighbours.specs.Neighbours.{neighbours}

-- a mask's number as an element's: three bits of each row in the middle of five (`widened-offsets`)
abbrev pub widened : ℕ → ℕ
widened m = m % 8 * 64 + m / 8 % 8 * 2048 + m / 64 * 65536

-- what the elements fg and bg ask at (x, y)
abbrev pub hits : ℕ → ℕ → (ℕ → ℕ → Bool) → ℕ → ℕ → Bool
hits fg bg near x y = neighbours false fg near x y && neighbours false bg (λ X Y. not (near X Y)) x y

-- one of n columns or rows, but not the first or the last
abbrev pub inner : ℕ → ℕ → Bool
inner n i = leb 1 i && ltb (i + 1) n
