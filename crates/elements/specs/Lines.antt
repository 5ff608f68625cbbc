-- The lines of the 5 by 5 square, as elements' numbers. Definitions only; proofs/ExtentLaws.antt has the laws.
use Rattle.std.specs.Prelude.{Bool, cond, ◌+◌, ◌^◌, suc, zero, ℕ, eqb}
use Rattle.morphology.specs.Element.{offset}
use Rattle.morphology.specs.Point.{Point}
use Rattle.elements.specs.Measures.{measure}

-- an offset lies d to one side
abbrev pub lies : Bool → Bool → ℕ → Point → Bool
lies across forward d b = eqb (measure across forward b) d

-- the number whose ones are those of the lowest n bits whose offsets pass p
unfoldable pub number_below : (Point → Bool) → ℕ → ℕ
number_below p zero = 0
number_below p (suc i) = cond (p (offset 2 i)) (2 ^ i) 0 + number_below p i

-- the line of the square that lies d to one side
unfoldable pub line : Bool → Bool → ℕ → ℕ
line across forward d = number_below (lies across forward d) 25
