-- Row 5 by four comparisons: the extremes of nB along an axis are n times those of B.
-- Definitions only; proofs/ExtentLaws.antt has the law.
use Rattle.std.specs.Prelude.{Bool, ◌&&◌, false, List, map, ◌*◌, ◌+◌, suc, ℕ, leb, ltb, negsuc, pos, ℤ}
use Rattle.morphology.specs.Point.{Point}
use Rattle.morphology.specs.Lists.{greatest}

-- how far an integer lies below 0, and above
abbrev pub below : ℤ → ℕ
below (pos n) = 0
below (negsuc n) = suc n

abbrev pub above : ℤ → ℕ
above (pos n) = n
above (negsuc n) = 0

-- the largest f of an element's points: how far it goes to one side
unfoldable pub extent : (Point → ℕ) → List Point → ℕ
extent f B = greatest (map f B)

-- a coordinate stays on a side of W when it moves lo to the left or hi to the right
abbrev pub fits : ℕ → ℕ → ℕ → ℤ → Bool
fits W lo hi (pos x) = leb lo x && ltb (x + hi) W
fits W lo hi (negsuc x) = false

-- nB moved to p lies on the frame
unfoldable pub boxed : ℕ → ℕ → List Point → ℕ → Point → Bool
boxed W H B n p =
    fits W (n * extent (λ b. below b.x) B) (n * extent (λ b. above b.x) B) p.x
    && fits H (n * extent (λ b. below b.y) B) (n * extent (λ b. above b.y) B) p.y
