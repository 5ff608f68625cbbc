-- Erosion, dilation, opening: a set is a test of points, a structuring element is a list of offsets.
-- Definitions only; proofs/MorphologyLaws.antt has the laws.
use Rattle.std.specs.Prelude.{Bool, List, [], ◌++◌, ◌∷◌, map, suc, zero, ℕ}
use Rattle.morphology.specs.Point.{Point, ◌⊞◌, minus, origin}
use Rattle.morphology.specs.Lists.{every_of, some_of}

-- every z with z + b in X for all b in B
unfoldable pub erode : List Point → (Point → Bool) → (Point → Bool)
erode B X z = every_of (λ b. X (z ⊞ b)) B

-- dilation ("growing" in 01): every x + b
unfoldable pub dilate : List Point → (Point → Bool) → (Point → Bool)
dilate B X z = some_of (λ b. X (z ⊞ minus b)) B

-- erosion, then dilation, by the same B
unfoldable pub opening : List Point → (Point → Bool) → (Point → Bool)
opening B X = dilate B (erode B X)

-- Minkowski sum: A dilated by B, as a list
unfoldable pub minkowski : List Point → List Point → List Point
minkowski [] B = []
minkowski (a ∷ A) B = map (λ b. a ⊞ b) B ++ minkowski A B

-- the n-fold element nB: the origin alone, then dilated by B n times
unfoldable pub times : List Point → ℕ → List Point
times B zero = origin ∷ []
times B (suc n) = minkowski (times B n) B
