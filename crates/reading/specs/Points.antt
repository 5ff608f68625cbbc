-- From runs to points, size after size. Definitions only; proofs/PlacedLaws.antt and MapLaws.antt have the laws.
use Rattle.std.specs.Prelude.{Bool, ◌||◌, false, List, [], ◌∷◌, suc, zero, ℕ}
use Rattle.std.proofs.Math.Option.{Option, none, some}
use Rattle.coding.specs.Runs.{mask, unmasked}
use Rattle.morphology.specs.Lists.{some_of}
use Rattle.morphology.specs.Point.{Point, same_point}

-- what the sizes of a list, the smallest first, cover at the first of them: its points together with their mask
unfoldable pub covered : List Point → List (Point → Bool) → (Point → Bool)
covered B [] z = false
covered B (S ∷ larger) z = S z || mask B larger z

abbrev pub and_point : Point → Option (List Point) → Option (List Point)
and_point z none = none
and_point z (some ps) = some (z ∷ ps)

-- the points at the ends of the runs, over a list of pixels; nothing if a run passes the list
unfoldable pub placed : List Point → List ℕ → Option (List Point)
placed [] [] = some []
placed [] (r ∷ rs) = none
placed (z ∷ l) [] = some []
placed (z ∷ l) (zero ∷ rs) = and_point z (placed l rs)
placed (z ∷ l) (suc r ∷ rs) = placed l (r ∷ rs)

-- the set of the points of a list
unfoldable pub among : List Point → (Point → Bool)
among ps z = some_of (λ p. same_point z p) ps

-- the points of all sizes, the smallest size first, from the runs of the sizes from the largest down
unfoldable pub placed_down : ℕ → ℕ → List Point → List (Point → Bool) → List (List ℕ) → Option (List (Point → Bool))
placed_down W H B larger [] = some larger
placed_down W H B larger (rs ∷ smaller) =
    elim (placed (unmasked W H (mask B larger)) rs) [ none ↦ none | some ps ↦ placed_down W H B (among ps ∷ larger) smaller ]
