-- Reconstruction by descending dilation: the union that is still to be dilated n times. Definitions only; proofs/ReconstructLaws.antt has the laws.
use Rattle.std.specs.Prelude.{Bool, ◌&&◌, false, List, ◌-◌, suc, zero, ℕ, leb}
use Rattle.morphology.specs.Labels.{places}
use Rattle.morphology.specs.Lists.{some_of}
use Rattle.morphology.specs.Morphology.{times}
use Rattle.morphology.specs.Point.{Point, ◌⊞◌, same_point}

-- what a point p with this label adds: (j - n)B moved to p, where its size j is n or more
unfoldable pub partial_stamp : List Point → ℕ → Point → ℕ → (Point → Bool)
partial_stamp B n p zero z = false
partial_stamp B n p (suc j) z = leb n j && some_of (λ c. same_point z (p ⊞ c)) (times B (j - n))

unfoldable pub partial_union : ℕ → ℕ → List Point → ℕ → (Point → ℕ) → (Point → Bool)
partial_union W H B n M z = some_of (λ p. partial_stamp B n p (M p) z) (places W H)
