-- The skeleton subsets S_n, the skeleton function, its reconstruction at a cut. Definitions only; proofs/SubsetLaws.antt and SkeletonLaws.antt have the laws.
use Rattle.std.specs.Prelude.{Bool, ◌&&◌, cond, false, not, List, max, suc, zero, ℕ, leb}
use Rattle.morphology.specs.Labels.{label_at, places, raster}
use Rattle.morphology.specs.Lists.{some_of}
use Rattle.morphology.specs.Morphology.{erode, opening, times}
use Rattle.morphology.specs.Point.{Point, ◌⊞◌, same_point}

-- ---- decomposition

-- S_n, the points of size n, 000 (10): X(n), which is X eroded by nB, less the opening of X(n) by B
unfoldable pub skeleton_subset : List Point → (Point → Bool) → ℕ → (Point → Bool)
skeleton_subset B X n z = erode (times B n) X z && not (opening B (erode (times B n) X) z)

-- n + 1 for the largest n below N that passes, else 0
unfoldable pub pick : (ℕ → Bool) → ℕ → ℕ
pick p zero = 0
pick p (suc n) = cond (p n) (suc n) (pick p n)

-- the skeleton function, 000 (14), a point's label: n + 1 where its size is n, below N, and 0 where it has none
unfoldable pub skeleton_function : List Point → (Point → Bool) → ℕ → (Point → ℕ)
skeleton_function B X N z = pick (λ n. skeleton_subset B X n z) N

-- the labels of X on a frame: sizes are below the larger side (`eroded-empty`)
unfoldable pub skeleton_labels : ℕ → ℕ → List Point → (Point → Bool) → List ℕ
skeleton_labels W H B X = raster W H (skeleton_function B X (max W H))

-- ---- reconstruction at cut k ("rebuilding" in 01), 000 (19)

-- what a point p with a label adds: nB moved to p, where its size n is k or more
unfoldable pub stamp : List Point → ℕ → Point → ℕ → (Point → Bool)
stamp B k p zero z = false
stamp B k p (suc n) z = leb k n && some_of (λ c. same_point z (p ⊞ c)) (times B n)

-- the union over the points P
unfoldable pub reconstruct : List Point → List Point → ℕ → (Point → ℕ) → (Point → Bool)
reconstruct P B k M z = some_of (λ p. stamp B k p (M p) z) P

-- of a label buffer
unfoldable pub reconstruction : ℕ → ℕ → List Point → ℕ → List ℕ → (Point → Bool)
reconstruction W H B k m = reconstruct (places W H) B k (label_at W H m)
