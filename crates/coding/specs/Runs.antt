-- Which pixels a size counts, and its runs. Definitions only; proofs/RunLaws.antt and MaskLaws.antt have the laws.
use Rattle.std.specs.Prelude.{Bool, ◌||◌, cond, false, not, List, [], ◌∷◌, suc, ℕ}
use Rattle.morphology.specs.Labels.{places}
use Rattle.morphology.specs.Morphology.{dilate}
use Rattle.morphology.specs.Point.{Point}

-- ---- masks

-- the pixels already covered: the points one size up together with their own mask, dilated once by B; at the largest size none.
-- The list has the points of the larger sizes, the next larger first
unfoldable pub mask : List Point → List (Point → Bool) → (Point → Bool)
mask B [] z = false
mask B (S ∷ larger) z = dilate B (λ y. S y || mask B larger y) z

-- the members that pass
unfoldable pub keep : (Point → Bool) → List Point → List Point
keep p [] = []
keep p (z ∷ l) = let r = keep p l in cond (p z) (z ∷ r) r

-- the frame's pixels outside a mask, row after row
unfoldable pub unmasked : ℕ → ℕ → (Point → Bool) → List Point
unmasked W H M = keep (λ z. not (M z)) (places W H)

-- ---- runs

-- a run counts the pixels since the previous point or the start: here k of them came before the list
unfoldable pub runs : (Point → Bool) → ℕ → List Point → List ℕ
runs S k [] = []
runs S k (z ∷ l) = let here = k ∷ runs S 0 l in let on = runs S (suc k) l in cond (S z) here on

-- the runs of sizes from the largest down, below those in the first list
unfoldable pub runs_down : ℕ → ℕ → List Point → List (Point → Bool) → List (Point → Bool) → List (List ℕ)
runs_down W H B larger [] = []
runs_down W H B larger (S ∷ smaller) = runs S 0 (unmasked W H (mask B larger)) ∷ runs_down W H B (S ∷ larger) smaller
