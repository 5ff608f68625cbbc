-- Pixels as a walk of the frame meets them, and the runs that end in them. Definitions only; proofs/KindLaws.antt has the laws:
-- over the whole frame these are the runs of coding/specs/Runs.antt.
use Rattle.std.specs.Prelude.{Bool, false, true, List, [], ◌∷◌, suc, ℕ}
use Rattle.morphology.specs.Labels.{place}
use Rattle.morphology.specs.Lists.{tabulate}
use Rattle.morphology.specs.Point.{Point}

-- a masked pixel is passed over, a point ends a run, any other pixel is counted
pub data Kind : Type 0 where
  masked point free : Kind

-- by whether it is masked, and whether it is foreground
abbrev pub kind : Bool → Bool → Kind
kind true s = masked
kind false true = point
kind false false = free

-- the runs that end in the pixels of a list, where k were counted before it
unfoldable pub runs_of : ℕ → List Kind → List ℕ
runs_of k [] = []
runs_of k (masked ∷ l) = runs_of k l
runs_of k (point ∷ l) = k ∷ runs_of 0 l
runs_of k (free ∷ l) = runs_of (suc k) l

-- and the pixels counted since the last of them
unfoldable pub count_after : ℕ → List Kind → ℕ
count_after k [] = k
count_after k (masked ∷ l) = count_after k l
count_after k (point ∷ l) = count_after 0 l
count_after k (free ∷ l) = count_after (suc k) l

-- n pixels from place i on, of the points S under the mask M
unfoldable pub kinds_from : ℕ → (Point → Bool) → (Point → Bool) → ℕ → ℕ → List Kind
kinds_from W S M i n = tabulate (λ j. kind (M (place W j)) (S (place W j))) i n
