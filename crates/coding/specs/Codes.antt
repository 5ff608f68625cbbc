-- The code of an image ("coded ticket" in 02), an Elias-coded skeleton: a largest size and a stream. Definitions only; proofs/MaskLaws.antt and
-- CodeLaws.antt have the laws.
use Rattle.std.specs.Prelude.{Bool, List, [], ◌∷◌, map, suc, zero, ℕ, eqb}
use Rattle.std.proofs.Math.Option.{Option, none, some}
use Rattle.coding.specs.Runs.{runs_down}
use Rattle.coding.specs.Symbols.{numeral, pack_symbols, sections}
use Rattle.morphology.specs.Labels.{label_at}
use Rattle.morphology.specs.Lists.{greatest}
use Rattle.morphology.specs.Point.{Point}
use Rattle.morphology.specs.Skeleton.{skeleton_labels}

-- the largest size, none of an empty image, and the stream
pub record Code : Type 0 where
  pub largest : Option ℕ
  pub stream : List ℕ

abbrev pub code : Option ℕ → List ℕ → Code
code n s = record { largest = n; stream = s }

-- the points of size n of a map
unfoldable pub of_size : ℕ → ℕ → List ℕ → ℕ → (Point → Bool)
of_size W H m n z = eqb (label_at W H m z) (suc n)

-- sizes from n down to 0
unfoldable pub sizes_down : (ℕ → Point → Bool) → ℕ → List (Point → Bool)
sizes_down S zero = S 0 ∷ []
sizes_down S (suc n) = S (suc n) ∷ sizes_down S n

-- the sizes of a map, the largest n, as runs and as symbols
unfoldable pub map_runs : ℕ → ℕ → List Point → List ℕ → ℕ → List (List ℕ)
map_runs W H B m n = runs_down W H B [] (sizes_down (of_size W H m) n)

unfoldable pub map_symbols : ℕ → ℕ → List Point → List ℕ → ℕ → List ℕ
map_symbols W H B m n = sections (map (map numeral) (map_runs W H B m n))

-- the code of a map, by its largest label: a blank has no stream
unfoldable pub map_code : ℕ → ℕ → List Point → List ℕ → ℕ → Code
map_code W H B m zero = code none []
map_code W H B m (suc n) = code (some n) (pack_symbols (map_symbols W H B m n))

-- the code of an image: that of its skeleton
unfoldable pub code_of : ℕ → ℕ → List Point → (Point → Bool) → Code
code_of W H B X = let m = skeleton_labels W H B X in map_code W H B m (greatest m)
