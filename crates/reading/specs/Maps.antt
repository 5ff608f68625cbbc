-- The map that a stream stands for, and the rows that refuse a stream (02, T-02). Definitions only; proofs/OwnLaws.antt and ChainLaws.antt have the laws.
use Rattle.std.specs.Prelude.{Bool, ◌&&◌, ◌||◌, cond, false, not, true, List, [], ◌∷◌, map, suc, ℕ, eqb, leb, length}
use Rattle.std.proofs.Math.Option.{Option, none, some}
use Rattle.coding.specs.Symbols.{symbols_of}
use Rattle.reading.specs.Points.{placed_down}
use Rattle.reading.specs.Splits.{Splitting, is_numeral, is_padding, split, start, value}
use Rattle.morphology.specs.Labels.{raster}
use Rattle.morphology.specs.Lists.{every_of, some_of}
use Rattle.morphology.specs.Point.{Point}
use Rattle.morphology.specs.Refusals.{Row, is_wild, max_side}
use Rattle.morphology.specs.Skeleton.{reconstruction, skeleton_labels}

-- a point's label, its size and one more: the sets have sizes n, n + 1, ..
unfoldable pub label_in : ℕ → List (Point → Bool) → (Point → ℕ)
label_in n [] z = 0
label_in n (S ∷ larger) z = cond (S z) (suc n) (label_in (suc n) larger z)

-- a map, and the symbols left
abbrev pub Reading : Type 0
Reading = List ℕ × List ℕ

abbrev pub with_labels : ℕ → ℕ → List ℕ → Option (List (Point → Bool)) → Option Reading
with_labels W H rest none = none
with_labels W H rest (some sets) = some (raster W H (label_in 0 sets), rest)

-- the map of sizes of digits: nothing if a run has a leading zero or passes the sheet
abbrev pub placed_sizes : ℕ → ℕ → List Point → Option Splitting → Option Reading
placed_sizes W H B none = none
placed_sizes W H B (some r) =
    let placed = with_labels W H r.1 (placed_down W H B [] (map (map value) r.0)) in
    cond (every_of (every_of is_numeral) r.0) placed none

-- the map of a stream whose largest size is n
unfoldable pub read_map : ℕ → ℕ → List Point → ℕ → List ℕ → Option Reading
read_map W H B n bytes = placed_sizes W H B (split (symbols_of bytes) start (suc n))

-- the map has no point of size n
abbrev pub lacks : List ℕ → ℕ → Bool
lacks m n = not (some_of (λ v. eqb v (suc n)) m)

-- two maps told apart
abbrev pub same_labels : List ℕ → List ℕ → Bool
same_labels [] [] = true
same_labels [] (b ∷ l) = false
same_labels (a ∷ k) [] = false
same_labels (a ∷ k) (b ∷ l) = eqb a b && same_labels k l

-- the map is the skeleton of the image that it rebuilds
unfoldable pub is_skeleton : ℕ → ℕ → List Point → List ℕ → Bool
is_skeleton W H B m = same_labels m (skeleton_labels W H B (reconstruction W H B 0 m))

-- ---- the rows of a stream

-- the largest size is above the limit, it holds no point, or a point dilated to its size leaves the frame
abbrev pub row9 : ℕ → ℕ → List Point → ℕ → List ℕ → Row
row9 W H B n m = (9, leb max_side n || (lacks m n || is_wild W H B m))

-- padding isn't 0, or bytes follow
abbrev pub row10 : List ℕ → Row
row10 rest = (10, not (is_padding rest))

-- the map isn't the skeleton of the image it rebuilds
abbrev pub row11 : ℕ → ℕ → List Point → List ℕ → Row
row11 W H B m = (11, not (is_skeleton W H B m))

-- where nothing can be read the number is 9
abbrev pub map_rows : ℕ → ℕ → List Point → ℕ → Option Reading → List Row
map_rows W H B n none = (9, true) ∷ []
map_rows W H B n (some r) = row9 W H B n r.0 ∷ row10 r.1 ∷ row11 W H B r.0 ∷ []

-- a code marked blank takes an empty stream
unfoldable pub code_rows : ℕ → ℕ → List Point → Option ℕ → List ℕ → List Row
code_rows W H B none bytes = (10, not (eqb (length bytes) 0)) ∷ []
code_rows W H B (some n) bytes = map_rows W H B n (read_map W H B n bytes)

-- ---- the image of a stream

abbrev pub map_set : ℕ → ℕ → List Point → Option Reading → (Point → Bool)
map_set W H B none z = false
map_set W H B (some r) z = reconstruction W H B 0 r.0 z

unfoldable pub code_set : ℕ → ℕ → List Point → Option ℕ → List ℕ → (Point → Bool)
code_set W H B none bytes z = false
code_set W H B (some n) bytes z = map_set W H B (read_map W H B n bytes) z
