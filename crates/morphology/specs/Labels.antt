-- The places of a frame; label buffers ("maps" in 01): 0 is no point, n + 1 a point of size n. Labels are numbers of any width.
-- Definitions only; proofs/LabelLaws.antt has the laws.
use Rattle.std.specs.Prelude.{Bool, ◌&&◌, cond, not, List, ◌%◌, ◌*◌, ◌+◌, ◌/◌, ℕ, eqb, ltb, negsuc, pos, ℤ, get_or}
use Rattle.morphology.specs.Lists.{count_of, tabulate}
use Rattle.morphology.specs.Point.{Point, at}

-- the largest label of the buffers' type
abbrev pub max_label : ℕ
max_label = 255

-- the frame's place i, row after row
abbrev pub place : ℕ → ℕ → Point
place W i = at (pos (i % W)) (pos (i / W))

-- the frame's points, in that order
unfoldable pub places : ℕ → ℕ → List Point
places W H = tabulate (place W) 0 (W * H)

-- a function of points as a buffer, an entry a place
unfoldable pub raster : ℕ → ℕ → (Point → ℕ) → List ℕ
raster W H f = tabulate (λ i. f (place W i)) 0 (W * H)

-- a label buffer as a function of points: 0 off the frame
unfoldable pub label_at : ℕ → ℕ → List ℕ → (Point → ℕ)
label_at W H m p = on_plane p.x p.y
  where
    on_plane : ℤ → ℤ → ℕ
    on_plane (pos x) (pos y) = cond (ltb x W && ltb y H) (get_or m (y * W + x) 0) 0
    on_plane (pos x) (negsuc y) = 0
    on_plane (negsuc x) y = 0

-- the number of points of a label buffer
abbrev pub points_of : List ℕ → ℕ
points_of m = count_of (λ v. not (eqb v 0)) m

-- the number of foreground points ("ink points" in 01)
unfoldable pub area : ℕ → ℕ → (Point → Bool) → ℕ
area W H X = count_of X (places W H)
