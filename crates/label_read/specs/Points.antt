-- Points read from labels. Definitions only; proofs/PointLaws.antt has the laws.
use Rattle.std.specs.Prelude.{Bool, ◌&&◌, ◌||◌, cond, List, map, ◌≡◌, ◌*◌, ◌+◌, ◌<◌, ℕ, eqb, ltb, drop, get_or, length, take}
use Rattle.morphology.specs.Image.{image_set}
use Rattle.morphology.specs.Labels.{label_at}
use Rattle.morphology.specs.Lists.{greatest}
use Rattle.morphology.specs.Point.{Point}

-- label x of a row is v; none is past its end
unfoldable pub is_label : List ℕ → ℕ → (ℕ → Bool)
is_label row v x = ltb x (length row) && eqb (get_or row x 0) v

-- the largest label of a row that is below v, 0 if there is none
unfoldable pub greatest_below : ℕ → List ℕ → ℕ
greatest_below v row = greatest (map (λ b. cond (ltb b v) b 0) row)

-- the largest label of each row that is at most v
abbrev pub Tops : ℕ → ℕ → ℕ → List ℕ → List ℕ → Type 0
Tops W H v labels tops = (y : ℕ) → y < H → get_or tops y 0 ≡ greatest_below (v + 1) (take W (drop (y * W) labels))

-- the points with label v, and those of a plane
abbrev pub with_points : ℕ → ℕ → List ℕ → ℕ → List ℕ → (Point → Bool)
with_points W H labels v plane z = eqb (label_at W H labels z) v || image_set W H plane z
