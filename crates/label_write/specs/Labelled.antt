-- Labels written where one plane has a point that another lacks. Definitions only; proofs/LabelLaws.antt has the laws.
use Rattle.std.specs.Prelude.{Bool, ◌&&◌, cond, not, List, ◌≡◌, ◌*◌, ◌+◌, ◌<◌, ◌≤◌, ℕ, drop, get_or, length}
use Rattle.morphology.specs.Image.{image_set}
use Rattle.morphology.specs.Labels.{area, place}
use Rattle.morphology.specs.Lists.{count_of, up_to}
use Rattle.morphology.specs.Point.{Point}
use Rattle.raster.specs.Rows.{row_bit}

-- pixel x is foreground in the row at a and not in the row at b
abbrev pub left_at : List ℕ → ℕ → ℕ → (ℕ → Bool)
left_at s a b x = row_bit s (8 * a + x) && not (row_bit s (8 * b + x))

-- of the w labels from at on, v where f holds and the old label elsewhere; how many are v
pub record RowLabelled (at w : ℕ) (f : ℕ → Bool) (v : ℕ) (old new : List ℕ) (found : ℕ) : Type 0 where
  pub size : length new ≡ length old
  pub before : (j : ℕ) → j < at → get_or new j 0 ≡ get_or old j 0
  pub after : (j : ℕ) → at + w ≤ j → get_or new j 0 ≡ get_or old j 0
  pub places : (x : ℕ) → x < w → get_or new (at + x) 0 ≡ cond (f x) v (get_or old (at + x) 0)
  pub points : found ≡ count_of f (up_to w)

-- the points of the first plane that the plane at q lacks
abbrev pub lacking : ℕ → ℕ → ℕ → List ℕ → (Point → Bool)
lacking W H q s z = image_set W H s z && not (image_set W H (drop q s) z)

-- of rows y to e, v at the places of S and the old label elsewhere; how many are v
pub record RowsLabelled (W : ℕ) (S : Point → Bool) (v y e : ℕ) (old new : List ℕ) (found : ℕ) : Type 0 where
  pub size : length new ≡ length old
  pub before : (i : ℕ) → i < y * W → get_or new i 0 ≡ get_or old i 0
  pub after : (i : ℕ) → e * W ≤ i → get_or new i 0 ≡ get_or old i 0
  pub places : (i : ℕ) → y * W ≤ i → i < e * W → get_or new i 0 ≡ cond (S (place W i)) v (get_or old i 0)
  pub points : area W y S + found ≡ area W e S

-- v at the places of S, the old label elsewhere; how many they are
pub record Labelled (W H : ℕ) (S : Point → Bool) (v : ℕ) (old new : List ℕ) (found : ℕ) : Type 0 where
  pub size : length new ≡ W * H
  pub places : (i : ℕ) → i < W * H → get_or new i 0 ≡ cond (S (place W i)) v (get_or old i 0)
  pub points : found ≡ area W H S
