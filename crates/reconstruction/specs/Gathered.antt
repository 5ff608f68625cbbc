-- Labels reconstructed: their points joined from the largest on, with a dilation between two sizes. Definitions only; proofs/GatherLaws.antt has the laws.
use Rattle.std.specs.Prelude.{Bool, ◌||◌, false, List, ◌≡◌, ◌*◌, ◌+◌, ◌/◌, ◌<◌, ◌≤◌, ℕ, T, eqb, length}
use Rattle.morphology.specs.Element.{is_element, offsets}
use Rattle.morphology.specs.Image.{image_set, is_clean, plane_bytes}
use Rattle.morphology.specs.Labels.{label_at}
use Rattle.morphology.specs.Partial.{partial_union}
use Rattle.morphology.specs.Point.{Point}
use Rattle.morphology.specs.Refusals.{is_wild}
use Rattle.raster.specs.Frames.{Frame, Sheet}
use Rattle.label_read.specs.Points.{Tops}
use Rattle.iteration.specs.Steps.{dilated}

-- the points of sizes from n on, still to be dilated n times
abbrev pub gathered : ℕ → ℕ → List Point → List ℕ → ℕ → (Point → Bool)
gathered W H B m n = partial_union W H B n (label_at W H m)

-- the plane dilated once, and the points with label v
abbrev pub grown : ℕ → ℕ → List Point → List ℕ → ℕ → List ℕ → (Point → Bool)
grown W H B m v plane z = eqb (label_at W H m z) v || dilated W H B 1 (image_set W H plane) z

-- what is there when the points with label v are joined: labels, each row's largest not above v, two planes, of which the first is clean
pub record GrowStart (W H r p e v : ℕ) (m t work : List ℕ) : Type 0 where
  pub sheet : Sheet W H r p
  pub element : T (is_element e)
  pub planes : 2 * p ≤ length work
  pub label : 0 < v
  pub places : length m ≡ W * H
  pub clean : T (is_clean W H work)
  pub tops : Tops W H v m t
  pub rows : H ≤ length t

-- an element and labels of a frame, of which no point leaves it
pub record Tame (W H e : ℕ) (m : List ℕ) : Type 0 where
  pub places : length m ≡ W * H
  pub element : T (is_element e)
  pub stays : is_wild W H (offsets e) m ≡ false

-- labels and buffers that the rows 1, 2, 3 and 5 let pass
pub record Kept (W H e : ℕ) (m s w : List ℕ) : Type 0 where
  pub frame : Frame W H ((W + 7) / 8)
  pub labels : Tame W H e m
  pub image : length s ≡ plane_bytes W H
  pub work : 3 * plane_bytes W H ≤ length w
