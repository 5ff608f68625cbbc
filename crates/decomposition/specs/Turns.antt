-- A decomposition turn by turn. Definitions only; proofs/TurnLaws.antt has the laws.
use Rattle.std.specs.Prelude.{Bool, ◌&&◌, not, List, ◌≡◌, ◌*◌, ◌+◌, ◌≤◌, suc, ℕ, T, drop, length, take}
use Rattle.morphology.specs.Element.{is_element}
use Rattle.morphology.specs.Image.{image_set, is_clean, pack}
use Rattle.morphology.specs.Labels.{points_of, raster}
use Rattle.morphology.specs.Morphology.{erode, opening, times}
use Rattle.morphology.specs.Point.{Point}
use Rattle.morphology.specs.Skeleton.{skeleton_function}
use Rattle.raster.specs.Frames.{Frame}
use Rattle.label_write.specs.Labelled.{Labelled}
use Rattle.raster.specs.Rows.{overwrite}

-- what a turn begins with: three planes, p bytes apart, of which the first is clean, and a label for each place
pub record TurnStart (W H r p e : ℕ) (labels work : List ℕ) : Type 0 where
  pub frame : Frame W H r
  pub apart : H * r ≤ p
  pub planes : p + p + H * r ≤ length work
  pub places : length labels ≡ W * H
  pub element : T (is_element e)
  pub clean : T (is_clean W H work)

-- one turn of a decomposition: the plane eroded, and v at its points that its opening lacks
pub record Turned (W H p : ℕ) (B : List Point) (v : ℕ) (work work' labels labels' : List ℕ) (found : ℕ) : Type 0 where
  pub planes :
      let X = image_set W H work in
      let E = pack W H (erode B X) in
      work' ≡ overwrite 0 E (overwrite (p + p) (pack W H (opening B X)) (overwrite p E work))
  pub points : let X = image_set W H work in Labelled W H (λ z. X z && not (opening B X z)) v labels labels' found

-- a turn, as the turns after it need it: the plane eroded, from the fourth plane on as it was, the points labelled
pub record Stepped (W H p : ℕ) (B : List Point) (v : ℕ) (work work' labels labels' : List ℕ) (found : ℕ) : Type 0 where
  pub size : length work' ≡ length work
  pub eroded : take p work' ≡ pack W H (erode B (image_set W H work))
  pub rest : drop (3 * p) work' ≡ drop (3 * p) work
  pub points : let X = image_set W H work in Labelled W H (λ z. X z && not (opening B X z)) v labels labels' found

-- after n turns: the plane of X(n), the labels of the sizes below n, their number; every turn before had a point
pub record Turns (W H p : ℕ) (B : List Point) (X : Point → Bool) (n : ℕ) (work₀ work labels : List ℕ) (found : ℕ) : Type 0 where
  pub size : length work ≡ length work₀
  pub eroded : take p work ≡ pack W H (erode (times B n) X)
  pub rest : drop (3 * p) work ≡ drop (3 * p) work₀
  pub below : labels ≡ raster W H (skeleton_function B X n)
  pub points : found ≡ points_of labels
  pub before : (k : ℕ) → n ≡ suc k → (z : Point) × T (erode (times B k) X z)

-- the turns are over: the labels of the sizes below n, their number; turn n - 1 had a point and turn n has none
pub record Finished (W H : ℕ) (B : List Point) (X : Point → Bool) (n : ℕ) (labels : List ℕ) (found : ℕ) : Type 0 where
  pub below : labels ≡ raster W H (skeleton_function B X n)
  pub points : found ≡ points_of labels
  pub before : (k : ℕ) → n ≡ suc k → (z : Point) × T (erode (times B k) X z)
  pub gone : (z : Point) → T (erode (times B n) X z) → ⊥

-- the same in work, from the fourth plane on as it was
pub record Took (W H p : ℕ) (B : List Point) (X : Point → Bool) (n : ℕ) (work₀ work labels : List ℕ) (found : ℕ) : Type 0 where
  pub size : length work ≡ length work₀
  pub rest : drop (3 * p) work ≡ drop (3 * p) work₀
  pub finished : Finished W H B X n labels found
