-- A cover grown by one size, and what it is eroded to. Definitions only; proofs/ has the laws.
use Rattle.std.specs.Prelude.{Bool, false, List, ◌↔◌, ◌≡◌, ◌*◌, ◌≤◌, ℕ, T, drop, length, take}
use Rattle.raster.specs.Frames.{Sheet}
use Rattle.morphology.specs.Element.{is_element}
use Rattle.morphology.specs.Falls.{falls_off}
use Rattle.morphology.specs.Image.{image_set, is_clean, pack}
use Rattle.morphology.specs.Morphology.{dilate, erode}
use Rattle.morphology.specs.Point.{Point}
use Rattle.raster.specs.Rows.{overwrite}

-- a cover in the first plane of work, and again in the second
pub record CoverStart (w h r p e : ℕ) (work : List ℕ) : Type 0 where
  pub sheet : Sheet w h r p
  pub room : 3 * p ≤ length work
  pub element : T (is_element e)
  pub clean : T (is_clean w h work)
  pub again : take p (drop p work) ≡ take p work

-- a cover in the first plane of work, and what contains it in the second
pub record CoverPair (w h r p e : ℕ) (work : List ℕ) : Type 0 where
  pub sheet : Sheet w h r p
  pub room : 3 * p ≤ length work
  pub element : T (is_element e)
  pub clean : T (is_clean w h work)
  pub second : T (is_clean w h (drop p work))
  pub within : (z : Point) → T (image_set w h work z) → T (image_set w h (drop p work) z)

-- whether the first plane, dilated, leaves the frame; if not, the second is the dilation: in the second plane alone something may have changed
pub record CoverGrown (w h p : ℕ) (B : List Point) (old new : List ℕ) (falls : Bool) : Type 0 where
  pub answer : falls ≡ falls_off w h B (image_set w h old)
  pub grown : falls ≡ false → new ≡ overwrite p (pack w h (dilate B (image_set w h old))) old
  pub size : length new ≡ length old
  pub first : take p new ≡ take p old
  pub rest : drop (2 * p) new ≡ drop (2 * p) old

-- whether the second plane, eroded, is the first: in the third plane alone something may have changed
pub record CoverTested (w h p : ℕ) (B : List Point) (old new : List ℕ) (same : Bool) : Type 0 where
  pub answer : T same ↔ (erode B (image_set w h (drop p old)) ≡ image_set w h old)
  pub size : length new ≡ length old
  pub first : take (2 * p) new ≡ take (2 * p) old
  pub rest : drop (3 * p) new ≡ drop (3 * p) old
