-- The band of rows that hold the foreground of a plane, and a turn on it. Definitions only; proofs/BandLaws.antt has the laws.
use Rattle.std.specs.Prelude.{List, ◌≡◌, ◌*◌, ◌<◌, ◌≤◌, ℕ, drop, length, take}
use Rattle.morphology.specs.Image.{image_set, pack}
use Rattle.morphology.specs.Morphology.{erode}
use Rattle.morphology.specs.Point.{Point}
use Rattle.raster.specs.Bands.{BlankRow}

-- of the h rows of a plane those before a and from b on are blank; row a is not, where it is before b
pub record Banded (h r a b : ℕ) (s : List ℕ) : Type 0 where
  pub order : a ≤ b
  pub down : b ≤ h
  pub above : (y : ℕ) → y < a → BlankRow r s y
  pub below : (y : ℕ) → b ≤ y → y < h → BlankRow r s y
  pub ink : a < b → BlankRow r s a → ⊥

-- after a turn: the first plane eroded, from the fourth on as it was
pub record PlaneEroded (W H p : ℕ) (B : List Point) (work work' : List ℕ) : Type 0 where
  pub size : length work' ≡ length work
  pub first : take p work' ≡ pack W H (erode B (image_set W H work))
  pub rest : drop (3 * p) work' ≡ drop (3 * p) work
