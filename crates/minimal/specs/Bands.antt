-- A plane that is blank outside of a band. Definitions only; proofs/PixelLaws.antt has the laws.
use Rattle.std.specs.Prelude.{Bool, List, ◌≡◌, ◌*◌, ◌+◌, ◌-◌, ◌<◌, ◌^◌, ◌≤◌, ℕ, T, get_or, length}
use Rattle.morphology.specs.Image.{image_set, is_clean}
use Rattle.morphology.specs.Labels.{place}
use Rattle.raster.specs.Frames.{Frame}
use Rattle.raster.specs.Limits.{max_stride}
use Rattle.minimal.specs.declared.bands.Band.{Band}

-- place q is foreground
abbrev pub ink_at : ℕ → ℕ → List ℕ → (ℕ → Bool)
ink_at W H s q = image_set W H s (place W q)

-- the bytes of s from a on, up to e, are 0
abbrev pub Blank : ℕ → ℕ → List ℕ → Type 0
Blank a e s = (d : ℕ) → a ≤ d → d < e → get_or s d 0 ≡ 0

-- in the rows from..to the bytes from a on, up to e, are
abbrev pub Strip : ℕ → ℕ → ℕ → ℕ → ℕ → List ℕ → Type 0
Strip r from to a e s = (y : ℕ) → from ≤ y → y < to → Blank (y * r + a) (y * r + e) s

-- of a row of r bytes at d those before left and from right on are
pub record Margins (d r left right : ℕ) (s : List ℕ) : Type 0 where
  pub order : left ≤ right
  pub room : right ≤ r
  pub start : Blank d (d + left) s
  pub end : Blank (d + right) (d + r) s

-- a row of a cover in a plane: r bytes at d, with its margins; its first pixel is moved to at
pub record CoverRow (d r left right at : ℕ) (s : List ℕ) : Type 0 where
  pub near : at < 2 ^ 31
  pub stride : r ≤ max_stride
  pub bytes : d + r ≤ length s
  pub margins : Margins d r left right s

-- what is outside of a band is blank
pub record Bounds (H r : ℕ) (g : Band) (s : List ℕ) : Type 0 where
  pub rows : g.above + g.under ≤ H
  pub order : g.left ≤ g.right
  pub room : g.right ≤ r
  pub top : Blank 0 (g.above * r) s
  pub bottom : Blank ((H - g.under) * r) (H * r) s
  pub start : Strip r g.above (H - g.under) 0 g.left s
  pub end : Strip r g.above (H - g.under) g.right r s

-- a plane and its band
pub record InBand (W H r : ℕ) (g : Band) (s : List ℕ) : Type 0 where
  pub frame : Frame W H r
  pub bytes : H * r ≤ length s
  pub clean : T (is_clean W H s)
  pub bounds : Bounds H r g s

-- a plane and its band, and a place i of the map m
pub record CoverAt (W H r : ℕ) (g : Band) (i : ℕ) (m s : List ℕ) : Type 0 where
  pub banded : InBand W H r g s
  pub place : i < length m
  pub near : i < 2 ^ 30
