-- Walks over pixels of a plane. Definitions only; proofs/RowLaws.antt, WalkLaws.antt, PlaneLaws.antt and SizeLaws.antt have the laws.
use Rattle.std.specs.Prelude.{Bool, ◌||◌, false, List, ◌≡◌, ◌%◌, ◌*◌, ◌+◌, ◌/◌, ◌<◌, ◌≤◌, ℕ, Option, Some, None, drop, get_or, length}
use Rattle.std.proofs.Math.Option.{none, some}
use Rattle.coding.specs.Runs.{unmasked}
use Rattle.morphology.specs.Image.{image_set, pack}
use Rattle.morphology.specs.Lists.{tabulate}
use Rattle.morphology.specs.Point.{Point}
use Rattle.raster.specs.Rows.{row_bit}
use Rattle.reading.specs.Nexts.{next_of}
use Rattle.reading.specs.Points.{among}
use Rattle.reading.specs.Seeking.{Seek, seek, sought_all, sought_points}
use Rattle.reading.specs.Taking.{read_size}
use Rattle.reading.specs.declared.Next.{Next}
use Rattle.seeking.specs.Words.{Advanced}

-- where the pixels of a row at byte a are, and those of rows of w pixels in r bytes each, one row after the other
abbrev pub row_place : ℕ → ℕ → ℕ
row_place a i = 8 * a + i

abbrev pub plane_place : ℕ → ℕ → ℕ → ℕ
plane_place w r i = 8 * (i / w * r) + i % w

-- the n pixels at p 0, p 1, .. of a run of bytes
abbrev pub pixels_at : List ℕ → (ℕ → ℕ) → ℕ → List Bool
pixels_at s p n = tabulate (λ i. row_bit s (p i)) 0 n

-- The walk over these pixels: its points are joined to them, no other pixel has changed, and what follows in a stream with the symbols s.
pub record PixelsSought (s : List ℕ) (limit n : ℕ) (p : ℕ → ℕ) (t : Seek) (old new : List ℕ) (next : Option Next) : Type 0 where
  pub size : length new ≡ length old
  pub pixels : (i : ℕ) → i < n → row_bit new (p i) ≡ (row_bit old (p i) || get_or (sought_points limit (pixels_at old p n) t) i false)
  pub others : (x : ℕ) → ((i : ℕ) → i < n → p i ≡ x → ⊥) → row_bit new x ≡ row_bit old x
  pub stands : next_of s next ≡ sought_all limit (pixels_at old p n) t

-- The same from where `left` pixels outside the mask come before the next point and its run ends before symbol `at`, and how far it has gone.
pub record PixelsWalked (s : List ℕ) (limit n : ℕ) (p : ℕ → ℕ) (left at : ℕ) (old new : List ℕ) (next : Option Next) : Type 0 where
  pub found : PixelsSought s limit n p (seek left (drop at s)) old new next
  pub moved : Advanced limit n left at next

-- One size read from symbol `at` on over the pixels outside the mask that a plane has: its points are joined to the mask; or it cannot be read.
abbrev pub SizeRead : List ℕ → ℕ → ℕ → ℕ → List ℕ → List ℕ → Option ℕ → Type 0
SizeRead s w h at old new None = (length new ≡ length old) × (read_size (unmasked w h (image_set w h old)) (drop at s) ≡ none)
SizeRead s w h at old new (Some next) =
    (ps : List Point) × (read_size (unmasked w h (image_set w h old)) (drop at s) ≡ some (ps, drop next s))
    × (new ≡ pack w h (λ z. among ps z || image_set w h old z)) × (next ≤ at + 2 * (w * h) + 2)
