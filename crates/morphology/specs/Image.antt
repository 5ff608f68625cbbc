-- Packed binary images ("scans" in 01) on a frame ("sheet") of width W and height H, as sets of points, and back.
-- Definitions only; proofs/ImageLaws.antt has the laws.
use Rattle.std.specs.Prelude.{Bool, ◌&&◌, cond, false, not, List, [], ◌∷◌, ◌%◌, ◌*◌, ◌+◌, ◌-◌, ◌/◌, ◌^◌, suc, zero, ℕ, eqb, ltb, negsuc, pos, ℤ, get_or}
use Rattle.std.specs.Int.Count.{ones}
use Rattle.morphology.specs.Lists.{every_of, tabulate, up_to}
use Rattle.morphology.specs.Point.{Point, at}

-- ---- the frame

-- 0 ≤ x < W
abbrev pub inside : ℕ → ℤ → Bool
inside W (pos x) = ltb x W
inside W (negsuc x) = false

abbrev pub on_frame : ℕ → ℕ → Point → Bool
on_frame W H p = inside W p.x && inside H p.y

-- the part of a set that lies on the frame
unfoldable pub clip : ℕ → ℕ → (Point → Bool) → (Point → Bool)
clip W H X z = on_frame W H z && X z

-- ---- bytes: rows one after the other, padded to whole bytes

-- bytes of a row ("R" in 01)
unfoldable pub stride : ℕ → ℕ
stride W = (W + 7) / 8

-- bytes of an image ("P" in 01)
abbrev pub plane_bytes : ℕ → ℕ → ℕ
plane_bytes W H = H * stride W

-- pixel i of a byte: the highest bit is leftmost
unfoldable pub bit_of : ℕ → ℕ → Bool
bit_of byte i = eqb (byte / 2 ^ (7 - i) % 2) 1

-- pixel x of row y
unfoldable pub pixel : ℕ → List ℕ → ℕ → ℕ → Bool
pixel W s x y = bit_of (get_or s (y * stride W + x / 8) 0) (x % 8)

-- no 1 in the padding ("unused bits" in 01): the pixels of each row from W on
unfoldable pub is_clean : ℕ → ℕ → List ℕ → Bool
is_clean W H s = every_of (λ y. every_of (λ x. not (pixel W s x y)) (tabulate (λ x. x) W (stride W * 8 - W))) (up_to H)

-- ---- an image is a set of points, and a set of points is an image

-- the foreground ("ink" in 01); every point off the frame is background
unfoldable pub image_set : ℕ → ℕ → List ℕ → (Point → Bool)
image_set W H s p = in_image p.x p.y
  where
    in_image : ℤ → ℤ → Bool
    in_image (pos x) (pos y) = ltb x W && (ltb y H && pixel W s x y)
    in_image (pos x) (negsuc y) = false
    in_image (negsuc x) y = false

-- n bits from b i on, the first one highest
unfoldable pub from_bits : (ℕ → Bool) → ℕ → ℕ → ℕ
from_bits b i zero = 0
from_bits b i (suc n) = cond (b i) 1 0 * 2 ^ n + from_bits b (suc i) n

-- byte i holds the eight pixels from 8 (i % R) on of row i / R
unfoldable pub pack : ℕ → ℕ → (Point → Bool) → List ℕ
pack W H X = tabulate (λ i. from_bits (λ x. X (at (pos x) (pos (i / stride W)))) (i % stride W * 8) 8) 0 (plane_bytes W H)

-- ---- counting by bytes

-- the ones of a buffer's bytes; `area-pack`: of a packed set on the frame, its points
unfoldable pub ones_of : List ℕ → ℕ
ones_of [] = 0
ones_of (b ∷ s) = ones b + ones_of s
