-- What an element asks of the pixels around a pixel, row by row: one pass for erosion (t = false) and dilation (t = true).
-- Definitions only; proofs/NeighbourLaws.antt has the laws.
use Rattle.std.specs.Prelude.{Bool, ◌&&◌, cond, false, not, true, List, ◌≡◌, ◌*◌, ◌+◌, ◌-◌, ◌/◌, ◌<◌, ◌^◌, suc, zero, ℕ, leb, ltb}
use Rattle.morphology.specs.Element.{bit}
use Rattle.raster.specs.Rows.{PlaneIs, join, row_bit}

-- pixel (X - 8, Y - 2) of a plane of h rows of r bytes; background outside
unfoldable pub near_bit : List ℕ → ℕ → ℕ → ℕ → ℕ → Bool
near_bit plane r h X Y = leb 2 Y && (ltb (Y - 2) h && (leb 8 X && (ltb X (8 * r + 8) && row_bit plane (8 * ((Y - 2) * r) + (X - 8)))))

-- what `near_bit` says, with foreground and background exchanged where inverse says so, outside as well
abbrev pub source_bit : Bool → List ℕ → ℕ → ℕ → ℕ → ℕ → Bool
source_bit inverse plane r h X Y = cond inverse (not (near_bit plane r h X Y)) (near_bit plane r h X Y)

-- pixel X - 8 is one of a row of r bytes
abbrev pub is_within : ℕ → ℕ → Bool
is_within r X = leb 8 X && ltb X (8 * r + 8)

-- pixel X - 8 of row Y, of rows of r bytes that a buffer has from its byte 1 on; background beyond the row's ends
unfoldable pub rows_bit : List ℕ → ℕ → ℕ → ℕ → Bool
rows_bit buf r X Y = is_within r X && row_bit buf (8 * (Y * r) + X)

-- the same, with foreground and background exchanged where inverse says so
abbrev pub strip_bit : Bool → List ℕ → ℕ → ℕ → ℕ → Bool
strip_bit inverse buf r X Y = cond inverse (not (rows_bit buf r X Y)) (rows_bit buf r X Y)

-- a buffer has the rows y - 2 to y + n + 2 of a plane
abbrev pub NearRows : List ℕ → ℕ → ℕ → ℕ → ℕ → List ℕ → Type 0
NearRows plane r h y n buf = (X Y : ℕ) → Y < n + 4 → rows_bit buf r X Y ≡ near_bit plane r h X (y + Y)

-- a strip has the m rows of a buffer, each moved: pixel x is what was x + s - 8
abbrev pub Moved : List ℕ → ℕ → ℕ → ℕ → List ℕ → Type 0
Moved buf s r m strip = (y x : ℕ) → y < m → x < 8 * r → row_bit strip (8 * (y * r) + x) ≡ rows_bit buf r (x + s) y

-- the offset k - 2, and its negative in a dilation
abbrev pub turned : Bool → ℕ → ℕ
turned true k = 4 - k
turned false k = k

-- the f below n joined
unfoldable pub joined : Bool → ℕ → (ℕ → Bool) → Bool
joined t zero f = not t
joined t (suc n) f = join t (joined t n f) (f n)

-- what one row of an element, the lowest five bits, asks of a row of pixels at x
unfoldable pub five_of : Bool → ℕ → (ℕ → Bool) → ℕ → Bool
five_of t five row x = joined t 5 (λ j. cond (bit five j) (row (x + (turned t j + 6))) (not t))

-- what the whole element asks at (x, y)
unfoldable pub neighbours : Bool → ℕ → (ℕ → ℕ → Bool) → ℕ → ℕ → Bool
neighbours t e near x y = joined t 5 (λ k. five_of t (e / 2 ^ (k * 5)) (λ X. near X (y + turned t k)) x)

-- what a column of an element, its bits 0, 5, 10, 15 and 20, asks of rows
unfoldable pub column_of : Bool → ℕ → (ℕ → Bool) → Bool
column_of t column rows = joined t 5 (λ k. cond (bit column (k * 5)) (rows (turned t k)) (not t))

-- new is old with f joined to each pixel of the h rows of r bytes at p
abbrev pub PlaneJoined : Bool → ℕ → ℕ → ℕ → List ℕ → List ℕ → (ℕ → ℕ → Bool) → Type 0
PlaneJoined t p r h old new f = PlaneIs p r h old new (λ y x. join t (row_bit old (8 * (p + y * r) + x)) (f y x))
