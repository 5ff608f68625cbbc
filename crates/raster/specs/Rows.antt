-- Rows of packed pixels, and bytes written into a buffer. Definitions only; proofs/ has the laws.
use Rattle.std.specs.Prelude.{Bool, ◌&&◌, ◌||◌, cond, false, not, true, List, ◌++◌, ◌≡◌, ◌%◌, ◌*◌, ◌+◌, ◌/◌, ◌<◌, ◌≤◌, ℕ, drop, get_or, length, take}
use Rattle.std.specs.Int.Bits.{bit_and, bit_or}
use Rattle.morphology.specs.Image.{bit_of}

-- l with ys written over it from a on
unfoldable pub overwrite : ℕ → List ℕ → List ℕ → List ℕ
overwrite a ys l = take a l ++ (ys ++ drop (a + length ys) l)

-- pixel x of a run of bytes; false past its end
unfoldable pub row_bit : List ℕ → ℕ → Bool
row_bit l x = bit_of (get_or l (x / 8) 0) (x % 8)

-- the same, with foreground and background exchanged where t says so; past the end as well
abbrev pub read_bit : Bool → List ℕ → ℕ → Bool
read_bit t l x = cond t (not (row_bit l x)) (row_bit l x)

-- the byte that does it to eight pixels by exclusive or
abbrev pub exchange_byte : Bool → ℕ
exchange_byte true = 255
exchange_byte false = 0

-- two pixels joined: by or in a dilation (true), by and in an erosion (false); eight of them
abbrev pub join : Bool → Bool → Bool → Bool
join true a b = a || b
join false a b = a && b

abbrev pub join_byte : Bool → ℕ → ℕ → ℕ
join_byte true a b = bit_or a b
join_byte false a b = bit_and a b

-- pixel x of new is g x of pixel x of old
pub record Pixelwise (old new : List ℕ) (g : ℕ → Bool → Bool) : Type 0 where
  pub size : length new ≡ length old
  pub pixels : (x : ℕ) → x < 8 * length old → row_bit new x ≡ g x (row_bit old x)

-- new is old with f joined to each pixel
abbrev pub RowJoined : Bool → List ℕ → List ℕ → (ℕ → Bool) → Type 0
RowJoined t old new f = Pixelwise old new (λ x b. join t b (f x))

-- new is old but for the r bytes at d, of which pixel x is g x
pub record RowIs (d r : ℕ) (old new : List ℕ) (g : ℕ → Bool) : Type 0 where
  pub size : length new ≡ length old
  pub before : (j : ℕ) → j < d → get_or new j 0 ≡ get_or old j 0
  pub after : (j : ℕ) → d + r ≤ j → get_or new j 0 ≡ get_or old j 0
  pub pixels : (x : ℕ) → x < 8 * r → row_bit new (8 * d + x) ≡ g x

-- new is old but for the m rows of r bytes at p, of which pixel x of row y is g y x
pub record PlaneIs (p r m : ℕ) (old new : List ℕ) (g : ℕ → ℕ → Bool) : Type 0 where
  pub size : length new ≡ length old
  pub before : (j : ℕ) → j < p → get_or new j 0 ≡ get_or old j 0
  pub after : (j : ℕ) → p + m * r ≤ j → get_or new j 0 ≡ get_or old j 0
  pub pixels : (y x : ℕ) → y < m → x < 8 * r → row_bit new (8 * (p + y * r) + x) ≡ g y x
