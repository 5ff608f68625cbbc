-- What the functions on a strip of rows ask of their numbers and of the buffers lent to them. Definitions only.
use Rattle.std.specs.Prelude.{List, ◌≡◌, ◌*◌, ◌+◌, ◌<◌, ◌≤◌, ℕ, length}
use Rattle.raster.specs.Limits.{max_frame, max_stride}

-- the bytes of a row: some, and no more than the widest frame has
pub record Stride (r : ℕ) : Type 0 where
  pub some : 0 < r
  pub most : r ≤ max_stride

-- a move sideways by s - 8 pixels, two at most
pub record Shift (s : ℕ) : Type 0 where
  pub least : 6 ≤ s
  pub most : s ≤ 10

-- rows y to y + n of a plane of h rows, and a buffer for them with the two above and the two below
pub record Loading (plane : List ℕ) (r h y n : ℕ) (buf : List ℕ) : Type 0 where
  pub plane-rows : h * r ≤ length plane
  pub stride : r ≤ max_stride
  pub height : h ≤ max_frame
  pub rows : y + n ≤ h
  pub near : (n + 4) * r + 2 ≤ length buf

-- n rows in dst, a buffer that has them with the two above and the two below, and one for these once they are moved
pub record Joining (r n : ℕ) (buf strip dst : List ℕ) : Type 0 where
  pub stride : Stride r
  pub near : (n + 4) * r + 2 ≤ length buf
  pub moved : (n + 4) * r ≤ length strip
  pub rows : length dst ≡ n * r
