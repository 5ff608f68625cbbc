-- A plane on its way from a copy of another to its erosion or dilation. Definitions only; proofs/CentreLaws.antt has the laws.
use Rattle.std.specs.Prelude.{Bool, List, ◌≡◌, ◌*◌, ◌+◌, ◌<◌, ◌≤◌, ℕ, get_or, length}
use Rattle.raster.specs.Rows.{join, row_bit}
use Rattle.neighbours.specs.Neighbours.{near_bit, neighbours}

-- new is old but for the h rows of r bytes at p; when what rest asks of old is joined to them they are what the element asks
pub record Begun (t : Bool) (p r h element rest : ℕ) (old new : List ℕ) : Type 0 where
  pub size : length new ≡ length old
  pub before : (j : ℕ) → j < p → get_or new j 0 ≡ get_or old j 0
  pub after : (j : ℕ) → p + h * r ≤ j → get_or new j 0 ≡ get_or old j 0
  pub pixels : (y x : ℕ) → y < h → x < 8 * r
      → join t (row_bit new (8 * (p + y * r) + x)) (neighbours t rest (near_bit old r h) x y) ≡ neighbours t element (near_bit old r h) x y
