-- `raster::bands::first_row` meets its contract. The invariant: the rows from `from` up to y are blank.
use Prim.Native.Nat.{◌<◌, ◌≤◌, ℕ}
use Rattle.raster.specs.Bands.{BlankRow}
use Rattle.raster.proofs.bands.first_row.Given as goal

abbrev pub invariant-loop-y : goal.invariant-loop-y
invariant-loop-y l = (k : ℕ) → l.from ≤ k → k < l.y → BlankRow l.r l.s k
