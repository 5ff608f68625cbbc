-- `raster::bands::end_row` meets its contract. The invariant: the rows from y up to `to` are blank.
use Prim.Native.Nat.{◌<◌, ◌≤◌, ℕ}
use Rattle.raster.specs.Bands.{BlankRow}
use Rattle.raster.proofs.bands.end_row.Given as goal

abbrev pub invariant-loop-y : goal.invariant-loop-y
invariant-loop-y l = (k : ℕ) → l.y ≤ k → k < l.to → BlankRow l.r l.s k
