-- `raster::counts::count_parts` meets its contract.
-- The invariant: n is the ones of the first k words of each part.
use mathlib.Core.Path.{◌≡◌}
use Prim.Native.Nat.{◌*◌, ◌≤◌}
use Rattle.raster.specs.Counts.{ones_apart}
use Rattle.raster.proofs.counts.count_parts.Given as goal

abbrev pub invariant-loop-k : goal.invariant-loop-k
invariant-loop-k l = (l.n ≡ ones_apart l.s l.p (8 * l.k) 0 7) × (l.n ≤ 56 * (8 * l.k))
