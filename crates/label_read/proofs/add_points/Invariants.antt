-- `label_read::add_points` meets its contract.
-- The invariant: of the first y rows the points with label v are joined to the plane, and each of their tops is the largest label below v.
use mathlib.Core.Bool.{◌||◌}
use Prim.Native.Nat.{◌*◌, ◌+◌, ◌<◌, ℕ}
use lib.ListN.{drop, get_or, take}
use Rattle.raster.specs.Rows.{PlaneIs, row_bit}
use Rattle.raster.proofs.LoopLaws.{Mapped}
use Rattle.label_read.specs.Points.{greatest_below}
use Rattle.label_read.proofs.PointLaws.{label_is}
use Rattle.label_read.proofs.add_points.Given as goal

abbrev pub invariant-loop-y : goal.invariant-loop-y
invariant-loop-y l = PlaneIs 0 l.fn.f.r l.y l.initial.plane l.plane (λ y' x. row_bit l.initial.plane (8 * (0 + y' * l.fn.f.r) + x) || label_is l.fn.f.w l.labels l.v y' x) × ((i : ℕ) → get_or l.plane i 0 < 256) × Mapped (λ j. greatest_below l.v (take l.fn.f.w (drop (j * l.fn.f.w) l.labels))) l.initial.tops l.tops l.y
