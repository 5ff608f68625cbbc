-- `thinning::edges::clear` meets its contract. The invariant: the edge is cleared in the first y rows.
use mathlib.Core.Bool.{◌&&◌}
use Prim.Native.Nat.{◌*◌, ◌+◌}
use Rattle.raster.specs.Rows.{PlaneIs, row_bit}
use Rattle.thinning.specs.Hits.{inner}
use Rattle.thinning.proofs.edges.clear.Given as goal

abbrev pub invariant-loop-y : goal.invariant-loop-y
invariant-loop-y l =
    PlaneIs 0 l.fn.f.r l.y l.initial.plane l.plane (λ y' x. row_bit l.initial.plane (8 * (0 + y' * l.fn.f.r) + x) && (inner l.fn.f.w x && inner l.fn.f.h y'))
