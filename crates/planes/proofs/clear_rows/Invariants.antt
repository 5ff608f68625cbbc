-- `planes::clear_rows` meets its contract.
-- The invariant: the padding of the first y rows is cleared, and nothing else is changed.
use mathlib.Core.Bool.{◌&&◌}
use Prim.Native.Nat.{◌*◌, ◌+◌}
use lib.Dec.{ltb}
use Rattle.raster.specs.Rows.{PlaneIs, row_bit}
use Rattle.planes.proofs.clear_rows.Given as goal

abbrev pub invariant-loop-y : goal.invariant-loop-y
invariant-loop-y l = PlaneIs l.q l.fn.f.r l.y l.initial.work l.work (λ y' x. row_bit l.initial.work (8 * (l.q + y' * l.fn.f.r) + x) && ltb x l.fn.f.w)
