-- `placing::place_blocks` meets its contract.
-- The invariant: the first y rows are walked. The measure is the rows left.
use Prim.Native.Nat.{◌*◌, ◌-◌, ◌≤◌}
use Rattle.std.specs.Prelude.{Some}
use Rattle.coding.specs.Symbols.{symbols_of}
use Rattle.reading.specs.declared.Next.TheVariants.{Run}
use Rattle.placing.specs.Planes.{PixelsWalked, plane_place}
use Rattle.placing.proofs.place_blocks.Given as goal

abbrev pub invariant-loop-y : goal.invariant-loop-y
invariant-loop-y l =
    (l.y ≤ l.fn.f.h)
    × PixelsWalked (symbols_of l.stream) l.limit (l.y * l.fn.f.w) (plane_place l.fn.f.w l.fn.f.r) l.fn.run.left l.fn.run.at l.initial.plane l.plane (Some (Run l.run))

abbrev pub decreases-loop-y : goal.decreases-loop-y
decreases-loop-y l = l.fn.f.h - l.y
