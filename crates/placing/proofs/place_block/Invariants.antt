-- `placing::place_block` meets its contract. The invariant: the first y rows are walked.
use Prim.Native.Nat.{◌*◌}
use Rattle.std.specs.Prelude.{Some}
use Rattle.coding.specs.Symbols.{symbols_of}
use Rattle.reading.specs.declared.Next.TheVariants.{Run}
use Rattle.placing.specs.Planes.{PixelsWalked, plane_place}
use Rattle.placing.proofs.place_block.Given as goal

abbrev pub invariant-loop-y : goal.invariant-loop-y
invariant-loop-y l =
    PixelsWalked (symbols_of l.stream) l.limit (l.y * l.fn.f.w) (plane_place l.fn.f.w l.fn.f.r) l.fn.run.left l.fn.run.at l.initial.block l.block (Some (Run l.run))
