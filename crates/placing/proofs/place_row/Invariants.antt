-- `placing::place_row` meets its contract. The invariant: the pixels of the first x words are walked.
use Prim.Native.Nat.{◌*◌}
use Rattle.std.specs.Prelude.{Some}
use Rattle.coding.specs.Symbols.{symbols_of}
use Rattle.reading.specs.declared.Next.TheVariants.{Run}
use Rattle.placing.specs.Planes.{PixelsWalked, row_place}
use Rattle.placing.proofs.place_row.Given as goal

abbrev pub invariant-loop-x : goal.invariant-loop-x
invariant-loop-x l = PixelsWalked (symbols_of l.stream) l.limit (64 * l.x) (row_place l.a) l.fn.run.left l.fn.run.at l.initial.plane l.plane (Some (Run l.run))
