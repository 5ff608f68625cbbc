-- `label_read::row_tops` meets its contract.
-- The invariant: each of the first y tops is the largest label of its row.
use Prim.Native.Nat.{◌*◌}
use lib.ListN.{drop, take}
use Rattle.morphology.specs.Lists.{greatest}
use Rattle.raster.proofs.LoopLaws.{Mapped}
use Rattle.label_read.proofs.row_tops.Given as goal

abbrev pub invariant-loop-y : goal.invariant-loop-y
invariant-loop-y l = Mapped (λ j. greatest (take l.w (drop (j * l.w) l.labels))) l.initial.tops l.tops l.y
