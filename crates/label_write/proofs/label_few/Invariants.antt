-- `label_write::label_few` meets its contract.
-- The invariant: each of the first x labels is v where its bit is 1, and as it was where it is not.
use mathlib.Core.Bool.{cond}
use lib.ListN.{get_or}
use Rattle.morphology.specs.Image.{bit_of}
use Rattle.raster.proofs.LoopLaws.{Mapped}
use Rattle.label_write.proofs.label_few.Given as goal

abbrev pub invariant-loop-x : goal.invariant-loop-x
invariant-loop-x l = Mapped (λ j. cond (bit_of l.byte j) l.v (get_or l.initial.labels j 0)) l.initial.labels l.labels l.x
