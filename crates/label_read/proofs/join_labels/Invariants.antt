-- `label_read::join_labels` meets its contract.
-- The invariant: in each of the first i bytes the points with label v are joined.
use Prim.Native.Nat.{◌*◌}
use lib.Bits.{bit_or}
use lib.ListN.{get_or}
use Rattle.morphology.specs.Image.{from_bits}
use Rattle.label_read.specs.Points.{is_label}
use Rattle.raster.proofs.LoopLaws.{Mapped}
use Rattle.label_read.proofs.join_labels.Given as goal

abbrev pub invariant-loop-i : goal.invariant-loop-i
invariant-loop-i l = Mapped (λ j. bit_or (get_or l.initial.pixels j 0) (from_bits (is_label l.row l.v) (8 * j) 8)) l.initial.pixels l.pixels l.i
