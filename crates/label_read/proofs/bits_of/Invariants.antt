-- `label_read::bits_of` meets its contract.
-- The invariant: bits are those of the labels before b.
use mathlib.Core.Path.{◌≡◌}
use Rattle.morphology.specs.Image.{from_bits}
use Rattle.label_read.specs.Points.{is_label}
use Rattle.label_read.proofs.bits_of.Given as goal

abbrev pub invariant-loop-b : goal.invariant-loop-b
invariant-loop-b l = l.bits ≡ from_bits (is_label l.part l.v) 0 l.b-index
