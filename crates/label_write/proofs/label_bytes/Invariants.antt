-- `label_write::label_bytes` meets its contract.
-- The invariant: the labels of the first k bytes of pixels are v where the first row has what the second lacks, and n counts these.
use Prim.Native.Nat.{◌*◌}
use Rattle.label_write.specs.Labelled.{RowLabelled, left_at}
use Rattle.label_write.proofs.label_bytes.Given as goal

abbrev pub invariant-loop-k : goal.invariant-loop-k
invariant-loop-k l = RowLabelled l.at (8 * l.k) (left_at l.s l.a l.b) l.v l.initial.labels l.labels l.n
