-- `neighbours::join_column` meets its contract.
-- The invariant: the first k bits of the column are joined, and rest is the column from bit k on.
use mathlib.Core.Path.{◌≡◌}
use Prim.Native.Nat.{◌*◌, ◌+◌, ◌/◌, ◌^◌}
use Rattle.raster.specs.Rows.{RowJoined, read_bit}
use Rattle.neighbours.specs.Neighbours.{joined}
use Rattle.neighbours.proofs.StripLaws.{bit_asks}
use Rattle.neighbours.proofs.join_column.Given as goal

abbrev pub invariant-loop-k : goal.invariant-loop-k
invariant-loop-k l = (l.rest ≡ l.column / 2 ^ (l.k * 5)) × RowJoined l.fn.how.dilating l.initial.dst l.dst (λ x. joined l.fn.how.dilating l.k (bit_asks l.fn.how.dilating l.column (λ k'. read_bit l.fn.how.inverse l.strip (8 * (k' * l.r) + x))))
