-- `neighbours::join_strip` meets its contract.
-- The invariant: the first j columns of the element are joined, and rest is the element from column j on.
use mathlib.Core.Path.{◌≡◌}
use Prim.Native.Nat.{◌/◌, ◌^◌}
use Rattle.neighbours.specs.Neighbours.{PlaneJoined, joined, strip_bit}
use Rattle.neighbours.proofs.StripLaws.{column_asks}
use Rattle.neighbours.proofs.join_strip.Given as goal

abbrev pub invariant-loop-j : goal.invariant-loop-j
invariant-loop-j l = (l.rest ≡ l.element / 2 ^ l.j) × PlaneJoined l.fn.how.dilating 0 l.r l.n l.initial.dst l.dst (λ y x. joined l.fn.how.dilating l.j (column_asks l.fn.how.dilating l.element (strip_bit l.fn.how.inverse l.buf l.r) y x))
