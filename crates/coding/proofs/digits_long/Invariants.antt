-- `coding::digits_long` meets its contract. The digits counted and those of what is left are one more than those of n.
use mathlib.Core.Path.{◌≡◌}
use Prim.Native.Nat.{◌+◌, ◌≤◌}
use lib.ListN.{length}
use Rattle.coding.specs.Symbols.{numeral}
use Rattle.coding.proofs.digits_long.Given as goal

abbrev pub invariant-loop-left : goal.invariant-loop-left
invariant-loop-left l = (l.d + length (numeral l.left) ≡ length (numeral l.n) + 1) × (l.d + l.left ≤ l.n + 1)

abbrev pub decreases-loop-left : goal.decreases-loop-left
decreases-loop-left l = l.left
