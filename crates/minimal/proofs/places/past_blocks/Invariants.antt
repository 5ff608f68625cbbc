-- `minimal::places::past_blocks` meets its contract. The invariant: no place from `from` up to i has label v. The measure is what is left of the labels.
use Prim.Native.Nat.{◌-◌, ◌≤◌}
use lib.ListN.{length}
use Rattle.minimal.specs.Sizes.{Without}
use Rattle.minimal.proofs.places.past_blocks.Given as goal

abbrev pub invariant-loop-i : goal.invariant-loop-i
invariant-loop-i l = (l.from ≤ l.i) × (l.i ≤ length l.labels) × Without l.v l.from l.i l.labels

abbrev pub decreases-loop-i : goal.decreases-loop-i
decreases-loop-i l = length l.labels - l.i
