-- `minimal::sizes::count_size` meets its contract.
-- The invariant: i has a point of size n, and the covers of those before it are counted. The measure is what is left of the labels.
use Rattle.std.proofs.Common.{◌+◌, ◌-◌, ◌<◌, ◌≡◌, ◌≤◌, get_or, length}
use Rattle.morphology.specs.Element.{offsets}
use Rattle.minimal.specs.Sizes.{Counting}
use Rattle.minimal.proofs.sizes.count_size.Given as goal

abbrev pub invariant-loop-i : goal.invariant-loop-i
invariant-loop-i l = record {
  within : l.i ≤ length l.labels;
  label : l.i < length l.labels → get_or l.labels l.i 0 ≡ l.n + 1;
  counted : Counting l.fn.f.w l.fn.f.h (offsets l.element) l.labels l.n l.i l.counters;
}

abbrev pub decreases-loop-i : goal.decreases-loop-i
decreases-loop-i l = length l.labels - l.i
