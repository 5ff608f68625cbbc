-- `minimal::walks::walk_size` meets its contract.
-- The invariant: the places before i are walked, i has a point of size n, and the counters count the covers of the labels left. The measure is what is left of the labels.
use Rattle.std.proofs.Common.{◌+◌, ◌-◌, ◌<◌, ◌≡◌, ◌≤◌, get_or, length}
use Rattle.morphology.specs.Element.{offsets}
use Rattle.morphology.specs.Lists.{up_to}
use Rattle.morphology.specs.Minimal.{drop_size}
use Rattle.minimal.specs.Covers.{counts}
use Rattle.minimal.proofs.walks.walk_size.Given as goal

abbrev pub invariant-loop-i : goal.invariant-loop-i
invariant-loop-i l = record {
  within : l.i ≤ length l.initial.labels;
  label : l.i < length l.initial.labels → get_or l.labels l.i 0 ≡ l.n + 1;
  labels : l.labels ≡ drop_size l.fn.f.w l.fn.f.h (offsets l.element) l.n (up_to l.i) l.initial.labels;
  counters : l.counters ≡ counts l.fn.f.w l.fn.f.h (offsets l.element) l.labels;
}

abbrev pub decreases-loop-i : goal.decreases-loop-i
decreases-loop-i l = length l.initial.labels - l.i
