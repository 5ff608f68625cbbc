-- `minimal::walks::walk` meets its contract.
-- The invariant: the sizes below n are walked, the counters count the covers of the labels left, the plane is the shape of size n - 1 (of size 0 at first),
-- and no point fell off.
use Rattle.std.proofs.Common.{◌-◌, ◌≡◌, false}
use Rattle.morphology.specs.Element.{offsets}
use Rattle.morphology.specs.Minimal.{minimal_below}
use Rattle.minimal.specs.Covers.{counts}
use Rattle.minimal.specs.Sizes.{Left, Shape}
use Rattle.minimal.proofs.walks.walk.Given as goal

abbrev pub invariant-loop-n : goal.invariant-loop-n
invariant-loop-n l = record {
  shape : Shape l.fn.f.w l.fn.f.h l.fn.f.r (offsets l.element) (l.n - 1) l.a l.work;
  work : Left l.fn.f.p l.initial.work l.work;
  labels : l.labels ≡ minimal_below l.n l.fn.f.w l.fn.f.h (offsets l.element) l.initial.labels;
  counters : l.counters ≡ counts l.fn.f.w l.fn.f.h (offsets l.element) l.labels;
  clipped : l.clipped ≡ false;
}
