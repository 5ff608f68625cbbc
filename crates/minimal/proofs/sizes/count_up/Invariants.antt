-- `minimal::sizes::count_up` meets its contract.
-- The invariant: the plane is the shape of size n - 1 (of size 0 at first), no point fell off, and the points of sizes below n are counted.
use Rattle.std.proofs.Common.{◌-◌, ◌≡◌, false}
use Rattle.morphology.specs.Element.{offsets}
use Rattle.minimal.specs.Sizes.{Counting, Left, Shape}
use Rattle.minimal.proofs.sizes.count_up.Given as goal

abbrev pub invariant-loop-n : goal.invariant-loop-n
invariant-loop-n l = record {
  shape : Shape l.fn.f.w l.fn.f.h l.fn.f.r (offsets l.element) (l.n - 1) l.a l.work;
  work : Left l.fn.f.p l.initial.work l.work;
  counted : Counting l.fn.f.w l.fn.f.h (offsets l.element) l.labels l.n 0 l.counters;
  clipped : l.clipped ≡ false;
}
