use Rattle.std.proofs.Common.{◌*◌, ◌+◌, ◌-◌, ◌≡◌, ◌≤◌, arith, length, refl, rules}
use Rattle.morphology.specs.Element.{offsets}
use Rattle.minimal.proofs.SizeLaws.{begun_shape, begun-stays, left_next, shape_as, shape-plane}
use Rattle.minimal.proofs.WalkLaws.{below_begin, below_last, below_more, below-tame}
use Rattle.minimal.proofs.walks.walk.Goals as goal

pub loop-n-init : goal.loop-n-init
loop-n-init c =
    let a = c.args in
    record {
      shape = begun_shape c.requires.0 c.mark.ensures;
      work = record { size = refl; rest = refl };
      labels = below_begin a.f.w a.f.h (offsets a.element) a.labels.now;
      counters = c.requires.1;
      clipped = refl;
    }

pub reach_size-clipped-requires : goal.reach_size-clipped-requires
reach_size-clipped-requires c =
    let b = c.requires.0 in
    let l = c.loop-n in
    (omega (arith, b.planes, c.mark.ensures.size, l.invariant.work.size), b.element, l.invariant.shape, begun-stays b l.n c.loop-n-test.true)

pub walk_size-requires : goal.walk_size-requires
walk_size-requires c =
    let a = c.args in
    let b = c.requires.0 in
    let l = c.loop-n in
    let d = c.reach_size-clipped.ensures in
    let planes : 2 * a.f.p ≤ length l.work = omega (arith, b.planes, c.mark.ensures.size, l.invariant.work.size) in (
      shape-plane b.sheet (omega (arith, d.work.size, planes)) d.shape,
      below-tame a.f.w a.f.h (offsets a.element) a.labels.now l.n l.labels b.tame l.invariant.labels l.auto.labels,
      omega (arith, b.fits, c.loop-n-test.true),
      l.invariant.counters,
    )

pub loop-n-preserved : goal.loop-n-preserved
loop-n-preserved c =
    let a = c.args in
    let l = c.loop-n in
    let d = c.reach_size-clipped.ensures in
    let w = c.walk_size.ensures in
    let e : l.n ≡ l.n + 1 - 1 = omega arith in
    record {
      shape = shape_as e d.shape;
      work = left_next l.invariant.work d.work;
      labels = below_more a.f.w a.f.h (offsets a.element) a.labels.now l.n l.labels _ _ l.invariant.labels w;
      counters = w.counters;
      clipped = search rules;
    }

pub returns-clause-labels : goal.returns-clause-labels
returns-clause-labels c =
    let a = c.args in
    let l = c.loop-n in
    below_last a.f.w a.f.h (offsets a.element) a.labels.now l.n l.labels (omega (arith, c.requires.0.largest)) l.invariant.labels
