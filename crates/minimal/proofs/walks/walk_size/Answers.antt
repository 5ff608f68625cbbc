use Rattle.std.proofs.Common.{◌*◌, ◌+◌, ◌<◌, arith, length}
use Rattle.morphology.specs.Element.{offsets}
use Rattle.minimal.proofs.SizeLaws.{cover_at}
use Rattle.minimal.proofs.WalkLaws.{size_begin, size_gap, size_more, size-tame, step_next, step-within}
use Rattle.minimal.proofs.walks.walk_size.Goals as goal

pub loop-i-init : goal.loop-i-init
loop-i-init c =
    let a = c.args in
    let B = offsets a.element in
    let m = a.labels.now in
    let e = c.next_place-i.ensures in
    record {
      within = e.within;
      label = e.label;
      labels = size_gap a.f.w a.f.h B a.n m 0 _ m e.after e.without (size_begin a.f.w a.f.h B a.n m);
      counters = c.requires.3;
    }

pub step-requires : goal.step-requires
step-requires c =
    let a = c.args in
    let B = offsets a.element in
    let l = c.loop-i in
    let s = c.requires.0 in
    let t = c.requires.1 in
    let i : l.i < length a.labels.now = omega (arith, c.loop-i-test.true, l.auto.labels) in
    let h : l.i < a.f.w * a.f.h = omega (arith, i, t.places) in
    let u = size-tame a.f.w a.f.h B a.n a.labels.now l.i l.labels t l.invariant.labels l.auto.labels in (
      cover_at s u c.band_of-band.ensures c.loop-i-test.true,
      step-within a.f.w a.f.h a.f.r B a.n a.a a.plane.now s l.labels u l.i h l.counters l.invariant.counters (l.invariant.label i),
    )

pub loop-i-preserved : goal.loop-i-preserved
loop-i-preserved c =
    let a = c.args in
    let B = offsets a.element in
    let m = a.labels.now in
    let l = c.loop-i in
    let s = c.requires.0 in
    let t = c.requires.1 in
    let i : l.i < length m = omega (arith, c.loop-i-test.true, l.auto.labels) in
    let h : l.i < a.f.w * a.f.h = omega (arith, i, t.places) in
    let u = size-tame a.f.w a.f.h B a.n m l.i l.labels t l.invariant.labels l.auto.labels in
    let z = step_next a.f.w a.f.h a.f.r B a.n a.a a.plane.now s l.labels u l.i h l.counters l.invariant.counters (l.invariant.label i) _ _ c.step.ensures in
    let e = c.next_place-i-in-loop-i.ensures in
    let q = size_more a.f.w a.f.h B a.n m l.i l.labels _ l.invariant.labels z.labels in
    record {
      within = omega (arith, e.within, z.size, l.auto.labels);
      label = λ j. e.label (omega (arith, j, z.size, l.auto.labels));
      labels = size_gap a.f.w a.f.h B a.n m (l.i + 1) _ _ e.after e.without q;
      counters = z.counters;
    }
