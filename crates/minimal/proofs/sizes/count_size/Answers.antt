use Rattle.std.proofs.Common.{◌*◌, ◌+◌, ◌<◌, arith}
use Rattle.morphology.specs.Element.{offsets}
use Rattle.minimal.proofs.CountingLaws.{counting_gap, counting_next, counting_open, counting-size}
use Rattle.minimal.proofs.SizeLaws.{cover_at}
use Rattle.minimal.proofs.sizes.count_size.Goals as goal

pub loop-i-init : goal.loop-i-init
loop-i-init c =
    let a = c.args in
    let m = a.labels.now in
    let e = c.next_place-i.ensures in
    record {
      within = e.within;
      label = e.label;
      counted = counting_gap a.f.w a.f.h (offsets a.element) m a.n 0 _ a.counters.now e.after e.without c.requires.3;
    }

pub visit_cover-requires : goal.visit_cover-requires
visit_cover-requires c =
    let a = c.args in
    let l = c.loop-i in
    let s = c.requires.0 in
    let t = c.requires.1 in
    let i = c.loop-i-test.true in
    let h : l.i < a.f.w * a.f.h = omega (arith, t.places, i) in
    let v = cover_at s t c.band_of-band.ensures i in
    let q = l.invariant.counted in
    (v.banded, v.near, counting_open a.f.w a.f.h (offsets a.element) a.labels.now a.n l.i l.counters q a.f.r a.a a.plane.now s t h (l.invariant.label i))

pub loop-i-preserved : goal.loop-i-preserved
loop-i-preserved c =
    let a = c.args in
    let l = c.loop-i in
    let s = c.requires.0 in
    let t = c.requires.1 in
    let B = offsets a.element in
    let m = a.labels.now in
    let i = c.loop-i-test.true in
    let h : l.i < a.f.w * a.f.h = omega (arith, t.places, i) in
    let q =
    counting_next a.f.w a.f.h B m a.n l.i l.counters l.invariant.counted a.f.r a.a a.plane.now s t h (l.invariant.label i) _ c.visit_cover.ensures.1 in
    let e = c.next_place-i-in-loop-i.ensures in
    record { within = e.within; label = e.label; counted = counting_gap a.f.w a.f.h B m a.n (l.i + 1) _ _ e.after e.without q }

pub returns : goal.returns
returns c =
    let a = c.args in
    let l = c.loop-i in
    counting-size a.f.w a.f.h (offsets a.element) a.labels.now a.n l.i l.counters
    (omega (arith, l.invariant.within, c.loop-i-test.false, c.requires.1.places)) l.invariant.counted
