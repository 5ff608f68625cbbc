use Rattle.std.proofs.Common.{◌*◌, ◌≡◌, ◌≤◌, ◌∙◌, arith, length, refl, replicate, rules}
use Rattle.morphology.specs.Element.{offsets}
use Rattle.minimal.proofs.CountingLaws.{counting_last, counting-start}
use Rattle.minimal.proofs.SizeLaws.{begun_shape, begun-stays, shape-plane}
use Rattle.minimal.proofs.sizes.count_up.Goals as goal

pub loop-n-init : goal.loop-n-init
loop-n-init c =
    let a = c.args in
    let z : c.fill.new.self ≡ replicate (a.f.w * a.f.h) 0 = search rules in
    record {
      shape = begun_shape c.requires.0 c.mark.ensures;
      work = record { size = refl; rest = refl };
      counted = z ∙ counting-start a.f.w a.f.h (offsets a.element) a.labels.now;
      clipped = refl;
    }

pub reach_size-clipped-requires : goal.reach_size-clipped-requires
reach_size-clipped-requires c =
    let b = c.requires.0 in
    let l = c.loop-n in
    (omega (arith, b.planes, c.mark.ensures.size, l.invariant.work.size), b.element, l.invariant.shape, begun-stays b l.n c.loop-n-test.true)

pub count_size-requires : goal.count_size-requires
count_size-requires c =
    let b = c.requires.0 in
    let l = c.loop-n in
    let d = c.reach_size-clipped.ensures in
    let planes : 2 * c.args.f.p ≤ length c.loop-n.work = omega (arith, b.planes, c.mark.ensures.size, l.invariant.work.size) in
    (shape-plane b.sheet (omega (arith, d.work.size, planes)) d.shape, b.tame, omega (arith, b.fits, c.loop-n-test.true), l.invariant.counted)

pub returns-clause-counters : goal.returns-clause-counters
returns-clause-counters c =
    let a = c.args in
    let l = c.loop-n in
    counting_last a.f.w a.f.h (offsets a.element) a.labels.now l.n l.counters (omega (arith, c.requires.0.largest)) l.invariant.counted
