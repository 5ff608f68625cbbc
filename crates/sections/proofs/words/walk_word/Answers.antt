use Prim.Native.Nat.{◌-◌, ◌/◌, ◌^◌}
use native.Mathlib.Omega.{arith}
use Rattle.sections.proofs.WordLaws.{all_ones, highest, point_less, points_less, power}
use Rattle.sections.proofs.WordLaws.{walking-below, walking_done, walking-none, walking-point, walking-points, walking-room, walking_step, walking-top}
use Rattle.sections.proofs.words.walk_word.Goals as goal

pub loop-left-init : goal.loop-left-init
loop-left-init g c =
    let a = c.args in
    let q = c.requires in
    let all = (2 ^ 64 - 1) / 2 ^ (64 - a.m) in
    walking-none g.P.Pen.down a.m all a.ink a.mask a.out.now a.pen.at a.pen.run q.1 (all_ones a.m q.1) q.2 q.3

pub count_free-requires : goal.count_free-requires
count_free-requires g c =
    let w = c.loop-left.invariant in
    (walking-below w c.loop-left-test.true, w.short, w.fits)

pub end_run-j-requires : goal.end_run-j-requires
end_run-j-requires g c =
    let w = c.loop-left.invariant in
    walking-room w c.requires.5 (walking-point w c.loop-left-test.true c.count_free.result c.count_free.ensures)

pub empty_runs-j-requires : goal.empty_runs-j-requires
empty_runs-j-requires g c =
    let w = c.loop-left.invariant in
    let f = c.count_free in
    let n = c.leading_points-n in
    let t = c.loop-left-test.true in
    let past = walking_step w (walking-point w t f.result f.ensures) c.end_run-j.ensures in
    walking-room past c.requires.5 (walking-points w t f.result f.ensures n.result n.ensures)

pub loop-left-smaller-then-n-ne0 : goal.loop-left-smaller-then-n-ne0
loop-left-smaller-then-n-ne0 g c =
    let l = c.loop-left in
    let h = highest l.left in
    points_less l.left h (power (h - c.leading_points-n.result)) (walking-top l.invariant c.loop-left-test.true).1

pub loop-left-preserved-then-n-ne0 : goal.loop-left-preserved-then-n-ne0
loop-left-preserved-then-n-ne0 g c =
    let w = c.loop-left.invariant in
    let f = c.count_free in
    let n = c.leading_points-n in
    let t = c.loop-left-test.true in
    let past = walking_step w (walking-point w t f.result f.ensures) c.end_run-j.ensures in
    walking_step past (walking-points w t f.result f.ensures n.result n.ensures) c.empty_runs-j.ensures

pub loop-left-smaller : goal.loop-left-smaller
loop-left-smaller g c =
    let l = c.loop-left in
    point_less l.left (highest l.left) (walking-top l.invariant c.loop-left-test.true).1

pub loop-left-preserved : goal.loop-left-preserved
loop-left-preserved g c =
    let w = c.loop-left.invariant in
    let f = c.count_free in
    walking_step w (walking-point w c.loop-left-test.true f.result f.ensures) c.end_run-j.ensures

pub returns : goal.returns
returns g c = walking_done c.loop-left.invariant (omega (arith, c.loop-left-test.false))
