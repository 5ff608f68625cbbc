use mathlib.Core.Path.{refl}
use Prim.Native.Nat.{◌-◌, ◌/◌, ◌^◌}
use native.Mathlib.Omega.{arith}
use Rattle.std.specs.Prelude.{Some}
use Rattle.coding.specs.Symbols.{symbols_of}
use Rattle.sections.proofs.WordLaws.{all_ones}
use Rattle.seeking.proofs.MaskedLaws.{masked-end, masked_less, masked-near, masked-none, masked-over, masked-room, masked-run}
use Rattle.seeking.proofs.place_masked.Goals as goal

pub loop-run-init : goal.loop-run-init
loop-run-init c =
    let a = c.args in
    let q = c.requires in
    (masked-none (symbols_of a.stream.now) a.limit a.m ((2 ^ 64 - 1) / 2 ^ (64 - a.m)) a.mask a.run.left a.run.at (all_ones a.m q.1) q.2 q.3, refl)

pub overflow_add-points : goal.overflow_add-points
overflow_add-points c = omega (arith, masked-room c.loop-run.invariant.0 c.pick.result c.pick.ensures c.requires.1)

pub next_run-next-requires : goal.next_run-next-requires
next_run-next-requires c =
    let q = c.requires in
    (masked-near c.loop-run.invariant.0 q.1 q.4 q.5, q.4)

pub returns-in_default : goal.returns-in_default
returns-in_default c =
    let p = c.pick in
    let n = c.next_run-next in
    masked-over c.loop-run.invariant.0 p.result p.ensures n.result (rw c.in_default.is tt) n.ensures.0 n.ensures.1

pub returns-in_default-follows : goal.returns-in_default-follows
returns-in_default-follows c =
    let p = c.pick in
    let f = c.in-Some.ensures in
    masked-over c.loop-run.invariant.0 p.result p.ensures (Some c.in-Some.follows) (rw c.in_default-follows.is tt) f.0 f.1

pub loop-run-smaller : goal.loop-run-smaller
loop-run-smaller c = masked_less c.loop-run.invariant.0 c.pick.result c.pick.ensures

pub loop-run-preserved : goal.loop-run-preserved
loop-run-preserved c =
    let p = c.pick in
    let r = c.in-Run in
    let f = rw r.is at c.in-Some.ensures in
    (masked-run c.loop-run.invariant.0 p.result p.ensures r.after.left r.after.at f.0 f.1, refl)

pub returns : goal.returns
returns c =
    let l = c.loop-run in
    masked-end l.invariant.0 l.count l.invariant.1 c.loop-run-test.false
