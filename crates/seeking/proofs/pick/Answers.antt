use Prim.Native.Nat.{◌*◌, ◌+◌, ◌-◌, ◌<◌, ◌^◌, ◌≤◌, ℕ}
use native.Mathlib.Nat.{pow-suc, sub-zero}
use native.Mathlib.Omega.{arith}
use Rattle.sections.proofs.WordLaws.{Top}
use Rattle.seeking.proofs.BarLaws.{picking-end, picking_next, picking-none, picking-some}
use Rattle.seeking.proofs.pick.Goals as goal

-- what `ilog2` says of its answer
top_of : (n h : ℕ) → 2 ^ h ≤ n → n < 2 * 2 ^ h → h < 64 → Top n h
top_of n h a b c = (c, a, omega (arith, pow-suc 2 h))

pub loop-init : goal.loop-init
loop-init c = rw sub-zero (picking-none c.args.free c.args.k c.ranges.free.fits c.requires)

pub ilog2-requires : goal.ilog2-requires
ilog2-requires c = picking-some c.loop.invariant

pub loop-preserved : goal.loop-preserved
loop-preserved c =
    let e = c.ilog2.ensures in
    let t = top_of c.loop.rest c.ilog2.result e.power_le e.next_power_gt e.bound in
    picking_next c.loop.invariant c.ilog2.result t (c.args.k - (c.loop.counter + 1)) (omega arith)

pub ilog2-requires-2 : goal.ilog2-requires-2
ilog2-requires-2 c = picking-some c.loop.invariant

pub returns : goal.returns
returns c =
    let e = c.ilog2-2.ensures in
    let t = top_of c.loop.rest c.ilog2-2.result e.power_le e.next_power_gt e.bound in
    picking-end c.loop.invariant c.ilog2-2.result t (omega arith)
