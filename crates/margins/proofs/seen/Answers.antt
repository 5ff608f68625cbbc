use Prim.Native.Nat.{◌*◌, ◌+◌}
use mathlib.Core.Path.{refl}
use native.Mathlib.Omega.{arith}
use Rattle.raster.proofs.RowLaws.{rows_in}
use Rattle.margins.proofs.ColumnLaws.{seen_four, seen_none, seen_one}
use Rattle.margins.proofs.seen.Goals as goal

pub loop-k-init : goal.loop-k-init
loop-k-init c = seen_none c.args.s.now c.args.r c.args.c

pub bounds-s-i-in-loop-k : goal.bounds-s-i-in-loop-k
bounds-s-i-in-loop-k c = omega (arith, rows_in (4 * c.loop-k.k) 4 c.args.h c.args.r (omega arith))

pub bounds-s-i-in-loop-k-2 : goal.bounds-s-i-in-loop-k-2
bounds-s-i-in-loop-k-2 c = omega (arith, rows_in (4 * c.loop-k.k) 4 c.args.h c.args.r (omega arith))

pub bounds-s-i-in-loop-k-3 : goal.bounds-s-i-in-loop-k-3
bounds-s-i-in-loop-k-3 c = omega (arith, rows_in (4 * c.loop-k.k) 4 c.args.h c.args.r (omega arith))

pub loop-k-preserved : goal.loop-k-preserved
loop-k-preserved c =
    let l = c.loop-k in
    let a = c.args in
    seen_four a.s.now a.r (4 * l.k) (4 * (l.k + 1)) a.c l.v l.u (4 * l.k * a.r + a.c) (omega arith) refl l.invariant

pub loop-y-preserved : goal.loop-y-preserved
loop-y-preserved c =
    let l = c.loop-y in
    let a = c.args in
    seen_one a.s.now a.r l.y a.c l.v (l.y * a.r + a.c) refl l.invariant
