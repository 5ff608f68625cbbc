use mathlib.Core.Path.{refl}
use Prim.Native.Nat.{◌+◌}
use lib.Dec.{eqb}
use lib.ListN.{get_or}
use Rattle.morphology.specs.Lists.{tabulate}
use Rattle.raster.proofs.BufferLaws.{same_more}
use Rattle.raster.proofs.same_rows.Goals as goal

pub loop-i-init : goal.loop-i-init
unfolding tabulate
loop-i-init c = refl

pub loop-i-preserved : goal.loop-i-preserved
loop-i-preserved c =
    let a = c.args in
    let l = c.loop-i in
    same_more (λ i. eqb (get_or a.plane.now (a.a + i) 0) (get_or a.plane.now (a.b + i) 0)) l.differ (get_or a.plane.now (a.a + l.i) 0)
    (get_or a.plane.now (a.b + l.i) 0) l.i l.invariant refl
