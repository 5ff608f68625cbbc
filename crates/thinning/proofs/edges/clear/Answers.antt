use mathlib.Core.Bool.{◌&&◌}
use Prim.Native.Nat.{◌*◌, ◌+◌, ◌-◌}
use native.Mathlib.Omega.{arith}
use lib.ListN.{length}
use Rattle.raster.proofs.PlaneLaws.{rows_put}
use Rattle.raster.proofs.RowLaws.{row_in}
use Rattle.thinning.specs.Hits.{inner}
use Rattle.thinning.proofs.edges.clear.Goals as goal

pub loop-y-preserved : goal.loop-y-preserved
loop-y-preserved c =
    let a = c.args in
    let l = c.loop-y in
    let d = l.y * a.f.r in
    let fits = row_in l.y a.f.h a.f.r (length a.plane.now) c.loop-y-test.true c.requires in
    rows_put 0 a.f.r l.y (d + a.f.r - d) d a.plane.now l.plane _ (λ y x b. b && (inner a.f.w x && inner a.f.h y)) (omega arith) (omega arith)
    (omega (arith, fits)) l.invariant c.clear_row.ensures
