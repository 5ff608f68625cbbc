use mathlib.Core.Bool.{◌&&◌}
use mathlib.Core.Path.{refl}
use Prim.Native.Nat.{◌*◌, ◌+◌, ◌-◌}
use native.Mathlib.Omega.{arith}
use lib.Dec.{ltb}
use lib.ListN.{length}
use lib.ListN.{drop, length-drop}
use lib.Seq.{length-take-le}
use Rattle.raster.proofs.PackLaws.{frame_row}
use Rattle.raster.proofs.RowLaws.{row_at}
use Rattle.raster.proofs.PlaneLaws.{rows_put}
use Rattle.planes.proofs.clear_rows.Goals as goal

pub clear_padding-requires : goal.clear_padding-requires
clear_padding-requires c =
    let a = c.args in
    let l = c.loop-y in
    let d = a.q + l.y * a.f.r in
    let i = row_at a.q l.y a.f.h a.f.r (length a.work.now) c.loop-y-test.true c.requires in
    let m = length-take-le (d + a.f.r - d) (drop d l.work) (omega (arith, length-drop d l.work, i, l.invariant.size)) in
    let k = frame_row a.f.sheet.frame in
    (omega (arith, m, k.0), omega (arith, m, k.1), omega (arith, m, k.2), omega (arith, m, k.3))

pub loop-y-preserved : goal.loop-y-preserved
loop-y-preserved c =
    let a = c.args in
    let l = c.loop-y in
    let d = a.q + l.y * a.f.r in
    let i = row_at a.q l.y a.f.h a.f.r (length a.work.now) c.loop-y-test.true c.requires in
    rows_put a.q a.f.r l.y (d + a.f.r - d) d a.work.now l.work _ (λ y x b. b && ltb x a.f.w) refl (omega arith) (omega arith) l.invariant c.clear_padding.ensures
