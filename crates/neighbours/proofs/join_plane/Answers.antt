use native.Mathlib.Omega.{arith}
use Prim.Native.Nat.{◌-◌}
use Rattle.raster.proofs.PackLaws.{frame_row}
use Rattle.neighbours.specs.Neighbours.{neighbours, source_bit}
use Rattle.neighbours.proofs.StripLaws.{plane-rows, strip-rows}
use Rattle.neighbours.proofs.join_plane.Goals as goal

pub nonzero_div-most : goal.nonzero_div-most
nonzero_div-most c = omega (arith, (frame_row c.args.f.sheet.frame).2)

pub join_near-requires : goal.join_near-requires
join_near-requires c =
    let a = c.args in
    let k = frame_row a.f.sheet.frame in
    let l = c.loop-y in
    let s = strip-rows (a.f.h - l.y) c.min-n.result a.f.sheet.frame (omega arith) c.min-n.ensures in (
      record {
        plane-rows = c.requires.0;
        stride = k.3;
        height = a.f.sheet.frame.down;
        rows = omega (arith, s.1, l.invariant.0);
        near = omega (arith, s.2);
      },
      k.2,
      omega (arith, l.invariant.1.size, c.requires.1),
      omega (arith, s.2),
    )

pub loop-y-smaller : goal.loop-y-smaller
loop-y-smaller c =
    let a = c.args in
    let s = strip-rows (a.f.h - c.loop-y.y) c.min-n.result a.f.sheet.frame (omega arith) c.min-n.ensures in
    omega (arith, s.0, s.1)

pub loop-y-preserved : goal.loop-y-preserved
loop-y-preserved c =
    let l = c.loop-y in
    let a = c.args in (
      omega arith,
      plane-rows a.how.dilating 0 a.f.r l.y c.min-n.result a.out.now l.out _ (λ y x. neighbours a.how.dilating a.element (source_bit a.how.inverse a.image.now a.f.r a.f.h) x y)
          l.invariant.1 c.join_near.ensures,
    )
