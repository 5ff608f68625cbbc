-- `planes::dilate_plane` meets its contract: where nothing falls off, nothing is in the padding.
use mathlib.Core.Bool.{true}
use mathlib.Core.Path.{◌∙◌, sym}
use native.Mathlib.Omega.{arith}
use Rattle.planes.proofs.CentreLaws.{plane-cleared}
use Rattle.planes.proofs.PlaneLaws.{clip_done, dilation_done}
use Rattle.planes.proofs.dilate_plane.Goals as goal

pub morph_plane-requires : goal.morph_plane-requires
morph_plane-requires c =
    let q = c.requires in
    (q.0, q.1, q.2)

pub clear_rows-requires : goal.clear_rows-requires
clear_rows-requires c =
    omega (arith, c.requires.1, c.morph_plane.ensures.size)

pub returns-then-clears : goal.returns-then-clears
returns-then-clears c =
    let a = c.args in
    record {
      plane =
          clip_done true a.f.w a.f.h a.f.r a.element a.work.now c.args.f.sheet.frame c.requires.3 a.q _ c.requires.1
          (λ i. (c.type_inv.work i).fits) (plane-cleared a.f.w c.morph_plane.ensures c.clear_rows.ensures);
      clipped = c.falls_off-clipped.ensures;
    }

pub returns-else-clears : goal.returns-else-clears
returns-else-clears c =
    let a = c.args in
    let t = c.falls_off-clipped.ensures in
    record {
      plane =
          dilation_done a.f.w a.f.h a.f.r a.q a.element a.work.now _ c.args.f.sheet.frame c.requires.1 c.requires.3 (λ i. (c.type_inv.work i).fits)
          (sym t ∙ c.if-clears.false) c.morph_plane.ensures;
      clipped = t;
    }
