-- `planes::open_plane` meets its contract.
use mathlib.Core.Path.{◌∙◌, refl}
use Rattle.planes.proofs.PlaneLaws.{open_done, open_stays, rest-clean, rest_long}
use Rattle.planes.proofs.open_plane.Goals as goal

pub dilate_plane-requires : goal.dilate_plane-requires
dilate_plane-requires c =
    let a = c.args in
    let v = c.erode_plane.new.work in
    let e = c.erode_plane.ensures in (
      c.requires.0,
      rest_long a.f.w a.f.h a.f.r a.q a.element a.work.now v _ c.args.f.sheet.frame c.requires.0 c.requires.1 c.requires.2 e refl,
      c.requires.2,
      rest-clean a.f.w a.f.h a.f.r a.q a.element a.work.now v _ c.args.f.sheet.frame c.requires.0 c.requires.1 c.requires.2 e refl,
    )

pub returns : goal.returns
returns c =
    let a = c.args in
    let v = c.erode_plane.new.work in
    let e = c.erode_plane.ensures in
    let d = c.dilate_plane.ensures in
    record {
      planes = open_done a.f.w a.f.h a.f.r a.q a.element a.work.now v _ c.args.f.sheet.frame c.requires.0 c.requires.1 c.requires.2 e refl _ d.plane;
      clipped = d.clipped ∙ open_stays a.f.w a.f.h a.f.r a.q a.element a.work.now v _ c.args.f.sheet.frame c.requires.0 c.requires.1 c.requires.2 e refl;
    }
