-- `planes::erode_plane` meets its contract.
use mathlib.Core.Bool.{false}
use Rattle.planes.proofs.PlaneLaws.{morph_done}
use Rattle.planes.proofs.erode_plane.Goals as goal

pub morph_plane-requires : goal.morph_plane-requires
morph_plane-requires c =
    let q = c.requires in
    (q.0, q.1, q.2)

pub returns : goal.returns
returns c =
    let a = c.args in
    morph_done false a.f.w a.f.h a.f.r a.element a.work.now c.args.f.sheet.frame c.requires.3 a.q _ c.requires.1 (λ i. (c.type_inv.work i).fits)
    c.morph_plane.ensures
