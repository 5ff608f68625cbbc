-- `encoding::turn` meets its contract. The plane is opened, its runs that the opening lacks are walked, and the erosion is copied down.
use mathlib.Core.List.{List}
use mathlib.Core.Path.{sym, subst}
use native.Mathlib.Omega.{arith}
use borrow.Author.Rules.{rules}
use Prim.Native.Nat.{ℕ}
use Rattle.morphology.proofs.ElementLaws.{element-bit}
use Rattle.iteration.proofs.OpenLaws.{opened-clean, opened-down}
use Rattle.sections.specs.Pens.{PenRoom}
use Rattle.sections.proofs.PenLaws.{marked_as}
use Rattle.encoding.proofs.SizeLaws.{opened-runs}
use Rattle.encoding.proofs.turn.Goals as goal

pub open_plane-requires : goal.open_plane-requires
open_plane-requires g c =
    let t = c.requires.0 in
    (t.apart, t.planes, element-bit c.args.element t.element, t.clean)

pub walk_plane-end-requires : goal.walk_plane-end-requires
walk_plane-end-requires g c =
    let a = c.args in
    let t = c.requires.0 in (
      omega (arith, t.apart),
      search rules,
      opened-clean a.f.w a.f.h a.f.r a.q a.element a.work.now t.frame t.apart t.planes _ c.open_plane.ensures.planes,
      c.requires.1,
      subst (λ (rs : List ℕ). PenRoom g.P.Pen.down a.out.now a.at rs)
          (sym (opened-runs a.f.w a.f.h a.f.r a.q a.element a.work.now t.frame t.apart t.planes _ c.open_plane.ensures.planes a.before)) c.requires.2,
    )

pub returns : goal.returns
returns g c =
    let a = c.args in
    let t = c.requires.0 in
    record {
      planes = opened-down a.f.w a.f.h a.f.r a.q a.element a.work.now t.frame t.apart t.planes _ c.open_plane.ensures.planes _ c.copy_down.ensures;
      runs =
          marked_as (opened-runs a.f.w a.f.h a.f.r a.q a.element a.work.now t.frame t.apart t.planes _ c.open_plane.ensures.planes a.before)
          c.walk_plane-end.ensures;
    }
