-- `sections::walk_plane`: planes that are the same have no run; others are walked block by block.
use mathlib.Core.Path.{◌∙◌, sym}
use Rattle.sections.proofs.PlaneLaws.{same_marked, same_set}
use Rattle.sections.proofs.walk_plane.Goals as goal

pub returns-then-same_rows : goal.returns-then-same_rows
returns-then-same_rows g c =
    let a = c.args in
    same_marked a.f.w a.f.h a.q a.s.now g.P.Pen.down a.out.now a.at a.run
    (same_set a.f.w a.f.h a.f.r a.q a.s.now c.args.f.sheet.frame.row (sym c.same_rows.ensures ∙ c.if-same_rows.true))
