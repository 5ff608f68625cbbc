-- `margins::falls_off` meets its contract: no row or no column has room for the element, or the rows and columns at the edges that lack it are looked at.
use mathlib.Core.Bool.{◌||◌}
use mathlib.Core.Logic.{inl, inr}
use mathlib.Core.Path.{◌∙◌, ap₂}
use native.Mathlib.Nat.{le_refl}
use native.Mathlib.Omega.{arith}
use Rattle.raster.proofs.PackLaws.{frame_row}
use Rattle.margins.proofs.EdgeLaws.{edge_plane, falls_all, falls_edges, first_rows, last-rows}
use Rattle.margins.proofs.falls_off.Goals as goal
use Rattle.margins.proofs.falls_off.Goals.{then-w-left-via-then-w-left, then-w-left-via-else-w-left+then-h-up}

pub returns-then-w-left : goal.returns-then-w-left
returns-then-w-left c =
    let a = c.args in
    let p = edge_plane a.f.sheet.frame c.requires (λ i. omega (arith, c.type_inv.plane i)) c.of-left.ensures in
    c.has_ink.ensures
    ∙ falls_all p (first_rows _ _ _ _ (le_refl a.f.h) c.requires.0)
    (elim c.then-w-left.branch [ then-w-left-via-then-w-left w ↦ inl w.if-w-left.true | then-w-left-via-else-w-left+then-h-up w ↦ inr w.if-h-up.true ])

pub returns : goal.returns
returns c =
    let a = c.args in
    let p = edge_plane a.f.sheet.frame c.requires (λ i. omega (arith, c.type_inv.plane i)) c.of-left.ensures in
    ap₂ ◌||◌ (ap₂ ◌||◌ (ap₂ ◌||◌ c.has_ink-above.ensures c.has_ink-below.ensures) c.left_ink-first.ensures) c.right_ink-last.ensures
    ∙ falls_edges p (first_rows a.f.r a.f.h _ a.plane.now (omega arith) c.requires.0) (last-rows a.f.r a.f.h _ a.plane.now (omega arith) c.requires.0)
    (omega (arith, (frame_row a.f.sheet.frame).0))
