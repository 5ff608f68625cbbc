-- `covers::grow` meets its contract: no ink, or a dilation on the rows that it can reach, which answers for the whole frame.
use mathlib.Core.Path.{refl}
use native.Mathlib.Omega.{arith}
use Rattle.morphology.proofs.ElementLaws.{element-bit}
use Rattle.covers.proofs.GrowLaws.{cover_found, grow-blank, grow_done, lent_rows, rows-bytes, rows-clean, rows_long}
use Rattle.covers.proofs.grow.Goals as goal

pub returns-then-from-to : goal.returns-then-from-to
returns-then-from-to c = grow-blank (cover_found c.requires (λ i. (c.slice_known-1.given i).fits) c.first_row-from.ensures c.end_row-to.ensures) c.if-from-to.true

pub dilate_plane-requires : goal.dilate_plane-requires
dilate_plane-requires c =
    let l = lent_rows _ _ (cover_found c.requires (λ i. (c.slice_known-1.given i).fits) c.first_row-from.ensures c.end_row-to.ensures) c.saturating_sub-first.ensures c.saturating_sub.ensures in
    (omega (arith, rows-bytes l), rows_long l _ refl, element-bit _ c.requires.element, rows-clean l _ refl)

pub returns : goal.returns
returns c =
    let l = lent_rows _ _ (cover_found c.requires (λ i. (c.slice_known-1.given i).fits) c.first_row-from.ensures c.end_row-to.ensures) c.saturating_sub-first.ensures c.saturating_sub.ensures in
    let e = c.dilate_plane.ensures in
    grow_done l _ refl _ e.plane c.of-up.ensures c.saturating_sub-first.ensures c.saturating_sub.ensures _ e.clipped
