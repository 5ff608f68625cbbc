-- `skeleton::reconstruct_refusal`: rows 1, 2 and 3, and where they do not hold rows 5 and 7.
use mathlib.Core.List.{[], ◌∷◌}
use Rattle.morphology.specs.Refusals.{not_places, not_plane, short_work}
use Rattle.morphology.proofs.RefusalLaws.{first-row, fits-plane}
use Rattle.refusals.proofs.RowLaws.{rows_passed, rows_refused}
use Rattle.refusals.proofs.SideLaws.{shaped, sides-frame}
use Rattle.skeleton.proofs.reconstruct_refusal.Goals as goal

pub returns-in_err-shape_rows : goal.returns-in_err-shape_rows
returns-in_err-shape_rows c =
    rows_refused (_ ∷ _ ∷ _ ∷ []) _ _ _ tt c.from_residual.ensures.1
    (rw (c.not_places-places.ensures, c.not_plane-plane.ensures, c.short_work-planes.ensures) at c.in_err-shape_rows.ensures)

pub is_wild-wild-requires : goal.is_wild-wild-requires
is_wild-wild-requires c =
    let a = c.args in
    let e = rw (c.not_places-places.ensures, c.not_plane-plane.ensures, c.short_work-planes.ensures) at c.in_ok-shape_rows.ensures in
    let wrong = not_places a.w a.h a.labels.now ∷ not_plane a.w a.h a.image.now ∷ short_work a.w a.h a.work.now ∷ [] in
    let d = shaped a.w a.h a.element wrong [] tt e in
    ((sides-frame d.sides).across, fits-plane _ _ d.lengths.0, d.element)

pub returns-in_err-when : goal.returns-in_err-when
returns-in_err-when c =
    let e = rw (c.not_places-places.ensures, c.not_plane-plane.ensures, c.short_work-planes.ensures) at c.in_ok-shape_rows.ensures in
    rows_passed (_ ∷ _ ∷ _ ∷ []) (_ ∷ _ ∷ []) tt e
    (rows_refused (_ ∷ []) (_ ∷ []) _ _ tt c.from_residual-in_err-when.ensures.1 (first-row 5 c.is_wild-wild.ensures c.in_err-when.ensures))

pub returns : goal.returns
returns c =
    let e = rw (c.not_places-places.ensures, c.not_plane-plane.ensures, c.short_work-planes.ensures) at c.in_ok-shape_rows.ensures in
    rows_passed (_ ∷ _ ∷ _ ∷ []) (_ ∷ _ ∷ []) tt e
    (rows_passed (_ ∷ []) (_ ∷ []) tt (first-row 5 c.is_wild-wild.ensures c.in_ok-when.ensures) (first-row 7 c.above_max.ensures c.when-2.ensures))
