-- `thinning::hit_refusal`: row 1, and where it does not hold rows 3, 4 and 6.
use mathlib.Core.List.{[], ◌∷◌}
use mathlib.Core.Path.{sym}
use Rattle.morphology.proofs.RefusalLaws.{clear-out, first-row}
use Rattle.refusals.proofs.RowLaws.{rows_passed, rows_refused}
use Rattle.thinning.proofs.hit_refusal.Goals as goal

pub returns-in_err-when : goal.returns-in_err-when
returns-in_err-when c = rows_refused (_ ∷ []) _ _ _ tt c.from_residual.ensures.1 (first-row 1 c.bad_sides.ensures c.in_err-when.ensures)

pub image_rows-requires : goal.image_rows-requires
image_rows-requires c = (clear-out (_ ∷ []) tt (sym (first-row 1 c.bad_sides.ensures c.in_ok-when.ensures))).0

pub returns-in_err-image_rows : goal.returns-in_err-image_rows
returns-in_err-image_rows c =
    rows_passed (_ ∷ []) _ tt (first-row 1 c.bad_sides.ensures c.in_ok-when.ensures)
    (rows_refused (_ ∷ _ ∷ []) _ _ _ tt c.from_residual-in_err-image_rows.ensures.1 (rw c.not_plane-out_wrong.ensures at c.in_err-image_rows.ensures))

pub returns : goal.returns
returns c =
    rows_passed (_ ∷ []) _ tt (first-row 1 c.bad_sides.ensures c.in_ok-when.ensures)
    (rows_passed (_ ∷ _ ∷ []) _ tt (rw c.not_plane-out_wrong.ensures at c.in_ok-image_rows.ensures) (first-row 6 c.bad_mask.ensures c.when-2.ensures))
