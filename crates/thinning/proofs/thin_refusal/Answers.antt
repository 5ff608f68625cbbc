-- `thinning::thin_refusal`: row 1, and where it does not hold rows 3 and 4.
use mathlib.Core.List.{[], ◌∷◌}
use mathlib.Core.Path.{sym}
use Rattle.morphology.proofs.RefusalLaws.{clear-out, first-row}
use Rattle.refusals.proofs.RowLaws.{rows_passed, rows_refused}
use Rattle.thinning.proofs.thin_refusal.Goals as goal

pub returns-in_err-when : goal.returns-in_err-when
returns-in_err-when c = rows_refused (_ ∷ []) _ _ _ tt c.from_residual.ensures.1 (first-row 1 c.bad_sides.ensures c.in_err-when.ensures)

pub image_rows-requires : goal.image_rows-requires
image_rows-requires c = (clear-out (_ ∷ []) tt (sym (first-row 1 c.bad_sides.ensures c.in_ok-when.ensures))).0

pub returns : goal.returns
returns c = rows_passed (_ ∷ []) _ tt (first-row 1 c.bad_sides.ensures c.in_ok-when.ensures) (rw c.short_work-short.ensures at c.image_rows.ensures)
