-- `refusals::image_refusal`: rows 1 and 2, and where they do not hold rows 3 and 4.
use mathlib.Core.List.{[], ◌∷◌}
use mathlib.Core.Path.{sym}
use Rattle.morphology.proofs.RefusalLaws.{clear-out}
use Rattle.refusals.proofs.RowLaws.{rows_passed, rows_refused}
use Rattle.refusals.proofs.image_refusal.Goals as goal

pub returns-in_err-sides_and_element : goal.returns-in_err-sides_and_element
returns-in_err-sides_and_element c = rows_refused (_ ∷ _ ∷ []) _ _ _ tt c.from_residual.ensures.1 c.in_err-sides_and_element.ensures

pub image_rows-requires : goal.image_rows-requires
image_rows-requires c = (clear-out (_ ∷ _ ∷ []) tt (sym c.in_ok-sides_and_element.ensures)).0

pub returns : goal.returns
returns c = rows_passed (_ ∷ _ ∷ []) _ tt c.in_ok-sides_and_element.ensures (rw c.short_work.ensures at c.image_rows.ensures)
