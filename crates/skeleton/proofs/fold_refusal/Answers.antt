-- `skeleton::fold_refusal`: rows 1 to 4, then row 7.
use mathlib.Core.List.{[], ◌∷◌}
use Rattle.morphology.proofs.RefusalLaws.{first-row}
use Rattle.refusals.proofs.RowLaws.{rows_passed, rows_refused}
use Rattle.skeleton.proofs.fold_refusal.Goals as goal

pub returns-in_err-image_refusal : goal.returns-in_err-image_refusal
returns-in_err-image_refusal c =
    rows_refused (_ ∷ _ ∷ _ ∷ _ ∷ []) _ _ _ tt c.from_residual.ensures.1 (rw c.not_plane-out_wrong.ensures at c.in_err-image_refusal.ensures)

pub returns : goal.returns
returns c =
    rows_passed (_ ∷ _ ∷ _ ∷ _ ∷ []) _ tt (rw c.not_plane-out_wrong.ensures at c.in_ok-image_refusal.ensures) (first-row 7 c.above_max.ensures c.when.ensures)
