-- `refusals::shape_rows`: rows 1 and 2, and where they do not hold row 3.
use mathlib.Core.List.{[], ◌∷◌}
use Rattle.morphology.proofs.RefusalLaws.{first-row, lengths-joined}
use Rattle.refusals.proofs.RowLaws.{rows_passed, rows_refused}
use Rattle.refusals.proofs.shape_rows.Goals as goal

pub returns-in_err-sides_and_element : goal.returns-in_err-sides_and_element
returns-in_err-sides_and_element c = rows_refused (_ ∷ _ ∷ []) _ _ _ tt c.from_residual.ensures.1 c.in_err-sides_and_element.ensures

pub returns : goal.returns
returns c =
    let a = c.args in
    rows_passed (_ ∷ _ ∷ []) _ tt c.in_ok-sides_and_element.ensures (first-row 3 (lengths-joined a.a a.b a.c) c.when.ensures)
