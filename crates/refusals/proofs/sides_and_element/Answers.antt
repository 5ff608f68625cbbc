-- `refusals::sides_and_element`: row 1, and where it does not hold row 2.
use mathlib.Core.List.{[], ◌∷◌}
use Rattle.morphology.proofs.RefusalLaws.{first-row}
use Rattle.refusals.proofs.RowLaws.{rows_passed, rows_refused}
use Rattle.refusals.proofs.sides_and_element.Goals as goal

pub returns-in_err-when : goal.returns-in_err-when
returns-in_err-when c = rows_refused (_ ∷ []) _ _ _ tt c.from_residual.ensures.1 (first-row 1 c.bad_sides.ensures c.in_err-when.ensures)

pub returns : goal.returns
returns c =
    rows_passed (_ ∷ []) _ tt (first-row 1 c.bad_sides.ensures c.in_ok-when.ensures) (first-row 2 c.bad_element.ensures c.when-2.ensures)
