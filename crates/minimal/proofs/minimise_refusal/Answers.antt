-- `minimal::minimise_refusal`: rows 1, 2 and 3, and where they do not hold row 5.
use mathlib.Core.List.{[], ◌∷◌}
use Rattle.morphology.specs.Refusals.{not_places, short_work}
use Rattle.morphology.proofs.RefusalLaws.{first-row, fits-plane}
use Rattle.refusals.proofs.RowLaws.{rows_passed, rows_refused}
use Rattle.refusals.proofs.SideLaws.{shaped, sides-frame}
use Rattle.minimal.proofs.minimise_refusal.Goals as goal

pub returns-in_err-shape_rows : goal.returns-in_err-shape_rows
returns-in_err-shape_rows c =
    rows_refused (_ ∷ _ ∷ _ ∷ []) _ _ _ tt c.from_residual.ensures.1
    (rw (c.not_places-places.ensures, c.short_work-planes.ensures, c.not_places-counts.ensures) at c.in_err-shape_rows.ensures)

pub is_wild-wild-requires : goal.is_wild-wild-requires
is_wild-wild-requires c =
    let a = c.args in
    let e = rw (c.not_places-places.ensures, c.short_work-planes.ensures, c.not_places-counts.ensures) at c.in_ok-shape_rows.ensures in
    let wrong = not_places a.w a.h a.labels.now ∷ short_work a.w a.h a.work.now ∷ not_places a.w a.h a.counters.now ∷ [] in
    let d = shaped a.w a.h a.element wrong [] tt e in
    ((sides-frame d.sides).across, fits-plane _ _ d.lengths.0, d.element)

pub returns : goal.returns
returns c =
    let e = rw (c.not_places-places.ensures, c.short_work-planes.ensures, c.not_places-counts.ensures) at c.in_ok-shape_rows.ensures in
    rows_passed (_ ∷ _ ∷ _ ∷ []) _ tt e (first-row 5 c.is_wild-wild.ensures c.when.ensures)
