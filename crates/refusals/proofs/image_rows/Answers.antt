-- `refusals::image_rows`: row 3, and where it does not hold row 4.
use mathlib.Core.List.{[], ◌∷◌}
use mathlib.Core.Path.{sym}
use Rattle.morphology.specs.Refusals.{not_plane}
use Rattle.morphology.proofs.RefusalLaws.{clear-out, first-row, lengths-joined, lengths-out}
use Rattle.refusals.proofs.RowLaws.{rows_passed, rows_refused}
use Rattle.refusals.proofs.image_rows.Goals as goal

pub returns-in_err-when : goal.returns-in_err-when
returns-in_err-when c =
    let a = c.args in
    rows_refused (_ ∷ []) _ _ _ tt c.from_residual.ensures.1
    (first-row 3 (lengths-joined _ a.other a.short) (rw c.not_plane.ensures at c.in_err-when.ensures))

pub bad_padding-requires : goal.bad_padding-requires
bad_padding-requires c =
    let a = c.args in
    let e = first-row 3 (lengths-joined _ a.other a.short) (rw c.not_plane.ensures at c.in_ok-when.ensures) in
    (c.requires, (lengths-out (not_plane a.w a.h a.image.now ∷ _ ∷ _ ∷ []) (clear-out (_ ∷ []) tt (sym e)).0).0)

pub returns : goal.returns
returns c =
    let a = c.args in
    rows_passed (_ ∷ []) _ tt (first-row 3 (lengths-joined _ a.other a.short) (rw c.not_plane.ensures at c.in_ok-when.ensures))
    (first-row 4 c.bad_padding.ensures c.when-2.ensures)
