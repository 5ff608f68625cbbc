-- `covers::is_eroded` meets its contract: outside of the rows where the second plane has ink, all of the three sets are empty.
use mathlib.Core.Path.{refl}
use native.Mathlib.Omega.{arith}
use borrow.Author.Rules.{rules}
use Rattle.morphology.proofs.ElementLaws.{element-bit}
use Rattle.covers.proofs.ErodedLaws.{eroded-size, eroded_tested, ink-bytes, ink-clean, ink_long, pair_found}
use Rattle.covers.proofs.is_eroded.Goals as goal

pub erode_plane-requires : goal.erode_plane-requires
erode_plane-requires c =
    let g = pair_found c.requires (search rules) c.first_row-from.ensures c.end_row-to.ensures in
    (omega (arith, ink-bytes g), ink_long g _ refl, element-bit _ c.requires.element, ink-clean g _ refl)

pub same_rows-requires : goal.same_rows-requires
same_rows-requires c =
    let g = pair_found c.requires (search rules) c.first_row-from.ensures c.end_row-to.ensures in
    let e = eroded-size g _ refl _ c.erode_plane.ensures in
    (omega (arith, ink-bytes g, c.requires.room, e), omega (arith, ink-bytes g, c.requires.room, e))

pub returns : goal.returns
returns c =
    eroded_tested (pair_found c.requires (search rules) c.first_row-from.ensures c.end_row-to.ensures) _ refl _ c.erode_plane.ensures _ c.same_rows.ensures
