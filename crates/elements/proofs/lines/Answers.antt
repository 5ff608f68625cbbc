-- `elements::lines` meets its contract.
use mathlib.Core.Path.{refl}
use Rattle.morphology.specs.Element.{offset}
use Rattle.elements.specs.Lines.{line, number_below}
use Rattle.elements.proofs.lines.Goals as goal

pub returns-in-true-true : goal.returns-in-true-true
unfolding line number_below offset
returns-in-true-true c = rw (c.in-true-true.is-0, c.in-true-true.is-1) (refl, refl)

pub returns-in-true-false : goal.returns-in-true-false
unfolding line number_below offset
returns-in-true-false c = rw (c.in-true-false.is-0, c.in-true-false.is-1) (refl, refl)

pub returns-in-false-true : goal.returns-in-false-true
unfolding line number_below offset
returns-in-false-true c = rw (c.in-false-true.is-0, c.in-false-true.is-1) (refl, refl)

pub returns-in-false-false : goal.returns-in-false-false
unfolding line number_below offset
returns-in-false-false c = rw (c.in-false-false.is-0, c.in-false-false.is-1) (refl, refl)
