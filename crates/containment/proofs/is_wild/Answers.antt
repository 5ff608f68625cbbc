-- `containment::is_wild` meets its contract.
use mathlib.Core.Path.{sym}
use native.Mathlib.Omega.{arith}
use Rattle.morphology.specs.Element.{offsets}
use Rattle.morphology.proofs.ElementLaws.{element}
use Rattle.morphology.proofs.ReconstructLaws.{dots-tame}
use Rattle.containment.proofs.is_wild.Goals as goal

pub returns-then-tame : goal.returns-then-tame
returns-then-tame c =
    let a = c.args in
    sym
    (dots-tame a.w a.h (offsets a.element) (element a.element c.requires.2) a.labels.now (omega (arith, c.greatest-tame.ensures, c.if-tame.true)))
