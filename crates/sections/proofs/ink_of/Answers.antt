-- `sections::ink_of`: bytes without a 1 are zeros, and those have no ones.
use mathlib.Core.Path.{ap, ◌∙◌, sym}
use borrow.Author.Tests.{not-true}
use Rattle.sections.proofs.PlaneLaws.{blank-ones}
use mathlib.Core.Bool.{not}
use Rattle.sections.proofs.ink_of.Goals as goal

pub returns-then-not-has_ink : goal.returns-then-not-has_ink
returns-then-not-has_ink c = sym (blank-ones c.args.s.now (sym c.has_ink.ensures ∙ not-true _ (ap not c.if-not-has_ink.true)))
