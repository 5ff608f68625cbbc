-- `Refusal::when` meets its contract: the row alone.
use mathlib.Core.List.{[]}
use mathlib.Core.Path.{◌∙◌, sym}
use Rattle.morphology.proofs.RefusalLaws.{first-hit, first_miss, first-none}
use Rattle.refusals.proofs.Refusal.when.Goals as goal

pub returns-then-holds : goal.returns-then-holds
returns-then-holds c = sym (first-hit _ _ [] c.if-holds.true)

pub returns-else-holds : goal.returns-else-holds
returns-else-holds c = sym (first_miss _ _ [] c.if-holds.false ∙ first-none)
