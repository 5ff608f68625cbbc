-- `minimal::sizes::points_of` meets its contract. The invariant: n is the number of points among the first labels.
use Rattle.std.proofs.Common.{◌≡◌, eqb, not, take}
use Rattle.morphology.specs.Lists.{count_of}
use Rattle.minimal.proofs.sizes.points_of.Given as goal

abbrev pub invariant-loop-label : goal.invariant-loop-label
invariant-loop-label l = l.n ≡ count_of (λ v. not (eqb v 0)) (take l.label-index l.labels)
