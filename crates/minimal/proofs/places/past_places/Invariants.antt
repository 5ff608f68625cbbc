-- `minimal::places::past_places` meets its contract. The invariant: no place from `from` up to i has label v.
use Rattle.minimal.specs.Sizes.{Without}
use Rattle.minimal.proofs.places.past_places.Given as goal

abbrev pub invariant-loop-i : goal.invariant-loop-i
invariant-loop-i l = Without l.v l.from l.i l.labels
