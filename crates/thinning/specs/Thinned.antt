-- What thinning answers, as 01 numbers it.
use Rattle.std.specs.Prelude.{Result}
use Rattle.morphology.specs.Answers.{Answer, thinned}
use Rattle.refusals.specs.Refusal.{answer_by}
use Rattle.refusals.specs.declared.Refusal.{Refusal}
use Rattle.thinning.specs.declared.Thinned.{Thinned}

-- passes, points removed and area left
abbrev pub done : Thinned → Answer
done t = thinned t.passes t.removed t.left

abbrev pub answer_of : Result Thinned Refusal → Answer
answer_of r = answer_by done r
