-- What decomposition answers, as 01 numbers it.
use Rattle.std.specs.Prelude.{None, Option, Result, Some}
use Rattle.morphology.specs.Answers.{Answer, blank, skeleton}
use Rattle.refusals.specs.Refusal.{answer_by}
use Rattle.refusals.specs.declared.Refusal.{Refusal}
use Rattle.skeleton.specs.declared.Skeleton.{Skeleton}

-- the points and the largest size, or the points alone of an empty image
abbrev pub found : Option Skeleton → Answer
found None = blank
found (Some s) = skeleton s.points s.largest

abbrev pub answer_of : Result (Option Skeleton) Refusal → Answer
answer_of r = answer_by found r
