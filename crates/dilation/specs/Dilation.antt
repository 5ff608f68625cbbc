-- One dilation with its own answer, as an operation over any arguments. Not one of 01 or 02: T-06's answer, for tests.
use Rattle.std.specs.Prelude.{Bool, Result, cond, List, [], ◌∷◌, ℕ}
use Rattle.morphology.specs.Answers.{Answer, Outcome, answered, outcome}
use Rattle.morphology.specs.Element.{offsets}
use Rattle.morphology.specs.Falls.{falls_off}
use Rattle.morphology.specs.Image.{clip, image_set, pack}
use Rattle.morphology.specs.Labels.{area}
use Rattle.morphology.specs.Morphology.{dilate}
use Rattle.morphology.specs.Operations.{cleared}
use Rattle.morphology.specs.Point.{Point}
use Rattle.morphology.specs.Refusals.{Row, checked, not_plane, row1, row2, row3, row4, short_work}
use Rattle.iteration.specs.declared.Inked.{Inked}
use Rattle.refusals.specs.Refusal.{answer_by}
use Rattle.refusals.specs.declared.Refusal.{Refusal}

-- the area on the sheet, and 1 where a point fell off
abbrev pub grown : ℕ → Bool → Answer
grown n fell = answered (n ∷ cond fell 1 0 ∷ [])

abbrev pub dilation : Inked → Answer
dilation i = grown i.area i.clipped

abbrev pub answer_of : Result Inked Refusal → Answer
answer_of r = answer_by dilation r

-- the rows of an erosion, but for that of its number
abbrev pub dilate_rows : ℕ → ℕ → ℕ → List ℕ → List ℕ → List ℕ → List Row
dilate_rows W H e image out work =
    row1 W H ∷ row2 e ∷ row3 (not_plane W H image ∷ not_plane W H out ∷ short_work W H work ∷ []) ∷ row4 W H image ∷ []

-- what is on the sheet of the dilation is written, and work is cleared
abbrev pub spreads : ℕ → ℕ → ℕ → (Point → Bool) → List ℕ → Outcome
spreads W H e X work =
    let Y = clip W H (dilate (offsets e) X) in outcome (grown (area W H Y) (falls_off W H (offsets e) X)) (pack W H Y ∷ cleared W H work ∷ [])

unfoldable pub dilated : ℕ → ℕ → ℕ → List ℕ → List ℕ → List ℕ → Outcome
dilated W H e image out work = checked (dilate_rows W H e image out work) (out ∷ work ∷ []) (spreads W H e (image_set W H image) work)
