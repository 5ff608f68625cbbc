-- Every operation of 01, whole: from its arguments and all lent bytes to its answer and all lent bytes afterwards, refusals included.
-- Arguments stand as the functions take them: numbers, what is read, what is written, work. Definitions only.
use Rattle.std.specs.Prelude.{Bool, List, [], ◌++◌, ◌∷◌, ◌*◌, ◌-◌, suc, zero, ℕ, drop, replicate}
use Rattle.morphology.specs.Answers.{Answer, Outcome, blank, foreground, minimal, outcome, skeleton, thinned}
use Rattle.morphology.specs.Element.{offsets}
use Rattle.morphology.specs.Image.{image_set, pack, plane_bytes}
use Rattle.morphology.specs.Labels.{area, points_of}
use Rattle.morphology.specs.Lists.{greatest}
use Rattle.morphology.specs.Minimal.{minimal_labels}
use Rattle.morphology.specs.Morphology.{erode, opening, times}
use Rattle.morphology.specs.Point.{Point}
use Rattle.morphology.specs.Refusals.{Row, checked, not_places, not_plane, row1, row2, row3, row4, row5, row6, row7, short_work}
use Rattle.morphology.specs.Skeleton.{reconstruction, skeleton_labels}
use Rattle.morphology.specs.Thinning.{hit, thin_passes}

-- the first k planes of work are 0, the rest is as it was
unfoldable pub cleared_planes : ℕ → ℕ → ℕ → List ℕ → List ℕ
cleared_planes k W H work = replicate (k * plane_bytes W H) 0 ++ drop (k * plane_bytes W H) work

-- work after a success: its first 3P bytes
abbrev pub cleared : ℕ → ℕ → List ℕ → List ℕ
cleared W H work = cleared_planes 3 W H work

-- the set X written as an image and answered by its area; work cleared
abbrev pub writes : ℕ → ℕ → (Point → Bool) → List ℕ → Outcome
writes W H X work = outcome (foreground (area W H X)) (pack W H X ∷ cleared W H work ∷ [])

-- ---- erosion and opening by the n-fold element: from image into out

abbrev pub fold_rows : ℕ → ℕ → ℕ → ℕ → List ℕ → List ℕ → List ℕ → List Row
fold_rows W H e n image out work =
    row1 W H ∷ row2 e ∷ row3 (not_plane W H image ∷ not_plane W H out ∷ short_work W H work ∷ []) ∷ row4 W H image ∷ row7 n ∷ []

unfoldable pub eroded : ℕ → ℕ → ℕ → ℕ → List ℕ → List ℕ → List ℕ → Outcome
eroded W H e n image out work =
    checked (fold_rows W H e n image out work) (out ∷ work ∷ []) (writes W H (erode (times (offsets e) n) (image_set W H image)) work)

unfoldable pub opened : ℕ → ℕ → ℕ → ℕ → List ℕ → List ℕ → List ℕ → Outcome
opened W H e n image out work =
    checked (fold_rows W H e n image out work) (out ∷ work ∷ []) (writes W H (opening (times (offsets e) n) (image_set W H image)) work)

-- ---- decomposition ("taking apart" in 01): from image into labels

abbrev pub decompose_rows : ℕ → ℕ → ℕ → List ℕ → List ℕ → List ℕ → List Row
decompose_rows W H e image labels work =
    row1 W H ∷ row2 e ∷ row3 (not_plane W H image ∷ not_places W H labels ∷ short_work W H work ∷ []) ∷ row4 W H image ∷ []

-- the number of points and the largest size, by the largest label
abbrev pub skeleton_answer : List ℕ → ℕ → Answer
skeleton_answer m zero = blank
skeleton_answer m (suc n) = skeleton (points_of m) n

-- the labels m written and answered; work cleared
abbrev pub labelled : ℕ → ℕ → List ℕ → List ℕ → Outcome
labelled W H m work = outcome (skeleton_answer m (greatest m)) (m ∷ cleared W H work ∷ [])

unfoldable pub decomposed : ℕ → ℕ → ℕ → List ℕ → List ℕ → List ℕ → Outcome
decomposed W H e image labels work =
    checked (decompose_rows W H e image labels work) (labels ∷ work ∷ []) (labelled W H (skeleton_labels W H (offsets e) (image_set W H image)) work)

-- ---- reconstruction at cut k ("rebuilding" in 01), of the sizes from k on: from labels into image, which is only written

abbrev pub reconstruct_rows : ℕ → ℕ → ℕ → ℕ → List ℕ → List ℕ → List ℕ → List Row
reconstruct_rows W H e k labels image work =
    row1 W H ∷ row2 e ∷ row3 (not_places W H labels ∷ not_plane W H image ∷ short_work W H work ∷ []) ∷ row5 W H (offsets e) labels ∷ row7 k ∷ []

unfoldable pub reconstructed : ℕ → ℕ → ℕ → ℕ → List ℕ → List ℕ → List ℕ → Outcome
reconstructed W H e k labels image work =
    checked (reconstruct_rows W H e k labels image work) (image ∷ work ∷ []) (writes W H (reconstruction W H (offsets e) k labels) work)

-- ---- minimisation ("shortening" in 01): labels in place, all sizes kept, with counters

abbrev pub minimise_rows : ℕ → ℕ → ℕ → List ℕ → List ℕ → List ℕ → List Row
minimise_rows W H e labels work counters =
    row1 W H ∷ row2 e ∷ row3 (not_places W H labels ∷ short_work W H work ∷ not_places W H counters ∷ []) ∷ row5 W H (offsets e) labels ∷ []

-- the labels m written, their points answered; work and counters cleared
abbrev pub shortens : ℕ → ℕ → List ℕ → List ℕ → Outcome
shortens W H m work = outcome (minimal (points_of m)) (m ∷ cleared W H work ∷ replicate (W * H) 0 ∷ [])

unfoldable pub minimised : ℕ → ℕ → ℕ → List ℕ → List ℕ → List ℕ → Outcome
minimised W H e labels work counters =
    checked (minimise_rows W H e labels work counters) (labels ∷ work ∷ counters ∷ []) (shortens W H (minimal_labels W H (offsets e) labels) work)

-- ---- hit-or-miss by one mask: from image into out, with no work

abbrev pub hit_rows : ℕ → ℕ → ℕ × ℕ → List ℕ → List ℕ → List Row
hit_rows W H m image out = row1 W H ∷ row3 (not_plane W H image ∷ not_plane W H out ∷ []) ∷ row4 W H image ∷ row6 m ∷ []

unfoldable pub hit_or_miss : ℕ → ℕ → ℕ × ℕ → List ℕ → List ℕ → Outcome
hit_or_miss W H m image out =
    let X = hit W H m (image_set W H image) in
    checked (hit_rows W H m image out) (out ∷ []) (outcome (foreground (area W H X)) (pack W H X ∷ []))

-- ---- thinning by the house set: the image in place

abbrev pub thin_rows : ℕ → ℕ → List ℕ → List ℕ → List Row
thin_rows W H image work = row1 W H ∷ row3 (not_plane W H image ∷ short_work W H work ∷ []) ∷ row4 W H image ∷ []

unfoldable pub thin : ℕ → ℕ → List ℕ → List ℕ → Outcome
thin W H image work =
    let n = area W H (image_set W H image) in
    let t = thin_passes (suc n) W H image in
    let left = area W H (image_set W H t.image) in
    checked (thin_rows W H image work) (image ∷ work ∷ []) (outcome (thinned t.passes (n - left) left) (t.image ∷ cleared W H work ∷ []))
