-- The reader of codes, whole: from the arguments and all lent bytes to the answer and all lent bytes afterwards. Definitions only.
use Rattle.std.specs.Prelude.{Bool, List, [], ◌∷◌, ℕ}
use Rattle.std.proofs.Math.Option.{Option}
use Rattle.reading.specs.Maps.{code_rows, code_set}
use Rattle.morphology.specs.Answers.{Outcome, foreground, outcome}
use Rattle.morphology.specs.Element.{offsets}
use Rattle.morphology.specs.Image.{pack}
use Rattle.morphology.specs.Labels.{area}
use Rattle.morphology.specs.Operations.{cleared_planes}
use Rattle.morphology.specs.Point.{Point}
use Rattle.morphology.specs.Refusals.{Row, checked, not_plane, row1, row2, row3, short_planes}

-- from a largest size or none, and a stream, whose length is free, into image, which is only written; work has five planes
abbrev pub decode_rows : ℕ → ℕ → ℕ → List ℕ → List ℕ → List Row
decode_rows W H e image work = row1 W H ∷ row2 e ∷ row3 (not_plane W H image ∷ short_planes 5 W H work ∷ []) ∷ []

-- the set X written as an image and answered by its area, unless a row refuses the stream, which leaves the image; work is cleared in either case
abbrev pub decoding : ℕ → ℕ → List Row → (Point → Bool) → List ℕ → List ℕ → Outcome
decoding W H rows X image work =
    let w = cleared_planes 5 W H work in
    checked rows (image ∷ w ∷ []) (outcome (foreground (area W H X)) (pack W H X ∷ w ∷ []))

unfoldable pub decoded : ℕ → ℕ → ℕ → Option ℕ → List ℕ → List ℕ → List ℕ → Outcome
decoded W H e n bytes image work =
    let B = offsets e in
    checked (decode_rows W H e image work) (image ∷ work ∷ []) (decoding W H (code_rows W H B n bytes) (code_set W H B n bytes) image work)
