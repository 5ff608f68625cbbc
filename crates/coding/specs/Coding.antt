-- The writer of codes, whole: from the arguments and all lent bytes to the answer and all lent bytes afterwards. Definitions only.
use Rattle.std.specs.Prelude.{List, [], ◌++◌, ◌∷◌, ℕ, drop, length}
use Rattle.std.proofs.Math.Option.{none, some}
use Rattle.coding.specs.Codes.{Code, code_of}
use Rattle.morphology.specs.Answers.{Answer, Outcome, answered, blank, outcome}
use Rattle.morphology.specs.Element.{offsets}
use Rattle.morphology.specs.Image.{image_set}
use Rattle.morphology.specs.Operations.{cleared}
use Rattle.morphology.specs.Refusals.{Row, checked, not_plane, row1, row2, row3, row4, row8, short_work}

-- from image into out, whose length is free
abbrev pub encode_rows : ℕ → ℕ → ℕ → List ℕ → List ℕ → List Row
encode_rows W H e image work = row1 W H ∷ row2 e ∷ row3 (not_plane W H image ∷ short_work W H work ∷ []) ∷ row4 W H image ∷ []

-- the bytes of the stream and the largest size; an empty image has neither
abbrev pub coded : Code → Answer
coded t = elim t.largest [ none ↦ blank | some n ↦ answered (length t.stream ∷ n ∷ []) ]

-- the stream written over the output's first bytes; refusal 8 leaves the output; work is cleared in either case
abbrev pub coding : ℕ → ℕ → Code → List ℕ → List ℕ → Outcome
coding W H t out work =
    let w = cleared W H work in
    checked (row8 (length t.stream) out ∷ []) (out ∷ w ∷ []) (outcome (coded t) ((t.stream ++ drop (length t.stream) out) ∷ w ∷ []))

unfoldable pub encoded : ℕ → ℕ → ℕ → List ℕ → List ℕ → List ℕ → Outcome
encoded W H e image out work =
    checked (encode_rows W H e image work) (out ∷ work ∷ []) (coding W H (code_of W H (offsets e) (image_set W H image)) out work)
