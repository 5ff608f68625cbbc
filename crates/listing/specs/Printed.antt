-- The program of 01: what it prints for the bytes that it reads. Definitions only; proofs/PrintedLaws.antt has the laws.
use Rattle.std.specs.Prelude.{cond, List, [], ◌++◌, ◌∷◌, ◌*◌, ◌+◌, ◌/◌, ℕ, ltb, drop, get_or, length, replicate}
use Rattle.morphology.specs.Answers.{Answer, Outcome, output}
use Rattle.morphology.specs.Image.{plane_bytes}
use Rattle.morphology.specs.Operations.{decomposed}
use Rattle.numbers.specs.Numbers.{number_at}
use Rattle.listing.specs.Text.{decimal, line, map_text}

-- "refused"
abbrev pub refused_word : List ℕ
refused_word = 114 ∷ 101 ∷ 102 ∷ 117 ∷ 115 ∷ 101 ∷ 100 ∷ []

-- "-"
abbrev pub no_size : List ℕ
no_size = 45 ∷ []

-- a refusal: the word and the number
unfoldable pub refusal_text : ℕ → List ℕ
refusal_text n = line (refused_word ∷ decimal n ∷ [])

-- width, height, number of points, largest size; then the map
unfoldable pub skeleton_text : ℕ → ℕ → ℕ → List ℕ → List ℕ → List ℕ
skeleton_text W H points largest m = line (decimal W ∷ decimal H ∷ decimal points ∷ largest ∷ []) ++ map_text W H m

-- what a decomposition answers: of a refusal the number alone; an empty image has no largest size
unfoldable pub answer_text : ℕ → ℕ → Answer → List ℕ → List ℕ
answer_text W H a m = text a.values
  where
    text : List ℕ → List ℕ
    text [] = refusal_text a.refusal
    text (points ∷ []) = skeleton_text W H points no_size m
    text (points ∷ largest ∷ rest) = skeleton_text W H points (decimal largest) m

abbrev pub outcome_text : ℕ → ℕ → Outcome → List ℕ
outcome_text W H o = answer_text W H o.answer (output o)

-- an image decomposed, with buffers of the lengths that 01 asks for
abbrev pub taken : ℕ → ℕ → ℕ → List ℕ → Outcome
taken W H e image = decomposed W H e image (replicate (W * H) 0) (replicate (3 * plane_bytes W H) 0)

-- a byte W, a byte H, the element in four bytes, lowest first, the image; below six bytes refusal 3
unfoldable pub printed : List ℕ → List ℕ
printed input =
    let W = get_or input 0 0 in
    let H = get_or input 1 0 in
    cond (ltb (length input) 6) (refusal_text 3) (outcome_text W H (taken W H (number_at input 2) (drop 6 input)))

-- the largest side, a byte, and the bytes of the longest row
abbrev pub side : ℕ
side = 255

abbrev pub side_bytes : ℕ
side_bytes = (side + 7) / 8

-- the largest output (`printed-fits`): "255 255 65025 254" and labels of three digits, each with what ends it
abbrev pub longest : ℕ
longest = 18 + side * side * 4

-- bytes that are enough to read: one more than the longest input has (`printed-enough`)
abbrev pub enough : ℕ
enough = 6 + side * side_bytes + 1
