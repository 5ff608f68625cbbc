-- Settled cases of the writer: the codes of 01's scans A to E and G to I and of one more, the sample of 000 and refusal 8. Definitions only;
-- proofs/CodingCases.antt has the claim. Rows of pixels are written as 01 writes them. The output holds 7 before the call, work holds 9 and one byte more
-- than it needs.
use Rattle.std.specs.Prelude.{List, [], ◌++◌, ◌∷◌, map, ◌≡◌, ◌-◌, ℕ, length}
use Rattle.coding.specs.Coding.{encoded}
use Rattle.coding.specs.Codes.{map_runs}
use Rattle.morphology.specs.Answers.{answered, blank, outcome, refused}
use Rattle.morphology.specs.Cases.{Case, LEFT, RIGHT, SQUARE, dirty, scan, sevens, tidy}
use Rattle.morphology.specs.Element.{offsets}
use Rattle.morphology.specs.Image.{image_set}
use Rattle.morphology.specs.Skeleton.{skeleton_labels}

-- ---- calls: what happens, what should

-- an image, its stream, its largest size; four bytes are lent
abbrev pub encodes : ℕ → ℕ → ℕ → List ℕ → List ℕ → ℕ → Case
encodes W H e image stream largest = (
  encoded W H e (scan W image) (sevens 4) (dirty W H),
  outcome (answered (length stream ∷ largest ∷ [])) ((stream ++ sevens (4 - length stream)) ∷ tidy W H ∷ []),
)

-- an empty image, and so many bytes lent: no stream, no largest size
abbrev pub encodes_blank : ℕ → ℕ → ℕ → List ℕ → ℕ → Case
encodes_blank W H e image lent = (
  encoded W H e (scan W image) (sevens lent) (dirty W H),
  outcome blank (sevens lent ∷ tidy W H ∷ []),
)

-- too few bytes are lent
abbrev pub encodes_not : ℕ → ℕ → ℕ → List ℕ → ℕ → Case
encodes_not W H e image lent = (
  encoded W H e (scan W image) (sevens lent) (dirty W H),
  outcome (refused 8) (sevens lent ∷ tidy W H ∷ []),
)

-- ---- the table

unfoldable pub cases : List Case
cases =
    -- A
    encodes 3 3 SQUARE (111 ∷ 111 ∷ 111 ∷ []) (0xA0 ∷ 0x00 ∷ []) 1
    -- B
    ∷ encodes 5 3 SQUARE (11111 ∷ 11111 ∷ 11111 ∷ []) (0xD1 ∷ 0x10 ∷ 0x00 ∷ []) 1
    -- C
    ∷ encodes 5 5 SQUARE (11111 ∷ 11111 ∷ 11111 ∷ 11111 ∷ 11111 ∷ []) (0xA4 ∷ 0x00 ∷ 0x00 ∷ []) 2
    -- D, with and without room
    ∷ encodes 1 1 SQUARE (1 ∷ []) (0x40 ∷ []) 0
    ∷ encodes_not 1 1 SQUARE (1 ∷ []) 0
    -- E, where nothing needs to be lent
    ∷ encodes_blank 3 2 SQUARE (000 ∷ 000 ∷ []) 4
    ∷ encodes_blank 3 2 SQUARE (000 ∷ 000 ∷ []) 0
    -- G, and one byte short
    ∷ encodes 4 1 RIGHT (1101 ∷ []) (0x42 ∷ 0x00 ∷ []) 1
    ∷ encodes_not 4 1 RIGHT (1101 ∷ []) 1
    -- H
    ∷ encodes 4 1 LEFT (1101 ∷ []) (0x82 ∷ 0x00 ∷ []) 1
    -- I
    ∷ encodes 4 3 SQUARE (1110 ∷ 1111 ∷ 1110 ∷ []) (0xB0 ∷ 0x80 ∷ []) 1
    -- sizes 2 and 0 with none of size 1 between, whose mask goes on
    ∷ encodes 5 1 RIGHT (11101 ∷ []) (0x40 ∷ 0x20 ∷ []) 2
    ∷ []

-- ---- the sample of 000, whose runs 02 gives: 40 pixels in a row

abbrev pub sample_runs : List ℕ
sample_runs = 11 ∷ 6 ∷ 7 ∷ 0 ∷ 2 ∷ 8 ∷ []

abbrev pub sample_image : List ℕ
sample_image = 0x00 ∷ 0x10 ∷ 0x20 ∷ 0x32 ∷ 0x01 ∷ []

abbrev pub sample_stream : List ℕ
sample_stream = 0x9C ∷ 0xD3 ∷ 0x84 ∷ 0xCF ∷ 0x00 ∷ []

-- it takes 40 sizes to compute, so that it stands beside the table
pub record Sample : Type 0 where
  pub runs : map_runs 40 1 (offsets SQUARE) (skeleton_labels 40 1 (offsets SQUARE) (image_set 40 1 sample_image)) 0 ≡ sample_runs ∷ []
  pub written : encoded 40 1 SQUARE sample_image (sevens 6) (dirty 40 1) ≡ outcome (answered (5 ∷ 0 ∷ [])) ((sample_stream ++ 7 ∷ []) ∷ tidy 40 1 ∷ [])

-- each call's outcome is the one written beside it
pub record Settled : Type 0 where
  pub table : map (λ (c : Case). c.0) cases ≡ map (λ (c : Case). c.1) cases
  pub sample : Sample
