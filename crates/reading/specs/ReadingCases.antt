-- Settled cases of the reader: the codes of 01's scans read back, and each way to be refused. Definitions only; proofs/ReadingCases.antt has the claim.
-- Rows of pixels are written as 01 writes them. The image holds 7 before the call, work holds 9 and one byte more than it needs.
use Rattle.std.specs.Prelude.{List, [], ◌++◌, ◌∷◌, map, ◌≡◌, ◌*◌, ◌+◌, ◌-◌, ℕ, replicate}
use Rattle.std.proofs.Math.Option.{Option, none, some}
use Rattle.coding.specs.CodingCases.{sample_image, sample_stream}
use Rattle.reading.specs.Decoding.{decoded}
use Rattle.morphology.specs.Answers.{foreground, outcome, refused}
use Rattle.morphology.specs.Cases.{Case, LEFT, RIGHT, SQUARE, scan, sevens}
use Rattle.morphology.specs.Image.{plane_bytes}

-- ---- calls: what happens, what should

abbrev pub dirty_five : ℕ → ℕ → List ℕ
dirty_five W H = replicate (5 * plane_bytes W H + 1) 9

abbrev pub tidy_five : ℕ → ℕ → List ℕ
tidy_five W H = replicate (5 * plane_bytes W H) 0 ++ (9 ∷ [])

-- a largest size or none, a stream, the area and the image
abbrev pub reads : ℕ → ℕ → ℕ → Option ℕ → List ℕ → ℕ → List ℕ → Case
reads W H e largest stream n image = (
  decoded W H e largest stream (sevens (plane_bytes W H)) (dirty_five W H),
  outcome (foreground n) (scan W image ∷ tidy_five W H ∷ []),
)

-- a largest size or none, a stream, the refusal by a late row
abbrev pub reads_not : ℕ → ℕ → ℕ → Option ℕ → List ℕ → ℕ → Case
reads_not W H e largest stream number = (
  decoded W H e largest stream (sevens (plane_bytes W H)) (dirty_five W H),
  outcome (refused number) (sevens (plane_bytes W H) ∷ tidy_five W H ∷ []),
)

-- work of one byte less than five planes: nothing has changed
abbrev pub reads_short : ℕ → ℕ → ℕ → Option ℕ → List ℕ → Case
reads_short W H e largest stream =
    let work : List ℕ = replicate (5 * plane_bytes W H - 1) 9 in
    (decoded W H e largest stream (sevens (plane_bytes W H)) work, outcome (refused 3) (sevens (plane_bytes W H) ∷ work ∷ []))

-- ---- the table

unfoldable pub cases : List Case
cases =
    -- A, D and E
    reads 3 3 SQUARE (some 1) (0xA0 ∷ 0x00 ∷ []) 9 (111 ∷ 111 ∷ 111 ∷ [])
    ∷ reads 1 1 SQUARE (some 0) (0x40 ∷ []) 1 (1 ∷ [])
    ∷ reads 3 2 SQUARE none [] 0 (000 ∷ 000 ∷ [])
    -- G, H and I
    ∷ reads 4 1 RIGHT (some 1) (0x42 ∷ 0x00 ∷ []) 3 (1101 ∷ [])
    ∷ reads 4 1 LEFT (some 1) (0x82 ∷ 0x00 ∷ []) 3 (1101 ∷ [])
    ∷ reads 4 3 SQUARE (some 1) (0xB0 ∷ 0x80 ∷ []) 10 (1110 ∷ 1111 ∷ 1110 ∷ [])
    -- sizes 2 and 0 with none of size 1 between, whose mask goes on
    ∷ reads 5 1 RIGHT (some 2) (0x40 ∷ 0x20 ∷ []) 4 (11101 ∷ [])
    -- 3: work has one byte too few
    ∷ reads_short 4 1 RIGHT (some 1) (0x42 ∷ 0x00 ∷ [])
    -- 9: the stream ends early; it has no byte
    ∷ reads_not 4 1 RIGHT (some 1) (0x42 ∷ []) 9
    ∷ reads_not 4 1 RIGHT (some 0) [] 9
    -- 9: a leading zero digit; no digit; one comma and then a digit at a size's start
    ∷ reads_not 4 1 RIGHT (some 0) (0x60 ∷ []) 9
    ∷ reads_not 4 1 RIGHT (some 0) (0x10 ∷ 0x00 ∷ []) 9
    -- 9: a run passes the sheet; the longest that does not is taken
    ∷ reads_not 4 1 RIGHT (some 0) (0xA0 ∷ []) 9
    ∷ reads 4 1 RIGHT (some 0) (0x90 ∷ []) 1 (0001 ∷ [])
    -- 9: the largest size is above the limit; the first size holds no point; a point leaves the sheet when dilated
    ∷ reads_not 1 1 RIGHT (some 255) (0x40 ∷ []) 9
    ∷ reads_not 4 1 RIGHT (some 0) (0x00 ∷ []) 9
    ∷ reads_not 4 1 RIGHT (some 1) (0x90 ∷ 0x00 ∷ []) 9
    -- 10: padding isn't 0; bytes follow, after padding and after a whole byte; a byte with a blank
    ∷ reads_not 4 1 RIGHT (some 1) (0x42 ∷ 0x01 ∷ []) 10
    ∷ reads_not 4 1 RIGHT (some 1) (0x42 ∷ 0x00 ∷ 0x00 ∷ []) 10
    ∷ reads_not 4 1 RIGHT (some 0) (0x90 ∷ 0x00 ∷ []) 10
    ∷ reads_not 3 2 SQUARE none (0x00 ∷ []) 10
    -- 11: labels 2010 rebuild 1110, whose labels are 3000
    ∷ reads_not 4 1 RIGHT (some 1) (0x41 ∷ 0x00 ∷ []) 11
    -- 9 before 10, 10 before 11
    ∷ reads_not 4 1 RIGHT (some 1) (0x90 ∷ 0x00 ∷ 0x01 ∷ []) 9
    ∷ reads_not 4 1 RIGHT (some 1) (0x41 ∷ 0x00 ∷ 0x00 ∷ []) 10
    ∷ []

-- each call's outcome is the one written beside it; the sample of 000, 40 pixels in a row, is read back
pub record SettledReads : Type 0 where
  pub table : map (λ (c : Case). c.0) cases ≡ map (λ (c : Case). c.1) cases
  pub sample : decoded 40 1 SQUARE (some 0) sample_stream (sevens 5) (dirty_five 40 1) ≡ outcome (foreground 6) (sample_image ∷ tidy_five 40 1 ∷ [])
