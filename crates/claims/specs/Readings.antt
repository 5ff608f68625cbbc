-- The claims of 02 about reading the coded ticket, on the reader as reading/specs/Decoding.antt defines it. Definitions only; proofs/Readings.antt proves each.
use Rattle.std.specs.Prelude.{Bool, List, [], ◌++◌, ◌∷◌, map, ◌↔◌, ◌≡◌, ◌*◌, ◌≤◌, suc, ℕ, T, get_or, length, take}
use Rattle.std.proofs.Math.Option.{Option, none, some}
use Rattle.std.proofs.Math.Pow.{are_bytes}
use Rattle.claims.specs.Claims.{Image, Writes}
use Rattle.claims.specs.Codes.{RefusesLate}
use Rattle.coding.specs.Codes.{code, code_of}
use Rattle.coding.specs.Coding.{encoded}
use Rattle.coding.specs.Symbols.{numeral, sections, symbols_of}
use Rattle.morphology.specs.Answers.{Answer, foreground, outcome, output}
use Rattle.morphology.specs.Element.{is_element, offsets}
use Rattle.morphology.specs.Image.{image_set, plane_bytes}
use Rattle.morphology.specs.Labels.{area, raster}
use Rattle.morphology.specs.Operations.{cleared_planes}
use Rattle.morphology.specs.Point.{Point}
use Rattle.reading.specs.Decoding.{decode_rows, decoded}
use Rattle.reading.specs.Maps.{code_rows, label_in, read_map}
use Rattle.reading.specs.Points.{placed_down}
use Rattle.reading.specs.ReadingCases.{SettledReads}

-- ---- the settled cases

-- G's stream and that of 000's sample are read back; each way to be refused by 9, 10 or 11, and their order, comes out as 02 says.
abbrev pub SettledReadings : Type 0
SettledReadings = SettledReads

-- ---- refusals

-- For all arguments and all bytes: rows 1 to 3 change nothing, rows 9 to 11 leave the image and clear five planes of work; the lowest number is given, and
-- only where a row holds.
abbrev pub ReaderRefusesExactly : Type 0
ReaderRefusesExactly =
    (W H e : ℕ) (n : Option ℕ) (bytes image work : List ℕ)
    → RefusesLate (decode_rows W H e image work) (code_rows W H (offsets e) n bytes) (image ∷ work ∷ []) (image ∷ cleared_planes 5 W H work ∷ [])
    (decoded W H e n bytes image work)

-- What a stream with the largest size n has to be to be read: n + 1 sections of runs without a leading zero, and what is left; and none of the runs, the largest
-- size first, passes the pixels that larger points leave. Then the map has the points so placed, each with its size.
pub record ReadAs (W H : ℕ) (B : List Point) (n : ℕ) (bytes m rest : List ℕ) : Type 0 where
  pub runs : List (List ℕ)
  pub points : List (Point → Bool)
  pub sizes : length runs ≡ suc n
  pub symbols : symbols_of bytes ≡ sections (map (map numeral) runs) ++ rest
  pub placed : placed_down W H B [] runs ≡ some points
  pub map : m ≡ raster W H (label_in 0 points)

-- A stream is read as a map exactly when it is so; otherwise row 9 holds.
abbrev pub StreamsAreRead : Type 0
StreamsAreRead =
    (W H : ℕ) (B : List Point) (n : ℕ) (bytes m rest : List ℕ) → (read_map W H B n bytes ≡ some (m, rest)) ↔ ReadAs W H B n bytes m rest

-- ---- one stream for one scan

-- an image to be written and work of the right lengths, with any contents
pub record ReadingBuffers (W H : ℕ) (t w : List ℕ) : Type 0 where
  pub target : length t ≡ plane_bytes W H
  pub work : 5 * plane_bytes W H ≤ length w

-- A code is read as an image exactly when it is the image's own.
abbrev pub ReadIsOwn : Type 0
ReadIsOwn =
    (W H e : ℕ) (n : Option ℕ) (bytes target work image : List ℕ) → Image W H image → T (is_element e) → ReadingBuffers W H target work
    → T (are_bytes bytes)
    → (decoded W H e n bytes target work ≡ outcome (foreground (area W H (image_set W H image))) (image ∷ cleared_planes 5 W H work ∷ []))
    ↔ (code_of W H (offsets e) (image_set W H image) ≡ code n bytes)

-- what an answer of the writer says: the bytes of the stream, and the largest size or none
abbrev pub stream_length : Answer → ℕ
stream_length a = get_or a.values 0 0

abbrev pub largest_of : Answer → Option ℕ
largest_of a = second a.values
  where
    second : List ℕ → Option ℕ
    second [] = none
    second (b ∷ []) = none
    second (b ∷ n ∷ vs) = some n

-- Whatever the writer writes is accepted and gives back the image, byte for byte, with its ink.
abbrev pub WrittenIsRead : Type 0
WrittenIsRead =
    (W H e : ℕ) (image out work target work' : List ℕ) → T (are_bytes image) → (encoded W H e image out work).answer.refusal ≡ 0
    → ReadingBuffers W H target work'
    → let o = encoded W H e image out work in
    decoded W H e (largest_of o.answer) (take (stream_length o.answer) (output o)) target work'
    ≡ outcome (foreground (area W H (image_set W H image))) (image ∷ cleared_planes 5 W H work' ∷ [])

-- For one frame and element, two accepted codes are equal, largest size included, exactly when their images are.
abbrev pub OneStream : Type 0
OneStream =
    (W H e : ℕ) (n k : Option ℕ) (bytes bits target work target' work' : List ℕ) → T (are_bytes bytes) → T (are_bytes bits)
    → (decoded W H e n bytes target work).answer.refusal ≡ 0 → (decoded W H e k bits target' work').answer.refusal ≡ 0
    → (code n bytes ≡ code k bits) ↔ (output (decoded W H e n bytes target work) ≡ output (decoded W H e k bits target' work'))

-- What is accepted is an image again, and its ink is answered.
abbrev pub ReadIsImage : Type 0
ReadIsImage =
    (W H e : ℕ) (n : Option ℕ) (bytes target work : List ℕ) → T (are_bytes bytes) → (decoded W H e n bytes target work).answer.refusal ≡ 0
    → Writes W H (decoded W H e n bytes target work)
