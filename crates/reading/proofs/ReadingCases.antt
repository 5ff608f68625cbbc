-- Each settled case of the reader comes out as written: those of the table by computing, the sample as the image's own code.
use mathlib.Core.Bool.{Bool}
use mathlib.Core.List.{[], ◌∷◌, map}
use mathlib.Core.Option.{some}
use mathlib.Core.Path.{◌∙◌, ◌≡◌, refl, subst}
use Prim.Native.Nat.{◌*◌, ◌≤◌}
use native.Mathlib.Omega.{arith}
use lib.ListN.{length}
use Rattle.coding.specs.Codes.{Code}
use Rattle.coding.specs.CodingCases.{sample_image, sample_stream}
use Rattle.coding.specs.Runs.{keep, mask, unmasked}
use Rattle.coding.specs.Symbols.{symbols_of}
use Rattle.coding.proofs.CodingCases.{sample_own, square}
use Rattle.reading.specs.Decoding.{decoded}
use Rattle.reading.specs.Maps.{code_rows, code_set, is_skeleton, label_in, read_map}
use Rattle.reading.specs.Points.{among, placed, placed_down}
use Rattle.reading.specs.ReadingCases.{SettledReads, cases, dirty_five, tidy_five}
use Rattle.reading.specs.Splits.{split, value_after}
use Rattle.reading.proofs.DecodingLaws.{accepted-decoded}
use Rattle.reading.proofs.OwnLaws.{Accepts, own-accepted}
use Rattle.morphology.specs.Answers.{foreground, outcome}
use Rattle.morphology.specs.Cases.{Case, SQUARE, sevens}
use Rattle.morphology.specs.Element.{is_element, offset, offsets, offsets_below}
use Rattle.morphology.specs.Image.{bit_of, from_bits, image_set, pack, pixel, plane_bytes, stride}
use Rattle.morphology.specs.Labels.{area, label_at, places, raster}
use Rattle.morphology.specs.Lists.{count_of, tabulate}
use Rattle.morphology.specs.Morphology.{dilate, erode, minkowski, opening, times}
use Rattle.morphology.specs.Operations.{cleared_planes}
use Rattle.morphology.specs.Point.{Point, ◌⊞◌, minus, origin, same_integer, same_point}
use Rattle.morphology.specs.Refusals.{first_refusal, is_wild, leaves}
use Rattle.morphology.specs.Skeleton.{pick, reconstruct, reconstruction, skeleton_function, skeleton_labels, skeleton_subset, stamp}
use Rattle.morphology.proofs.ElementLaws.{element}
use Rattle.morphology.proofs.ImageLaws.{image_on}

-- ---- the table

table : map (λ (c : Case). c.0) cases ≡ map (λ (c : Case). c.1) cases
unfolding cases ◌⊞◌ origin minus stride offset offsets_below offsets tabulate from_bits pack pick erode dilate opening minkowski times skeleton_subset skeleton_function skeleton_labels same_integer same_point places raster label_at count_of area is_element first_refusal cleared_planes decoded keep mask unmasked symbols_of read_map split placed placed_down among label_in value_after code_rows code_set is_skeleton is_wild leaves reconstruction reconstruct stamp
table = refl

-- ---- the sample

abbrev X : Point → Bool
X = image_set 40 1 sample_image

-- its bytes and its area, and work cleared, by computing
sample_read : outcome (foreground (area 40 1 X)) (pack 40 1 X ∷ cleared_planes 5 40 1 (dirty_five 40 1) ∷ [])
    ≡ outcome (foreground 6) (sample_image ∷ tidy_five 40 1 ∷ [])
unfolding stride bit_of pixel image_set tabulate from_bits pack places count_of area cleared_planes
sample_read = refl

sample-fits : length (sevens 5) ≡ plane_bytes 40 1
unfolding stride
sample-fits = refl

sample-enough : 5 * plane_bytes 40 1 ≤ length (dirty_five 40 1)
unfolding stride
sample-enough = omega arith

-- the code is its own, so that it is accepted
sample-accepted : Accepts 40 1 (offsets SQUARE) (some 0) sample_stream X
sample-accepted =
    subst (λ (t : Code). Accepts 40 1 (offsets SQUARE) t.largest t.stream X) sample_own
    (own-accepted 40 1 (offsets SQUARE) tt (element SQUARE square) X (image_on 40 1 sample_image))

pub settled : SettledReads
settled = record {
  table = table;
  sample = accepted-decoded 40 1 SQUARE (sevens 5) (dirty_five 40 1) tt square sample-fits sample-enough (some 0) sample_stream X sample-accepted ∙ sample_read;
}
