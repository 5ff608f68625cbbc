-- Each settled case of the code comes out as written, by computing.
use mathlib.Core.Bool.{Bool}
use mathlib.Core.List.{List, Memᴰ, [], ◌++◌, ◌∷◌, map}
use mathlib.Core.Option.{some}
use mathlib.Core.Path.{◌∙◌, ◌≡◌, ap, refl, sym}
use Prim.Native.Nat.{suc, zero, zero-le, ℕ}
use native.Mathlib.Omega.{arith}
use lib.Dec.{T, ltb→lt}
use lib.IntN.{◌+ℤ◌, negsuc, pos, ℤ}
use Rattle.coding.specs.Coding.{coding, encode_rows, encoded}
use Rattle.coding.specs.CodingCases.{Sample, Settled, cases, sample_image, sample_runs, sample_stream}
use Rattle.coding.specs.Runs.{keep, mask, runs, runs_down, unmasked}
use Rattle.coding.specs.Symbols.{numeral, numeral_before, pack_symbols, parted, section, sections}
use Rattle.coding.specs.Codes.{Code, code, code_of, map_code, map_runs, map_symbols, of_size, sizes_down}
use Rattle.morphology.specs.Answers.{answered, outcome}
use Rattle.morphology.specs.Cases.{Case, SQUARE, dirty, sevens, tidy}
use Rattle.morphology.specs.Element.{is_element, offset, offsets, offsets_below}
use Rattle.morphology.specs.Image.{bit_of, from_bits, image_set, inside, is_clean, pack, pixel, stride}
use Rattle.morphology.specs.Labels.{area, label_at, places, raster}
use Rattle.morphology.specs.Lists.{count_of, greatest, tabulate}
use Rattle.morphology.specs.Morphology.{dilate, erode, minkowski, opening, times}
use Rattle.morphology.specs.Operations.{cleared_planes}
use Rattle.morphology.specs.Point.{Point, ◌⊞◌, at, minus, origin, same_integer, same_point}
use Rattle.morphology.specs.Refusals.{checked, first_refusal}
use Rattle.morphology.specs.Skeleton.{pick, skeleton_function, skeleton_labels, skeleton_subset}
use Rattle.morphology.proofs.DecomposeLaws.{labels_done, labels_below}
use Rattle.morphology.proofs.ElementLaws.{element}
use Rattle.morphology.proofs.ImageLaws.{image_on}
use Rattle.morphology.proofs.MorphologyLaws.{erode-out, eroded-zero, ⊆_of_eq}
use Rattle.morphology.proofs.PlaneLaws.{Empty}
use Rattle.morphology.proofs.SubsetLaws.{eroded-down}

table : map (λ (c : Case). c.0) cases ≡ map (λ (c : Case). c.1) cases
unfolding cases ◌⊞◌ origin minus stride bit_of pixel image_set offset offsets_below offsets tabulate from_bits pack greatest pick erode dilate opening minkowski times skeleton_subset skeleton_function skeleton_labels same_integer same_point places raster label_at count_of area is_clean is_element first_refusal cleared_planes encoded keep mask runs runs_down unmasked numeral numeral_before pack_symbols parted section sections map_runs map_symbols map_code of_size sizes_down code_of
table = refl

-- ---- the sample

abbrev X : Point → Bool
X = image_set 40 1 sample_image

abbrev B : List Point
B = offsets SQUARE

pub square : T (is_element SQUARE)
unfolding is_element offsets offsets_below
square = tt

-- a step down leaves the only row
down_in : Memᴰ (at (pos 0) (pos 1)) (times B 1)
unfolding offsets offsets_below offset times minkowski origin ◌⊞◌
down_in = Memᴰ.tail (Memᴰ.head refl)

row-left : (y : ℤ) → T (inside 1 y) → T (inside 1 (y +ℤ pos 1)) → ⊥
row-left (pos zero) s t = t
row-left (pos (suc y)) s t = let h = ltb→lt (suc y) 1 s in omega arith
row-left (negsuc y) s t = s

sample-eroded : Empty (erode (times B 1) X)
unfolding ◌⊞◌
sample-eroded z t =
    let on = image_on 40 1 sample_image in
    let x = ⊆_of_eq (eroded-zero B X) z (eroded-down B (element SQUARE square).centred X 0 1 zero-le z t) in
    row-left z.y (on.down z x) (on.down (z ⊞ at (pos 0) (pos 1)) (erode-out (times B 1) X z t down_in))

-- so that its only size is 0
sample-labels : skeleton_labels 40 1 B X ≡ labels_below 40 1 B X 1
sample-labels = sym (labels_done 40 1 B (element SQUARE square) X (image_on 40 1 sample_image) 1 sample-eroded)

sample-runs : map_runs 40 1 B (labels_below 40 1 B X 1) 0 ≡ sample_runs ∷ []
unfolding ◌⊞◌ origin minus stride bit_of pixel image_set offset offsets_below offsets tabulate from_bits pack greatest pick erode dilate opening minkowski times skeleton_subset skeleton_function skeleton_labels same_integer same_point places raster label_at count_of area is_clean is_element first_refusal cleared_planes encoded keep mask runs runs_down unmasked numeral numeral_before pack_symbols parted section sections map_runs map_symbols map_code of_size sizes_down code_of
sample-runs = refl

sample-code : map_code 40 1 B (labels_below 40 1 B X 1) (greatest (labels_below 40 1 B X 1)) ≡ code (some 0) sample_stream
unfolding ◌⊞◌ origin minus stride bit_of pixel image_set offset offsets_below offsets tabulate from_bits pack greatest pick erode dilate opening minkowski times skeleton_subset skeleton_function skeleton_labels same_integer same_point places raster label_at count_of area is_clean is_element first_refusal cleared_planes encoded keep mask runs runs_down unmasked numeral numeral_before pack_symbols parted section sections map_runs map_symbols map_code of_size sizes_down code_of
sample-code = refl

sample-answer : checked (encode_rows 40 1 SQUARE sample_image (dirty 40 1)) (sevens 6 ∷ dirty 40 1 ∷ []) (coding 40 1 (code (some 0) sample_stream) (sevens 6) (dirty 40 1))
    ≡ outcome (answered (5 ∷ 0 ∷ [])) ((sample_stream ++ 7 ∷ []) ∷ tidy 40 1 ∷ [])
unfolding ◌⊞◌ origin minus stride bit_of pixel image_set offset offsets_below offsets tabulate from_bits pack greatest pick erode dilate opening minkowski times skeleton_subset skeleton_function skeleton_labels same_integer same_point places raster label_at count_of area is_clean is_element first_refusal cleared_planes encoded keep mask runs runs_down unmasked numeral numeral_before pack_symbols parted section sections map_runs map_symbols map_code of_size sizes_down code_of
sample-answer = refl

-- its code
pub sample_own : code_of 40 1 (offsets SQUARE) (image_set 40 1 sample_image) ≡ code (some 0) sample_stream
unfolding code_of
sample_own = ap (λ (m : List ℕ). map_code 40 1 B m (greatest m)) sample-labels ∙ sample-code

sample : Sample
unfolding encoded
sample = record {
  runs = ap (λ (m : List ℕ). map_runs 40 1 B m 0) sample-labels ∙ sample-runs;
  written =
      let rows = encode_rows 40 1 SQUARE sample_image (dirty 40 1) in
      ap (λ (t : Code). checked rows (sevens 6 ∷ dirty 40 1 ∷ []) (coding 40 1 t (sevens 6) (dirty 40 1))) sample_own ∙ sample-answer;
}

pub settled : Settled
settled = record { table = table; sample = sample }
