-- An image coded size by size: the runs of one size by way of its band, and the sizes one after the other.
use mathlib.Core.Bool.{Bool}
use mathlib.Core.List.{List, [], ◌++◌, ◌∷◌, append-nil, map}
use mathlib.Core.Option.{none, some}
use mathlib.Core.Path.{◌∙◌, ◌≡◌, ap, ap₂, refl, subst, sym}
use Prim.Native.Nat.{◌*◌, ◌+◌, ◌-◌, ◌<◌, ◌≤◌, suc, zero, ℕ}
use native.Mathlib.Nat.{add-mul, add-zero, mul_comm, zero-add}
use native.Mathlib.Numerals.{add-one}
use native.Mathlib.Omega.{arith}
use lib.Dec.{T}
use lib.ListN.{drop, get_or, length, length-append, length-map, take}
use Rattle.coding.specs.Codes.{code, code_of, map_code, map_symbols}
use Rattle.coding.specs.Runs.{runs, unmasked}
use Rattle.coding.specs.Symbols.{comma, digit_symbols, numeral, pack_symbols, section, sections}
use Rattle.coding.specs.Writing.{down_from, ending, eroded_runs, runs_symbols}
use Rattle.coding.proofs.MaskLaws.{map-eroded}
use Rattle.coding.proofs.NumeralLaws.{length_pos}
use Rattle.coding.proofs.SectionLaws.{section-runs}
use Rattle.iteration.specs.Bands.{Banded, PlaneEroded}
use Rattle.iteration.specs.Steps.{First}
use Rattle.raster.specs.Frames.{Frame, Sheet}
use Rattle.iteration.proofs.BandLaws.{band_fit, band-image, band-rows}
use Rattle.iteration.proofs.OpenLaws.{opened-first, opened_third}
use Rattle.iteration.proofs.StepLaws.{first-clean, first-image, sheet-bytes}
use Rattle.morphology.specs.Element.{is_element, offsets}
use Rattle.morphology.specs.Image.{image_set, is_clean, pack}
use Rattle.morphology.specs.Labels.{place}
use Rattle.morphology.specs.Lists.{greatest, tabulate}
use Rattle.morphology.specs.Morphology.{dilate, erode, opening, times}
use Rattle.morphology.specs.Point.{Point}
use Rattle.morphology.specs.Skeleton.{skeleton_function, skeleton_labels}
use Rattle.morphology.proofs.BandLaws.{InRows, moved, open-moved, place-moved, place_outside}
use Rattle.morphology.proofs.DecomposeLaws.{eroded_on, greatest-raster, greatest_turn, labels_done, last_subset}
use Rattle.morphology.proofs.ElementLaws.{element}
use Rattle.morphology.proofs.FrameLaws.{OnFrame}
use Rattle.morphology.proofs.MorphologyLaws.{eroded-suc, eroded-zero, open_sub}
use Rattle.morphology.proofs.SkeletonLaws.{label_le}
use Rattle.raster.specs.Rows.{overwrite}
use Rattle.raster.proofs.RowLaws.{rows_in}
use Rattle.sections.specs.Kinds.{Kind, count_after, free, kind, kinds_from, runs_of}
use Rattle.sections.proofs.KindLaws.{frame-runs, row_agree, row_parts, runs_parts}
use Rattle.encoding.specs.Sizes.{SizesPassed, SizeStepped, lacking_runs, open_runs, symbols_below}

-- ---- sections by the symbols of their runs

run_long : (r : ℕ) (rs : List ℕ) → length (runs_symbols (r ∷ rs)) ≡ 0 → ⊥
unfolding runs_symbols
run_long r rs e = omega (arith, e, length-append (digit_symbols (numeral r)) (comma ∷ runs_symbols rs))

-- the runs and their commas, and those that end it
pub section_parts : (rs : List ℕ) → length (section (map numeral rs)) ≡ length (runs_symbols rs) + length (ending rs)
section_parts rs = ap length (section-runs rs) ∙ length-append (runs_symbols rs) (ending rs)

pub section-none : (rs : List ℕ) → length (runs_symbols rs) ≡ 0 → length (section (map numeral rs)) ≡ 2
section-none [] e = omega (arith, e, section_parts [])
section-none (r ∷ rs) e = absurd (run_long r rs e)

pub section-some : (rs : List ℕ) → (length (runs_symbols rs) ≡ 0 → ⊥) → length (section (map numeral rs)) ≡ length (runs_symbols rs) + 1
unfolding runs_symbols
section-some [] f = absurd (f refl)
section-some (r ∷ rs) f = section_parts (r ∷ rs)

-- a section of two symbols has no run
pub section_two : (rs : List ℕ) → length (section (map numeral rs)) ≡ 2 → section (map numeral rs) ≡ comma ∷ comma ∷ []
unfolding runs_symbols
section_two [] e = section-runs []
section_two (r ∷ rs) e = absurd (long (numeral r) (rest (numeral-some r)))
  where
    numeral-some : (n : ℕ) → 0 < length (numeral n)
    numeral-some n = length_pos n

    rest : 0 < length (numeral r) → 2 < length (section (map numeral (r ∷ rs)))
    rest h = omega (arith, section_parts (r ∷ rs), length-append (digit_symbols (numeral r)) (comma ∷ runs_symbols rs), length-map (numeral r) suc)

    long : (ds : List ℕ) → 2 < length (section (map numeral (r ∷ rs))) → ⊥
    long ds h = omega arith

-- ---- the band

-- pixels that are all free
free-runs : (k : ℕ) (f : ℕ → Kind) (i n : ℕ) → ((j : ℕ) → i ≤ j → j < i + n → f j ≡ free)
    → (runs_of k (tabulate f i n) ≡ []) × (count_after k (tabulate f i n) ≡ k + n)
unfolding runs_of count_after tabulate
free-runs k f i zero h = (refl, sym (add-zero k))
free-runs k f i (suc n) h =
    let e = h i (omega arith) (omega arith) in
    let r = free-runs (suc k) f (suc i) n (λ j l u. h j (omega arith) (omega arith)) in
    let s : suc k + n ≡ k + suc n = omega arith in (
      ap (λ (t : Kind). runs_of k (t ∷ tabulate f (suc i) n)) e ∙ r.0,
      ap (λ (t : Kind). count_after k (t ∷ tabulate f (suc i) n)) e ∙ r.1 ∙ s,
    )

-- the runs of a set in the n rows from a on, counted from the frame's start and from the band's
rows-runs : (W H a n : ℕ) (S M : Point → Bool) → 0 < W → a + n ≤ H → InRows a n S → InRows a n M
    → runs_of 0 (kinds_from W S M 0 (W * H)) ≡ runs_of (a * W) (kinds_from W (moved a S) (moved a M) 0 (W * n))
unfolding kinds_from
rows-runs W H a n S M hW fit rs rm =
    let f : ℕ → Kind = λ j. kind (M (place W j)) (S (place W j)) in
    let g : ℕ → Kind = λ j. kind (moved a M (place W j)) (moved a S (place W j)) in
    let m = W * n in
    let before = a * W in
    let after = W * H - (before + m) in
    let whole : W * H ≡ before + (m + after) = omega (arith, mul_comm W H, mul_comm W n, area_fit) in
    let out : (j : ℕ) → (before ≤ j → j < before + m → ⊥) → f j ≡ free =
    λ j h. ap₂ kind (place_outside W H a n M hW fit rm j (λ l u. h l (omega (arith, add-mul a n W, mul_comm W n))))
    (place_outside W H a n S hW fit rs j (λ l u. h l (omega (arith, add-mul a n W, mul_comm W n)))) in
    let top = free-runs 0 f 0 before (λ j l u. out j (λ x y. omega arith)) in
    let low : (k : ℕ) → runs_of k (tabulate f (before + m) after) ≡ [] = λ k. (free-runs k f (before + m) after (λ j l u. out j (λ x y. omega arith))).0 in
    let band : tabulate f before m ≡ tabulate g 0 m =
    row_agree f g before 0 m (λ t l. ap₂ kind (sym (place-moved W H a n M hW fit rm t)) (sym (place-moved W H a n S hW fit rs t)) ∙ ap g (sym (zero-add t))) in
    ap (λ (i : ℕ). runs_of 0 (tabulate f 0 i)) whole
    ∙ ap (runs_of 0) (row_parts f 0 before (m + after)
    ∙ ap (λ (l : List Kind). tabulate f 0 before ++ l) (ap (λ (i : ℕ). tabulate f i (m + after)) (zero-add before) ∙ row_parts f before m after))
    ∙ runs_parts 0 (tabulate f 0 before) (tabulate f before m ++ tabulate f (before + m) after)
    ∙ ap₂ (λ (rs : List ℕ) (k : ℕ). rs ++ runs_of k (tabulate f before m ++ tabulate f (before + m) after)) top.0 (top.1 ∙ zero-add before)
    ∙ runs_parts before (tabulate f before m) (tabulate f (before + m) after)
    ∙ ap (λ (rs : List ℕ). runs_of before (tabulate f before m) ++ rs) (low (count_after before (tabulate f before m)))
    ∙ append-nil (runs_of before (tabulate f before m))
    ∙ ap (runs_of before) band
  where
    area_fit : a * W + n * W ≤ H * W
    area_fit = rows_in a n H W fit

-- the runs of a plane, by those of its band
module _ (W H r a b e : ℕ) (work : List ℕ) (f : Frame W H r) (h : 3 * (H * r) ≤ length work) (el : T (is_element e)) (bytes : (i : ℕ) → get_or work i 0 < 256)
    (clean : T (is_clean W H work)) (d : Banded H r a b (take (H * r) work)) (k : ℕ) (ek : k ≡ length work - a * r) where
  pub band-runs : open_runs W H (offsets e) work ≡ lacking_runs W (b - a) (offsets e) (a * W) (take k (drop (a * r) work))
  band-runs =
      let B = offsets e in
      let X = image_set W H work in
      let rows = band-rows W H r a b e work f h el bytes clean d in
      frame-runs W H X (opening B X)
      ∙ rows-runs W H a (b - a) X (opening B X) f.wide (band_fit d) rows (λ z t. rows z (open_sub B X z t))
      ∙ ap (λ (M : Point → Bool). runs_of (a * W) (kinds_from W (moved a X) M 0 (W * (b - a)))) (sym (open-moved B a X))
      ∙ ap (λ (Y : Point → Bool). runs_of (a * W) (kinds_from W Y (opening B Y) 0 (W * (b - a)))) (sym (band-image W H r a b e work f h el bytes clean d k ek))

-- the runs of the first plane, as its planes hold them once it is opened
module _ (W H r p e : ℕ) (old : List ℕ) (f : Frame W H r) (hp : H * r ≤ p) (h : p + p + H * r ≤ length old) (w' : List ℕ)
    (q : w' ≡ overwrite (p + p) (pack W H (opening (offsets e) (image_set W H old))) (overwrite p (pack W H (erode (offsets e) (image_set W H old))) old)) where
  pub opened-runs : (k : ℕ) → runs_of k (kinds_from W (image_set W H w') (image_set W H (drop (p + p) w')) 0 (W * H)) ≡ lacking_runs W H (offsets e) k old
  opened-runs k =
      ap₂ (λ (S M : Point → Bool). runs_of k (kinds_from W S M 0 (W * H))) (opened-first W H r p e old f hp h w' q) (opened_third W H r p e old f hp h w' q)

-- the plane's bytes by another name
pub stepped_as : {down : Bool} {W H p q : ℕ} {B : List Point} {w w' o o' : List ℕ} {at at' : ℕ} → p ≡ q → SizeStepped down W H p B w w' o o' at at'
    → SizeStepped down W H q B w w' o o' at at'
stepped_as {down} {W} {H} {B = B} {w} {w'} {o} {o'} {at} {at'} e d = subst (λ (k : ℕ). SizeStepped down W H k B w w' o o' at at') e d

-- ---- the sizes one after the other

pub passed_start : (W H p e : ℕ) (w : List ℕ) → First W H p (image_set W H w) w w → SizesPassed W H p (offsets e) (image_set W H w) 0 w w
passed_start W H p e w a = record {
  size = refl;
  eroded = a.first ∙ ap (pack W H) (sym (eroded-zero (offsets e) (image_set W H w)));
  rest = refl;
}

module _ {W H r p : ℕ} (e : ℕ) (sheet : Sheet W H r p) (el : T (is_element e)) {X : Point → Bool} (on : OnFrame W H X) {n : ℕ} {w₀ w : List ℕ}
    (t : SizesPassed W H p (offsets e) X n w₀ w) where
  abbrev B : List Point
  B = offsets e

  abbrev Y : Point → Bool
  Y = erode (times B n) X

  Y_on : OnFrame W H Y
  Y_on = eroded_on W H B (element e el) X on n

  first_of : First W H p Y w w
  first_of = record { size = refl; first = t.eroded; rest = refl }

  pub passed-image : image_set W H w ≡ erode (times (offsets e) n) X
  passed-image = first-image (sheet-bytes sheet) Y_on first_of

  pub passed-clean : T (is_clean W H w)
  passed-clean = first-clean (sheet-bytes sheet) Y_on first_of

  -- the runs of its size
  pub passed-runs : open_runs W H (offsets e) w ≡ eroded_runs W H (offsets e) X n
  unfolding opening
  passed-runs =
      ap (λ (Z : Point → Bool). runs Z 0 (unmasked W H (opening B Z))) passed-image
      ∙ ap (λ (Z : Point → Bool). runs Y 0 (unmasked W H (dilate B Z))) (sym (eroded-suc B n X))

  pub passed_more : {w' : List ℕ} → PlaneEroded W H p (offsets e) w w' → SizesPassed W H p (offsets e) X (n + 1) w₀ w'
  passed_more d = record {
    size = d.size ∙ t.size;
    eroded = d.first ∙ ap (λ (Z : Point → Bool). pack W H (erode B Z)) passed-image
        ∙ ap (pack W H) (sym (ap (λ (k : ℕ). erode (times B k) X) (add-one n) ∙ eroded-suc B n X));
    rest = d.rest ∙ t.rest;
  }

-- ---- the symbols of all sizes

pub below_suc : (f : ℕ → List ℕ) (n : ℕ) → symbols_below f (n + 1) ≡ section (map numeral (f n)) ++ symbols_below f n
unfolding symbols_below
below_suc f n = ap (symbols_below f) (add-one n)

below-down : (f : ℕ → List ℕ) (n : ℕ) → sections (map (map numeral) (down_from f n)) ≡ symbols_below f (suc n)
unfolding symbols_below sections
below-down f zero = refl
below-down f (suc n) = ap (λ (l : List ℕ). section (map numeral (f (suc n))) ++ l) (below-down f n)

-- ---- the code

module _ (W H e : ℕ) (el : T (is_element e)) (X : Point → Bool) (on : OnFrame W H X) where
  greatest_is : (n : ℕ) → ((k : ℕ) → n ≡ suc k → (z : Point) × T (erode (times (offsets e) k) X z)) → ((z : Point) → T (erode (times (offsets e) n) X z) → ⊥)
      → greatest (skeleton_labels W H (offsets e) X) ≡ n
  greatest_is zero before gone =
      let B = offsets e in
      let h = greatest-raster W H 0 (skeleton_function B X 0) (label_le B X 0) in
      ap greatest (sym (labels_done W H B (element e el) X on 0 gone)) ∙ omega arith
  greatest_is (suc n) before gone =
      let B = offsets e in
      let z = before n refl in
      ap greatest (sym (labels_done W H B (element e el) X on (suc n) gone))
      ∙ greatest_turn W H B (element e el).centred X n on z.0 (last_subset W H B (element e el).centred X n gone z.0 z.1)

  -- of an empty image, and of one whose largest size is n
  pub code-blank : ((z : Point) → T (erode (times (offsets e) 0) X z) → ⊥) → code_of W H (offsets e) X ≡ code none []
  unfolding code_of map_code
  code-blank gone =
      let B = offsets e in
      ap (map_code W H B (skeleton_labels W H B X)) (greatest_is 0 (λ k q. absurd (omega arith)) gone)

  pub code_sized : (n : ℕ) → (z : Point) × T (erode (times (offsets e) n) X z) → ((z : Point) → T (erode (times (offsets e) (suc n)) X z) → ⊥)
      → code_of W H (offsets e) X ≡ code (some n) (pack_symbols (symbols_below (eroded_runs W H (offsets e) X) (suc n)))
  unfolding code_of map_code map_symbols
  code_sized n z gone =
      let B = offsets e in
      let g = greatest_is (suc n) (λ k q. let i : n ≡ k = omega arith in subst (λ (j : ℕ). (z : Point) × T (erode (times B j) X z)) i z) gone in
      ap (map_code W H B (skeleton_labels W H B X)) g
      ∙ ap (λ (rs : List (List ℕ)). code (some n) (pack_symbols (sections (map (map numeral) rs)))) (map-eroded W H B (element e el) X on n g)
      ∙ ap (λ (l : List ℕ). code (some n) (pack_symbols l)) (below-down (eroded_runs W H B X) n)
