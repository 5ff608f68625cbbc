-- A decomposition turn by turn.
use mathlib.Core.Bool.{Bool, ◌&&◌, cond, not}
use mathlib.Core.List.{List, ◌++◌}
use mathlib.Core.Path.{◌∙◌, ◌≡◌, ap, ap₂, refl, subst, sym}
use Prim.Native.Nat.{◌*◌, ◌+◌, ◌<◌, ◌≤◌, max, suc, zero, ℕ}
use native.Mathlib.Nat.{le_refl, suc-ne-zero}
use native.Mathlib.Numerals.{add-one}
use native.Mathlib.Omega.{arith}
use lib.Dec.{T, eqb}
use lib.ListN.{drop, get_or, get_or-replicate, length, replicate, take}
use lib.Seq.{ext_get_or}
use Rattle.morphology.specs.Element.{is_element, offsets}
use Rattle.morphology.specs.Image.{image_set, is_clean, pack, plane_bytes}
use Rattle.morphology.specs.Labels.{area, place, points_of, raster}
use Rattle.morphology.specs.Lists.{count_of}
use Rattle.morphology.specs.Morphology.{erode, opening, times}
use Rattle.morphology.specs.Point.{Point}
use Rattle.morphology.specs.Skeleton.{skeleton_function, skeleton_subset}
use Rattle.morphology.proofs.CountLaws.{count_le}
use Rattle.morphology.proofs.DecomposeLaws.{eroded_on, function_turn, labels-none, points_turn, turns_lt}
use Rattle.morphology.proofs.LabelLaws.{get_or-place, length-raster}
use Rattle.morphology.proofs.MorphologyLaws.{eroded-suc, eroded-zero}
use Rattle.morphology.proofs.PlaneLaws.{area_le, pack-empty, some-point}
use Rattle.morphology.proofs.ElementLaws.{element}
use Rattle.morphology.proofs.FrameLaws.{OnFrame}
use Rattle.raster.specs.Rows.{overwrite}
use Rattle.raster.proofs.RowLaws.{row_in}
use Rattle.raster.specs.Frames.{Frame, Sheet}
use Rattle.raster.proofs.PackLaws.{frame-bytes}
use Rattle.iteration.specs.Steps.{First}
use Rattle.label_write.specs.Labelled.{Labelled, lacking}
use Rattle.raster.specs.Bands.{EndRow, FirstRow}
use Rattle.iteration.specs.Bands.{Banded}
use Rattle.decomposition.specs.Turns.{Finished, Stepped, Took, Turned, Turns}
use Rattle.iteration.proofs.BandLaws.{banded_next, banded-rows, eroded_sub}
use Rattle.iteration.proofs.OpenLaws.{opened-down, opened-first, opened_third}
use Rattle.iteration.proofs.StepLaws.{first-clean, first-image, sheet-bytes}

-- ---- one turn

module _ (W H r p e : ℕ) (old : List ℕ) (f : Frame W H r) (hp : H * r ≤ p) (h : p + p + H * r ≤ length old) where
  pub turn_done : (w' new labels labels' : List ℕ) (c found : ℕ)
      → w' ≡ overwrite (p + p) (pack W H (opening (offsets e) (image_set W H old))) (overwrite p (pack W H (erode (offsets e) (image_set W H old))) old)
      → Labelled W H (lacking W H (p + p) w') c labels labels' found → new ≡ take (H * r) (drop p w') ++ drop (H * r) w'
      → Turned W H p (offsets e) c old new labels labels' found
  turn_done w' new labels labels' c found q m en = record {
    planes = opened-down W H r p e old f hp h w' q new en;
    points = subst (λ (S : Point → Bool). Labelled W H S c labels labels' found)
        (ap₂ (λ (Y Z : Point → Bool). λ z. Y z && not (Z z)) (opened-first W H r p e old f hp h w' q) (opened_third W H r p e old f hp h w' q)) m;
  }

-- no more points than places
pub stepped_le : {W H p : ℕ} {B : List Point} {v : ℕ} {w w' l l' : List ℕ} {found : ℕ} → Stepped W H p B v w w' l l' found → found ≤ W * H
stepped_le {W} {H} {B = B} {w = w} d = let h = area_le W H (λ z. image_set W H w z && not (opening B (image_set W H w) z)) in omega (arith, d.points.points)

pub stepped_as : {W H p q : ℕ} {B : List Point} {v : ℕ} {w w' l l' : List ℕ} {found : ℕ} → p ≡ q → Stepped W H p B v w w' l l' found → Stepped W H q B v w w' l l' found
stepped_as {W} {H} {B = B} {v} {w} {w'} {l} {l'} {found} e d = subst (λ (k : ℕ). Stepped W H k B v w w' l l' found) e d

-- ---- turns one after the other

pub points_none : (n : ℕ) → points_of (replicate n 0) ≡ 0
unfolding count_of
points_none zero = refl
points_none (suc n) = omega (arith, points_none n)

pub turns-start : (W H p e : ℕ) (w labels : List ℕ) → First W H p (image_set W H w) w w → labels ≡ replicate (W * H) 0
    → Turns W H p (offsets e) (image_set W H w) 0 w w labels 0
turns-start W H p e w labels a q = record {
  size = refl;
  eroded = a.first ∙ ap (pack W H) (sym (eroded-zero (offsets e) (image_set W H w)));
  rest = refl;
  below = q ∙ sym (labels-none W H (offsets e) (image_set W H w));
  points = sym (ap points_of q ∙ points_none (W * H));
  before = λ k z. absurd (suc-ne-zero k (sym z));
}

module _ {W H r p : ℕ} (e : ℕ) (sheet : Sheet W H r p) (el : T (is_element e)) {X : Point → Bool} (on : OnFrame W H X) {n : ℕ} {w₀ w labels : List ℕ} {found : ℕ}
    (t : Turns W H p (offsets e) X n w₀ w labels found) where
  abbrev B : List Point
  B = offsets e

  abbrev Y : Point → Bool
  Y = erode (times B n) X

  Y_on : OnFrame W H Y
  Y_on = eroded_on W H B (element e el) X on n

  first_of : First W H p Y w w
  first_of = record { size = refl; first = t.eroded; rest = refl }

  pub turns-image : image_set W H w ≡ Y
  turns-image = first-image (sheet-bytes sheet) Y_on first_of

  pub turns-clean : T (is_clean W H w)
  turns-clean = first-clean (sheet-bytes sheet) Y_on first_of

  -- a row with ink has a point
  pub turns-point : {a b : ℕ} → Banded H r a b (take p w) → a < b → (z : Point) × T (Y z)
  turns-point {a} {b} d h = some-point W H Y Y_on (λ f. d.ink h (λ i l. ap (λ (s : List ℕ). get_or s (a * r + i) 0) (t.eroded ∙ pack-empty W H Y f) ∙ get_or-replicate (plane_bytes W H) (a * r + i) 0 0 (bound i l)))
    where
      bound : (i : ℕ) → i < r → a * r + i < plane_bytes W H
      bound i l = omega (arith, row_in a H r (H * r) (omega (arith, d.down)) (le_refl (H * r)), frame-bytes sheet.frame)

  pub turns-below : {a b : ℕ} → Banded H r a b (take p w) → a < b → n < max W H
  turns-below d h = turns_lt W H B (element e el) X on n (λ f. let z = turns-point d h in f z.0 z.1)

  pub turns-labels : length labels ≡ W * H
  turns-labels = ap length t.below ∙ length-raster W H (skeleton_function B X n)

  pub turns-found : found ≤ W * H
  turns-found = let h = count_le (λ v. not (eqb v 0)) labels in omega (arith, t.points, turns-labels)

  module _ {w' labels' : List ℕ} {new : ℕ} (d : Stepped W H p B (n + 1) w w' labels labels' new) where
    next-eroded : take p w' ≡ pack W H (erode B Y)
    next-eroded = d.eroded ∙ ap (λ (Z : Point → Bool). pack W H (erode B Z)) turns-image

    pub turns_more : (z : Point) × T (Y z) → Turns W H p B X (n + 1) w₀ w' labels' (found + new)
    unfolding skeleton_subset
    turns_more z = record {
      size = d.size ∙ t.size;
      eroded = next-eroded ∙ ap (pack W H) (sym (ap (λ (k : ℕ). erode (times B k) X) (add-one n) ∙ eroded-suc B n X));
      rest = d.rest ∙ t.rest;
      below = labels_are;
      points = ap₂ (λ (a b : ℕ). a + b) (t.points ∙ ap points_of t.below) (d.points.points ∙ ap (area W H) subset_is)
          ∙ sym (points_turn W H B (element e el).centred X n) ∙ ap (λ (k : ℕ). points_of (raster W H (skeleton_function B X k))) (sym (add-one n)) ∙ ap points_of (sym labels_are);
      before = λ k g. let r : n ≡ k = omega arith in subst (λ (i : ℕ). (z : Point) × T (erode (times B i) X z)) r z;
    }
      where
        subset_is : (λ z. image_set W H w z && not (opening B (image_set W H w) z)) ≡ skeleton_subset B X n
        subset_is = ap (λ (Z : Point → Bool). λ z. Z z && not (opening B Z z)) turns-image

        labels_are : labels' ≡ raster W H (skeleton_function B X (n + 1))
        labels_are =
            ext_get_or 0 labels' (raster W H (skeleton_function B X (n + 1))) (d.points.size ∙ sym (length-raster W H (skeleton_function B X (n + 1)))) (λ i l.
            let h = subst (λ (k : ℕ). i < k) d.points.size l in
            let z = place W i in
            d.points.places i h
            ∙ ap₂ (λ (b : Bool) (c : ℕ). cond b (n + 1) c) (ap (λ (F : Point → Bool). F z) subset_is) (ap (λ (m : List ℕ). get_or m i 0) t.below ∙ get_or-place W H (skeleton_function B X n) i h)
            ∙ ap (λ (k : ℕ). cond (skeleton_subset B X n z) k (skeleton_function B X n z)) (add-one n)
            ∙ sym (function_turn B X n z) ∙ ap (λ (k : ℕ). skeleton_function B X k z) (sym (add-one n)) ∙ sym (get_or-place W H (skeleton_function B X (n + 1)) i h))

    -- the band only shrinks
    pub turns_band : {a b a' b' : ℕ} → Banded H r a b (take p w) → FirstRow r a b (take p w') a' → EndRow r a' b (take p w') b' → Banded H r a' b' (take p w')
    turns_band {a} {b} {a'} {b'} g =
        banded_next W H r a b Y (take p w) sheet.frame Y_on t.eroded g (erode B Y) (take p w') (eroded_sub e el Y) next-eroded a' b'

  pub turns-over : {a b : ℕ} → Banded H r a b (take p w) → b ≤ a → Took W H p B X n w₀ w labels found
  turns-over {a} {b} d h = record {
    size = t.size;
    rest = t.rest;
    finished = record {
      below = t.below;
      points = t.points;
      before = t.before;
      gone = λ z g. let y = banded-rows W H r a b Y (take p w) sheet.frame Y_on t.eroded d z g in omega (arith, y.1);
    };
  }

-- ---- the outcome

pub finished_as : {W H : ℕ} {B : List Point} {X Z : Point → Bool} {n : ℕ} {labels : List ℕ} {found : ℕ} → X ≡ Z → Finished W H B X n labels found → Finished W H B Z n labels found
finished_as {W} {H} {B} {n = n} {labels = labels} {found = found} q f = subst (λ (S : Point → Bool). Finished W H B S n labels found) q f
