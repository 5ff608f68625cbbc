-- Labels of the band, and a turn of a decomposition on it.
use mathlib.Core.Bool.{Bool, ◌&&◌, cond, not}
use mathlib.Core.List.{List, ◌++◌}
use mathlib.Core.Path.{◌∙◌, ◌≡◌, ap, ap₂, subst, sym}
use Prim.Native.Nat.{◌*◌, ◌+◌, ◌-◌, ◌<◌, ◌≤◌, ℕ}
use native.Mathlib.Decide.{dec_lt}
use native.Mathlib.Nat.{add-mul, mul_comm}
use native.Mathlib.Omega.{arith}
use lib.Dec.{T}
use lib.ListN.{drop, get_or, length, take}
use lib.Seq.{get_or-drop, get_or-take}
use Rattle.morphology.specs.Element.{is_element, offsets}
use Rattle.morphology.specs.Image.{image_set, is_clean}
use Rattle.morphology.specs.Labels.{place}
use Rattle.morphology.specs.Morphology.{opening}
use Rattle.morphology.specs.Point.{Point}
use Rattle.morphology.proofs.BandLaws.{InRows, area-moved, moved, open-moved, place-moved, place_outside}
use Rattle.morphology.proofs.TestLaws.{and_l}
use Rattle.raster.specs.Frames.{Frame}
use Rattle.raster.proofs.PartLaws.{PartIs, part_back}
use Rattle.raster.proofs.RowLaws.{rows_in}
use Rattle.iteration.specs.Bands.{Banded}
use Rattle.iteration.proofs.BandLaws.{band-eroded, band_fit, band-image, band-rows}
use Rattle.label_write.specs.Labelled.{Labelled}
use Rattle.decomposition.specs.Turns.{Stepped, Turned}

-- ---- labels of the band, lent and back

pub labelled_back : (W H a n k v : ℕ) (S : Point → Bool) (old ys : List ℕ) (found : ℕ) → 0 < W → a + n ≤ H → k ≡ n * W → length old ≡ W * H → InRows a n S
    → Labelled W n (moved a S) v (take k (drop (a * W) old)) ys found → Labelled W H S v old (take (a * W) old ++ (ys ++ drop k (drop (a * W) old))) found
labelled_back W H a n k v S old ys found hW fit ek len rows m = record {
  size = p.size ∙ len;
  places = λ i l. by i (dec_lt i (a * W)) (dec_lt i (a * W + n * W));
  points = m.points ∙ area-moved W H a n S hW fit rows;
}
  where
    new : List ℕ
    new = take (a * W) old ++ (ys ++ drop k (drop (a * W) old))

    p : PartIs (a * W) k old ys new
    p = part_back (a * W) k old ys (omega (arith, rows_in a n H W fit, mul_comm W H)) (m.size ∙ mul_comm W n ∙ sym ek)

    same : (i : ℕ) → (a * W ≤ i → i < a * W + n * W → ⊥) → get_or old i 0 ≡ cond (S (place W i)) v (get_or old i 0)
    same i f = ap (λ (t : Bool). cond t v (get_or old i 0)) (sym (place_outside W H a n S hW fit rows i (λ l u. f l (omega (arith, add-mul a n W)))))

    by : (i : ℕ) → Dec (i < a * W) → Dec (i < a * W + n * W) → get_or new i 0 ≡ cond (S (place W i)) v (get_or old i 0)
    by i (yes l) g = p.before i l ∙ same i (λ x y. omega arith)
    by i (no l) (no g) = p.after i (omega arith) ∙ same i (λ x y. omega arith)
    by i (no l) (yes g) =
        let j = i - a * W in
        let e : a * W + j ≡ i = omega arith in
        ap (λ (x : ℕ). get_or new x 0) (sym e) ∙ p.within j (omega arith) ∙ m.places j (omega (arith, mul_comm W n))
        ∙ ap₂ (λ (t : Bool) (c : ℕ). cond t v c) (place-moved W H a n S hW fit rows j)
        (get_or-take k (drop (a * W) old) j 0 (omega arith) ∙ get_or-drop (a * W) old j 0)
        ∙ ap (λ (x : ℕ). cond (S (place W x)) v (get_or old x 0)) e

-- ---- a turn on the band

module _ (W H r a b e : ℕ) (work : List ℕ) (f : Frame W H r) (h : 3 * (H * r) ≤ length work) (el : T (is_element e)) (bytes : (i : ℕ) → get_or work i 0 < 256)
    (clean : T (is_clean W H work)) (d : Banded H r a b (take (H * r) work)) where
  abbrev X : Point → Bool
  X = image_set W H work

  abbrev B : List Point
  B = offsets e

  pub band_stepped : (k : ℕ) → k ≡ length work - a * r → (v found m : ℕ) (ys labels ls : List ℕ) → m ≡ (b - a) * W → length labels ≡ W * H
      → Turned W (b - a) (H * r) (offsets e) v (take k (drop (a * r) work)) ys (take m (drop (a * W) labels)) ls found
      → Stepped W H (H * r) (offsets e) v work (take (a * r) work ++ (ys ++ drop k (drop (a * r) work))) labels
      (take (a * W) labels ++ (ls ++ drop m (drop (a * W) labels))) found
  unfolding moved
  band_stepped k ek v found m ys labels ls em len t =
      let rows = band-rows W H r a b e work f h el bytes clean d in
      let image = band-image W H r a b e work f h el bytes clean d k ek in
      let eroded = band-eroded W H r a b e work f h el bytes clean d k ek ys t.planes in
      let u = take k (drop (a * r) work) in
      let S : Point → Bool = λ z. X z && not (opening B X z) in
      let subset : (λ z. image_set W (b - a) u z && not (opening B (image_set W (b - a) u) z)) ≡ moved a S =
      ap (λ (Y : Point → Bool). λ z. Y z && not (opening B Y z)) image ∙ ap (λ (O : Point → Bool). λ z. moved a X z && not (O z)) (open-moved B a X) in
      record {
        size = eroded.size;
        eroded = eroded.first;
        rest = eroded.rest;
        points = labelled_back W H a (b - a) m v S labels ls found f.wide (band_fit d) em len (λ z g. rows z (and_l (X z) (not (opening B X z)) g))
            (labels_as subset t.points);
      }
    where
      labels_as : {S R : Point → Bool} → S ≡ R → Labelled W (b - a) S v (take m (drop (a * W) labels)) ls found → Labelled W (b - a) R v (take m (drop (a * W) labels)) ls found
      labels_as e l = subst (λ (S : Point → Bool). Labelled W (b - a) S v (take m (drop (a * W) labels)) ls found) e l
