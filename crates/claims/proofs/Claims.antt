-- The claims of 01, each proved.
use mathlib.Core.Bool.{Bool, ◌&&◌, ◌||◌, false, not}
use mathlib.Core.List.{List, [], ◌∷◌}
use mathlib.Core.Logic.{◌↔◌}
use mathlib.Core.Path.{◌∙◌, ◌≡◌, ap, ap₂, refl, subst, sym}
use Prim.Native.Nat.{◌*◌, ◌+◌, ◌-◌, ◌<◌, ◌≤◌, suc, zero, zero-le, ℕ}
use native.Mathlib.Nat.{le_refl, suc-ne-zero}
use native.Mathlib.Omega.{arith}
use borrow.Author.Tests.{ne_eqb}
use lib.Dec.{T, eqb}
use lib.IntN.{pos}
use lib.ListN.{get_or}
use Rattle.claims.specs.Claims.{
  BadAtAnyCut,
  Buffers,
  CutIsOpening,
  EdgeStays,
  HitsExactly,
  Image,
  LabelsAreSizes,
  LabelsStay,
  NarrowStays,
  RebuildIsExact,
  RebuildsTheUnion,
  RefusesExactly,
  SettledCases,
  ShorteningIsMinimal,
  SieveIsAccepted,
  SieveList,
  SizeZeroStays,
  Sizes,
  ThinningEnds,
  ThinningStops,
  WritesImages,
}
use Rattle.claims.specs.Formula.{HasSize, Ink, Offset, Within}
use Rattle.claims.specs.Sieves.{accepted, is_refused, largest_cut, rebuilt, sieve_all, sieve_refused, taken_apart}
use Rattle.reading.proofs.OwnFacts.{length-labels}
use Rattle.morphology.specs.Answers.{Outcome, foreground, outcome, output, thinned}
use Rattle.morphology.specs.Element.{is_element, is_mask, offsets}
use Rattle.morphology.specs.Image.{image_set, on_frame, pack}
use Rattle.morphology.specs.Labels.{area, places}
use Rattle.morphology.specs.Lists.{greatest}
use Rattle.morphology.specs.Minimal.{minimal_labels}
use Rattle.morphology.specs.Morphology.{erode, opening, times}
use Rattle.morphology.specs.Operations.{
  cleared,
  decompose_rows,
  decomposed,
  eroded,
  fold_rows,
  hit_or_miss,
  hit_rows,
  labelled,
  minimise_rows,
  minimised,
  opened,
  reconstruct_rows,
  reconstructed,
  skeleton_answer,
  thin,
  thin_rows,
  writes,
}
use Rattle.morphology.specs.Point.{Point, at}
use Rattle.morphology.specs.Refusals.{first_refusal, is_side, max_side}
use Rattle.morphology.specs.Skeleton.{reconstruction, skeleton_labels, skeleton_subset}
use Rattle.morphology.specs.Thinning.{Thinned, hit, interior}
use Rattle.claims.proofs.AcceptedLaws.{
  Accepted,
  decomposed-accepted,
  eroded-accepted,
  hit-accepted,
  minimised-accepted,
  opened-accepted,
  reconstructed-accepted,
  thinned-accepted,
}
use Rattle.claims.proofs.FormulaLaws.{
  covered_in,
  covered_out,
  every_in,
  within_is,
  hit_in,
  hit-out,
  image_is,
  ink_in,
  ink-out,
  offsets_are,
  size_in,
  size-out,
}
use Rattle.claims.proofs.MapLaws.{bad-or_sound}
use Rattle.claims.proofs.RowLaws.{refuses}
use Rattle.claims.proofs.ShorteningLaws.{shortening}
use Rattle.claims.proofs.SieveLaws.{sieves_open}
use Rattle.claims.proofs.StopLaws.{passes_stop}
use Rattle.claims.proofs.WritingLaws.{erode-part, packed-writes, thinned-image}
use Rattle.morphology.proofs.Cases.{settled}
use Rattle.morphology.proofs.CountLaws.{count_none}
use Rattle.morphology.proofs.CoverLaws.{size-zero}
use Rattle.morphology.proofs.ElementLaws.{Element, element}
use Rattle.morphology.proofs.FrameLaws.{OnFrame}
use Rattle.morphology.proofs.ImageLaws.{image_on, image-pack}
use Rattle.morphology.proofs.LabelLaws.{of_places, on-places}
use Rattle.morphology.proofs.MorphologyLaws.{eroded-zero, open-zero, ⊆_of_eq}
use Rattle.morphology.proofs.PlaneLaws.{Empty, byte_lt, on_sub, pack-empty, plane_back}
use Rattle.morphology.proofs.ReconstructLaws.{reconstruction_on}
use Rattle.morphology.proofs.RefusalLaws.{Clear, T_of-not, decompose-passes, good, reconstruct-passes, side_le, unless_in}
use Rattle.morphology.proofs.SkeletonLaws.{label-above, label-formula, labels_le, open_on, reconstruction_open, skeleton-tame}
use Rattle.morphology.proofs.SubsetLaws.{eroded-down, subset_in}
use Rattle.morphology.proofs.TestLaws.{T_ext, and_l, and_r}
use Rattle.morphology.proofs.ThinningLaws.{edge-hit, edge_kept, hit-part, less, narrow-interior, narrow-passes, thin-enough, thin-idle}

-- ---- the settled cases

pub settled_cases : SettledCases
settled_cases = settled

-- ---- demand 1

answer-accepted : (m : List ℕ) (n : ℕ) → (skeleton_answer m n).refusal ≡ 0
answer-accepted m zero = refl
answer-accepted m (suc n) = refl

pub refuses_exactly : RefusesExactly
unfolding eroded opened decomposed reconstructed minimised hit_or_miss thin
refuses_exactly = record {
  erosion = λ W H e n image out work. refuses (fold_rows W H e n image out work) (out ∷ work ∷ []) _ tt refl;
  opening = λ W H e n image out work. refuses (fold_rows W H e n image out work) (out ∷ work ∷ []) _ tt refl;
  decomposition = λ W H e image labels work.
      let m = skeleton_labels W H (offsets e) (image_set W H image) in
      refuses (decompose_rows W H e image labels work) (labels ∷ work ∷ []) (labelled W H m work) tt (answer-accepted m (greatest m));
  reconstruction = λ W H e k labels image work. refuses (reconstruct_rows W H e k labels image work) (image ∷ work ∷ []) _ tt refl;
  minimisation = λ W H e labels work counters. refuses (minimise_rows W H e labels work counters) (labels ∷ work ∷ counters ∷ []) _ tt refl;
  hits = λ W H m image out. refuses (hit_rows W H m image out) (out ∷ []) _ tt refl;
  thinning = λ W H image work. refuses (thin_rows W H image work) (image ∷ work ∷ []) _ tt refl;
}

pub bad_at_any_cut : BadAtAnyCut
bad_at_any_cut = bad-or_sound

-- ---- demand 2

-- an accepted image is its set, packed
pub canonical : (W H : ℕ) (image : List ℕ) → Image W H image → pack W H (image_set W H image) ≡ image
canonical W H image i = let g = good W H image i.passes in plane_back W H image (record { size = g.size; bytes = λ k. byte_lt image k i.bytes; clean = g.clean })

-- a decomposition that is let pass
decomposed_is : (W H e : ℕ) (image m w : List ℕ) → Image W H image → T (is_element e) → Buffers W H m w
    → let s = skeleton_labels W H (offsets e) (image_set W H image) in
    decomposed W H e image m w ≡ outcome (skeleton_answer s (greatest s)) (s ∷ cleared W H w ∷ [])
unfolding decomposed
decomposed_is W H e image m w i el b =
    unless_in (first_refusal (decompose_rows W H e image m w)) (m ∷ w ∷ []) (labelled W H (skeleton_labels W H (offsets e) (image_set W H image)) w)
    (decompose-passes W H e image m w (good W H image i.passes) el b.labels b.work)

pub labels_stay : LabelsStay
labels_stay W H e image el = skeleton-tame W H (offsets e) (element e el) (image_set W H image) (image_on W H image)

pub cut_is_opening : CutIsOpening
unfolding reconstructed
cut_is_opening W H e image target labels work work' k i el b b' size h =
    let B = offsets e in
    let X = image_set W H image in
    let s = skeleton_labels W H B X in
    let m = output (decomposed W H e image labels work) in
    let q : m ≡ s = ap output (decomposed_is W H e image labels work i el b) in
    let p : reconstructed W H e k s target work' ≡ writes W H (reconstruction W H B k s) work' =
    unless_in (first_refusal (reconstruct_rows W H e k s target work')) (target ∷ work' ∷ []) (writes W H (reconstruction W H B k s) work')
    (reconstruct-passes W H e s (good W H image i.passes).sides el (length-labels W H B X) k target work' size b' (labels_stay W H e image el) h) in
    ap (λ (l : List ℕ). reconstructed W H e k l target work') q ∙ p
    ∙ ap (λ (Y : Point → Bool). writes W H Y work') (reconstruction_open W H B (element e el) X (image_on W H image) k)

pub rebuild_is_exact : RebuildIsExact
rebuild_is_exact W H e image target labels work work' i el b b' size =
    let X = image_set W H image in
    let m = output (decomposed W H e image labels work) in
    let r : reconstructed W H e 0 m target work' ≡ outcome (foreground (area W H X)) (image ∷ cleared W H work' ∷ []) =
    cut_is_opening W H e image target labels work work' 0 i el b b' size zero-le
    ∙ ap (λ (Y : Point → Bool). writes W H Y work') (open-zero (offsets e) X)
    ∙ ap (λ (l : List ℕ). outcome (foreground (area W H X)) (l ∷ cleared W H work' ∷ [])) (canonical W H image i) in
    let d = decomposed_is W H e image labels work i el b in
    record {
      rebuilt = r;
      again = λ labels' work'' b'.
          ap (λ (o : Outcome). decomposed W H e (output o) labels' work'') r
          ∙ decomposed_is W H e image labels' work'' i el b'
          ∙ ap (λ (o : Outcome). outcome o.answer (output o ∷ cleared W H work'' ∷ [])) (sym d);
    }

-- the labels that a decomposition writes, by the formula

pub labels_are_sizes : LabelsAreSizes
labels_are_sizes W H e image labels work h = record {
  labels = subst (Sizes W H (Offset e) (Ink W H image)) (sym q) sizes;
  answer = ap (λ (o : Outcome). o.answer) d.is ∙ ap (λ (m : List ℕ). skeleton_answer m (greatest m)) (sym q);
  small = λ i. subst (λ (m : List ℕ). get_or m i 0 ≤ max_side) (sym q) (small i);
}
  where
    B : List Point
    B = offsets e

    X : Point → Bool
    X = image_set W H image

    m : List ℕ
    m = skeleton_labels W H B X

    d : Accepted (decompose_rows W H e image labels work) (decomposed W H e image labels work) (labelled W H m work)
    d = decomposed-accepted W H e image labels work h

    el : Element B
    el = element e (T_of-not (is_element e) d.clear.1.0)

    q : output (decomposed W H e image labels work) ≡ m
    q = ap output d.is

    here : (n : ℕ) (z : Point) → T (skeleton_subset B X n z) → HasSize (Offset e) (Ink W H image) n z
    here = size_in B (Offset e) (offsets_are e) X (Ink W H image) (image_is W H image)

    there : (n : ℕ) (z : Point) → HasSize (Offset e) (Ink W H image) n z → T (skeleton_subset B X n z)
    there = size-out B (Offset e) (offsets_are e) X (Ink W H image) (image_is W H image)

    formula : (x y n : ℕ) → x < W → y < H → (get_or m (y * W + x) 0 ≡ suc n) ↔ T (skeleton_subset B X n (at (pos x) (pos y)))
    formula x y n hx hy = label-formula W H B el X (image_on W H image) x y n hx hy

    zero_of : (x y v : ℕ) → x < W → y < H → get_or m (y * W + x) 0 ≡ v → ((n : ℕ) → HasSize (Offset e) (Ink W H image) n (at (pos x) (pos y)) → ⊥) → v ≡ 0
    zero_of x y zero hx hy r f = refl
    zero_of x y (suc n) hx hy r f = absurd (f n (here n (at (pos x) (pos y)) ((formula x y n hx hy).0 r)))

    sizes : Sizes W H (Offset e) (Ink W H image) m
    sizes = record {
      places = length-labels W H B X;
      sizes = λ x y n hx hy.
          let z = at (pos x) (pos y) in ((λ r. here n z ((formula x y n hx hy).0 r)), (λ s. (formula x y n hx hy).1 (there n z s)));
      none = λ x y hx hy. (
        (λ r n s. suc-ne-zero n (sym ((formula x y n hx hy).1 (there n (at (pos x) (pos y)) s)) ∙ r)),
        (λ f. zero_of x y (get_or m (y * W + x) 0) hx hy refl f),
      );
      elsewhere = λ z n s.
          of_places W H
          (on-places W H X (image_on W H image) z
          (⊆_of_eq (eroded-zero B X) z (eroded-down B el.centred X 0 n zero-le z (subset_in B el.centred X n z (there n z s)))));
    }

    small : (i : ℕ) → get_or m i 0 ≤ max_side
    small i =
        let s = T_of-not (is_side W && is_side H) d.clear.0 in
        omega (arith, side_le W (and_l (is_side W) (is_side H) s), side_le H (and_r (is_side W) (is_side H) s), labels_le W H B X i)

-- what a reconstruction writes

kept_on-frame : (W H e k : ℕ) (labels image work : List ℕ) → Clear (reconstruct_rows W H e k labels image work)
    → OnFrame W H (reconstruction W H (offsets e) k labels)
kept_on-frame W H e k labels image work c = reconstruction_on W H (offsets e) (element e (T_of-not (is_element e) c.1.0)) labels c.1.1.1.0 k

pub rebuilds_the_union : RebuildsTheUnion
rebuilds_the_union W H e k labels image work h z =
    let B = offsets e in
    let m = reconstruction W H B k labels in
    let a = reconstructed-accepted W H e k labels image work h in
    let s : image_set W H (output (reconstructed W H e k labels image work)) ≡ m =
    ap (image_set W H) (ap output a.is) ∙ image-pack W H m (kept_on-frame W H e k labels image work a.clear) in (
      (λ i. covered_in B (Offset e) (offsets_are e) W H k labels z (⊆_of_eq s z (ink-out W H _ z i))),
      (λ c. ink_in W H _ z (⊆_of_eq (sym s) z (covered_out B (Offset e) (offsets_are e) W H k labels z c))),
    )

pub writes_images : WritesImages
unfolding thin
writes_images = record {
  erosion = λ W H e n image out work h.
      let a = eroded-accepted W H e n image out work h in
      let X = image_set W H image in
      let Y = erode (times (offsets e) n) X in
      let part = erode-part (offsets e) (element e (T_of-not (is_element e) a.clear.1.0)) n X in
      packed-writes W H (sides W H a.clear.0) Y _ _ (on_sub W H Y X part (image_on W H image)) a.is;
  opening = λ W H e n image out work h.
      let a = opened-accepted W H e n image out work h in
      packed-writes W H (sides W H a.clear.0) (opening (times (offsets e) n) (image_set W H image)) _ _ (open_on W H (times (offsets e) n) (image_set W H image) (image_on W H image)) a.is;
  reconstruction = λ W H e k labels image work h.
      let a = reconstructed-accepted W H e k labels image work h in
      packed-writes W H (sides W H a.clear.0) (reconstruction W H (offsets e) k labels) _ _ (kept_on-frame W H e k labels image work a.clear) a.is;
  hits = λ W H m image out h.
      let a = hit-accepted W H m image out h in
      let X = image_set W H image in
      let part = hit-part W H m (T_of-not (is_mask m) a.clear.1.1.1.0) X in
      packed-writes W H (sides W H a.clear.0) (hit W H m X) _ _ (on_sub W H (hit W H m X) X part (image_on W H image)) a.is;
  thinning = λ W H image work h.
      let a = thinned-accepted W H image work h in
      subst (Image W H) (sym (ap output a.is)) (thinned-image W H (sides W H a.clear.0) (area W H (image_set W H image)) image);
}
  where
    sides : (W H : ℕ) → not (is_side W && is_side H) ≡ false → T (is_side W && is_side H)
    sides W H = T_of-not (is_side W && is_side H)

-- ---- demand 3

pub sieve_is_accepted : SieveIsAccepted
unfolding sieve_refused taken_apart rebuilt
sieve_is_accepted s image i el b w h =
    let W = s.width in
    let H = s.height in
    let e = s.element in
    let m = skeleton_labels W H (offsets e) (image_set W H image) in
    let d = decomposed_is W H e image s.labels s.first_work i el b in
    let first : is_refused (taken_apart s image) ≡ false = ap is_refused d ∙ ap (λ (n : ℕ). not (eqb n 0)) (answer-accepted m (greatest m)) in
    let second : is_refused (rebuilt s image) ≡ false =
    ap is_refused (cut_is_opening W H e image image s.labels s.first_work s.second_work s.cut i el b w (good W H image i.passes).size h) in
    ap₂ (λ (x y : Bool). x || y) first second

pub sieve_list : SieveList
sieve_list W H e first ss i el one =
    let B = offsets e in
    let X = image_set W H first in
    let on = image_on W H first in
    let K = largest_cut (accepted ss first) in
    let Y = opening (times B K) X in
    let r = sieves_open W H e el ss first (sym (canonical W H first i)) one in
    let y : image_set W H (sieve_all ss first) ≡ Y = ap (image_set W H) r.0 ∙ image-pack W H Y (open_on W H (times B K) X on) in
    record {
      image = r.0;
      answer = r.1;
      formula = λ x y n hx hy h. label-formula W H B (element e el) X on x y n hx hy;
      labels = λ x v n hx hy h.
          let l = label-above W H B (element e el) X on K x v n hx hy h in
          let q = ap (λ (Z : Point → Bool). get_or (skeleton_labels W H B Z) (v * W + x) 0) y in
          ((λ p. l.0 (sym q ∙ p)), (λ p. q ∙ l.1 p));
    }

-- ---- shortening

pub shortening_is_minimal : ShorteningIsMinimal
shortening_is_minimal = shortening

pub size_zero_stays : SizeZeroStays
unfolding decomposed
size_zero_stays W H e image labels work work' counters h h' i l q =
    let X = image_set W H image in
    let s = skeleton_labels W H (offsets e) X in
    let m = output (decomposed W H e image labels work) in
    let a = decomposed-accepted W H e image labels work h in
    let p : m ≡ s = ap output a.is in
    let el = element e (T_of-not (is_element e) a.clear.1.0) in
    ap (λ (k : List ℕ). get_or k i 0) (ap output (minimised-accepted W H e m work' counters h').is)
    ∙ subst (λ (k : List ℕ). get_or k i 0 ≡ 1 → get_or (minimal_labels W H (offsets e) k) i 0 ≡ 1) (sym p) (size-zero W H (offsets e) el X (image_on W H image) i l) q

-- ---- hit-or-miss

pub hits_exactly : HitsExactly
hits_exactly W H m image out h z =
    let a = hit-accepted W H m image out h in
    let X = image_set W H image in
    let o = output (hit_or_miss W H m image out) in
    let part = hit-part W H m (T_of-not (is_mask m) a.clear.1.1.1.0) X in
    let e : image_set W H o ≡ hit W H m X =
    ap (λ (o : Outcome). image_set W H (output o)) a.is ∙ image-pack W H (hit W H m X) (on_sub W H (hit W H m X) X part (image_on W H image)) in (
      (λ i. hit_in W H m X (Ink W H image) (image_is W H image) z (⊆_of_eq e z (ink-out W H o z i))),
      (λ i. ink_in W H o z (⊆_of_eq (sym e) z (hit-out W H m X (Ink W H image) (image_is W H image) z i))),
    )

-- ---- thinning

pub edge_stays : EdgeStays
unfolding interior
edge_stays W H image work h z b o off =
    let a = thinned-accepted W H image work h in
    let left = output (thin W H image work) in
    let e : image_set W H left z ≡ image_set W H image z =
    ap (λ (o : Outcome). image_set W H (output o) z) a.is ∙ edge_kept W H _ image z (T_ext (λ t. off (every_in 511 (on_frame W H) (Within W H) (within_is W H) z t b o)) absurd) in (
      (λ i. ink_in W H image z (subst T e (ink-out W H left z i))),
      (λ i. ink_in W H left z (subst T (sym e) (ink-out W H image z i))),
    )

pub narrow_stays : NarrowStays
unfolding area
narrow_stays W H n = record {
  hits = λ m image out h.
      let a = hit-accepted W H m image out h in
      let X = hit W H m (image_set W H image) in
      let none : Empty X = λ z t. subst T (edge-hit W H m (image_set W H image) z (narrow-interior W H n z)) t in
      a.is ∙ ap₂ (λ (k : ℕ) (s : List ℕ). outcome (foreground k) (s ∷ [])) (count_none X (places W H) (λ z k t. none z t)) (pack-empty W H X none);
  thinning = λ image work i h.
      let a = thinned-accepted W H image work h in
      let k = area W H (image_set W H image) in
      let zero : k - k ≡ 0 = omega arith in
      a.is
      ∙ ap (λ (t : Thinned). let left = area W H (image_set W H t.image) in outcome (thinned t.passes (k - left) left) (t.image ∷ cleared W H work ∷ []))
      (narrow-passes W H (narrow-interior W H n) k image (canonical W H image i))
      ∙ ap (λ (j : ℕ). outcome (thinned 1 j k) (image ∷ cleared W H work ∷ [])) zero;
}

pub thinning_stops : ThinningStops
thinning_stops W H image work h =
    let a = thinned-accepted W H image work h in
    let n = area W H (image_set W H image) in
    let s = passes_stop W H n image (le_refl n) in (
      s.0,
      record {
        idle = s.1.idle;
        busy = s.1.busy;
        left = ap output a.is ∙ s.1.left;
        answer = ap (λ (o : Outcome). o.answer) a.is
            ∙ ap₂ (λ (p : ℕ) (t : List ℕ). thinned p (n - area W H (image_set W H t)) (area W H (image_set W H t))) s.1.passes s.1.left;
      },
    )

pub thinning_ends : ThinningEnds
thinning_ends W H image =
    let n = area W H (image_set W H image) in
    record {
      falls = λ f. less W H image (ne_eqb _ _ f);
      enough = λ m h. thin-enough W H n m image (le_refl n) h;
      idle = thin-idle W H n image (le_refl n);
    }
