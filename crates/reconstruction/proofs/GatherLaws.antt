-- Labels reconstructed size by size.
use mathlib.Core.Bool.{Bool, ◌||◌, false}
use mathlib.Core.List.{List, ◌++◌}
use mathlib.Core.Path.{◌∙◌, ◌≡◌, ap, ap₂, refl, subst, sym}
use Prim.Native.Nat.{◌*◌, ◌+◌, ◌-◌, ◌<◌, ◌≤◌, max, suc, ℕ}
use native.Mathlib.Nat.{le_refl}
use native.Mathlib.Omega.{arith}
use lib.Dec.{T, eqb}
use lib.ListN.{drop, length, length-append, length-drop, replicate, take}
use lib.Seq.{drop_at, drop-drop, get_or-take, length-take-le, take_at}
use Rattle.morphology.specs.Element.{offsets}
use Rattle.morphology.specs.Falls.{falls_off}
use Rattle.morphology.specs.Image.{image_set, is_clean, pack, plane_bytes}
use Rattle.morphology.specs.Labels.{label_at}
use Rattle.morphology.specs.Lists.{greatest}
use Rattle.morphology.specs.Morphology.{dilate, times}
use Rattle.morphology.specs.Point.{Point}
use Rattle.morphology.specs.Skeleton.{reconstruction}
use Rattle.morphology.proofs.ElementLaws.{element}
use Rattle.morphology.proofs.FallsLaws.{on-falls}
use Rattle.morphology.proofs.FrameLaws.{OnFrame}
use Rattle.morphology.proofs.ImageLaws.{Agree, clean_agree, image_agree, image_on, length-pack}
use Rattle.morphology.proofs.InTurnLaws.{times-whole}
use Rattle.morphology.proofs.LabelLaws.{label_at_le}
use Rattle.morphology.proofs.MorphologyLaws.{dilate-zero}
use Rattle.morphology.proofs.PlaneLaws.{pack-empty}
use Rattle.morphology.proofs.ReconstructLaws.{dilated-suc, partial-top, reconstruction_on, union-at_on, union-dilated, union_on, union_turn}
use Rattle.label_read.specs.Points.{with_points}
use Rattle.raster.specs.Rows.{overwrite}
use Rattle.raster.proofs.PartLaws.{overwrite_all}
use Rattle.iteration.specs.Steps.{First, dilated}
use Rattle.iteration.proofs.StepLaws.{first_as, first-clean, first-image, first_next}
use Rattle.reconstruction.specs.Gathered.{Tame, gathered, grown}

-- ---- one size

-- what the first plane, lent as a part and back, holds of it
module _ (W H p : ℕ) (q : p ≡ plane_bytes W H) (S : Point → Bool) (on : OnFrame W H S) (w u : List ℕ) (h : 2 * p ≤ length w) (a : First W H p S w u) where
  pub taken : length (take p u) ≡ p
  taken = length-take-le p u (omega (arith, a.size))

  agree : Agree W H (take p u) u
  agree j l = get_or-take p u j 0 (omega arith)

  pub part-clean : T (is_clean W H (take p u))
  part-clean = clean_agree W H u (take p u) (λ j l. sym (agree j l)) (first-clean q on a)

  -- the points with label v joined to it
  pub joined-first : (m : List ℕ) (v : ℕ) (ys : List ℕ) → ys ≡ overwrite 0 (pack W H (with_points W H m v (take p u))) (take p u)
      → First W H p (λ z. eqb (label_at W H m z) v || S z) w (ys ++ drop p u)
  joined-first m v ys e =
      let X = with_points W H m v (take p u) in
      let size : length (pack W H X) ≡ p = length-pack W H X ∙ sym q in
      let y : ys ≡ pack W H X = e ∙ overwrite_all (pack W H X) (take p u) (size ∙ sym taken) in
      let z : 2 * p ≡ p + p = omega arith in
      record {
        size = ap (λ (s : List ℕ). length (s ++ drop p u)) y ∙ length-append (pack W H X) (drop p u) ∙ omega (arith, size, length-drop p u, a.size, h);
        first = ap (λ (s : List ℕ). take p (s ++ drop p u)) y ∙ take_at (pack W H X) (drop p u) p size
            ∙ ap (λ (Y : Point → Bool). pack W H (λ z. eqb (label_at W H m z) v || Y z)) (image_agree W H (take p u) u agree ∙ first-image q on a);
        rest = ap₂ (λ (k : ℕ) (s : List ℕ). drop k (s ++ drop p u)) z y ∙ sym (drop-drop p p (pack W H X ++ drop p u)) ∙ ap (drop p) (drop_at (pack W H X) (drop p u) p size)
            ∙ drop-drop p p u ∙ ap (λ (k : ℕ). drop k u) (sym z) ∙ a.rest;
      }

-- ---- size by size

module _ (W H p e k : ℕ) (q : p ≡ plane_bytes W H) (m : List ℕ) (t : Tame W H e m) where
  B : List Point
  B = offsets e

  -- after the sizes from n on
  abbrev pub Gathered : ℕ → List ℕ → List ℕ → Type 0
  Gathered n w u = First W H p (gathered W H (offsets e) m (max n k)) w u

  pub gathered_on : (n : ℕ) → OnFrame W H (gathered W H (offsets e) m (max n k))
  gathered_on n = union-at_on W H (offsets e) (element e t.element) m t.stays (max n k)

  -- none yet
  pub gathered-start : (n : ℕ) (w : List ℕ) → n ≡ greatest m → take p w ≡ replicate p 0 → Gathered n w w
  gathered-start n w g z =
      let U = gathered W H (offsets e) m (max n k) in
      record {
        size = refl;
        first = z ∙ ap (λ (i : ℕ). replicate i 0) q ∙ sym (pack-empty W H U (partial-top W H (offsets e) (label_at W H m) (greatest m) (max n k) (label_at_le W H m) (omega arith)));
        rest = refl;
      }

  pub gathered-clean : (n : ℕ) (w u : List ℕ) → Gathered n w u → T (is_clean W H u)
  gathered-clean n w u a = first-clean q (gathered_on n) a

  gathered-set : (n : ℕ) (w u : List ℕ) → k < n → Gathered n w u → image_set W H u ≡ gathered W H (offsets e) m n
  gathered-set n w u l a = let i : max n k ≡ n = omega arith in first-image q (gathered_on n) a ∙ ap (gathered W H (offsets e) m) i

  -- a size further down nothing falls off
  pub gathered-stays : (n : ℕ) (w u : List ℕ) → k < n → Gathered n w u → falls_off W H (times (offsets e) 1) (image_set W H u) ≡ false
  gathered-stays n w u l a =
      let U = gathered W H (offsets e) m n in
      ap (falls_off W H (times (offsets e) 1)) (gathered-set n w u l a)
      ∙ on-falls W H (times (offsets e) 1) U (union_on W H (offsets e) (element e t.element) m t.stays n 1 (omega arith))

  -- one size more
  pub gathered_more : (n : ℕ) (w u v : List ℕ) → k < n → Gathered n w u → falls_off W H (times (offsets e) 1) (image_set W H u) ≡ false
      → First W H p (grown W H (offsets e) m n u) u v → Gathered (n - 1) w v
  gathered_more n w u v l a stays b =
      let el = element e t.element in
      let U = gathered W H (offsets e) m n in
      let j : max (n - 1) k ≡ n - 1 = omega arith in
      let s : n ≡ suc (n - 1) = omega arith in
      let one : dilated W H (offsets e) 1 (image_set W H u) ≡ dilate (offsets e) U =
      times-whole W H (offsets e) el.centred (image_set W H u) (image_on W H u) 1 stays ∙ ap (dilate (times (offsets e) 1)) (gathered-set n w u l a)
      ∙ dilated-suc (offsets e) 0 U ∙ ap (dilate (offsets e)) (dilate-zero (offsets e) U) in
      let joined : ℕ → (Point → Bool) → (Point → Bool) = λ i Y z. eqb (label_at W H m z) i || Y z in
      let turn : joined n (dilated W H (offsets e) 1 (image_set W H u)) ≡ gathered W H (offsets e) m (max (n - 1) k) =
      ap (joined n) one
      ∙ ap (λ (i : ℕ). joined i (dilate (offsets e) (gathered W H (offsets e) m i))) s
      ∙ sym (union_turn W H (offsets e) el m (n - 1)) ∙ ap (gathered W H (offsets e) m) (sym j) in
      first_next a (first_as (ap (pack W H) turn) b)

  -- down to the cut
  pub gathered_last : (n : ℕ) (w u : List ℕ) → n ≤ k → Gathered n w u → First W H p (gathered W H (offsets e) m k) w u
  gathered_last n w u l a = let i : max n k ≡ k = omega arith in subst (λ (i : ℕ). First W H p (gathered W H (offsets e) m i) w u) i a

  -- by the cut's dilations nothing falls off
  last_set : (w u : List ℕ) → First W H p (gathered W H (offsets e) m k) w u → image_set W H u ≡ gathered W H (offsets e) m k
  last_set w u a = first-image q (union-at_on W H (offsets e) (element e t.element) m t.stays k) a

  pub last-stays : (w u : List ℕ) → First W H p (gathered W H (offsets e) m k) w u → falls_off W H (times (offsets e) k) (image_set W H u) ≡ false
  last-stays w u a =
      let U = gathered W H (offsets e) m k in
      ap (falls_off W H (times (offsets e) k)) (last_set w u a)
      ∙ on-falls W H (times (offsets e) k) U (union_on W H (offsets e) (element e t.element) m t.stays k k (le_refl k))

  -- and they make the reconstruction
  pub gathered-dilated : (w u v : List ℕ) → First W H p (gathered W H (offsets e) m k) w u → falls_off W H (times (offsets e) k) (image_set W H u) ≡ false
      → First W H p (dilated W H (offsets e) k (image_set W H u)) u v → First W H p (reconstruction W H (offsets e) k m) w v
  gathered-dilated w u v a stays b =
      let el = element e t.element in
      first_next a
      (first_as
      (ap (pack W H)
      (times-whole W H (offsets e) el.centred (image_set W H u) (image_on W H u) k stays ∙ ap (dilate (times (offsets e) k)) (last_set w u a)
      ∙ union-dilated W H (offsets e) el m k))
      b)

  pub gathered_cleans : (w u : List ℕ) → First W H p (gathered W H (offsets e) m k) w u → T (is_clean W H u)
  gathered_cleans w u a = first-clean q (union-at_on W H (offsets e) (element e t.element) m t.stays k) a

  pub kept_on : OnFrame W H (reconstruction W H (offsets e) k m)
  kept_on = reconstruction_on W H (offsets e) (element e t.element) m t.stays k

-- ---- an empty first plane

pub emptied : (p : ℕ) (work ys : List ℕ) → p ≤ length work → ys ≡ replicate (length (take p work)) 0 → ys ≡ replicate p 0
emptied p work ys h e = e ∙ ap (λ (n : ℕ). replicate n 0) (length-take-le p work h)
