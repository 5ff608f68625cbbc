-- The masks of a skeleton: that of size n is X(n + 1) dilated once, so that no point of a size is masked.
use mathlib.Core.Bool.{Bool, ◌&&◌, ◌||◌, false, not, true}
use mathlib.Core.List.{List, Memᴰ, [], ◌∷◌}
use mathlib.Core.Logic.{◌⊎◌, inl, inr}
use mathlib.Core.Path.{◌∙◌, ◌≡◌, ap, ap₂, fun_ext, refl, subst, sym}
use Prim.Native.Nat.{◌+◌, ◌≤◌, max, suc, zero, zero-le, ℕ}
use native.Mathlib.Nat.{add-zero}
use native.Mathlib.Omega.{arith}
use lib.Dec.{T, eqb, eqb_refl, eqb→eq}
use Rattle.coding.specs.Writing.{down_from, eroded_runs}
use Rattle.coding.specs.Runs.{mask, runs, runs_down, unmasked}
use Rattle.coding.specs.Codes.{map_runs, of_size, sizes_down}
use Rattle.coding.proofs.RunLaws.{runs_on}
use Rattle.morphology.specs.Labels.{label_at, places, raster}
use Rattle.morphology.specs.Lists.{greatest, tabulate}
use Rattle.morphology.specs.Morphology.{dilate, erode, opening, times}
use Rattle.morphology.specs.Point.{Point}
use Rattle.morphology.specs.Skeleton.{skeleton_function, skeleton_labels, skeleton_subset}
use Rattle.morphology.proofs.DecomposeLaws.{last_subset, subset_turn, turns_lt}
use Rattle.morphology.proofs.ElementLaws.{Element}
use Rattle.morphology.proofs.FrameLaws.{OnFrame}
use Rattle.morphology.proofs.LabelLaws.{label_at_le, label_at-raster, on-places}
use Rattle.morphology.proofs.MorphologyLaws.{dilate-out, eroded-suc, eroded-zero, open_sub, set_ext, ⊆_of_eq}
use Rattle.morphology.proofs.PlaneLaws.{Empty}
use Rattle.morphology.proofs.ReconstructLaws.{label_on}
use Rattle.morphology.proofs.RefusalLaws.{false_of}
use Rattle.morphology.proofs.SkeletonLaws.{eroded-empty}
use Rattle.morphology.proofs.SubsetLaws.{eroded-down, label_of, of-label, subset_in}
use Rattle.morphology.proofs.TestLaws.{T_ext, and_in, and_l, decide, or_l, or-out, or_r}

-- ---- the skeleton's masks

module _ (B : List Point) (X : Point → Bool) where
  -- X(n) is S_n together with X(n + 1) dilated once
  pub eroded-split : (n : ℕ) → (λ z. skeleton_subset B X n z || dilate B (erode (times B (suc n)) X) z) ≡ erode (times B n) X
  unfolding opening
  eroded-split n = fun_ext (λ z. T_ext (λ t. to z (or-out (skeleton_subset B X n z) (Y z) t)) (λ t. fro z t (decide (Y z))))
    where
      Y : Point → Bool
      Y = dilate B (erode (times B (suc n)) X)

      to : (z : Point) → T (skeleton_subset B X n z) ⊎ T (Y z) → T (erode (times B n) X z)
      to z (inl t) = and_l (erode (times B n) X z) (not (Y z)) (subst T (subset_turn B X n z) t)
      to z (inr t) = open_sub B (erode (times B n) X) z (⊆_of_eq (ap (dilate B) (eroded-suc B n X)) z t)

      fro : (z : Point) → T (erode (times B n) X z) → T (Y z) ⊎ T (not (Y z)) → T (skeleton_subset B X n z || Y z)
      fro z t (inl u) = or_r (skeleton_subset B X n z) (Y z) u
      fro z t (inr u) = or_l (skeleton_subset B X n z) (Y z) (subst T (sym (subset_turn B X n z)) (and_in (erode (times B n) X z) (not (Y z)) t u))

  -- the mask of size n, with d sizes above it: X(n + 1) dilated once
  pub mask-eroded : (d n : ℕ) → Empty (erode (times B (suc (n + d))) X) → mask B (tabulate (skeleton_subset B X) (suc n) d) ≡ dilate B (erode (times B (suc n)) X)
  unfolding mask tabulate
  mask-eroded zero n e = set_ext (λ z t. absurd t) (λ z t.
      let r = dilate-out B (erode (times B (suc n)) X) z t in
      absurd (e r.0 (subst (λ (k : ℕ). T (erode (times B (suc k)) X r.0)) (sym (add-zero n)) r.2)))
  mask-eroded (suc d) n e =
      let q : n + suc d ≡ suc n + d = omega arith in
      ap (λ (M : Point → Bool). dilate B (λ y. skeleton_subset B X (suc n) y || M y)) (mask-eroded d (suc n) (subst (λ (k : ℕ). Empty (erode (times B (suc k)) X)) q e))
      ∙ ap (dilate B) (eroded-split (suc n))

-- outside that mask a pixel is a point of size n exactly when it is in X(n)
subset-eroded : (W H : ℕ) (B : List Point) (X : Point → Bool) (n : ℕ) (M : Point → Bool) → M ≡ dilate B (erode (times B (suc n)) X)
    → runs (skeleton_subset B X n) 0 (unmasked W H M) ≡ eroded_runs W H B X n
subset-eroded W H B X n M e =
    let Y = dilate B (erode (times B (suc n)) X) in
    runs_on W H (skeleton_subset B X n) (erode (times B n) X) M Y 0 (λ z m. ap (λ (F : Point → Bool). F z) e)
    (λ z m f. subset_turn B X n z ∙ ap (λ (b : Bool). erode (times B n) X z && not b) (false_of (Y z) f) ∙ and-true (erode (times B n) X z))
  where
    and-true : (b : Bool) → (b && true) ≡ b
    and-true true = refl
    and-true false = refl

pub runs-eroded : (W H : ℕ) (B : List Point) (X : Point → Bool) (n d : ℕ) → Empty (erode (times B (suc (n + d))) X)
    → runs_down W H B (tabulate (skeleton_subset B X) (suc n) d) (sizes_down (skeleton_subset B X) n) ≡ down_from (eroded_runs W H B X) n
unfolding runs_down sizes_down tabulate
runs-eroded W H B X zero d e =
    ap (λ (rs : List ℕ). rs ∷ []) (subset-eroded W H B X 0 (mask B (tabulate (skeleton_subset B X) 1 d)) (mask-eroded B X d 0 e))
runs-eroded W H B X (suc n) d e =
    let q : suc n + d ≡ n + suc d = omega arith in
    ap₂ (λ (rs : List ℕ) (l : List (List ℕ)). rs ∷ l) (subset-eroded W H B X (suc n) (mask B (tabulate (skeleton_subset B X) (suc (suc n)) d)) (mask-eroded B X d (suc n) e))
    (runs-eroded W H B X n (suc d) (subst (λ (k : ℕ). Empty (erode (times B (suc k)) X)) q e))

module _ (W H : ℕ) (B : List Point) (el : Element B) (X : Point → Bool) (on : OnFrame W H X) where
  pub subset_on : (n : ℕ) (z : Point) → T (skeleton_subset B X n z) → Memᴰ z (places W H)
  subset_on n z t = on-places W H X on z (⊆_of_eq (eroded-zero B X) z (eroded-down B el.centred X 0 n zero-le z (subset_in B el.centred X n z t)))

  -- the points of size n of the skeleton's map are S_n
  pub size_subset : (n : ℕ) → of_size W H (skeleton_labels W H B X) n ≡ skeleton_subset B X n
  unfolding of_size skeleton_labels
  size_subset n = fun_ext (λ z. T_ext (to z) (fro z))
    where
      f : Point → ℕ
      f = skeleton_function B X (max W H)

      to : (z : Point) → T (eqb (label_at W H (raster W H f) z) (suc n)) → T (skeleton_subset B X n z)
      to z t =
          let e = eqb→eq (label_at W H (raster W H f) z) (suc n) t in
          (of-label B el.centred X (max W H) n z (sym (label_at-raster W H f (label_on W H (raster W H f) z n e)) ∙ e)).0

      fro : (z : Point) → T (skeleton_subset B X n z) → T (eqb (label_at W H (raster W H f) z) (suc n))
      fro z t =
          let h = turns_lt W H B el X on n (λ e. e z (subset_in B el.centred X n z t)) in
          let e = label_at-raster W H f (subset_on n z t) ∙ label_of B el.centred X (max W H) n z h t in
          subst (λ (v : ℕ). T (eqb v (suc n))) (sym e) (eqb_refl (suc n))

  -- above the largest label nothing is left
  pub eroded-above : (n : ℕ) → greatest (skeleton_labels W H B X) ≤ n → Empty (erode (times B n) X)
  unfolding of_size
  eroded-above n h = down (max W H) n h (omega arith)
    where
      down : (d n : ℕ) → greatest (skeleton_labels W H B X) ≤ n → max W H ≤ n + d → Empty (erode (times B n) X)
      down zero n h l z t = eroded-empty W H B el X on z (eroded-down B el.centred X (max W H) n (omega arith) z t)
      down (suc d) n h l z t =
          let s = last_subset W H B el.centred X n (down d (suc n) (omega arith) (omega arith)) z t in
          let e = eqb→eq (label_at W H (skeleton_labels W H B X) z) (suc n) (⊆_of_eq (sym (size_subset n)) z s) in
          let k = label_at_le W H (skeleton_labels W H B X) z in
          omega arith

  -- the writer's runs by erosions alone: those of X(n) over the pixels outside X(n + 1) dilated once
  pub map-eroded : (n : ℕ) → greatest (skeleton_labels W H B X) ≡ suc n → map_runs W H B (skeleton_labels W H B X) n ≡ down_from (eroded_runs W H B X) n
  unfolding map_runs tabulate
  map-eroded n e =
      ap (λ (S : ℕ → Point → Bool). runs_down W H B [] (sizes_down S n)) (fun_ext size_subset)
      ∙ runs-eroded W H B X n 0 (eroded-above (suc (n + 0)) (omega arith))
