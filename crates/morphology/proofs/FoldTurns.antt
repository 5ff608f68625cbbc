-- Erosion and opening by the n-fold element in n single steps, on planes, with an early stop where nothing is left.
use mathlib.Core.Bool.{Bool}
use mathlib.Core.List.{List}
use mathlib.Core.Path.{◌∙◌, ◌≡◌, ap, sym}
use Prim.Native.Nat.{◌+◌, ◌-◌, ◌≤◌, ℕ}
use native.Mathlib.Numerals.{add-one}
use native.Mathlib.Omega.{arith}
use lib.ListN.{replicate}
use Rattle.morphology.specs.Image.{image_set, pack, plane_bytes}
use Rattle.morphology.specs.Morphology.{dilate, erode, opening, times}
use Rattle.morphology.specs.Point.{Point}
use Rattle.morphology.proofs.DecomposeLaws.{eroded_on}
use Rattle.morphology.proofs.ElementLaws.{Element}
use Rattle.morphology.proofs.FrameLaws.{OnFrame}
use Rattle.morphology.proofs.ImageLaws.{image-pack}
use Rattle.morphology.proofs.MorphologyLaws.{dilate-out, erode-times, eroded-suc, open_sub, ⊆_of_eq}
use Rattle.morphology.proofs.PlaneLaws.{Empty, empty-pack, on_sub, pack-empty}
use Rattle.morphology.proofs.SubsetLaws.{eroded-down}

-- ---- dilations of a plane

pub dilate-empty : (B : List Point) (X : Point → Bool) → Empty X → Empty (dilate B X)
dilate-empty B X e z t = let r = dilate-out B X z t in e r.0 r.2

-- ---- erosions of a plane

module _ (W H : ℕ) (B : List Point) (el : Element B) (X : Point → Bool) (on : OnFrame W H X) where
  pub eroded_turn : (i : ℕ) (s : List ℕ) → s ≡ pack W H (erode (times B i) X)
      → pack W H (erode B (image_set W H s)) ≡ pack W H (erode (times B (i + 1)) X)
  eroded_turn i s q =
      ap (λ (Z : Point → Bool). pack W H (erode B Z)) (ap (image_set W H) q ∙ image-pack W H (erode (times B i) X) (eroded_on W H B el X on i)) ∙ ap (pack W H) (sym (ap (λ (k : ℕ). erode (times B k) X) (add-one i) ∙ eroded-suc B i X))

  -- what is empty stays empty
  pub eroded-gone : (i n : ℕ) → i ≤ n → Empty (erode (times B i) X) → Empty (erode (times B n) X)
  eroded-gone i n h f z t = f z (eroded-down B el.centred X i n h z t)

  -- the early stop: a plane of zeros is already the last one
  pub eroded_stop : (i n : ℕ) (s : List ℕ) → i ≤ n → s ≡ pack W H (erode (times B i) X) → s ≡ replicate (plane_bytes W H) 0
      → s ≡ pack W H (erode (times B n) X)
  eroded_stop i n s h q z =
      z ∙ sym (pack-empty W H (erode (times B n) X) (eroded-gone i n h (empty-pack W H (erode (times B i) X) (eroded_on W H B el X on i) (sym q ∙ z))))

  -- ---- openings

  -- no dilation of X(n) on the way back leaves the frame
  pub opened_on : (n i : ℕ) → i ≤ n → OnFrame W H (dilate (times B i) (erode (times B n) X))
  unfolding opening
  opened_on n i h =
      let Y = erode (times B (n - i)) X in
      let q : n ≡ i + (n - i) = omega arith in
      let p : erode (times B n) X ≡ erode (times B i) Y = ap (λ (k : ℕ). erode (times B k) X) q ∙ erode-times B i (n - i) X in
      on_sub W H (dilate (times B i) (erode (times B n) X)) Y (λ z t. open_sub (times B i) Y z (⊆_of_eq (ap (dilate (times B i)) p) z t)) (eroded_on W H B el X on (n - i))
