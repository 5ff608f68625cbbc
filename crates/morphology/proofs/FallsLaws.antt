-- Laws of `falls_off`: what it says of a set on the frame, of none, and by the box of the element.
use mathlib.Core.Bool.{Bool, ◌&&◌, false, not}
use mathlib.Core.List.{List, Memᴰ}
use mathlib.Core.Logic.{◌⊎◌, inl, inr}
use mathlib.Core.Path.{◌∙◌, ◌≡◌, ap, subst, sym}
use Prim.Native.Nat.{ℕ}
use lib.Dec.{T, T_not}
use Rattle.morphology.specs.Extent.{boxed}
use Rattle.morphology.specs.Falls.{falls_off}
use Rattle.morphology.specs.Image.{clip, on_frame}
use Rattle.morphology.specs.Labels.{places}
use Rattle.morphology.specs.Lists.{every_of, some_of}
use Rattle.morphology.specs.Morphology.{dilate, erode}
use Rattle.morphology.specs.Point.{Point, ◌⊞◌, origin}
use Rattle.morphology.proofs.ExtentLaws.{box_exact}
use Rattle.morphology.proofs.FrameLaws.{OnFrame, on_in, on_out}
use Rattle.morphology.proofs.ImageLaws.{clip_is}
use Rattle.morphology.proofs.LabelLaws.{on-places}
use Rattle.morphology.proofs.MorphologyLaws.{◌⊆◌, dilate_in, dilate-out, dilate_sub, eroded-suc, eroded-zero}
use Rattle.morphology.proofs.PlaneLaws.{Empty}
use Rattle.morphology.proofs.RefusalLaws.{false_of}
use Rattle.morphology.proofs.TestLaws.{and_in, and_l, and_r, any_in, any_out, decide, some-not}

module _ (W H : ℕ) (B : List Point) (X : Point → Bool) where
  -- a point that falls off, and the offset that takes it there
  pub falls-some : T (falls_off W H B X) → (z b : Point) × T (X z) × Memᴰ b B × T (not (on_frame W H (z ⊞ b)))
  unfolding falls_off
  falls-some t =
      let r = any_out (λ p. X p && some_of (λ b. not (on_frame W H (p ⊞ b))) B) (places W H) t in
      let p = r.0 in
      let q = any_out (λ b. not (on_frame W H (p ⊞ b))) B (and_r (X p) (some_of (λ b. not (on_frame W H (p ⊞ b))) B) r.2) in
      (p, q.0, and_l (X p) (some_of (λ b. not (on_frame W H (p ⊞ b))) B) r.2, q.1, q.2)

  -- of nothing, nothing falls off
  pub falls-empty : Empty X → falls_off W H B X ≡ false
  falls-empty e = false_of (falls_off W H B X) (λ t. let r = falls-some t in e r.0 r.2)

  -- a point of the dilation
  pub falls-point : T (falls_off W H B X) → (z : Point) × T (dilate B X z) × T (not (on_frame W H z))
  falls-point t = let r = falls-some t in (r.0 ⊞ r.1, dilate_in B X r.0 r.1 r.2 r.3, r.4)

  -- a dilation on the frame loses nothing
  pub on-falls : OnFrame W H (dilate B X) → falls_off W H B X ≡ false
  on-falls on = false_of (falls_off W H B X) (λ t. let r = falls-point t in T_not (on_frame W H r.0) r.2 (on_out W H (dilate B X) on r.0 r.1))

  module _ (on : OnFrame W H X) where
    -- the converse of both, for a set on the frame
    pub falls_at : (z b : Point) → T (X z) → Memᴰ b B → T (not (on_frame W H (z ⊞ b))) → T (falls_off W H B X)
    unfolding falls_off
    falls_at z b t m f =
        any_in (λ p. X p && some_of (λ b. not (on_frame W H (p ⊞ b))) B) (on-places W H X on z t)
        (and_in (X z) (some_of (λ b. not (on_frame W H (z ⊞ b))) B) t (any_in (λ b. not (on_frame W H (z ⊞ b))) m f))

    pub point-falls : (z : Point) → T (dilate B X z) → T (not (on_frame W H z)) → T (falls_off W H B X)
    point-falls z t f = let r = dilate-out B X z t in falls_at r.0 r.1 r.2 r.3 (subst (λ (p : Point). T (not (on_frame W H p))) r.4 f)

    -- where nothing falls off, the dilation lies on the frame
    pub falls-not : falls_off W H B X ≡ false → dilate B X ⊆ on_frame W H
    falls-not e = dilate_sub B X (on_frame W H) (λ x b t m. by x b t m (decide (on_frame W H (x ⊞ b))))
      where
        by : (x b : Point) → T (X x) → Memᴰ b B → T (on_frame W H (x ⊞ b)) ⊎ T (not (on_frame W H (x ⊞ b))) → T (on_frame W H (x ⊞ b))
        by x b t m (inl o) = o
        by x b t m (inr o) = absurd (subst T e (falls_at x b t m o))

    pub falls_on : falls_off W H B X ≡ false → OnFrame W H (dilate B X)
    falls_on e = on_in W H (dilate B X) (falls-not e)

    -- and is not clipped
    pub falls-clip : falls_off W H B X ≡ false → clip W H (dilate B X) ≡ dilate B X
    falls-clip e = clip_is W H (dilate B X) (falls_on e)

-- ---- by the box

-- the box of B itself, which is 1B
pub box_one : (W H : ℕ) (B : List Point) → Memᴰ origin B → (p : Point) → every_of (λ b. on_frame W H (p ⊞ b)) B ≡ boxed W H B 1 p
unfolding erode
box_one W H B ob p =
    ap (λ (X : Point → Bool). X p) (sym (eroded-suc B 0 (on_frame W H) ∙ ap (erode B) (eroded-zero B (on_frame W H)))) ∙ box_exact W H B ob 1 p

-- what falls off is what the box of the element does not take
pub falls-boxed : (W H : ℕ) (B : List Point) (X : Point → Bool) → Memᴰ origin B
    → falls_off W H B X ≡ some_of (λ p. X p && not (boxed W H B 1 p)) (places W H)
unfolding falls_off
falls-boxed W H B X ob = (λ i. some_of (λ p. X p && line p i) (places W H))
  where
    line : (p : Point) → some_of (λ b. not (on_frame W H (p ⊞ b))) B ≡ not (boxed W H B 1 p)
    line p = some-not (λ b. on_frame W H (p ⊞ b)) B ∙ ap not (box_one W H B ob p)
