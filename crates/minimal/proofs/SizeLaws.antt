-- The shape of a size: moved to a point of that size it is what the point covers, and dilated once more, with nothing clipped, it is the next.
use mathlib.Core.Bool.{Bool, false}
use mathlib.Core.List.Memᴰ
use mathlib.Core.List.{List}
use mathlib.Core.Logic.{◌≢◌}
use mathlib.Core.Path.{◌∙◌, ◌≡◌, ap, subst, sym}
use Prim.Native.Nat.{◌%◌, ◌*◌, ◌+◌, ◌-◌, ◌/◌, ◌<◌, ◌≤◌, suc, ℕ}
use native.Mathlib.Nat.{div-lt_iff_lt-mul, mod-lt, mul_comm}
use native.Mathlib.Omega.{arith}
use lib.Dec.{T, leb, le→leb, ltb, lt→ltb}
use lib.ListN.{get_or, length, take}
use lib.Seq.{get_or-take, length-take-le}
use Rattle.morphology.specs.Element.{offsets}
use Rattle.morphology.specs.Falls.{falls_off}
use Rattle.morphology.specs.Image.{clip, image_set, on_frame}
use Rattle.morphology.specs.Labels.{place}
use Rattle.morphology.specs.Morphology.{dilate, times}
use Rattle.morphology.specs.Point.{Point, ◌⊞◌}
use Rattle.morphology.proofs.ElementLaws.{element}
use Rattle.morphology.proofs.FallsLaws.{falls-clip, on-falls}
use Rattle.morphology.proofs.FrameLaws.{OnFrame}
use Rattle.morphology.proofs.ImageLaws.{Agree, clean_agree, clip_on, image_agree, image_on}
use Rattle.morphology.proofs.MorphologyLaws.{dilate-zero}
use Rattle.morphology.proofs.PointLaws.{unit}
use Rattle.morphology.proofs.ReconstructLaws.{dilated-suc, times_mono}
use Rattle.morphology.proofs.TestLaws.{T_ext, and_in, and_l, and_r}
use Rattle.raster.proofs.PackLaws.{frame-bytes}
use Rattle.iteration.specs.Steps.{First}
use Rattle.raster.specs.Frames.{Sheet}
use Rattle.iteration.proofs.StepLaws.{first-clean, first-image, sheet-bytes}
use Rattle.minimal.specs.Bands.{Bounds, CoverAt, ink_at}
use Rattle.minimal.specs.declared.bands.Band.{Band}
use Rattle.minimal.specs.Covers.{Stays, single, spread}
use Rattle.minimal.specs.Moves.{Within, below, hits}
use Rattle.minimal.specs.Sizes.{AllFit, WalkBegun, Left, Shape}
use Rattle.minimal.proofs.CoverCountLaws.{spread_on}
use Rattle.minimal.proofs.MoveLaws.{below-T}
use Rattle.minimal.proofs.SpreadLaws.{spread_goes, spread-moved}

-- a place that is gone to with a shape and its band
pub cover_at : {W H r n a i : ℕ} {B : List Point} {m plane : List ℕ} {g : Band} → Shape W H r B n a plane → AllFit W H B m → Bounds H r g plane
    → i < length m → CoverAt W H r g i m plane
cover_at s t b h = record {
  banded = record { frame = s.frame; bytes = s.bytes; clean = s.clean; bounds = b };
  place = h;
  near = omega (arith, h, t.places, t.few);
}

module _ (W H r : ℕ) (B : List Point) (n a : ℕ) (plane : List ℕ) (s : Shape W H r B n a plane) where
  -- ---- moved to a point

  ink-spread : (k : ℕ) → T (ink_at W H plane k) → T (spread W B n a (place W k))
  ink-spread k t = subst (λ (X : Point → Bool). T (X (place W k))) s.set t

  pub shape-within : (i : ℕ) → Stays W H B n i → Within (below (W * H) (ink_at W H plane)) i a (W * H)
  shape-within i si k t =
      let g = spread_goes W H B n a i s.stays si k (ink-spread k (and_r (ltb k (W * H)) (ink_at W H plane k) t)) in
      (omega (arith, g.2), omega (arith, g.1, g.2))

  pub shape-hits : (i x : ℕ) → Stays W H B n i → hits (below (W * H) (ink_at W H plane)) i a x ≡ spread W B n i (place W x)
  shape-hits i x si = T_ext to fro
    where
      f : ℕ → Bool
      f = below (W * H) (ink_at W H plane)

      to : T (hits f i a x) → T (spread W B n i (place W x))
      to t =
          let k = x + a - i in
          subst T (sym (spread-moved W H B n a i x s.stays si))
          (and_in (leb i (x + a)) (spread W B n a (place W k)) (and_l (leb i (x + a)) (f k) t)
          (ink-spread k (and_r (ltb k (W * H)) (ink_at W H plane k) (and_r (leb i (x + a)) (f k) t))))

      fro : T (spread W B n i (place W x)) → T (hits f i a x)
      fro t =
          let g = spread_goes W H B n i a si s.stays x t in
          let z : g.0 ≡ x + a - i = omega (arith, g.2) in
          let u = subst (λ (X : Point → Bool). T (X (place W g.0))) (sym s.set) g.3 in
          and_in (leb i (x + a)) (f (x + a - i)) (le→leb i (x + a) (omega (arith, g.2)))
          (subst (λ (j : ℕ). T (f j)) z (below-T (W * H) (ink_at W H plane) g.0 g.1 u))

-- ---- the shapes of the sizes, one after the other

-- the same size otherwise
pub shape_as : {W H r n k a : ℕ} {B : List Point} {plane : List ℕ} → n ≡ k → Shape W H r B n a plane → Shape W H r B k a plane
shape_as {W} {H} {r} {a = a} {B} {plane} e s = subst (λ (i : ℕ). Shape W H r B i a plane) e s

-- in the first plane of work, and in that plane alone
pub shape-plane : {W H r p n a : ℕ} {B : List Point} {work : List ℕ} → Sheet W H r p → p ≤ length work → Shape W H r B n a work
    → Shape W H r B n a (take p work)
shape-plane {W} {H} {p = p} {work} d h s = record {
  frame = s.frame;
  bytes = omega (arith, d.plane, length-take-le p work h);
  clean = clean_agree W H work (take p work) (λ j l. sym (agree j l)) s.clean;
  set = image_agree W H (take p work) work agree ∙ s.set;
  stays = s.stays;
}
  where
    agree : Agree W H (take p work) work
    agree j l = get_or-take p work j 0 (omega (arith, sheet-bytes d))

-- size n from size n - 1, where a point of size n stays on the frame
module _ {W H r a : ℕ} {B : List Point} {work : List ℕ} (n : ℕ) (h : n ≢ 0) (s : Shape W H r B (n - 1) a work) (stay : Stays W H B n a) where
  reach-set : dilate B (image_set W H work) ≡ spread W B n a
  reach-set =
      let e : suc (n - 1) ≡ n = omega arith in
      ap (dilate B) s.set ∙ sym (dilated-suc B (n - 1) (single W a)) ∙ ap (λ (k : ℕ). spread W B k a) e

  -- nothing falls off
  pub reach-falls : falls_off W H B (image_set W H work) ≡ false
  reach-falls = on-falls W H B (image_set W H work) (subst (OnFrame W H) (sym reach-set) (spread_on W H B n a stay))

  -- and where nothing does, nothing is clipped
  pub reach_shape : {p : ℕ} {u : List ℕ} → Sheet W H r p → First W H p (clip W H (dilate B (image_set W H work))) work u
      → Shape W H r B n a u
  reach_shape d f =
      let X = image_set W H work in
      let q = sheet-bytes d in
      let on = clip_on W H (dilate B X) in
      record {
        frame = s.frame;
        bytes = omega (arith, s.bytes, f.size);
        clean = first-clean q on f;
        set = first-image q on f ∙ falls-clip W H B X (image_on W H work) reach-falls ∙ reach-set;
        stays = stay;
      }

-- a point of size 0 stays where it is
zero-stays : (W H : ℕ) (B : List Point) (a : ℕ) → 1 ≤ W → a < W * H → Stays W H B 0 a
unfolding times
zero-stays W H B a hw h c k =
    subst (λ (y : Point). T (on_frame W H y)) (sym (ap (λ (d : Point). place W a ⊞ d) (Memᴰ.eq_of_singleton k) ∙ unit (place W a)))
    (and_in (ltb (a % W) W) (ltb (a / W) H) (lt→ltb (a % W) W (mod-lt a {m = W} hw))
    (lt→ltb (a / W) H ((div-lt_iff_lt-mul {k = W} {x = a} {y = H} hw).1 (subst (λ (n : ℕ). a < n) (mul_comm W H) h))))

-- from one state of work to the next
pub left_next : {p : ℕ} {u v w : List ℕ} → Left p u v → Left p v w → Left p u w
left_next f g = record { size = g.size ∙ f.size; rest = g.rest ∙ f.rest }

module _ {W H r p e a top : ℕ} {m work : List ℕ} (b : WalkBegun W H r p e a top m work) where
  -- a point there of a size up to the largest stays on the frame
  pub begun-stays : (n : ℕ) → n < top → Stays W H (offsets e) n a
  begun-stays n h c k =
      let l : get_or m a 0 ≡ suc (top - 1) = omega (arith, b.label) in
      b.tame.stays a (top - 1) b.place l c (times_mono (offsets e) (element e b.element).centred n (top - 1) (omega arith) k)

  -- the place alone is the shape of size 0
  pub begun_shape : {u : List ℕ} → First W H (H * r) (single W a) work u → Shape W H r (offsets e) 0 a u
  begun_shape f =
      let q = frame-bytes b.sheet.frame in
      let stay = zero-stays W H (offsets e) a b.sheet.frame.wide b.place in
      let on = subst (OnFrame W H) (dilate-zero (offsets e) (single W a)) (spread_on W H (offsets e) 0 a stay) in
      record {
        frame = b.sheet.frame;
        bytes = omega (arith, b.sheet.plane, b.planes, f.size);
        clean = first-clean q on f;
        set = first-image q on f ∙ sym (dilate-zero (offsets e) (single W a));
        stays = stay;
      }
