-- A plane eroded or dilated is the packed set.
use mathlib.Core.Bool.{Bool, ◌&&◌, false, true}
use mathlib.Core.List.{List, ◌++◌}
use mathlib.Core.Path.{◌∙◌, ◌≡◌, ap, refl, sym}
use Prim.Native.Nat.{◌*◌, ◌+◌, ◌-◌, ◌<◌, ◌≤◌, ℕ}
use native.Mathlib.Omega.{arith}
use borrow.Author.Tests.{lt-ltb}
use lib.Dec.{T, ltb}
use lib.IntN.{pos}
use lib.ListN.{drop, get_or, length, length-drop, take}
use lib.Seq.{take_all}
use Rattle.morphology.specs.Element.{bit, offsets}
use Rattle.morphology.specs.Falls.{falls_off}
use Rattle.morphology.specs.Image.{clip, image_set, is_clean, pack}
use Rattle.morphology.specs.Morphology.{dilate, erode, opening}
use Rattle.morphology.specs.Point.{Point, at}
use Rattle.morphology.proofs.ElementLaws.{origin_in}
use Rattle.morphology.proofs.FallsLaws.{falls-clip, on-falls}
use Rattle.morphology.proofs.FrameLaws.{OnFrame}
use Rattle.morphology.proofs.ImageLaws.{Agree, agree_front, clean_agree, clean-pack, image_agree, image_on, image-pack, length-pack}
use Rattle.morphology.proofs.MorphologyLaws.{erode_sub, open_sub}
use Rattle.morphology.proofs.PlaneLaws.{on_sub}
use Rattle.raster.specs.Rows.{PlaneIs, overwrite}
use Rattle.raster.proofs.PartLaws.{drop-overwrite, length-overwrite, overwrite-rest}
use Rattle.raster.specs.Frames.{Frame}
use Rattle.raster.proofs.PackLaws.{frame-bytes, plane_packed}
use Rattle.neighbours.specs.Neighbours.{near_bit, neighbours}
use Rattle.planes.proofs.SetLaws.{near-image, neighbours-set}
use Rattle.planes.specs.Morphed.{morphed}

-- ---- sets on the frame

pub erode_on : (W H e : ℕ) (X : Point → Bool) → T (bit e 12) → OnFrame W H X → OnFrame W H (erode (offsets e) X)
erode_on W H e X o on = on_sub W H (erode (offsets e) X) X (erode_sub (offsets e) X (origin_in e o)) on

-- ---- the plane at p

cut-swap : (m a b : Bool) → b ≡ true → (m && a) ≡ ((a && b) && m)
cut-swap true true true e = refl
cut-swap true false true e = refl
cut-swap false true true e = refl
cut-swap false false true e = refl
cut-swap true true false e = sym e
cut-swap true false false e = refl
cut-swap false true false e = refl
cut-swap false false false e = refl

-- what is asked of the pixels near is the set
module _ (t : Bool) (W H r e : ℕ) (old : List ℕ) (f : Frame W H r) (clean : T (is_clean W H old)) where
  near-set : (y x : ℕ) → neighbours t e (near_bit old r H) x y ≡ morphed t (offsets e) (image_set W H old) (at (pos x) (pos y))
  near-set y x = (λ i. neighbours t e (λ X Y. near-image W H r old f.row clean X Y i) x y) ∙ neighbours-set t e (image_set W H old) x y

  module _ (p : ℕ) (new : List ℕ) (h : p + H * r ≤ length old) (bytes : (i : ℕ) → get_or new i 0 < 256) where
    pub morph_done : PlaneIs p r H old new (λ y x. neighbours t e (near_bit old r H) x y)
        → new ≡ overwrite p (pack W H (morphed t (offsets e) (image_set W H old))) old
    morph_done m =
        plane_packed W H r p (morphed t (offsets e) (image_set W H old)) (λ y x. neighbours t e (near_bit old r H) x y) old new f h bytes m
        (λ y x hy hx. near-set y x)

    pub clip_done : PlaneIs p r H old new (λ y x. neighbours t e (near_bit old r H) x y && ltb x W)
        → new ≡ overwrite p (pack W H (clip W H (morphed t (offsets e) (image_set W H old)))) old
    unfolding clip
    clip_done m =
        let S = morphed t (offsets e) (image_set W H old) in
        plane_packed W H r p (clip W H S) (λ y x. neighbours t e (near_bit old r H) x y && ltb x W) old new f h bytes m (λ y x hy hx.
        ap (λ (b : Bool). b && ltb x W) (near-set y x) ∙ cut-swap (S (at (pos x) (pos y))) (ltb x W) (ltb y H) (lt-ltb y H hy))

-- a dilation of which nothing falls off
pub dilation_done : (W H r p e : ℕ) (old new : List ℕ) → Frame W H r → p + H * r ≤ length old → T (is_clean W H old) → ((i : ℕ) → get_or new i 0 < 256)
    → falls_off W H (offsets e) (image_set W H old) ≡ false → PlaneIs p r H old new (λ y x. neighbours true e (near_bit old r H) x y)
    → new ≡ overwrite p (pack W H (clip W H (dilate (offsets e) (image_set W H old)))) old
dilation_done W H r p e old new f h clean bytes stays m =
    morph_done true W H r e old f clean p new h bytes m
    ∙ ap (λ (X : Point → Bool). overwrite p (pack W H X) old) (sym (falls-clip W H (offsets e) (image_set W H old) (image_on W H old) stays))

-- ---- an opening: the planes from the second on lent as one part

module _ (W H r p e : ℕ) (old v : List ℕ) (k : ℕ) (f : Frame W H r) (hp : H * r ≤ p) (h : p + p + H * r ≤ length old) (o : T (bit e 12))
    (ev : v ≡ overwrite p (pack W H (erode (offsets e) (image_set W H old))) old) (ek : k ≡ length v - p) where
  S : Point → Bool
  S = image_set W H old

  E : Point → Bool
  E = erode (offsets e) S

  size : length (pack W H E) ≡ H * r
  size = length-pack W H E ∙ sym (frame-bytes f)

  long : length v ≡ length old
  unfolding E S
  long = ap length ev ∙ length-overwrite p (H * r) old (pack W H E) size (omega arith)

  -- what is lent: the eroded plane, and the rest
  lent : take k (drop p v) ≡ pack W H E ++ drop (p + H * r) old
  unfolding E S
  lent = take_all k (drop p v) (omega (arith, length-drop p v)) ∙ ap (drop p) ev ∙ drop-overwrite p (H * r) old (pack W H E) size (omega arith)

  pub rest_long : p + H * r ≤ length (take k (drop p v))
  rest_long = omega (arith, ap length (take_all k (drop p v) (omega (arith, length-drop p v))), length-drop p v, long)

  on : OnFrame W H E
  unfolding E S
  on = erode_on W H e S o (image_on W H old)

  agree : Agree W H (take k (drop p v)) (pack W H E)
  agree j l = ap (λ (s : List ℕ). get_or s j 0) lent ∙ agree_front W H (pack W H E) (drop (p + H * r) old) (length-pack W H E) j l

  pub rest-clean : T (is_clean W H (take k (drop p v)))
  rest-clean = clean_agree W H (pack W H E) (take k (drop p v)) (λ j l. sym (agree j l)) (clean-pack W H E on)

  image : image_set W H (take k (drop p v)) ≡ E
  image = image_agree W H (take k (drop p v)) (pack W H E) agree ∙ image-pack W H E on

  -- the opening lies in the image
  opened : OnFrame W H (dilate (offsets e) E)
  unfolding opening E S
  opened = on_sub W H (dilate (offsets e) E) S (open_sub (offsets e) S) (image_on W H old)

  -- so nothing falls off
  pub open_stays : falls_off W H (offsets e) (image_set W H (take k (drop p v))) ≡ false
  open_stays = ap (falls_off W H (offsets e)) image ∙ on-falls W H (offsets e) E opened

  pub open_done : (ys : List ℕ) → ys ≡ overwrite p (pack W H (clip W H (dilate (offsets e) (image_set W H (take k (drop p v)))))) (take k (drop p v))
      → take p v ++ (ys ++ drop k (drop p v)) ≡ overwrite (p + p) (pack W H (opening (offsets e) (image_set W H old))) (overwrite p (pack W H (erode (offsets e) (image_set W H old))) old)
  unfolding opening E S
  open_done ys ey =
      let B = offsets e in
      let q : clip W H (dilate B (image_set W H (take k (drop p v)))) ≡ dilate B E =
      falls-clip W H B (image_set W H (take k (drop p v))) (image_on W H (take k (drop p v))) open_stays ∙ ap (dilate B) image in
      let z = length-pack W H (dilate B E) ∙ sym (frame-bytes f) in
      ap (λ (s : List ℕ). take p v ++ (s ++ drop k (drop p v))) (ey ∙ ap (λ (Y : Point → Bool). overwrite p (pack W H Y) (take k (drop p v))) q)
      ∙ overwrite-rest p k p (H * r) v (pack W H (dilate B E)) (omega (arith, long)) ek z (omega (arith, long))
      ∙ ap (overwrite (p + p) (pack W H (dilate B E))) ev
