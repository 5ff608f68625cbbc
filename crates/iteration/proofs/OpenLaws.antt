-- A plane opened and then eroded in place, by way of the other two: what each plane holds.
use mathlib.Core.Bool.{Bool}
use mathlib.Core.List.{List, ◌++◌}
use mathlib.Core.Path.{◌∙◌, ◌≡◌, ap, ap₂, sym}
use Prim.Native.Nat.{◌*◌, ◌+◌, ◌<◌, ◌≤◌, ℕ}
use native.Mathlib.Nat.{zero-add}
use native.Mathlib.Omega.{arith}
use lib.Dec.{T}
use lib.ListN.{drop, get_or, length, length-drop, take}
use lib.Seq.{ext_get_or, get_or-drop, get_or-take, length-take-le}
use Rattle.morphology.specs.Element.{offsets}
use Rattle.morphology.specs.Image.{image_set, is_clean, pack}
use Rattle.morphology.specs.Morphology.{erode, opening}
use Rattle.morphology.specs.Point.{Point}
use Rattle.morphology.proofs.ImageLaws.{Agree, agree_front, clean_agree, clean-pack, image_agree, image_on, image-pack, length-pack}
use Rattle.morphology.proofs.SkeletonLaws.{open_on}
use Rattle.raster.specs.Frames.{Frame}
use Rattle.raster.specs.Rows.{overwrite}
use Rattle.raster.proofs.PackLaws.{frame-bytes}
use Rattle.raster.proofs.PartLaws.{PartIs, drop-overwrite, length-overwrite, part-overwrite}

-- the n bytes at p, E, copied over the first n
copied-over : (p n : ℕ) (v E new : List ℕ) → n ≤ p → p + n ≤ length v → length E ≡ n → take n (drop p v) ≡ E → new ≡ take n (drop p v) ++ drop n v → new ≡ overwrite 0 E v
unfolding overwrite
copied-over p n v E new np h e q en = en ∙ ap₂ (λ (a : List ℕ) (k : ℕ). a ++ drop k v) q (sym e ∙ sym (zero-add (length E)))

module _ (W H r p e : ℕ) (old : List ℕ) (f : Frame W H r) (hp : H * r ≤ p) (h : p + p + H * r ≤ length old) where
  n : ℕ
  n = H * r

  X : Point → Bool
  X = image_set W H old

  E : List ℕ
  E = pack W H (erode (offsets e) (image_set W H old))

  O : List ℕ
  O = pack W H (opening (offsets e) (image_set W H old))

  u : List ℕ
  u = overwrite p E old

  v : List ℕ
  v = overwrite (p + p) O u

  size_e : length E ≡ n
  unfolding n E
  size_e = length-pack W H (erode (offsets e) (image_set W H old)) ∙ sym (frame-bytes f)

  size_o : length O ≡ n
  unfolding n O
  size_o = length-pack W H (opening (offsets e) (image_set W H old)) ∙ sym (frame-bytes f)

  long_u : length u ≡ length old
  unfolding u n
  long_u = length-overwrite p n old E size_e (omega arith)

  first : PartIs p n old E u
  unfolding u n
  first = part-overwrite p n old E size_e (omega arith)

  second : PartIs (p + p) n u O v
  unfolding v n
  second = part-overwrite (p + p) n u O size_o (omega (arith, long_u))

  -- the planes of the turn, one after the other
  agree_old : Agree W H v old
  unfolding n
  agree_old j l = second.before j (omega (arith, frame-bytes f)) ∙ first.before j (omega (arith, frame-bytes f))

  agree-opened : Agree W H (drop (p + p) v) O
  unfolding v n
  agree-opened j l =
      ap (λ (s : List ℕ). get_or s j 0) (drop-overwrite (p + p) n u O size_o (omega (arith, long_u)))
      ∙ agree_front W H O (drop (p + p + n) u) (size_o ∙ frame-bytes f) j l

  eroded-plane : take n (drop p v) ≡ E
  unfolding n
  eroded-plane =
      let lv : length v ≡ length old = second.size ∙ long_u in
      let lt : length (take n (drop p v)) ≡ n = length-take-le n (drop p v) (omega (arith, length-drop p v)) in
      ext_get_or 0 (take n (drop p v)) E (lt ∙ sym size_e) (λ j l.
      let hj : j < n = omega arith in
      get_or-take n (drop p v) j 0 hj ∙ get_or-drop p v j 0 ∙ second.before (p + j) (omega arith) ∙ first.within j hj)

  module _ (w' : List ℕ) (q : w' ≡ overwrite (p + p) (pack W H (opening (offsets e) (image_set W H old))) (overwrite p (pack W H (erode (offsets e) (image_set W H old))) old)) where
    -- the first is as it was
    pub opened-first : image_set W H w' ≡ image_set W H old
    unfolding n E O u v X
    opened-first = ap (image_set W H) q ∙ image_agree W H v old agree_old

    -- the third is the opening
    pub opened_third : image_set W H (drop (p + p) w') ≡ opening (offsets e) (image_set W H old)
    unfolding n E O u v X
    opened_third =
        ap (λ (s : List ℕ). image_set W H (drop (p + p) s)) q ∙ image_agree W H (drop (p + p) v) O agree-opened
        ∙ image-pack W H (opening (offsets e) X) (open_on W H (offsets e) X (image_on W H old))

    pub opened-clean : T (is_clean W H (drop (p + p) w'))
    unfolding n E O u v X
    opened-clean =
        clean_agree W H O (drop (p + p) w') (λ j l. sym (ap (λ (s : List ℕ). get_or (drop (p + p) s) j 0) q ∙ agree-opened j l))
        (clean-pack W H (opening (offsets e) X) (open_on W H (offsets e) X (image_on W H old)))

    -- the second copied over the first
    pub opened-down : (new : List ℕ) → new ≡ take (H * r) (drop p w') ++ drop (H * r) w'
        → new ≡ overwrite 0 (pack W H (erode (offsets e) (image_set W H old))) (overwrite (p + p) (pack W H (opening (offsets e) (image_set W H old)))
        (overwrite p (pack W H (erode (offsets e) (image_set W H old))) old))
    unfolding n E O u v X
    opened-down new en =
        copied-over p n v E new hp (omega (arith, second.size, long_u)) size_e eroded-plane (en ∙ ap (λ (s : List ℕ). take n (drop p s) ++ drop n s) q)
