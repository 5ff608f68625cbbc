-- The reconstruction as the cover of the labelled places; what shortening keeps of it.
use mathlib.Core.Bool.{Bool, ◌||◌, false, not}
use mathlib.Core.List.Memᴰ
use mathlib.Core.List.{List, Memᴰ}
use mathlib.Core.Path.{◌∙◌, ◌≡◌, ap, refl, subst, sym}
use Prim.Native.Nat.{◌*◌, ◌<◌, max, suc, zero, ℕ}
use native.Mathlib.Nat.{suc-ne-zero, zero-add}
use native.Mathlib.Numerals.{add-one}
use native.Mathlib.Omega.{arith}
use lib.Dec.{T, T_not, eqb, eqb_refl}
use lib.ListN.{get_or}
use Rattle.morphology.specs.Labels.{label_at, place, places, raster}
use Rattle.morphology.specs.Lists.{greatest, some_of, tabulate, up_to}
use Rattle.morphology.specs.Minimal.{covers, is_redundant, minimal_labels}
use Rattle.morphology.specs.Morphology.{erode, opening, times}
use Rattle.morphology.specs.Point.{Point, ◌⊞◌, origin}
use Rattle.morphology.specs.Refusals.{is_wild}
use Rattle.morphology.specs.Skeleton.{reconstruct, reconstruction, skeleton_function, skeleton_labels, skeleton_subset, stamp}
use Rattle.morphology.proofs.ElementLaws.{Element}
use Rattle.morphology.proofs.FrameLaws.{OnFrame}
use Rattle.morphology.proofs.ImageLaws.{mem-row, row_mem}
use Rattle.morphology.proofs.LabelLaws.{get_or-place, label_at-place, place_inj}
use Rattle.morphology.proofs.MinimalLaws.{Sub, covered, covered_sub, covers_out, minimal_keeps, other}
use Rattle.morphology.proofs.MorphologyLaws.{dilate_in, erode-out, erode-times, eroded-suc, sum-out, ⊆_of_eq}
use Rattle.morphology.proofs.PointLaws.{assoc, unit}
use Rattle.morphology.proofs.ReconstructLaws.{reconstruction_on, tame_on}
use Rattle.morphology.proofs.SkeletonLaws.{any_agree}
use Rattle.morphology.proofs.SubsetLaws.{of-label, origin-times, subset_in}
use Rattle.morphology.proofs.TestLaws.{all-out, and_l, and_r, any_out}

pub in-up_to : (n i : ℕ) → i < n → Memᴰ i (up_to n)
in-up_to n i h = subst (λ (j : ℕ). Memᴰ j (up_to n)) (zero-add i) (mem-row (λ j. j) 0 n i h)

pub of-up_to : (n : ℕ) {i : ℕ} → Memᴰ i (up_to n) → i < n
of-up_to n m = let r = row_mem (λ j. j) 0 n m in subst (λ (j : ℕ). j < n) (sym (r.2 ∙ zero-add r.0)) r.1

pub any-row : (p : Point → Bool) (f : ℕ → Point) (i n : ℕ) → some_of p (tabulate f i n) ≡ some_of (λ j. p (f j)) (tabulate (λ j. j) i n)
unfolding tabulate
any-row p f i zero = refl
any-row p f i (suc n) = ap (λ (b : Bool). p (f i) || b) (any-row p f (suc i) n)

module _ (W H : ℕ) (B : List Point) (el : Element B) where
  -- the reconstruction at cut 0 is what some labelled place covers
  pub reconstruct-covered : (m : List ℕ) (z : Point) → reconstruction W H B 0 m z ≡ covered W H B m z
  unfolding reconstruction reconstruct places
  reconstruct-covered m z =
      let P = places W H in
      any-row (λ p. stamp B 0 p (label_at W H m p) z) (place W) 0 (W * H)
      ∙ any_agree (λ j. stamp B 0 (place W j) (label_at W H m (place W j)) z) (covers W B m z) (up_to (W * H))
      (λ j k. ap (λ (v : ℕ). stamp B 0 (place W j) v z) (label_at-place W H m j (of-up_to (W * H) k)))

  pub to-covered : (m : List ℕ) (z : Point) → T (reconstruction W H B 0 m z) → T (covered W H B m z)
  to-covered m z = subst T (reconstruct-covered m z)

  pub of-covered : (m : List ℕ) (z : Point) → T (covered W H B m z) → T (reconstruction W H B 0 m z)
  of-covered m z = subst T (sym (reconstruct-covered m z))

  -- fewer points reconstruct less
  pub reconstruct_sub : (m' m : List ℕ) → Sub m' m → (z : Point) → T (reconstruction W H B 0 m' z) → T (reconstruction W H B 0 m z)
  reconstruct_sub m' m f z t = of-covered m z (covered_sub W H B m' m f z (to-covered m' z t))

  pub sub_on : (m' m : List ℕ) → Sub m' m → OnFrame W H (reconstruction W H B 0 m) → OnFrame W H (reconstruction W H B 0 m')
  sub_on m' m f on = record { across = λ p t. on.across p (reconstruct_sub m' m f p t); down = λ p t. on.down p (reconstruct_sub m' m f p t) }

  -- and none of them leaves the frame where none of all does
  pub sub-tame : (m' m : List ℕ) → Sub m' m → is_wild W H B m ≡ false → is_wild W H B m' ≡ false
  sub-tame m' m f tame = tame_on W H B el m' (sub_on m' m f (reconstruction_on W H B el m tame 0))

  -- ---- points of size 0 of an image's labels

  -- a larger point's cover lies in the opening by B
  cover_open : (X : Point → Bool) (n : ℕ) (p c : Point) → T (erode (times B (suc n)) X p) → Memᴰ c (times B (suc n))
      → T (opening B (erode (times B 0) X) (p ⊞ c))
  unfolding times opening
  cover_open X n p c t k =
      let r = sum-out (times B n) B k in
      let a = r.0 in
      let b = r.1 in
      let q : erode (times B (suc n)) X ≡ erode (times B n) (erode (times B 1) X) = ap (λ (i : ℕ). erode (times B i) X) (sym (add-one n)) ∙ erode-times B n 1 X in
      let u = erode-out (times B n) (erode (times B 1) X) p (⊆_of_eq q p t) r.2 in
      let w = ⊆_of_eq (eroded-suc B 0 X) (p ⊞ a) u in
      subst (λ (z : Point). T (opening B (erode (times B 0) X) z)) (assoc p a b ∙ ap (λ (d : Point). p ⊞ d) (sym r.4))
      (dilate_in B (erode B (erode (times B 0) X)) (p ⊞ a) b w r.3)

  pub size-zero : (X : Point → Bool) → OnFrame W H X → (i : ℕ) → i < W * H → get_or (skeleton_labels W H B X) i 0 ≡ 1
      → get_or (minimal_labels W H B (skeleton_labels W H B X)) i 0 ≡ 1
  unfolding skeleton_labels is_redundant times skeleton_subset minimal_labels
  size-zero X on i h q = minimal_keeps W H B s i own (greatest s) ∙ q
    where
      f : Point → ℕ
      f = skeleton_function B X (max W H)

      s : List ℕ
      s = raster W H f

      -- the point itself: in X, not in the opening of X by B
      own-size : T (skeleton_subset B X 0 (place W i))
      own-size = (of-label B el.centred X (max W H) 0 (place W i) (sym (get_or-place W H f i h) ∙ q)).0

      other-cover : (j n : ℕ) (c : Point) → T (not (eqb j i)) → T (skeleton_subset B X n (place W j)) → Memᴰ c (times B n)
          → place W i ⊞ origin ≡ place W j ⊞ c → ⊥
      other-cover j zero c ne t k p =
          let d = p ∙ ap (λ (x : Point). place W j ⊞ x) (Memᴰ.eq_of_singleton k) ∙ unit (place W j) in
          T_not (eqb j i) ne (subst (λ (x : ℕ). T (eqb j x)) (place_inj W j i (sym (sym (unit (place W i)) ∙ d))) (eqb_refl j))
      other-cover j (suc n) c ne t k p =
          T_not (opening B (erode (times B 0) X) (place W i)) (and_r (erode (times B 0) X (place W i)) (not (opening B (erode (times B 0) X) (place W i))) own-size)
          (subst (λ (z : Point). T (opening B (erode (times B 0) X) z)) (sym p ∙ unit (place W i))
          (cover_open X n (place W j) c (subset_in B el.centred X (suc n) (place W j) t) k))

      own : (n : ℕ) → get_or s i 0 ≡ suc n → T (is_redundant W H B n s i) → ⊥
      own zero p t =
          let a = all-out (λ b. some_of (other W B s i (place W i ⊞ b)) (up_to (W * H))) t (origin-times B el.centred 0) in
          let z = place W i ⊞ origin in
          let r = any_out (other W B s i z) (up_to (W * H)) a in
          let j = r.0 in
          let o = covers_out W H B s z j (and_r (not (eqb j i)) (covers W B s z j) r.2) in
          let l = (of-label B el.centred X (max W H) o.0 (place W j) (sym (get_or-place W H f j (of-up_to (W * H) r.1)) ∙ o.2)).0 in
          other-cover j o.0 o.1 (and_l (not (eqb j i)) (covers W B s z j) r.2) l o.3 o.4
      own (suc n) p t = suc-ne-zero n (omega (arith, sym p ∙ q))
