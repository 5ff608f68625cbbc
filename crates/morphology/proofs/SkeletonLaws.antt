-- The decomposition of a set on the frame, and its reconstruction.
use mathlib.Core.Bool.{Bool, ◌||◌, cond, false, true}
use mathlib.Core.List.{List, Memᴰ, [], ◌∷◌}
use mathlib.Core.Logic.{◌↔◌}
use mathlib.Core.Path.{◌∙◌, ◌≡◌, ap, ap₂, fun_ext, refl, subst, sym}
use Prim.Native.Nat.{◌*◌, ◌+◌, ◌<◌, ◌≤◌, max, suc, zero, zero-le, ℕ}
use native.Mathlib.Decide.{dec_lt}
use native.Mathlib.Nat.{le_refl}
use native.Mathlib.Omega.{arith}
use lib.Dec.{T}
use lib.IntN.{pos}
use lib.ListN.{get_or-eq_default, get_or}
use Rattle.morphology.specs.Labels.{label_at, place, places, raster}
use Rattle.morphology.specs.Lists.{some_of}
use Rattle.morphology.specs.Morphology.{erode, opening, times}
use Rattle.morphology.specs.Point.{Point, at}
use Rattle.morphology.specs.Refusals.{is_wild}
use Rattle.morphology.specs.Skeleton.{pick, reconstruct, reconstruction, skeleton_function, skeleton_labels, skeleton_subset, stamp}
use Rattle.morphology.proofs.ElementLaws.{Element}
use Rattle.morphology.proofs.FrameLaws.{OnFrame, erode-empty}
use Rattle.morphology.proofs.LabelLaws.{get_or-place, get_or-raster, label_at-raster, length-raster, on-places}
use Rattle.morphology.proofs.MorphologyLaws.{eroded-zero, open_sub, ⊆_of_eq}
use Rattle.morphology.proofs.ReconstructLaws.{tame_on}
use Rattle.morphology.proofs.SubsetLaws.{eroded-down, label_of, label_open, of-label, reconstruct_open, subset_in}

pub any_agree : {A : Type 0} (p q : A → Bool) (l : List A) → ((a : A) → Memᴰ a l → p a ≡ q a) → some_of p l ≡ some_of q l
any_agree p q [] f = refl
any_agree p q (a ∷ l) f = ap₂ (λ (x y : Bool). x || y) (f a (Memᴰ.head refl)) (any_agree p q l (λ b m. f b (Memᴰ.tail m)))

-- only the labels on the frame matter
reconstruct_agree : (P B : List Point) (k : ℕ) (M N : Point → ℕ) → ((p : Point) → Memᴰ p P → M p ≡ N p)
    → reconstruct P B k M ≡ reconstruct P B k N
unfolding reconstruct
reconstruct_agree P B k M N f =
    fun_ext (λ z. any_agree (λ p. stamp B k p (M p) z) (λ p. stamp B k p (N p) z) P (λ p m. ap (λ (n : ℕ). stamp B k p n z) (f p m)))

pick_le : (p : ℕ → Bool) (N : ℕ) → pick p N ≤ N
unfolding pick
pick_le p zero = le_refl 0
pick_le p (suc N) = go (p N) (pick_le p N)
  where
    go : (b : Bool) → pick p N ≤ N → cond b (suc N) (pick p N) ≤ suc N
    go true h = le_refl (suc N)
    go false h = omega arith

-- a label is at most the bound of the sizes
pub label_le : (B : List Point) (X : Point → Bool) (N : ℕ) (z : Point) → skeleton_function B X N z ≤ N
unfolding skeleton_function
label_le B X N z = pick_le (λ n. skeleton_subset B X n z) N

pub labels_le : (W H : ℕ) (B : List Point) (X : Point → Bool) (i : ℕ) → get_or (skeleton_labels W H B X) i 0 ≤ max W H
unfolding skeleton_labels
labels_le W H B X i = by (dec_lt i (W * H))
  where
    f : Point → ℕ
    f = skeleton_function B X (max W H)

    by : Dec (i < W * H) → get_or (raster W H f) i 0 ≤ max W H
    by (yes h) = subst (λ (n : ℕ). n ≤ max W H) (sym (get_or-place W H f i h)) (label_le B X (max W H) (place W i))
    by (no h) = subst (λ (n : ℕ). n ≤ max W H) (sym (get_or-eq_default (raster W H f) 0 (omega (arith, length-raster W H f)))) zero-le

pub open_on : (W H : ℕ) (B : List Point) (X : Point → Bool) → OnFrame W H X → OnFrame W H (opening B X)
open_on W H B X on = record { across = λ p t. on.across p (open_sub B X p t); down = λ p t. on.down p (open_sub B X p t) }

module _ (W H : ℕ) (B : List Point) (el : Element B) (X : Point → Bool) (on : OnFrame W H X) where
  -- X(n) is empty once n reaches the larger side
  pub eroded-empty : (z : Point) → T (erode (times B (max W H)) X z) → ⊥
  eroded-empty z t =
      let o = el.second in
      let x = ⊆_of_eq (eroded-zero B X) z (eroded-down B el.centred X 0 (max W H) zero-le z t) in
      erode-empty W H X B o.0 on el.centred o.1 o.2 (max W H) (omega arith) (omega arith) z x t

  -- a label is n + 1 exactly on the skeleton subset S_n
  pub label-formula : (x y n : ℕ) → x < W → y < H
      → (get_or (skeleton_labels W H B X) (y * W + x) 0 ≡ suc n) ↔ T (skeleton_subset B X n (at (pos x) (pos y)))
  unfolding skeleton_labels
  label-formula x y n hx hy = (
    (λ q. (of-label B el.centred X N n z (sym at_z ∙ q)).0),
    (λ t. at_z ∙ label_of B el.centred X N n z (small t (dec_lt n N)) t),
  )
    where
      N : ℕ
      N = max W H

      z : Point
      z = at (pos x) (pos y)

      at_z : get_or (raster W H (skeleton_function B X N)) (y * W + x) 0 ≡ skeleton_function B X N z
      at_z = get_or-raster W H (skeleton_function B X N) x y hx hy

      small : T (skeleton_subset B X n z) → Dec (n < N) → n < N
      small t (yes h) = h
      small t (no h) = absurd (eroded-empty z (eroded-down B el.centred X N n (omega arith) z (subset_in B el.centred X n z t)))

  -- the labels above k of the opening by kB are those of X, at the same places
  pub label-above : (k x y n : ℕ) → x < W → y < H → k ≤ n
      → (get_or (skeleton_labels W H B (opening (times B k) X)) (y * W + x) 0 ≡ suc n) ↔ (get_or (skeleton_labels W H B X) (y * W + x) 0 ≡ suc n)
  unfolding skeleton_labels
  label-above k x y n hx hy h =
      let Y = opening (times B k) X in
      let N = max W H in
      let z = at (pos x) (pos y) in
      let l = label_open B el.centred X N k n z h in (
        (λ q. get_or-raster W H (skeleton_function B X N) x y hx hy ∙ l.0 (sym (get_or-raster W H (skeleton_function B Y N) x y hx hy) ∙ q)),
        (λ q. get_or-raster W H (skeleton_function B Y N) x y hx hy ∙ l.1 (sym (get_or-raster W H (skeleton_function B X N) x y hx hy) ∙ q)),
      )

  -- reconstruction at k is the opening by kB
  pub reconstruction_open : (k : ℕ) → reconstruction W H B k (skeleton_labels W H B X) ≡ opening (times B k) X
  unfolding reconstruction skeleton_labels
  reconstruction_open k =
      let N = max W H in
      reconstruct_agree (places W H) B k (label_at W H (raster W H (skeleton_function B X N))) (skeleton_function B X N) (λ p m. label_at-raster W H (skeleton_function B X N) m)
      ∙ reconstruct_open B el.centred (places W H) X N (on-places W H X on) eroded-empty k

  -- no point of it leaves the frame
  pub skeleton-tame : is_wild W H B (skeleton_labels W H B X) ≡ false
  skeleton-tame = tame_on W H B el (skeleton_labels W H B X) (subst (OnFrame W H) (sym (reconstruction_open 0)) (open_on W H (times B 0) X on))
