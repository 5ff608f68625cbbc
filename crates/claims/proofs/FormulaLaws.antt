-- What the tests of morphology/specs compute is the formula with "for all" and "exists".
use mathlib.Core.Bool.{Bool, ◌&&◌, false, not}
use mathlib.Core.List.Memᴰ
use mathlib.Core.List.{List, Memᴰ}
use mathlib.Core.Logic.{◌⊎◌, inl, inr}
use mathlib.Core.Path.{◌∙◌, ◌≡◌, ap, refl, subst, sym}
use Prim.Native.Nat.{suc, zero, ℕ}
use lib.Dec.{T, T_not, ltb, ltb→lt, lt→ltb}
use lib.IntN.{negsuc, pos, ℤ}
use Rattle.claims.specs.Formula.{Covered, Dilated, Eroded, Fold, HasSize, Hit, Ink, MaskOffset, Offset, Set, Wild, Within}
use Rattle.morphology.specs.Element.{mask_offsets, offset, offsets}
use Rattle.morphology.specs.Image.{image_set, on_frame, pixel}
use Rattle.morphology.specs.Labels.{label_at, places}
use Rattle.morphology.specs.Lists.{every_of}
use Rattle.morphology.specs.Morphology.{dilate, erode, opening, times}
use Rattle.morphology.specs.Point.{Point, ◌⊞◌, at}
use Rattle.morphology.specs.Refusals.{is_wild}
use Rattle.morphology.specs.Skeleton.{reconstruction, skeleton_subset}
use Rattle.morphology.specs.Thinning.{hit, interior}
use Rattle.morphology.proofs.ElementLaws.{Element, below_out, in-below}
use Rattle.morphology.proofs.LabelLaws.{in-places, label_at-at, of_places}
use Rattle.morphology.proofs.MorphologyLaws.{dilate_in, dilate-out, erode_in, erode-out, sum-out, times-suc}
use Rattle.morphology.proofs.ReconstructLaws.{label_on, wild_in, wild-out}
use Rattle.morphology.proofs.SubsetLaws.{reconstruct_in, reconstruct-out}
use Rattle.morphology.proofs.TestLaws.{all_in, all-out, and_in, and_l, and_r, decide}
use Rattle.morphology.proofs.ThinningLaws.{asked}

-- ---- the sheet and the element

pub ink_in : (W H : ℕ) (s : List ℕ) (z : Point) → T (image_set W H s z) → Ink W H s z
unfolding image_set
ink_in W H s z t = go z.x z.y refl t
  where
    go : (a b : ℤ) → z ≡ at a b → T (image_set W H s (at a b)) → Ink W H s z
    go (pos x) (pos y) q t =
        let r = and_r (ltb x W) (ltb y H && pixel W s x y) t in
        (x, y, ltb→lt x W (and_l (ltb x W) (ltb y H && pixel W s x y) t), ltb→lt y H (and_l (ltb y H) (pixel W s x y) r), and_r (ltb y H) (pixel W s x y) r, q)
    go (pos x) (negsuc y) q t = absurd t
    go (negsuc x) b q t = absurd t

pub ink-out : (W H : ℕ) (s : List ℕ) (z : Point) → Ink W H s z → T (image_set W H s z)
unfolding image_set
ink-out W H s z i =
    let x = i.0 in
    let y = i.1 in
    subst (λ (p : Point). T (image_set W H s p)) (sym i.5)
    (and_in (ltb x W) (ltb y H && pixel W s x y) (lt→ltb x W i.2) (and_in (ltb y H) (pixel W s x y) (lt→ltb y H i.3) i.4))

-- ---- the formula, of a list B that is the set P

-- the members of a list are a set
pub record Lists (B : List Point) (P : Set) : Type 0 where
  pub to : {b : Point} → Memᴰ b B → P b
  pub fro : {b : Point} → P b → Memᴰ b B

-- a test is a set
pub record Tests (X : Point → Bool) (Y : Set) : Type 0 where
  pub to : {z : Point} → T (X z) → Y z
  pub fro : {z : Point} → Y z → T (X z)

pub offsets_are : (e : ℕ) → Lists (offsets e) (Offset e)
unfolding offsets offset
offsets_are e = record { to = λ m. below_out 2 e 25 m; fro = λ o. Memᴰ.cast o.3 (in-below 2 e 25 o.0 o.1 o.2) }

pub image_is : (W H : ℕ) (s : List ℕ) → Tests (image_set W H s) (Ink W H s)
image_is W H s = record { to = λ {z} t. ink_in W H s z t; fro = λ {z} i. ink-out W H s z i }

pub mask-offsets_are : (m : ℕ) → Lists (mask_offsets m) (MaskOffset m)
unfolding offset
mask-offsets_are m = record { to = λ k. below_out 1 m 9 k; fro = λ o. Memᴰ.cast o.3 (in-below 1 m 9 o.0 o.1 o.2) }

pub within_is : (W H : ℕ) → Tests (on_frame W H) (Within W H)
within_is W H = record { to = λ {z} t. on_in z.x z.y t; fro = λ {z} f. subst (λ (p : Point). T (on_frame W H p)) (sym f.4) (on_out f) }
  where
    on_in : (a b : ℤ) → T (on_frame W H (at a b)) → Within W H (at a b)
    on_in (pos x) (pos y) t = (x, y, ltb→lt x W (and_l (ltb x W) (ltb y H) t), ltb→lt y H (and_r (ltb x W) (ltb y H) t), refl)
    on_in (pos x) (negsuc y) t = absurd (and_r (ltb x W) false t)
    on_in (negsuc x) b t = absurd t

    on_out : {z : Point} (f : Within W H z) → T (on_frame W H (at (pos f.0) (pos f.1)))
    on_out f = and_in (ltb f.0 W) (ltb f.1 H) (lt→ltb f.0 W f.2) (lt→ltb f.1 H f.3)

-- every offset of a mask, and a test on what it points at
module _ (m : ℕ) (X : Point → Bool) (Y : Set) (t : Tests X Y) (z : Point) where
  pub every_in : T (every_of (λ b. X (z ⊞ b)) (mask_offsets m)) → Eroded (MaskOffset m) Y z
  every_in e b o = t.to (all-out (λ b. X (z ⊞ b)) e ((mask-offsets_are m).fro o))

  pub every-out : Eroded (MaskOffset m) Y z → T (every_of (λ b. X (z ⊞ b)) (mask_offsets m))
  every-out e = all_in (λ b. X (z ⊞ b)) (mask_offsets m) (λ b k. t.fro (e b ((mask-offsets_are m).to k)))

pub not_is : {X : Point → Bool} {Y : Set} → Tests X Y → Tests (λ z. not (X z)) (λ z. Y z → ⊥)
not_is {X} {Y} t = record { to = λ {z} n y. T_not (X z) n (t.fro y); fro = λ {z} n. go n (decide (X z)) }
  where
    go : {z : Point} → (Y z → ⊥) → T (X z) ⊎ T (not (X z)) → T (not (X z))
    go n (inl y) = absurd (n (t.to y))
    go n (inr y) = y

-- a hit
module _ (W H : ℕ) (m : ℕ × ℕ) (X : Point → Bool) (Y : Set) (t : Tests X Y) (z : Point) where
  pub hit_in : T (hit W H m X z) → Hit W H m Y z
  unfolding hit interior
  hit_in h =
      let fg = every_of (λ b. X (z ⊞ b)) (mask_offsets m.0) in
      let a = and_r (interior W H z) (asked m X z) h in (
        every_in 511 (on_frame W H) (Within W H) (within_is W H) z (and_l (interior W H z) (asked m X z) h),
        every_in m.0 X Y t z (and_l fg _ a),
        every_in m.1 (λ p. not (X p)) (λ p. Y p → ⊥) (not_is t) z (and_r fg _ a),
      )

  pub hit-out : Hit W H m Y z → T (hit W H m X z)
  unfolding hit interior
  hit-out h =
      and_in (interior W H z) (asked m X z) (every-out 511 (on_frame W H) (Within W H) (within_is W H) z h.0)
      (and_in (every_of (λ b. X (z ⊞ b)) (mask_offsets m.0)) _ (every-out m.0 X Y t z h.1)
      (every-out m.1 (λ p. not (X p)) (λ p. Y p → ⊥) (not_is t) z h.2))

module _ (B : List Point) (P : Set) (l : Lists B P) where
  pub fold_in : (n : ℕ) {c : Point} → Memᴰ c (times B n) → Fold P n c
  unfolding times Fold
  fold_in zero m = Memᴰ.eq_of_singleton m
  fold_in (suc n) m = let r = sum-out (times B n) B m in (r.0, r.1, fold_in n r.2, l.to r.3, r.4)

  pub fold_out : (n : ℕ) {c : Point} → Fold P n c → Memᴰ c (times B n)
  unfolding times Fold
  fold_out zero q = Memᴰ.head q
  fold_out (suc n) f = Memᴰ.cast f.4 (times-suc B n (fold_out n f.2) (l.fro f.3))

  -- ---- of a test X that is the set Y

  module _ (X : Point → Bool) (Y : Set) (t : Tests X Y) where
    eroded_in : (n : ℕ) (z : Point) → T (erode (times B n) X z) → Eroded (Fold P n) Y z
    eroded_in n z e b f = t.to (erode-out (times B n) X z e (fold_out n f))

    eroded-out : (n : ℕ) (z : Point) → Eroded (Fold P n) Y z → T (erode (times B n) X z)
    eroded-out n z e = erode_in (times B n) X z (λ b m. t.fro (e b (fold_in n m)))

    opened_in : (n : ℕ) (z : Point) → T (opening B (erode (times B n) X) z) → Dilated P (Eroded P (Eroded (Fold P n) Y)) z
    unfolding opening
    opened_in n z o =
        let E = erode (times B n) X in
        let r = dilate-out B (erode B E) z o in
        (r.0, r.1, (λ b p. eroded_in n (r.0 ⊞ b) (erode-out B E r.0 r.2 (l.fro p))), l.to r.3, r.4)

    opened_out : (n : ℕ) (z : Point) → Dilated P (Eroded P (Eroded (Fold P n) Y)) z → T (opening B (erode (times B n) X) z)
    unfolding opening
    opened_out n z d =
        let E = erode (times B n) X in
        subst (λ (p : Point). T (dilate B (erode B E) p)) (sym d.4)
        (dilate_in B (erode B E) d.0 d.1 (erode_in B E d.0 (λ b m. eroded-out n (d.0 ⊞ b) (d.2 b (l.to m)))) (l.fro d.3))

    pub size_in : (n : ℕ) (z : Point) → T (skeleton_subset B X n z) → HasSize P Y n z
    unfolding skeleton_subset
    size_in n z h =
        let a = erode (times B n) X z in
        let o = opening B (erode (times B n) X) z in
        (eroded_in n z (and_l a (not o) h), λ d. T_not o (and_r a (not o) h) (opened_out n z d))

    pub size-out : (n : ℕ) (z : Point) → HasSize P Y n z → T (skeleton_subset B X n z)
    unfolding skeleton_subset
    size-out n z h = and_in (erode (times B n) X z) (not o) (eroded-out n z h.0) (go (decide o))
      where
        o : Bool
        o = opening B (erode (times B n) X) z

        go : T o ⊎ T (not o) → T (not o)
        go (inl y) = absurd (h.1 (opened_in n z y))
        go (inr y) = y

  -- ---- what a map covers

  module _ (W H k : ℕ) (m : List ℕ) where
    pub covered_in : (z : Point) → T (reconstruction W H B k m z) → Covered W H P k m z
    unfolding reconstruction
    covered_in z t =
        let r = reconstruct-out (places W H) B k (label_at W H m) z t in
        let p = r.0 in
        let o = of_places W H (label_on W H m p r.1 r.3) in
        let x = o.0 in
        let y = o.1 in (
          x,
          y,
          r.1,
          r.2,
          o.2,
          o.3,
          sym (label_at-at W H m x y o.2 o.3) ∙ ap (label_at W H m) (sym o.4) ∙ r.3,
          r.4,
          fold_in r.1 r.5,
          r.6 ∙ ap (λ (q : Point). q ⊞ r.2) o.4,
        )

    pub covered_out : (z : Point) → Covered W H P k m z → T (reconstruction W H B k m z)
    unfolding reconstruction
    covered_out z c =
        let x = c.0 in
        let y = c.1 in
        let n = c.2 in
        subst (λ (p : Point). T (reconstruction W H B k m p)) (sym c.9)
        (reconstruct_in (places W H) B k n (label_at W H m) (at (pos x) (pos y)) c.3 (in-places W H x y c.4 c.5)
        (label_at-at W H m x y c.4 c.5 ∙ c.6) c.7 (fold_out n c.8))

  -- ---- wild maps

  module _ (W H : ℕ) (el : Element B) (m : List ℕ) where
    pub bad_in : T (is_wild W H B m) → Wild W H P m
    bad_in t =
        let r = wild-out W H B el m t in
        (r.0, covered_in W H 0 m r.0 r.1, (not_is (within_is W H)).to r.2)

    pub bad-out : Wild W H P m → T (is_wild W H B m)
    bad-out w = wild_in W H B el m w.0 (covered_out W H 0 m w.0 w.1) ((not_is (within_is W H)).fro w.2)
