-- What a code has of its image: a mask is what larger points cover, each size has its runs, and the largest size is the skeleton's.
use mathlib.Core.Bool.{Bool, ◌||◌, false}
use mathlib.Core.List.Memᴰ
use mathlib.Core.List.{List, Memᴰ, [], ◌∷◌, map}
use mathlib.Core.Logic.{◌⊎◌, inl, inr}
use mathlib.Core.Option.{none-ne-some, some-injective, some-ne-none, none, some}
use mathlib.Core.Path.{◌∙◌, ◌≡◌, ap, ap₂, refl, subst, sym}
use Prim.Native.Nat.{◌+◌, ◌-◌, ◌<◌, suc, zero, zero-le, ℕ}
use native.Mathlib.Omega.{arith}
use lib.Dec.{T, eqb→eq}
use lib.ListN.{get_or, length}
use Rattle.coding.specs.Codes.{map_code, map_runs, of_size, sizes_down}
use Rattle.coding.specs.Runs.{mask, runs, runs_down, unmasked}
use Rattle.coding.specs.Writing.{down_from}
use Rattle.coding.proofs.MaskLaws.{eroded-above, size_subset}
use Rattle.morphology.specs.Labels.{label_at}
use Rattle.morphology.specs.Lists.{greatest, tabulate}
use Rattle.morphology.specs.Morphology.{erode, times}
use Rattle.morphology.specs.Point.{Point, ◌⊞◌, origin}
use Rattle.morphology.specs.Skeleton.{skeleton_function, skeleton_labels, skeleton_subset}
use Rattle.morphology.proofs.DecomposeLaws.{eroded_on, greatest-raster, labels_done, last_subset}
use Rattle.morphology.proofs.ElementLaws.{Element}
use Rattle.morphology.proofs.FrameLaws.{OnFrame}
use Rattle.morphology.proofs.LabelLaws.{label_at_le}
use Rattle.morphology.proofs.MorphologyLaws.{dilate_in, dilate-out, eroded-zero, sum-out, times-suc, ⊆_of_eq}
use Rattle.morphology.proofs.PlaneLaws.{Empty, some-point}
use Rattle.morphology.proofs.PointLaws.{assoc, comm, unit}
use Rattle.morphology.proofs.SkeletonLaws.{label_le}
use Rattle.morphology.proofs.SubsetLaws.{eroded-down, subset_in}
use Rattle.morphology.proofs.TestLaws.{or_l, or-out, or_r}

-- ---- masks

-- z is one of (i + 1)B moved to a point of the i-th set
abbrev pub CoveredBy : List Point → List (Point → Bool) → Point → Type 0
CoveredBy B larger z =
    (i : ℕ) × (x c : Point) × (i < length larger) × T (get_or larger i (λ y. false) x) × Memᴰ c (times B (suc i)) × (z ≡ x ⊞ c)

-- B is 1B
origin_in : (B : List Point) → Memᴰ origin (times B 0)
unfolding times
origin_in B = Memᴰ.head refl

left_unit : (b : Point) → origin ⊞ b ≡ b
left_unit b = comm origin b ∙ unit b

once_in : (B : List Point) {b : Point} → Memᴰ b B → Memᴰ b (times B 1)
once_in B {b} m = Memᴰ.cast (sym (left_unit b)) (times-suc B 0 (origin_in B) m)

split : (B : List Point) (n : ℕ) {c : Point} → Memᴰ c (times B (suc n)) → (a b : Point) × Memᴰ a (times B n) × Memᴰ b B × (c ≡ a ⊞ b)
unfolding times
split B n m = sum-out (times B n) B m

once-out : (B : List Point) {c : Point} → Memᴰ c (times B 1) → Memᴰ c B
unfolding times
once-out B m =
    let r = split B 0 m in Memᴰ.cast (r.4 ∙ ap (λ (a : Point). a ⊞ r.1) (Memᴰ.eq_of_singleton r.2) ∙ left_unit r.1) r.3

pub mask-out : (B : List Point) (larger : List (Point → Bool)) (z : Point) → T (mask B larger z) → CoveredBy B larger z
unfolding mask
mask-out B [] z t = absurd t
mask-out B (S ∷ larger) z t =
    let r = dilate-out B (λ y. S y || mask B larger y) z t in
    go r.0 r.1 r.3 r.4 (mask-out B larger r.0) (or-out (S r.0) (mask B larger r.0) r.2)
  where
    go : (y b : Point) → Memᴰ b B → z ≡ y ⊞ b → (T (mask B larger y) → CoveredBy B larger y) → T (S y) ⊎ T (mask B larger y) → CoveredBy B (S ∷ larger) z
    go y b m q rest (inl s) = (0, y, b, omega arith, s, once_in B m, q)
    go y b m q rest (inr s) =
        let r = rest s in
        let i = r.0 in
        let c = r.2 in
        (suc i, r.1, c ⊞ b, omega (arith, r.3), r.4, times-suc B (suc i) r.5 m, q ∙ ap (λ (p : Point). p ⊞ b) r.6 ∙ assoc r.1 c b)

pub mask_in : (B : List Point) (larger : List (Point → Bool)) (z : Point) → CoveredBy B larger z → T (mask B larger z)
unfolding mask
mask_in B larger z r = subst (λ (p : Point). T (mask B larger p)) (sym r.6) (at larger r.0 r.1 r.2 r.3 r.4 r.5)
  where
    at : (larger : List (Point → Bool)) (i : ℕ) (x c : Point) → i < length larger → T (get_or larger i (λ y. false) x) → Memᴰ c (times B (suc i))
        → T (mask B larger (x ⊞ c))
    at [] i x c h t m = absurd (omega arith)
    at (S ∷ larger) zero x c h t m = dilate_in B (λ y. S y || mask B larger y) x c (or_l (S x) (mask B larger x) t) (once-out B m)
    at (S ∷ larger) (suc i) x c h t m =
        let r = split B (suc i) m in
        let y = x ⊞ r.0 in
        let u = at larger i x r.0 (omega arith) t r.2 in
        subst (λ (p : Point). T (mask B (S ∷ larger) p)) (assoc x r.0 r.1 ∙ ap (λ (c : Point). x ⊞ c) (sym r.4))
        (dilate_in B (λ y. S y || mask B larger y) y r.1 (or_r (S y) (mask B larger y) u) r.3)

-- ---- the runs of one size

module _ (W H : ℕ) (B : List Point) (S : ℕ → Point → Bool) where
  -- the runs of size n, with d sizes above it
  abbrev pub size_runs : ℕ → ℕ → List ℕ
  size_runs n d = runs (S n) 0 (unmasked W H (mask B (tabulate S (suc n) d)))

  runs-down : (N d k : ℕ) → N + d ≡ k → runs_down W H B (tabulate S (suc N) d) (sizes_down S N) ≡ down_from (λ n. size_runs n (k - n)) N
  unfolding runs_down sizes_down tabulate
  runs-down zero d k q = let e : d ≡ k - 0 = omega arith in ap (λ (j : ℕ). size_runs 0 j ∷ []) e
  runs-down (suc N) d k q =
      let e : d ≡ k - suc N = omega arith in ap₂ (λ (j : ℕ) (rs : List (List ℕ)). size_runs (suc N) j ∷ rs) e (runs-down N (suc d) k (omega arith))

-- the sizes from the largest down, each with the masks of those above it
pub map_runs_lem : (W H : ℕ) (B : List Point) (m : List ℕ) (N : ℕ) → map_runs W H B m N ≡ down_from (λ n. size_runs W H B (of_size W H m) n (N - n)) N
unfolding map_runs tabulate
map_runs_lem W H B m N = runs-down W H B (of_size W H m) N 0 N (omega arith)

pub map-down : {A C : Type 0} (f : A → C) (g : ℕ → A) (n : ℕ) → map f (down_from g n) ≡ down_from (λ k. f (g k)) n
map-down f g zero = refl
map-down {C = C} f g (suc n) = ap (λ (l : List C). f (g (suc n)) ∷ l) (map-down f g n)

-- ---- the largest size

-- a code by the largest label of its map
pub code-none : (W H : ℕ) (B : List Point) (m : List ℕ) (g : ℕ) → (map_code W H B m g).largest ≡ none → g ≡ 0
unfolding map_code
code-none W H B m zero q = refl
code-none W H B m (suc n) q = absurd (some-ne-none n q)

pub code-some : (W H : ℕ) (B : List Point) (m : List ℕ) (g n : ℕ) → (map_code W H B m g).largest ≡ some n → g ≡ suc n
unfolding map_code
code-some W H B m zero n q = absurd (none-ne-some n q)
code-some W H B m (suc k) n q = ap suc (some-injective k n q)

module _ (W H : ℕ) (B : List Point) (el : Element B) (X : Point → Bool) (on : OnFrame W H X) where
  abbrev m : List ℕ
  m = skeleton_labels W H B X

  -- no size reaches the largest label
  pub size_lt : (n : ℕ) (z : Point) → T (skeleton_subset B X n z) → n < greatest m
  unfolding of_size
  size_lt n z t =
      let e = eqb→eq (label_at W H m z) (suc n) (⊆_of_eq (sym (size_subset W H B el X on n)) z t) in
      omega (arith, label_at_le W H m z)

  -- and the one below it has a point
  pub largest-point : (n : ℕ) → greatest m ≡ suc n → (z : Point) × T (skeleton_subset B X n z)
  largest-point n g =
      let r = some-point W H (erode (times B n) X) (eroded_on W H B el X on n) (λ f.
      let l = greatest-raster W H n (skeleton_function B X n) (label_le B X n) in
      omega (arith, ap greatest (labels_done W H B el X on n f))) in
      (r.0, last_subset W H B el.centred X n (eroded-above W H B el X on (suc n) (omega arith)) r.0 r.1)

  -- there is none exactly where the image is empty
  pub none-empty : greatest m ≡ 0 → Empty X
  none-empty g z t = eroded-above W H B el X on 0 (omega arith) z (⊆_of_eq (sym (eroded-zero B X)) z t)

  pub empty-none : Empty X → greatest m ≡ 0
  empty-none f = by (greatest m) refl
    where
      by : (g : ℕ) → greatest m ≡ g → g ≡ 0
      by zero q = refl
      by (suc n) q =
          let r = largest-point n q in
          absurd (f r.0 (⊆_of_eq (eroded-zero B X) r.0 (eroded-down B el.centred X 0 n zero-le r.0 (subset_in B el.centred X n r.0 r.1))))
