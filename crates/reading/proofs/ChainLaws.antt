-- Refusal 11 without the map: with A(n) the cover at size n, the map is the skeleton of A(0) exactly when A(n) eroded by B is A(n + 1) for every size n.
use mathlib.Core.Bool.{Bool, ◌&&◌, ◌||◌, false, not}
use mathlib.Core.List.{List, [], ◌∷◌}
use mathlib.Core.Logic.{◌↔◌, ◌⊎◌, inl, inr}
use mathlib.Core.Path.{◌∙◌, ◌≡◌, ap, ap₂, fun_ext, refl, subst, sym}
use Prim.Native.Nat.{◌*◌, ◌+◌, ◌≤◌, suc, zero, ℕ}
use native.Mathlib.Nat.{add-suc, add-zero, suc-add, zero-add}
use native.Mathlib.Omega.{arith}
use lib.Dec.{T, T_not, eqb, eqb_refl, eqb→eq, not_T}
use lib.ListN.{get_or, length}
use Rattle.coding.specs.Codes.{of_size}
use Rattle.coding.specs.Runs.{mask}
use Rattle.coding.proofs.MaskLaws.{eroded-above, eroded-split, size_subset}
use Rattle.reading.specs.Maps.{is_skeleton, label_in}
use Rattle.reading.specs.Points.{covered}
use Rattle.reading.proofs.MapLaws.{Tidy, greatest_le-sizes, raster-label_at, size_of}
use Rattle.reading.proofs.OwnFacts.{is-skeleton, length-labels, skeleton_is}
use Rattle.reading.proofs.PlacedLaws.{unmasked-out}
use Rattle.morphology.specs.Labels.{label_at, raster}
use Rattle.morphology.specs.Lists.{greatest}
use Rattle.morphology.specs.Morphology.{dilate, erode, times}
use Rattle.morphology.specs.Partial.{partial_union}
use Rattle.morphology.specs.Point.{Point}
use Rattle.morphology.specs.Refusals.{is_wild}
use Rattle.morphology.specs.Skeleton.{reconstruction, skeleton_labels, skeleton_subset}
use Rattle.morphology.proofs.DecomposeLaws.{subset_turn}
use Rattle.morphology.proofs.ElementLaws.{Element}
use Rattle.morphology.proofs.FrameLaws.{OnFrame}
use Rattle.morphology.proofs.LabelLaws.{label_at_le, length-raster}
use Rattle.morphology.proofs.MorphologyLaws.{dilate-out, dilate-zero, eroded-suc, eroded-zero, set_ext, ⊆_of_eq}
use Rattle.morphology.proofs.PlaneLaws.{Empty, empty_eq, none as nowhere}
use Rattle.morphology.proofs.ReconstructLaws.{dilated-suc, partial-top, reconstruction_on, union-dilated, union_turn}
use Rattle.morphology.proofs.SubsetLaws.{eroded-down, subset_in}
use Rattle.morphology.proofs.TestLaws.{T_ext, and_in, and_l, and_r, or_l, or-out}

-- ---- covers

-- dilated by 1B is dilated by B
pub dilated_one : (B : List Point) (X : Point → Bool) → dilate (times B 1) X ≡ dilate B X
dilated_one B X = dilated-suc B 0 X ∙ ap (dilate B) (dilate-zero B X)

-- no sizes cover nothing
pub covered_none : (B : List Point) → covered B [] ≡ nowhere
unfolding covered
covered_none B = refl

-- a cover is its points and their mask
pub covered_cons : (B : List Point) (S : Point → Bool) (larger : List (Point → Bool)) → covered B (S ∷ larger) ≡ (λ z. S z || mask B larger z)
unfolding covered
covered_cons B S larger = refl

-- a mask is a cover dilated once
pub mask-covered : (B : List Point) (sets : List (Point → Bool)) → mask B sets ≡ dilate B (covered B sets)
unfolding mask covered
mask-covered B [] = set_ext (λ z t. absurd t) (λ z t. absurd (dilate-out B (covered B []) z t).2)
mask-covered B (S ∷ larger) = refl

-- a cover is its points and the next cover dilated once
pub covered_turn : (B : List Point) (S : Point → Bool) (larger : List (Point → Bool)) → covered B (S ∷ larger) ≡ (λ z. S z || dilate B (covered B larger) z)
covered_turn B S larger = covered_cons B S larger ∙ ap (λ (M : Point → Bool). λ z. S z || M z) (mask-covered B larger)

-- ---- maps, and lists of sizes

-- maps are equal when their sizes are
maps_equal : (W H : ℕ) (m l : List ℕ) → length m ≡ W * H → length l ≡ W * H → ((i : ℕ) → of_size W H m i ≡ of_size W H l i) → m ≡ l
unfolding of_size
maps_equal W H m l e f h =
    sym (raster-label_at W H m e) ∙ ap (raster W H) (fun_ext (λ z. by z (label_at W H m z) (label_at W H l z) refl refl)) ∙ raster-label_at W H l f
  where
    by : (z : Point) (u v : ℕ) → label_at W H m z ≡ u → label_at W H l z ≡ v → label_at W H m z ≡ label_at W H l z
    by z zero zero p q = p ∙ sym q
    by z zero (suc v) p q = eqb→eq (label_at W H m z) (suc v) (⊆_of_eq (sym (h v)) z (subst (λ (k : ℕ). T (eqb k (suc v))) (sym q) (eqb_refl (suc v)))) ∙ sym q
    by z (suc u) v p q = p ∙ sym (eqb→eq (label_at W H l z) (suc u) (⊆_of_eq (h u) z (subst (λ (k : ℕ). T (eqb k (suc u))) (sym p) (eqb_refl (suc u)))))

-- L is the sets from the n-th on
abbrev pub Suffix : List (Point → Bool) → ℕ → List (Point → Bool) → Type 0
Suffix sets n L = (i : ℕ) → get_or L i nowhere ≡ get_or sets (n + i) nowhere

-- its first is the n-th set
pub suffix_head : (sets : List (Point → Bool)) (n : ℕ) (S : Point → Bool) (L : List (Point → Bool)) → Suffix sets n (S ∷ L) → S ≡ get_or sets n nowhere
suffix_head sets n S L h = h 0 ∙ ap (λ (k : ℕ). get_or sets k nowhere) (add-zero n)

-- and those after it are the sets from n + 1 on
pub suffix_tail : (sets : List (Point → Bool)) (n : ℕ) (S : Point → Bool) (L : List (Point → Bool)) → Suffix sets n (S ∷ L) → Suffix sets (suc n) L
suffix_tail sets n S L h i = h (suc i) ∙ ap (λ (k : ℕ). get_or sets k nowhere) (add-suc n i ∙ sym (suc-add n i))

-- the chain of covers: each eroded by B is the next
abbrev pub Chained : List Point → List (Point → Bool) → Type 0
Chained B [] = Unit {0}
Chained B (S ∷ larger) = (erode B (covered B (S ∷ larger)) ≡ covered B larger) × Chained B larger

module _ (W H : ℕ) (B : List Point) (el : Element B) (sets : List (Point → Bool)) (tidy : Tidy W H B sets) where
  -- the map of the sets
  abbrev m : List ℕ
  m = raster W H (label_in 0 sets)

  -- ---- the image that the map rebuilds is its cover at size 0

  -- no label is above the number of sizes
  label_small : (z : Point) → label_at W H m z ≤ length sets
  label_small z = omega (arith, label_at_le W H m z, greatest_le-sizes W H sets)

  -- the partial union at size n is the cover of the sets from the n-th on
  pub union-covered : (L : List (Point → Bool)) (n : ℕ) → Suffix sets n L → n + length L ≡ length sets → partial_union W H B n (label_at W H m) ≡ covered B L
  unfolding of_size
  union-covered [] n h e =
      empty_eq (partial_union W H B n (label_at W H m)) (partial-top W H B (label_at W H m) (length sets) n label_small (omega arith)) ∙ sym (covered_none B)
  union-covered (S ∷ L) n h e =
      union_turn W H B el m n
      ∙ ap₂ (λ (U Y : Point → Bool). λ z. U z || dilate B Y z) (size_of W H B el.centred sets tidy n ∙ sym (suffix_head sets n S L h))
      (union-covered L (suc n) (suffix_tail sets n S L h) (omega arith))
      ∙ sym (covered_turn B S L)

  -- all sets are those from 0 on
  whole : Suffix sets 0 sets
  whole i = ap (λ (k : ℕ). get_or sets k nowhere) (sym (zero-add i))

  -- the whole map rebuilds the cover of all sets
  pub reconstruction-covered : reconstruction W H B 0 m ≡ covered B sets
  reconstruction-covered =
      sym (union-dilated W H B el m 0) ∙ dilate-zero B (partial_union W H B 0 (label_at W H m)) ∙ union-covered sets 0 whole (zero-add (length sets))

  -- ---- a chain of covers is a skeleton

  -- where X(n) is the cover of a chain, the chain's sets are S_n, S_(n + 1), ..
  chain_subset : (X : Point → Bool) (L : List (Point → Bool)) (n : ℕ) → erode (times B n) X ≡ covered B L → Chained B L → Tidy W H B L
      → (i : ℕ) → skeleton_subset B X (n + i) ≡ get_or L i nowhere
  chain_subset X [] n e c t i =
      empty_eq (skeleton_subset B X (n + i)) (λ z s.
      ⊆_of_eq (e ∙ covered_none B) z (eroded-down B el.centred X n (n + i) (omega arith) z (subset_in B el.centred X (n + i) z s)))
  chain_subset X (S ∷ L) n e c t zero = ap (skeleton_subset B X) (add-zero n) ∙ fun_ext (λ z. subset_turn B X n z ∙ first z)
    where
      next : erode (times B (suc n)) X ≡ covered B L
      next = eroded-suc B n X ∙ ap (erode B) e ∙ c.0

      first : (z : Point) → (erode (times B n) X z && not (dilate B (erode (times B (suc n)) X) z)) ≡ S z
      first z =
          ap₂ (λ (Y Z : Point → Bool). Y z && not (dilate B Z z)) (e ∙ covered_cons B S L) next
          ∙ ap (λ (M : Point → Bool). (S z || mask B L z) && not (M z)) (sym (mask-covered B L))
          ∙ T_ext (λ u. left z (or-out (S z) (mask B L z) (and_l (S z || mask B L z) (not (mask B L z)) u)) (and_r (S z || mask B L z) (not (mask B L z)) u))
          (λ u. and_in (S z || mask B L z) (not (mask B L z)) (or_l (S z) (mask B L z) u) (not_T (mask B L z) (unmasked-out W H (mask B L) (t.0 z u)).1))
        where
          left : (z : Point) → T (S z) ⊎ T (mask B L z) → T (not (mask B L z)) → T (S z)
          left z (inl s) u = s
          left z (inr s) u = absurd (T_not (mask B L z) u s)
  chain_subset X (S ∷ L) n e c t (suc i) =
      ap (skeleton_subset B X) (add-suc n i ∙ sym (suc-add n i)) ∙ chain_subset X L (suc n) (eroded-suc B n X ∙ ap (erode B) e ∙ c.0) c.1 t.1 i

  -- ---- a skeleton is a chain of covers

  -- where the sets are S_0, S_1, .. of X, the cover of those from n on is X(n), so that the covers are a chain
  subset-chain : (X : Point → Bool) (L : List (Point → Bool)) (n : ℕ) → Suffix sets n L → n + length L ≡ length sets
      → ((i : ℕ) → skeleton_subset B X i ≡ get_or sets i nowhere) → Empty (erode (times B (length sets)) X)
      → (covered B L ≡ erode (times B n) X) × Chained B L
  subset-chain X [] n h e f g =
      let q : length sets ≡ n = omega arith in
      (covered_none B ∙ sym (empty_eq (erode (times B n) X) (subst (λ (k : ℕ). Empty (erode (times B k) X)) q g)), tt)
  subset-chain X (S ∷ L) n h e f g =
      let r = subset-chain X L (suc n) (suffix_tail sets n S L h) (omega arith) f g in
      let a : covered B (S ∷ L) ≡ erode (times B n) X =
      covered_turn B S L ∙ ap₂ (λ (U Y : Point → Bool). λ z. U z || dilate B Y z) (suffix_head sets n S L h ∙ sym (f n)) r.0 ∙ eroded-split B X n in
      (a, (ap (erode B) a ∙ sym (eroded-suc B n X) ∙ sym r.0, r.1))

  -- ---- the law

  module _ (tame : is_wild W H B m ≡ false) where
    -- the cover of a map whose points stay on the frame lies on the frame
    cover_on : OnFrame W H (covered B sets)
    cover_on = subst (OnFrame W H) reconstruction-covered (reconstruction_on W H B el m tame 0)

    -- the covers of a skeleton are a chain
    pub skeleton_chained : T (is_skeleton W H B m) → Chained B sets
    skeleton_chained t =
        let X = covered B sets in
        let e : m ≡ skeleton_labels W H B X = skeleton_is W H B m t ∙ ap (skeleton_labels W H B) reconstruction-covered in
        let k : greatest (skeleton_labels W H B X) ≤ length sets = subst (λ (l : List ℕ). greatest l ≤ length sets) e (greatest_le-sizes W H sets) in
        (subset-chain X sets 0 whole (zero-add (length sets))
        (λ i. sym (size_subset W H B el X cover_on i) ∙ ap (λ (l : List ℕ). of_size W H l i) (sym e) ∙ size_of W H B el.centred sets tidy i)
        (eroded-above W H B el X cover_on (length sets) k)).1

    -- and a map whose covers are a chain is a skeleton
    pub chained-skeleton : Chained B sets → T (is_skeleton W H B m)
    chained-skeleton c =
        let X = covered B sets in
        let subset : (i : ℕ) → skeleton_subset B X i ≡ get_or sets i nowhere =
        λ i. ap (skeleton_subset B X) (sym (zero-add i)) ∙ chain_subset X sets 0 (eroded-zero B X) c tidy i in
        let same : (i : ℕ) → of_size W H m i ≡ of_size W H (skeleton_labels W H B X) i =
        λ i. size_of W H B el.centred sets tidy i ∙ sym (subset i) ∙ sym (size_subset W H B el X cover_on i) in
        is-skeleton W H B m
        (maps_equal W H m (skeleton_labels W H B X) (length-raster W H (label_in 0 sets)) (length-labels W H B X) same
        ∙ ap (skeleton_labels W H B) (sym reconstruction-covered))

    -- the map is the skeleton of the image it rebuilds exactly when its covers are a chain
    pub skeleton_iff_chained : T (is_skeleton W H B m) ↔ Chained B sets
    skeleton_iff_chained = (skeleton_chained, chained-skeleton)
