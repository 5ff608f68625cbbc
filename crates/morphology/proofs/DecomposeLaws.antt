-- Decomposition turn by turn: after n turns the labels are those of the sizes below n, and the last turn's number is the answer.
use mathlib.Core.Bool.{Bool, ◌&&◌, cond, false, not, true}
use mathlib.Core.List.{List, Memᴰ, [], ◌∷◌}
use mathlib.Core.Path.{◌∙◌, ◌≡◌, ap, fun_ext, refl, subst, sym}
use Prim.Native.Nat.{◌*◌, ◌+◌, ◌-◌, ◌<◌, ◌≤◌, max, suc, zero, zero-le, ℕ}
use native.Mathlib.Decide.{dec_lt}
use native.Mathlib.Nat.{suc-add, zero-add}
use native.Mathlib.Omega.{arith}
use lib.Dec.{T, eqb, eqb-suc-zero, not_T}
use lib.ListN.{replicate}
use Rattle.morphology.specs.Answers.{Answer, blank, outcome, skeleton}
use Rattle.morphology.specs.Labels.{area, place, places, points_of, raster}
use Rattle.morphology.specs.Lists.{greatest, tabulate}
use Rattle.morphology.specs.Morphology.{dilate, erode, opening, times}
use Rattle.morphology.specs.Operations.{cleared, labelled, skeleton_answer}
use Rattle.morphology.specs.Point.{Point, origin}
use Rattle.morphology.specs.Skeleton.{pick, skeleton_function, skeleton_labels, skeleton_subset}
use Rattle.morphology.proofs.CountLaws.{count-sum, digit, greatest_in, greatest_le}
use Rattle.morphology.proofs.ElementLaws.{Element}
use Rattle.morphology.proofs.FrameLaws.{OnFrame}
use Rattle.morphology.proofs.ImageLaws.{mem-row, row_mem}
use Rattle.morphology.proofs.LabelLaws.{on-places}
use Rattle.morphology.proofs.MorphologyLaws.{dilate-out, eroded-suc, eroded-zero, ⊆_of_eq}
use Rattle.morphology.proofs.PlaneLaws.{Empty, on_sub, row_zeros, some-point}
use Rattle.morphology.proofs.SkeletonLaws.{eroded-empty, label_le}
use Rattle.morphology.proofs.SubsetLaws.{eroded-down, of-label, subset_disjoint, subset_in}
use Rattle.morphology.proofs.TestLaws.{and_in}
use Rattle.morphology.proofs.ThinningLaws.{points}

-- the labels after n turns: the sizes below n
abbrev pub labels_below : ℕ → ℕ → List Point → (Point → Bool) → ℕ → List ℕ
labels_below W H B X n = raster W H (skeleton_function B X n)

-- ---- members of a buffer

pub raster_in : (W H : ℕ) (f : Point → ℕ) {p : Point} → Memᴰ p (places W H) → Memᴰ (f p) (raster W H f)
unfolding raster places
raster_in W H f {p} m =
    let r = row_mem (place W) 0 (W * H) m in
    subst (λ (v : ℕ). Memᴰ v (tabulate (λ i. f (place W i)) 0 (W * H))) (ap f (sym r.2)) (mem-row (λ i. f (place W i)) 0 (W * H) r.0 r.1)

pub greatest-raster : (W H N : ℕ) (f : Point → ℕ) → ((p : Point) → f p ≤ N) → greatest (raster W H f) ≤ N
unfolding raster
greatest-raster W H N f h =
    greatest_le N (tabulate (λ i. f (place W i)) 0 (W * H)) (λ k m.
    let r = row_mem (λ i. f (place W i)) 0 (W * H) m in
    subst (λ (v : ℕ). v ≤ N) (sym r.2) (h (place W (0 + r.0))))

-- ---- a turn

-- no turn: all labels are 0
pub labels-none : (W H : ℕ) (B : List Point) (X : Point → Bool) → labels_below W H B X 0 ≡ replicate (W * H) 0
unfolding raster skeleton_function pick
labels-none W H B X = row_zeros (λ i. skeleton_function B X 0 (place W i)) 0 (W * H) (λ i. refl)

-- S_n is X(n) less the dilated X(n + 1)
pub subset_turn : (B : List Point) (X : Point → Bool) (n : ℕ) (z : Point)
    → skeleton_subset B X n z ≡ (erode (times B n) X z && not (dilate B (erode (times B (suc n)) X) z))
unfolding skeleton_subset opening
subset_turn B X n z = ap (λ (Y : Point → Bool). erode (times B n) X z && not (dilate B Y z)) (sym (eroded-suc B n X))

pub function_turn : (B : List Point) (X : Point → Bool) (n : ℕ) (z : Point)
    → skeleton_function B X (suc n) z ≡ cond (skeleton_subset B X n z) (suc n) (skeleton_function B X n z)
unfolding skeleton_function pick
function_turn B X n z = refl

module _ (W H : ℕ) (B : List Point) (ob : Memᴰ origin B) (X : Point → Bool) where
  -- what turn n writes was 0
  pub label_fresh : (n : ℕ) (z : Point) → T (skeleton_subset B X n z) → skeleton_function B X n z ≡ 0
  label_fresh n z t = go (skeleton_function B X n z) refl
    where
      go : (v : ℕ) → skeleton_function B X n z ≡ v → v ≡ 0
      go zero q = refl
      go (suc m) q = let r = of-label B ob X n m z q in let e = subset_disjoint B ob X n m z t r.0 in absurd (omega (arith, r.1))

  -- the points that it adds
  pub points_turn : (n : ℕ) → points_of (labels_below W H B X (suc n)) ≡ points_of (labels_below W H B X n) + area W H (skeleton_subset B X n)
  unfolding raster area places
  points_turn n =
      count-sum (λ v. not (eqb v 0)) (λ v. not (eqb v 0)) (skeleton_subset B X n) (λ i. skeleton_function B X (suc n) (place W i)) (λ i. skeleton_function B X n (place W i)) (place W) 0 (W * H) (λ i.
      let z = place W i in
      ap (λ (v : ℕ). digit (not (eqb v 0))) (function_turn B X n z) ∙ go z (skeleton_subset B X n z) (label_fresh n z))
    where
      go : (z : Point) (b : Bool) → (T b → skeleton_function B X n z ≡ 0)
          → digit (not (eqb (cond b (suc n) (skeleton_function B X n z)) 0)) ≡ digit (not (eqb (skeleton_function B X n z) 0)) + digit b
      go z true f = ap (λ (b : Bool). digit (not b)) (eqb-suc-zero n) ∙ sym (ap (λ (v : ℕ). digit (not (eqb v 0)) + 1) (f tt))
      go z false f = omega arith

  -- turns after X(n) is empty write nothing
  function-enough : (d n : ℕ) → Empty (erode (times B n) X) → (z : Point) → skeleton_function B X (d + n) z ≡ skeleton_function B X n z
  function-enough zero n e z = ap (λ (k : ℕ). skeleton_function B X k z) (zero-add n)
  function-enough (suc d) n e z =
      ap (λ (k : ℕ). skeleton_function B X k z) (suc-add d n) ∙ function_turn B X (d + n) z
      ∙ go (skeleton_subset B X (d + n) z) (λ t. e z (eroded-down B ob X n (d + n) (omega arith) z (subset_in B ob X (d + n) z t)))
      ∙ function-enough d n e z
    where
      go : (b : Bool) → (T b → ⊥) → cond b (suc (d + n)) (skeleton_function B X (d + n) z) ≡ skeleton_function B X (d + n) z
      go true f = absurd (f tt)
      go false f = refl

  pub labels-enough : (n N : ℕ) → n ≤ N → Empty (erode (times B n) X) → labels_below W H B X N ≡ labels_below W H B X n
  labels-enough n N h e =
      let q : N ≡ (N - n) + n = omega arith in
      ap (labels_below W H B X) q ∙ ap (raster W H) (fun_ext (function-enough (N - n) n e))

  -- the last X(n) with a point: it is the skeleton subset's
  pub last_subset : (n : ℕ) → Empty (erode (times B (suc n)) X) → (z : Point) → T (erode (times B n) X z) → T (skeleton_subset B X n z)
  last_subset n e z t =
      let Y = erode (times B (suc n)) X in
      subst T (sym (subset_turn B X n z))
      (and_in (erode (times B n) X z) (not (dilate B Y z)) t (not_T (dilate B Y z) (λ u. let r = dilate-out B Y z u in e r.0 r.2)))

  -- a turn that writes makes its label the largest
  pub greatest_turn : (n : ℕ) → OnFrame W H X → (z : Point) → T (skeleton_subset B X n z) → greatest (labels_below W H B X (suc n)) ≡ suc n
  greatest_turn n on z t =
      let f = skeleton_function B X (suc n) in
      let x = ⊆_of_eq (eroded-zero B X) z (eroded-down B ob X 0 n zero-le z (subset_in B ob X n z t)) in
      let lo = greatest_in (raster_in W H f (on-places W H X on z x)) in
      let hi = greatest-raster W H (suc n) f (label_le B X (suc n)) in
      let q : f z ≡ suc n = function_turn B X n z ∙ go (skeleton_subset B X n z) t in
      omega arith
    where
      go : (b : Bool) → T b → cond b (suc n) (skeleton_function B X n z) ≡ suc n
      go true u = refl
      go false u = absurd u

-- ---- the whole walk

-- the answer after n turns that found so many points
abbrev pub turns_answer : ℕ → ℕ → Answer
turns_answer zero points = blank
turns_answer (suc n) points = skeleton points n

pub turns-blank : (n p : ℕ) → n ≡ 0 → turns_answer n p ≡ blank
turns-blank n p q = ap (λ (k : ℕ). turns_answer k p) q

pub turns-skeleton : (n p : ℕ) → 0 < n → turns_answer n p ≡ skeleton p (n - 1)
turns-skeleton n p h = let q : n ≡ suc (n - 1) = omega arith in ap (λ (k : ℕ). turns_answer k p) q

module _ (W H : ℕ) (B : List Point) (el : Element B) (X : Point → Bool) (on : OnFrame W H X) where
  -- while X(n) has a point, n is below the larger side
  pub turns_lt : (n : ℕ) → (Empty (erode (times B n) X) → ⊥) → n < max W H
  turns_lt n f = go (dec_lt n (max W H))
    where
      go : Dec (n < max W H) → n < max W H
      go (yes h) = h
      go (no h) = absurd (f (λ z t. eroded-empty W H B el X on z (eroded-down B el.centred X (max W H) n (omega arith) z t)))

  pub eroded_on : (n : ℕ) → OnFrame W H (erode (times B n) X)
  eroded_on n =
      on_sub W H (erode (times B n) X) X (λ z t. ⊆_of_eq (eroded-zero B X) z (eroded-down B el.centred X 0 n zero-le z t)) on

  -- once X(n) is empty the labels are the skeleton's
  pub labels_done : (n : ℕ) → Empty (erode (times B n) X) → labels_below W H B X n ≡ skeleton_labels W H B X
  unfolding skeleton_labels
  labels_done n f = go (dec_lt (max W H) n)
    where
      go : Dec (max W H < n) → labels_below W H B X n ≡ labels_below W H B X (max W H)
      go (yes h) = labels-enough W H B el.centred X (max W H) n (omega arith) (eroded-empty W H B el X on)
      go (no h) = sym (labels-enough W H B el.centred X n (max W H) (omega arith) f)

  -- the answer is the number of points and the last turn's size
  pub turns-answer : (n : ℕ) → ((k : ℕ) → n ≡ suc k → Empty (erode (times B k) X) → ⊥) → Empty (erode (times B n) X)
      → skeleton_answer (labels_below W H B X n) (greatest (labels_below W H B X n)) ≡ turns_answer n (points_of (labels_below W H B X n))
  turns-answer zero last f =
      let m = labels_below W H B X 0 in
      let h = greatest-raster W H 0 (skeleton_function B X 0) (label_le B X 0) in
      let q : greatest m ≡ 0 = omega arith in
      ap (skeleton_answer m) q
  turns-answer (suc n) last f =
      let r = some-point W H (erode (times B n) X) (eroded_on n) (last n refl) in
      ap (skeleton_answer (labels_below W H B X (suc n))) (greatest_turn W H B el.centred X n on r.0 (last_subset W H B el.centred X n f r.0 r.1))

  -- the outcome of the loop is the definition's
  pub turns-outcome : (n : ℕ) (work : List ℕ) → ((k : ℕ) → n ≡ suc k → Empty (erode (times B k) X) → ⊥) → Empty (erode (times B n) X)
      → labelled W H (skeleton_labels W H B X) work ≡ outcome (turns_answer n (points_of (labels_below W H B X n))) (labels_below W H B X n ∷ cleared W H work ∷ [])
  turns-outcome n work last f =
      let m = labels_below W H B X n in
      ap (λ (m : List ℕ). labelled W H m work) (sym (labels_done n f)) ∙ ap (λ (a : Answer). outcome a (m ∷ cleared W H work ∷ [])) (turns-answer n last f)
