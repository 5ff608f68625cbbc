-- What the rows of a stream test: a map is the skeleton of the image it rebuilds, and the largest size has a point.
use mathlib.Core.Bool.{Bool, false}
use mathlib.Core.List.{List, Memᴰ, [], ◌∷◌}
use mathlib.Core.Path.{◌≡◌, ap₂, refl, subst, sym}
use Prim.Native.Nat.{◌*◌, ◌<◌, ◌≤◌, max, suc, ℕ}
use native.Mathlib.Decide.{dec_lt}
use native.Mathlib.Nat.{suc-ne-zero}
use native.Mathlib.Omega.{arith}
use lib.Dec.{T, eqb, eqb_refl, eqb→eq}
use lib.ListN.{length}
use Rattle.reading.specs.Maps.{is_skeleton, lacks, same_labels}
use Rattle.morphology.specs.Lists.{greatest, some_of}
use Rattle.morphology.specs.Point.{Point}
use Rattle.morphology.specs.Skeleton.{reconstruction, skeleton_function, skeleton_labels}
use Rattle.morphology.proofs.CountLaws.{greatest_in}
use Rattle.morphology.proofs.LabelLaws.{length-raster}
use Rattle.morphology.proofs.RefusalLaws.{T_of-not, not-T-false}
use Rattle.morphology.proofs.TestLaws.{and_in, and_l, and_r, any_in, any_out}

-- a map is the same as itself
same_refl : (m : List ℕ) → T (same_labels m m)
same_refl [] = tt
same_refl (a ∷ m) = and_in (eqb a a) (same_labels m m) (eqb_refl a) (same_refl m)

-- and as no other
pub same-labels : (m l : List ℕ) → T (same_labels m l) → m ≡ l
same-labels [] [] t = refl
same-labels [] (b ∷ l) t = absurd t
same-labels (a ∷ m) [] t = absurd t
same-labels (a ∷ m) (b ∷ l) t =
    ap₂ (λ (c : ℕ) (k : List ℕ). c ∷ k) (eqb→eq a b (and_l (eqb a b) (same_labels m l) t)) (same-labels m l (and_r (eqb a b) (same_labels m l) t))

-- the test passes only where the map is the skeleton
pub skeleton_is : (W H : ℕ) (B : List Point) (m : List ℕ) → T (is_skeleton W H B m) → m ≡ skeleton_labels W H B (reconstruction W H B 0 m)
unfolding is_skeleton
skeleton_is W H B m t = same-labels m (skeleton_labels W H B (reconstruction W H B 0 m)) t

-- and wherever it is
pub is-skeleton : (W H : ℕ) (B : List Point) (m : List ℕ) → m ≡ skeleton_labels W H B (reconstruction W H B 0 m) → T (is_skeleton W H B m)
unfolding is_skeleton
is-skeleton W H B m e = subst (λ (l : List ℕ). T (same_labels m l)) e (same_refl m)

-- a greatest member that isn't 0 is a member
largest_in : (n : ℕ) (l : List ℕ) → greatest l ≡ suc n → Memᴰ (suc n) l
unfolding greatest
largest_in n [] e = absurd (suc-ne-zero n (sym e))
largest_in n (k ∷ l) e = go (dec_lt (greatest l) k) (largest_in n l)
  where
    go : Dec (greatest l < k) → (greatest l ≡ suc n → Memᴰ (suc n) l) → Memᴰ (suc n) (k ∷ l)
    go (yes h) rest = let q : suc n ≡ k = omega arith in Memᴰ.head q
    go (no h) rest = let q : greatest l ≡ suc n = omega arith in Memᴰ.tail (rest q)

-- the largest size has a point
pub has-largest : (n : ℕ) (m : List ℕ) → greatest m ≡ suc n → lacks m n ≡ false
has-largest n m e = not-T-false (some_of (λ v. eqb v (suc n)) m) (any_in (λ v. eqb v (suc n)) (largest_in n m e) (eqb_refl (suc n)))

-- a size that has a point, and above which there is none, is the largest
pub largest_has : (n : ℕ) (m : List ℕ) → lacks m n ≡ false → greatest m ≤ suc n → greatest m ≡ suc n
largest_has n m e h =
    let r = any_out (λ v. eqb v (suc n)) m (T_of-not (some_of (λ v. eqb v (suc n)) m) e) in
    let q = eqb→eq r.0 (suc n) r.2 in
    let l = greatest_in r.1 in
    omega arith

-- a skeleton's map has a label for each pixel
pub length-labels : (W H : ℕ) (B : List Point) (X : Point → Bool) → length (skeleton_labels W H B X) ≡ W * H
unfolding skeleton_labels
length-labels W H B X = length-raster W H (skeleton_function B X (max W H))
