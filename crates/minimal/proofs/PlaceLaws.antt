-- Places without a label, block by block and one by one.
use mathlib.Core.Bool.{false}
use mathlib.Core.List.{List, [], ◌∷◌}
use mathlib.Core.Path.{◌∙◌, ◌≡◌, ap, subst, sym}
use Prim.Native.Nat.{◌+◌, ◌-◌, ◌<◌, ◌≤◌, suc, zero, ℕ}
use native.Mathlib.Decide.{dec_lt}
use native.Mathlib.Omega.{arith}
use borrow.Author.Tests.{eq-eqb}
use lib.Dec.{T, eqb}
use lib.ListN.{drop, get_or, length, length-drop, take}
use lib.Seq.{get_or-drop, get_or-take, length-take-le}
use Rattle.morphology.specs.Lists.{greatest, some_of}
use Rattle.morphology.proofs.RefusalLaws.{or-out-false}
use Rattle.minimal.specs.Sizes.{Without}

unseen : (v : ℕ) (l : List ℕ) (j : ℕ) → some_of (λ b. eqb b v) l ≡ false → j < length l → get_or l j 0 ≡ v → ⊥
unseen v [] j e h q = omega arith
unseen v (b ∷ l) zero e h q = subst T (or-out-false (eqb b v) (some_of (λ b. eqb b v) l) e).0 (subst T (sym (eq-eqb b v q)) tt)
unseen v (b ∷ l) (suc j) e h q = unseen v l j (or-out-false (eqb b v) (some_of (λ b. eqb b v) l) e).1 (omega arith) q

-- a block of k = n places
pub without_block : (v i n k : ℕ) (m : List ℕ) → k ≡ n → i + n ≤ length m → some_of (λ b. eqb b v) (take k (drop i m)) ≡ false → Without v i (i + n) m
without_block v i n k m e h z j lo hi q =
    let l : i + (j - i) ≡ j = omega arith in
    let t : j - i < k = omega arith in
    let s : length (take k (drop i m)) ≡ k = length-take-le k (drop i m) (omega (arith, length-drop i m)) in
    unseen v (take k (drop i m)) (j - i) z (omega (arith, s)) (get_or-take k (drop i m) (j - i) 0 t ∙ get_or-drop i m (j - i) 0 ∙ ap (λ (x : ℕ). get_or m x 0) l ∙ q)

-- ---- the largest label

some-label : (b : ℕ) (m : List ℕ) → b < greatest m → 0 < length m
unfolding greatest
some-label b [] l = omega arith
some-label b (v ∷ m) l = omega arith

greatest_met : (m : List ℕ) → 0 < length m → ((j : ℕ) → j < length m → get_or m j 0 ≡ greatest m → ⊥) → ⊥
unfolding greatest
greatest_met [] h f = omega arith
greatest_met (b ∷ m) h f = by (dec_lt b (greatest m)) (λ l. greatest_met m (some-label b m l) (λ j k q. f (suc j) (omega arith) (omega arith)))
  where
    by : Dec (b < greatest m) → (b < greatest m → ⊥) → ⊥
    by (no l) g = f 0 h (omega arith)
    by (yes l) g = g l

pub tallest-place : (m : List ℕ) (v i : ℕ) → 0 < length m → v ≡ greatest m → Without v 0 i m → i ≤ length m → (i < length m → get_or m i 0 ≡ v) → (i < length m)
    × (get_or m i 0 ≡ greatest m)
tallest-place m v i h e w l f = by (dec_lt i (length m))
  where
    by : Dec (i < length m) → (i < length m) × (get_or m i 0 ≡ greatest m)
    by (yes k) = (k, f k ∙ e)
    by (no k) = absurd (greatest_met m h (λ j d q. w j (omega arith) (omega arith) (q ∙ sym e)))
