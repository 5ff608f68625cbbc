-- Integers written as differences, and whether they lie on a side.
use mathlib.Core.Path.{◌∙◌, ◌≡◌, ap, refl, sym}
use mathlib.Core.Bool.{Bool, cond, false, true}
use Prim.Native.Nat.{◌+◌, ◌-◌, ◌<◌, ◌≤◌, suc, ℕ}
use native.Mathlib.Omega.{arith}
use lib.Dec.{ltb}
use borrow.Author.Tests.{le-ltb, lt-ltb, ltb-false, ltb-true}
use lib.IntN.{◌+ℤ◌, negsuc, pos, sub_ℕ}
use Rattle.morphology.specs.Image.{inside}

-- an integer written as a difference
pub pos_sub : (x a b : ℕ) → pos x +ℤ sub_ℕ a b ≡ sub_ℕ (x + a) b
pos_sub x a b = go (ltb a b) refl (ltb (x + a) b) refl
  where
    go : (t : Bool) → ltb a b ≡ t → (u : Bool) → ltb (x + a) b ≡ u
        → pos x +ℤ cond t (negsuc (b - suc a)) (pos (a - b)) ≡ cond u (negsuc (b - suc (x + a))) (pos (x + a - b))
    go true p true q =
        let h = ltb-true (x + a) b q in
        let e : b - suc (x + a) ≡ suc (b - suc a) - suc x = omega arith in
        ap (λ (t : Bool). cond t (negsuc (suc (b - suc a) - suc x)) (pos (x - suc (b - suc a)))) (lt-ltb x (suc (b - suc a)) (omega arith)) ∙ ap negsuc (sym e)
    go true p false q =
        let h = ltb-false (x + a) b q in
        let h' = ltb-true a b p in
        let e : x - suc (b - suc a) ≡ x + a - b = omega arith in
        ap (λ (t : Bool). cond t (negsuc (suc (b - suc a) - suc x)) (pos (x - suc (b - suc a)))) (le-ltb x (suc (b - suc a)) (omega arith)) ∙ ap pos e
    go false p true q = absurd (omega (arith, ltb-false a b p, ltb-true (x + a) b q))
    go false p false q = let h = ltb-false a b p in let e : x + (a - b) ≡ x + a - b = omega arith in ap pos e

pub inside_sub : (W a b : ℕ) → b ≤ a → inside W (sub_ℕ a b) ≡ ltb (a - b) W
inside_sub W a b h = ap (λ (t : Bool). inside W (cond t (negsuc (b - suc a)) (pos (a - b)))) (le-ltb a b h)

pub outside_sub : (W a b : ℕ) → a < b → inside W (sub_ℕ a b) ≡ false
outside_sub W a b h = ap (λ (t : Bool). inside W (cond t (negsuc (b - suc a)) (pos (a - b)))) (lt-ltb a b h)
