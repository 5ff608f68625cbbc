-- Base-3 numerals: one digit below 3, and else the digits of a third and the lowest.
use mathlib.Core.Bool.{Bool, cond, false, true}
use mathlib.Core.List.{List, [], ◌++◌, ◌∷◌, append_assoc}
use mathlib.Core.Path.{◌∙◌, ◌≡◌, ap, refl, sym}
use Prim.Native.Nat.{◌%◌, ◌/◌, ◌<◌, ◌≤◌, suc, zero, ℕ}
use native.Mathlib.Nat.{not-suc-le-zero}
use native.Mathlib.Numerals.{add-one}
use native.Mathlib.Omega.{arith}
use borrow.Author.Tests.{le-ltb, lt-ltb, ltb-false, ltb-true}
use lib.Dec.{ltb}
use lib.ListN.{length, length-append}
use Rattle.coding.specs.Symbols.{numeral, numeral_before}

-- more fuel changes nothing
pub enough : (f g n : ℕ) (ds : List ℕ) → n < f → n < g → numeral_before f n ds ≡ numeral_before g n ds
unfolding numeral_before
enough zero g n ds h k = absurd (not-suc-le-zero h)
enough (suc f) zero n ds h k = absurd (not-suc-le-zero k)
enough (suc f) (suc g) n ds h k = go (enough f g (n / 3) (n % 3 ∷ ds)) (ltb n 3) refl
  where
    go : (n / 3 < f → n / 3 < g → numeral_before f (n / 3) (n % 3 ∷ ds) ≡ numeral_before g (n / 3) (n % 3 ∷ ds)) → (b : Bool) → ltb n 3 ≡ b
        → cond b (n ∷ ds) (numeral_before f (n / 3) (n % 3 ∷ ds)) ≡ cond b (n ∷ ds) (numeral_before g (n / 3) (n % 3 ∷ ds))
    go rest true q = refl
    go rest false q = let l = ltb-false n 3 q in rest (omega arith) (omega arith)

pub single : (f n : ℕ) (ds : List ℕ) → n < 3 → numeral_before (suc f) n ds ≡ n ∷ ds
unfolding numeral_before
single f n ds h = ap (λ (b : Bool). cond b (n ∷ ds) (numeral_before f (n / 3) (n % 3 ∷ ds))) (lt-ltb n 3 h)

-- ---- the lowest digit

before_append : (f n : ℕ) (ds : List ℕ) → n < f → numeral_before f n ds ≡ numeral_before f n [] ++ ds
unfolding numeral_before
before_append zero n ds h = absurd (not-suc-le-zero h)
before_append (suc f) n ds h = go (ltb n 3) refl (before_append f (n / 3) (n % 3 ∷ ds)) (before_append f (n / 3) (n % 3 ∷ []))
  where
    go : (b : Bool) → ltb n 3 ≡ b
        → (n / 3 < f → numeral_before f (n / 3) (n % 3 ∷ ds) ≡ numeral_before f (n / 3) [] ++ (n % 3 ∷ ds))
        → (n / 3 < f → numeral_before f (n / 3) (n % 3 ∷ []) ≡ numeral_before f (n / 3) [] ++ (n % 3 ∷ []))
        → cond b (n ∷ ds) (numeral_before f (n / 3) (n % 3 ∷ ds)) ≡ cond b (n ∷ []) (numeral_before f (n / 3) (n % 3 ∷ [])) ++ ds
    go true q x y = refl
    go false q x y =
        let l = ltb-false n 3 q in
        let k : n / 3 < f = omega arith in
        x k ∙ sym (append_assoc (numeral_before f (n / 3) []) (n % 3 ∷ []) ds) ∙ ap (λ (l : List ℕ). l ++ ds) (sym (y k))

pub numeral-small : (n : ℕ) → n < 3 → numeral n ≡ n ∷ []
unfolding numeral
numeral-small n h = single n n [] h

pub numeral_third : (n : ℕ) → 3 ≤ n → numeral n ≡ numeral (n / 3) ++ (n % 3 ∷ [])
unfolding numeral numeral_before
numeral_third n h =
    ap (λ (b : Bool). cond b (n ∷ []) (numeral_before n (n / 3) (n % 3 ∷ []))) (le-ltb n 3 h)
    ∙ enough n (suc (n / 3)) (n / 3) (n % 3 ∷ []) (omega arith) (omega arith)
    ∙ before_append (suc (n / 3)) (n / 3) (n % 3 ∷ []) (omega arith)

-- two digits below 9
pub numeral_two : (n : ℕ) → 3 ≤ n → n < 9 → numeral n ≡ n / 3 ∷ n % 3 ∷ []
numeral_two n h k = numeral_third n h ∙ ap (λ (ds : List ℕ). ds ++ (n % 3 ∷ [])) (numeral-small (n / 3) (omega arith))

-- ---- how many digits

pub length-small : (n : ℕ) → n < 3 → length (numeral n) ≡ 1
length-small n h = ap length (numeral-small n h)

pub length_third : (n : ℕ) → 3 ≤ n → length (numeral n) ≡ suc (length (numeral (n / 3)))
length_third n h = ap length (numeral_third n h) ∙ length-append (numeral (n / 3)) (n % 3 ∷ []) ∙ add-one (length (numeral (n / 3)))

pub length_two : (n : ℕ) → 3 ≤ n → n < 9 → length (numeral n) ≡ 2
length_two n h k = ap length (numeral_two n h k)

pub length_le : (n : ℕ) → length (numeral n) ≤ suc n
length_le n = go (suc n) n (omega arith)
  where
    go : (f n : ℕ) → n < f → length (numeral n) ≤ suc n
    go zero n h = absurd (not-suc-le-zero h)
    go (suc f) n h = by (ltb n 3) refl (go f (n / 3))
      where
        by : (b : Bool) → ltb n 3 ≡ b → (n / 3 < f → length (numeral (n / 3)) ≤ suc (n / 3)) → length (numeral n) ≤ suc n
        by true q rest = let l = ltb-true n 3 q in omega (arith, length-small n l)
        by false q rest = let l = ltb-false n 3 q in omega (arith, length_third n l, rest (omega arith))

pub length_pos : (n : ℕ) → 0 < length (numeral n)
length_pos n = by (ltb n 3) refl
  where
    by : (b : Bool) → ltb n 3 ≡ b → 0 < length (numeral n)
    by true q = omega (arith, length-small n (ltb-true n 3 q))
    by false q = omega (arith, length_third n (ltb-false n 3 q))
