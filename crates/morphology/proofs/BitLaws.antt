-- One bit of a number, and what the bit operations do to it.
use mathlib.Core.Path.{◌∙◌, ◌≡◌, ap, refl}
use mathlib.Core.Bool.{◌&&◌, ◌||◌, xor}
use Prim.Native.Nat.{◌%◌, ◌*◌, ◌+◌, ◌/◌, ◌<◌, ◌^◌, max, min, suc, zero, ℕ}
use native.Mathlib.Nat.{le_of_suc-le-suc, mod-lt, not-suc-le-zero, zero-lt-suc}
use native.Mathlib.Omega.{arith}
use lib.Bits.{and_shr, and_step, bit_and, bit_or, bit_xor, differ, or_shr, or_step, xor_shr, xor_step}
use lib.Dec.{eqb}
use Rattle.morphology.specs.Element.{bit}

-- the lowest bit of the three operations
low_and : (a b : ℕ) → bit_and a b % 2 ≡ min (a % 2) (b % 2)
low_and a b = rw and_step (omega (arith, mod-lt a (zero-lt-suc 1)))

low_or : (a b : ℕ) → bit_or a b % 2 ≡ max (a % 2) (b % 2)
low_or a b = rw or_step (omega (arith, mod-lt a (zero-lt-suc 1)))

-- a law of two binary digits, by its four cases
digit2 : (P : ℕ → ℕ → Type 0) → P 0 0 → P 0 1 → P 1 0 → P 1 1 → (u v : ℕ) → u < 2 → v < 2 → P u v
digit2 P a b c d zero zero hu hv = a
digit2 P a b c d zero (suc zero) hu hv = b
digit2 P a b c d (suc zero) zero hu hv = c
digit2 P a b c d (suc zero) (suc zero) hu hv = d
digit2 P a b c d zero (suc (suc v)) hu hv = absurd (not-suc-le-zero (le_of_suc-le-suc (le_of_suc-le-suc hv)))
digit2 P a b c d (suc zero) (suc (suc v)) hu hv = absurd (not-suc-le-zero (le_of_suc-le-suc (le_of_suc-le-suc hv)))
digit2 P a b c d (suc (suc u)) v hu hv = absurd (not-suc-le-zero (le_of_suc-le-suc (le_of_suc-le-suc hu)))

low-xor : (a b : ℕ) → bit_xor a b % 2 ≡ differ (a % 2) (b % 2)
low-xor a b =
    rw xor_step
    (digit2 (λ u v. (bit_xor (a / 2) (b / 2) * 2 + differ u v) % 2 ≡ differ u v) (omega arith) (omega arith) (omega arith) (omega arith)
    (a % 2) (b % 2) (mod-lt a (zero-lt-suc 1)) (mod-lt b (zero-lt-suc 1)))

-- a digit that is not 0
pub odd : (n : ℕ) → (n % 2 ≡ 0 → ⊥) → n % 2 ≡ 1
odd n f = by (n % 2) refl
  where
    by : (d : ℕ) → n % 2 ≡ d → n % 2 ≡ 1
    by zero z = absurd (f z)
    by (suc d) z = omega arith

pub bit-and : (a b k : ℕ) → bit (bit_and a b) k ≡ (bit a k && bit b k)
bit-and a b k =
    ap (λ (n : ℕ). eqb (n % 2) 1) (and_shr a b k) ∙ ap (λ (n : ℕ). eqb n 1) (low_and (a / 2 ^ k) (b / 2 ^ k))
    ∙ digit2 (λ u v. eqb (min u v) 1 ≡ (eqb u 1 && eqb v 1)) refl refl refl refl
    (a / 2 ^ k % 2) (b / 2 ^ k % 2) (mod-lt (a / 2 ^ k) (zero-lt-suc 1)) (mod-lt (b / 2 ^ k) (zero-lt-suc 1))

pub bit-or : (a b k : ℕ) → bit (bit_or a b) k ≡ (bit a k || bit b k)
bit-or a b k =
    ap (λ (n : ℕ). eqb (n % 2) 1) (or_shr a b k) ∙ ap (λ (n : ℕ). eqb n 1) (low_or (a / 2 ^ k) (b / 2 ^ k))
    ∙ digit2 (λ u v. eqb (max u v) 1 ≡ (eqb u 1 || eqb v 1)) refl refl refl refl
    (a / 2 ^ k % 2) (b / 2 ^ k % 2) (mod-lt (a / 2 ^ k) (zero-lt-suc 1)) (mod-lt (b / 2 ^ k) (zero-lt-suc 1))

pub bit-xor : (a b k : ℕ) → bit (bit_xor a b) k ≡ xor (bit a k) (bit b k)
unfolding xor
bit-xor a b k =
    ap (λ (n : ℕ). eqb (n % 2) 1) (xor_shr a b k) ∙ ap (λ (n : ℕ). eqb n 1) (low-xor (a / 2 ^ k) (b / 2 ^ k))
    ∙ digit2 (λ u v. eqb (differ u v) 1 ≡ xor (eqb u 1) (eqb v 1)) refl refl refl refl
    (a / 2 ^ k % 2) (b / 2 ^ k % 2) (mod-lt (a / 2 ^ k) (zero-lt-suc 1)) (mod-lt (b / 2 ^ k) (zero-lt-suc 1))
