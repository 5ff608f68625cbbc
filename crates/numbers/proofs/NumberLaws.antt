-- Counters and their bytes, element by element.
use mathlib.Core.Bool.{cond}
use mathlib.Core.List.{List, [], ◌∷◌}
use mathlib.Core.Path.{◌∙◌, ◌≡◌, ap₂, refl}
use Prim.Native.Nat.{◌%◌, ◌*◌, ◌+◌, ◌/◌, ◌<◌, suc, ℕ}
use native.Mathlib.Omega.{arith}
use lib.Dec.{eqb}
use lib.ListN.{get_or, length}
use Rattle.numbers.specs.Numbers.{counter_bytes, counters_of}

-- the number of the bytes 2j and 2j + 1
abbrev pub pair_at : List ℕ → ℕ → ℕ
pair_at s j = get_or s (2 * j) 0 + 256 * get_or s (2 * j + 1) 0

-- byte k of counters
abbrev pub byte_at : List ℕ → ℕ → ℕ
byte_at c k = cond (eqb (k % 2) 0) (get_or c (k / 2) 0 % 256) (get_or c (k / 2) 0 / 256)

pub counters_read : (s l : List ℕ) → length s ≡ 2 * length l → ((j : ℕ) → j < length l → get_or l j 0 ≡ pair_at s j) → l ≡ counters_of s
unfolding counters_of
counters_read [] [] e f = refl
counters_read (a ∷ []) [] e f = absurd (omega arith)
counters_read (a ∷ b ∷ s) [] e f = absurd (omega arith)
counters_read [] (v ∷ l) e f = absurd (omega arith)
counters_read (a ∷ []) (v ∷ l) e f = absurd (omega arith)
counters_read (a ∷ b ∷ s) (v ∷ l) e f =
    ap₂ (λ (n : ℕ) (m : List ℕ). n ∷ m) (f 0 (omega arith))
    (counters_read s l (omega arith)
    (λ j h. f (suc j) (omega arith)
    ∙ ap₂ (λ (p q : ℕ). get_or (a ∷ b ∷ s) p 0 + 256 * get_or (a ∷ b ∷ s) q 0) (twice j) (next j)))
  where
    twice : (j : ℕ) → 2 * suc j ≡ suc (suc (2 * j))
    twice j = omega arith

    next : (j : ℕ) → 2 * suc j + 1 ≡ suc (suc (2 * j + 1))
    next j = omega arith

pub counters-written : (c s : List ℕ) → length s ≡ 2 * length c → ((k : ℕ) → k < length s → get_or s k 0 ≡ byte_at c k) → s ≡ counter_bytes c
unfolding counter_bytes
counters-written [] [] e f = refl
counters-written [] (a ∷ s) e f = absurd (omega arith)
counters-written (n ∷ c) [] e f = absurd (omega arith)
counters-written (n ∷ c) (a ∷ []) e f = absurd (omega arith)
counters-written (n ∷ c) (a ∷ b ∷ s) e f =
    ap₂ (λ (p : ℕ) (m : List ℕ). p ∷ m) (f 0 (omega arith))
    (ap₂ (λ (p : ℕ) (m : List ℕ). p ∷ m) (f 1 (omega arith))
    (counters-written c s (omega arith) (λ k h. f (suc (suc k)) (omega arith) ∙ later k)))
  where
    later : (k : ℕ) → byte_at (n ∷ c) (suc (suc k)) ≡ byte_at c k
    later k =
        let d : suc (suc k) / 2 ≡ suc (k / 2) = omega arith in
        let m : suc (suc k) % 2 ≡ k % 2 = omega arith in
        ap₂ (λ (p q : ℕ). cond (eqb p 0) (get_or (n ∷ c) q 0 % 256) (get_or (n ∷ c) q 0 / 256)) m d
