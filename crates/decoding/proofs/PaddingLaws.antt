-- What follows a symbol in a stream is padding or not, told by the byte that holds the symbol.
use mathlib.Core.Bool.{Bool, ◌&&◌, and-false, and-true, false, true}
use mathlib.Core.List.{List, [], ◌∷◌}
use mathlib.Core.Path.{◌∙◌, ◌≡◌, ap, ap₂, refl, subst, sym}
use Prim.Native.Nat.{◌%◌, ◌*◌, ◌+◌, ◌-◌, ◌/◌, ◌<◌, ◌^◌, ◌≤◌, suc, zero, ℕ}
use native.Mathlib.Omega.{arith}
use borrow.Author.Tests.{le-ltb}
use lib.Dec.{T, eqb, eqb→eq}
use lib.ListN.{drop, drop_of_length-le, get_or, length, length-drop}
use Rattle.coding.specs.Symbols.{comma, symbols_of}
use Rattle.coding.proofs.PackLaws.{length_symbols}
use Rattle.morphology.specs.Lists.{every_of}
use Rattle.morphology.proofs.TestLaws.{T_ext, and_in, and_l, and_r}
use Rattle.reading.specs.Splits.{is_padding}

-- nothing follows past the stream
pub padding-past : (bytes : List ℕ) (at : ℕ) → length bytes ≤ at / 4 → true ≡ is_padding (drop at (symbols_of bytes))
padding-past bytes at h = sym (ap is_padding (drop_of_length-le (symbols_of bytes) (omega (arith, length_symbols bytes))))

-- four symbols or more are no padding
pub padding_long : (bytes : List ℕ) (at : ℕ) → at + 4 ≤ length bytes * 4 → false ≡ is_padding (drop at (symbols_of bytes))
padding_long bytes at h =
    let s = drop at (symbols_of bytes) in
    let zeros = every_of (λ a. eqb a comma) s in
    sym (ap (λ (b : Bool). zeros && b) (le-ltb (length s) 4 (omega (arith, length-drop at (symbols_of bytes), length_symbols bytes))) ∙ and-false zeros)

-- the low symbols n of a byte are 0 where the first of them, a, is, and those after it, m, are
zero_more : (n a m : ℕ) {b : Bool} → (n ≡ 0 → (a ≡ 0) × (m ≡ 0)) → (a ≡ 0 → m ≡ 0 → n ≡ 0) → eqb m 0 ≡ b → eqb n 0 ≡ (eqb a 0 && b)
zero_more n a m {b} f g e =
    T_ext
    (λ t.
    let r = f (eqb→eq n 0 t) in
    and_in (eqb a 0) b (subst (λ (k : ℕ). T (eqb k 0)) (sym r.0) tt) (subst T e (subst (λ (k : ℕ). T (eqb k 0)) (sym r.1) tt)))
    (λ t.
    let r = g (eqb→eq a 0 (and_l (eqb a 0) b t)) (eqb→eq m 0 (subst T (sym e) (and_r (eqb a 0) b t))) in
    subst (λ (k : ℕ). T (eqb k 0)) (sym r) tt)

-- the last symbol, the last two and the last three of a byte
low_one : (v : ℕ) → eqb (v % 4) 0 ≡ every_of (λ a. eqb a comma) (v % 4 ∷ [])
low_one v = sym (and-true (eqb (v % 4) 0))

low_two : (v : ℕ) → eqb (v % 16) 0 ≡ every_of (λ a. eqb a comma) (v / 4 % 4 ∷ v % 4 ∷ [])
low_two v = zero_more (v % 16) (v / 4 % 4) (v % 4) (λ e. (omega arith, omega arith)) (λ e g. omega arith) (low_one v)

low_three : (v : ℕ) → eqb (v % 64) 0 ≡ every_of (λ a. eqb a comma) (v / 16 % 4 ∷ v / 4 % 4 ∷ v % 4 ∷ [])
low_three v = zero_more (v % 64) (v / 16 % 4) (v % 16) (λ e. (omega arith, omega arith)) (λ e g. omega arith) (low_two v)

-- the bits of the symbols after the first of a byte
pub padding-bits : (at : ℕ) → (at % 4 ≡ 0 → ⊥) → 0 < 1 * 2 ^ (8 - 2 * (at % 4)) % 256
padding-bits at f = by (at % 4) (omega arith) f
  where
    by : (k : ℕ) → k < 4 → (k ≡ 0 → ⊥) → 0 < 1 * 2 ^ (8 - 2 * k) % 256
    by zero h f = absurd (f refl)
    by (suc zero) h f = omega arith
    by (suc (suc zero)) h f = omega arith
    by (suc (suc (suc zero))) h f = omega arith
    by (suc (suc (suc (suc k)))) h f = absurd (omega arith)

-- within the last byte: its low bits are 0
pub padding_last : (bytes : List ℕ) (at : ℕ) → (at % 4 ≡ 0 → ⊥) → at / 4 + 1 ≡ length bytes
    → eqb (get_or bytes (at / 4) 0 % (1 * 2 ^ (8 - 2 * (at % 4)) % 256)) 0 ≡ is_padding (drop at (symbols_of bytes))
unfolding symbols_of
padding_last [] at f e = absurd (omega arith)
padding_last (v ∷ bytes) zero f e = absurd (f refl)
padding_last (v ∷ []) (suc zero) f e = low_three v ∙ sym (and-true _)
padding_last (v ∷ []) (suc (suc zero)) f e = low_two v ∙ sym (and-true _)
padding_last (v ∷ []) (suc (suc (suc zero))) f e = low_one v ∙ sym (and-true _)
padding_last (v ∷ u ∷ bytes) (suc zero) f e = absurd (omega arith)
padding_last (v ∷ u ∷ bytes) (suc (suc zero)) f e = absurd (omega arith)
padding_last (v ∷ u ∷ bytes) (suc (suc (suc zero))) f e = absurd (omega arith)
padding_last (v ∷ bytes) (suc (suc (suc (suc at)))) f e =
    let p : suc (suc (suc (suc at))) / 4 ≡ suc (at / 4) = omega arith in
    let q : suc (suc (suc (suc at))) % 4 ≡ at % 4 = omega arith in
    ap₂ (λ (a b : ℕ). eqb (get_or (v ∷ bytes) a 0 % (1 * 2 ^ (8 - 2 * b) % 256)) 0) p q ∙ padding_last bytes at (λ z. f (q ∙ z)) (omega arith)
