-- Words with no three background pixels side by side: every run but the first has one digit.
use mathlib.Core.Bool.{Bool, ◌&&◌, cond, false, not, true, xor}
use mathlib.Core.List.{List, [], ◌++◌, ◌∷◌}
use mathlib.Core.Logic.{◌⊎◌, inl, inr}
use mathlib.Core.Path.{◌∙◌, ◌≡◌, ap, ap₂, refl, subst, sym}
use Prim.Native.Nat.{◌%◌, ◌*◌, ◌+◌, ◌-◌, ◌/◌, ◌<◌, ◌^◌, ◌≤◌, suc, zero, ℕ}
use native.Mathlib.Nat.{div-eq_of_lt, lt_irrefl, mod-eq_of_lt, mod-lt, mod-one, pow-suc, zero-lt-suc}
use native.Mathlib.Omega.{arith}
use lib.Bits.{bit_and, bit_xor}
use lib.Count.{leading_le, leading_unique, count_leading_zeros, ones, ones-le, count_trailing_zeros, under}
use lib.Dec.{T, eqb, eqb→eq, ltb, ltb→lt, nltb→le}
use lib.ListN.{length, length-append, length-map}
use lib.Pow.{high}
use Rattle.coding.specs.Symbols.{comma, digit_symbols, numeral}
use Rattle.coding.specs.Writing.{runs_symbols}
use Rattle.coding.proofs.NumeralLaws.{length_le, length-small}
use Rattle.morphology.specs.Element.{bit}
use Rattle.morphology.proofs.BitLaws.{bit-and, bit-xor}
use Rattle.sections.specs.Kinds.{Kind, count_after, kind, runs_of}
use Rattle.sections.specs.Words.{Dense, word_kinds}
use Rattle.sections.proofs.KindLaws.{count_parts_lem}
use Rattle.sections.proofs.WordLaws.{bit_high, bit-ones, bit-zero, ones_digit, ones-top}

-- ---- the test

false-true : false ≡ true → ⊥
false-true e = subst (λ (b : Bool). cond b ⊥ (T true)) e tt

-- `ink ^ u64::MAX`
abbrev gaps : ℕ → ℕ
gaps ink = bit_xor ink (2 ^ 64 - 1)

gap-bit : (ink i : ℕ) → i < 64 → bit ink i ≡ false → bit (gaps ink) i ≡ true
unfolding xor
gap-bit ink i l e = bit-xor ink (2 ^ 64 - 1) i ∙ ap₂ xor e (bit-ones 64 i l)

pub dense_test : (ink : ℕ) → T (eqb (bit_and (bit_and (gaps ink) (gaps ink / 2 ^ 1)) (gaps ink / 2 ^ 2)) 0) → Dense 64 ink
dense_test ink t i l a b c =
    let z = eqb→eq (bit_and (bit_and (gaps ink) (gaps ink / 2 ^ 1)) (gaps ink / 2 ^ 2)) 0 t in
    let g = gaps ink in
    let here : bit (bit_and (bit_and g (g / 2 ^ 1)) (g / 2 ^ 2)) i ≡ true =
    bit-and (bit_and g (g / 2 ^ 1)) (g / 2 ^ 2) i
    ∙ ap₂ (λ (x y : Bool). x && y)
    (bit-and g (g / 2 ^ 1) i ∙ ap₂ (λ (x y : Bool). x && y) (gap-bit ink i (omega arith) a) (bit_high g 1 i ∙ gap-bit ink (i + 1) (omega arith) b))
    (bit_high g 2 i ∙ gap-bit ink (i + 2) l c) in
    false-true (sym (bit-zero i) ∙ ap (λ (x : ℕ). bit x i) (sym z) ∙ here)

-- ---- pixels under no mask

-- the highest first
kinds-high : (m v : ℕ) → word_kinds (suc m) v 0 ≡ kind false (bit v m) ∷ word_kinds m v 0
unfolding word_kinds
kinds-high m v = ap (λ (b : Bool). kind b (bit v m) ∷ word_kinds m v 0) (bit-zero m)

-- the lowest last
kinds_low : (m v : ℕ) → word_kinds (suc m) v 0 ≡ word_kinds m (v / 2) 0 ++ kind false (bit v 0) ∷ []
unfolding word_kinds
kinds_low zero v = kinds-high zero v
kinds_low (suc m) v =
    let e : suc m ≡ m + 1 = omega arith in
    kinds-high (suc m) v ∙ ap₂ (λ (b : Bool) (l : List Kind). kind false b ∷ l) (ap (bit v) e ∙ sym (bit_high v 1 m)) (kinds_low m v)
    ∙ ap (λ (l : List Kind). l ++ kind false (bit v 0) ∷ []) (sym (kinds-high m (v / 2)))

-- ---- the zeros above the highest point

unfoldable lead : ℕ → ℕ → ℕ
lead zero v = zero
lead (suc m) v = cond (bit v m) zero (suc (lead m v))

lead_one : (m v : ℕ) → bit v m ≡ true → lead (suc m) v ≡ 0
unfolding lead
lead_one m v e = ap (λ (b : Bool). cond b zero (suc (lead m v))) e

lead_zero : (m v : ℕ) → bit v m ≡ false → lead (suc m) v ≡ suc (lead m v)
unfolding lead
lead_zero m v e = ap (λ (b : Bool). cond b zero (suc (lead m v))) e

by_bit : {P : Type 0} (b : Bool) → (b ≡ true → P) → (b ≡ false → P) → P
by_bit true f g = f refl
by_bit false f g = g refl

lead_le : (m v : ℕ) → lead m v ≤ m
unfolding lead
lead_le zero v = omega arith
lead_le (suc m) v =
    by_bit (bit v m) (λ e. omega (arith, lead_one m v e)) (λ e. omega (arith, lead_zero m v e, lead_le m v))

-- at most two of them
lead-small : (m v : ℕ) → Dense m v → lead m v < 3
lead-small zero v d = omega (arith, lead_le 0 v)
lead-small (suc zero) v d = omega (arith, lead_le 1 v)
lead-small (suc (suc zero)) v d = omega (arith, lead_le 2 v)
lead-small (suc (suc (suc m))) v d =
    let e : suc m ≡ m + 1 = omega arith in
    let f : suc (suc m) ≡ m + 2 = omega arith in
    by_bit (bit v (suc (suc m))) (λ p. omega (arith, lead_one (suc (suc m)) v p))
    (λ p. by_bit (bit v (suc m)) (λ q. omega (arith, lead_zero (suc (suc m)) v p, lead_one (suc m) v q))
    (λ q. by_bit (bit v m) (λ r. omega (arith, lead_zero (suc (suc m)) v p, lead_zero (suc m) v q, lead_one m v r))
    (λ r. absurd (d m (omega arith) r (ap (bit v) (sym e) ∙ q) (ap (bit v) (sym f) ∙ p)))))

-- the length of a number of m digits
lead-length : (m v : ℕ) → v < 2 ^ m → (n : ℕ) × (lead m v + n ≡ m) × (v < 2 ^ n) × (2 ^ n ≤ 2 * v + 1)
unfolding lead
lead-length zero v l = (zero, refl, l, omega arith)
lead-length (suc m) v l =
    by_bit (ltb v (2 ^ m)) (λ e. let g = ltb→lt v (2 ^ m) (subst T (sym e) tt) in below g (lead-length m v g))
    (λ e. above (nltb→le v (2 ^ m) (subst (λ (b : Bool). T (not b)) (sym e) tt)))
  where
    above : 2 ^ m ≤ v → (n : ℕ) × (lead (suc m) v + n ≡ suc m) × (v < 2 ^ n) × (2 ^ n ≤ 2 * v + 1)
    above g =
        let e : v ≡ 1 * 2 ^ m + (v - 2 ^ m) = omega arith in
        let one : v / 2 ^ m ≡ 1 = ap (λ (x : ℕ). x / 2 ^ m) e ∙ high 1 m (omega (arith, pow-suc 2 m)) in
        (suc m, omega (arith, lead_one m v (ap (λ (x : ℕ). eqb (x % 2) 1) one)), l, omega (arith, pow-suc 2 m))

    below : v < 2 ^ m → (n : ℕ) × (lead m v + n ≡ m) × (v < 2 ^ n) × (2 ^ n ≤ 2 * v + 1)
        → (n : ℕ) × (lead (suc m) v + n ≡ suc m) × (v < 2 ^ n) × (2 ^ n ≤ 2 * v + 1)
    below g t = (t.0, omega (arith, t.1, lead_zero m v (ap (λ (x : ℕ). eqb (x % 2) 1) (div-eq_of_lt g))), t.2, t.3)

lead_is : (v : ℕ) → v < 2 ^ 64 → lead 64 v ≡ count_leading_zeros 64 v
lead_is v l = let t = lead-length 64 v l in leading_unique 64 v (lead 64 v) t.0 t.1 t.2 t.3

-- ---- the symbols

abbrev size : ℕ → ℕ → ℕ → ℕ
size k m v = length (runs_symbols (runs_of k (word_kinds m v 0)))

size_one : (k m v : ℕ) → bit v m ≡ true → size k (suc m) v ≡ length (numeral k) + 1 + size 0 m v
unfolding runs_of runs_symbols
size_one k m v e =
    let rs = runs_symbols (runs_of 0 (word_kinds m v 0)) in
    ap (λ (l : List Kind). length (runs_symbols (runs_of k l))) (kinds-high m v ∙ ap (λ (b : Bool). kind false b ∷ word_kinds m v 0) e)
    ∙ omega (arith, length-append (digit_symbols (numeral k)) (comma ∷ rs), length-map (numeral k) suc)

size-zero : (k m v : ℕ) → bit v m ≡ false → size k (suc m) v ≡ size (suc k) m v
unfolding runs_of
size-zero k m v e =
    ap (λ (l : List Kind). length (runs_symbols (runs_of k l))) (kinds-high m v ∙ ap (λ (b : Bool). kind false b ∷ word_kinds m v 0) e)

-- the highest digit by its bit
digit_one : (x : ℕ) → eqb x 1 ≡ true → x ≡ 1
digit_one x e = eqb→eq x 1 (subst T (sym e) tt)

digit-zero : (x : ℕ) → x < 2 → eqb x 1 ≡ false → x ≡ 0
digit-zero zero l e = refl
digit-zero (suc zero) l e = absurd (false-true (sym e))
digit-zero (suc (suc x)) l e = absurd (lt_irrefl 2 (omega arith))

-- two for each run, but for the digits of the first; or there is no point
abbrev Sized : ℕ → ℕ → ℕ → Type 0
Sized k m v =
    ((0 < ones (v % 2 ^ m)) × (size k m v + 1 ≡ length (numeral (k + lead m v)) + 2 * ones (v % 2 ^ m)))
    ⊎ ((lead m v ≡ m) × (size k m v ≡ 0) × (ones (v % 2 ^ m) ≡ 0))

sized : (k m v : ℕ) → Dense m v → Sized k m v
unfolding lead word_kinds runs_of runs_symbols
sized k zero v d = inr (refl, refl, ap ones (mod-one v) ∙ ones_digit 0 (omega arith))
sized k (suc m) v d = by_bit (bit v m) (λ e. one e (sized 0 m v below)) (λ e. none e (sized (suc k) m v below))
  where
    below : Dense m v
    below i l = d i (omega arith)

    one : bit v m ≡ true → Sized 0 m v → Sized k (suc m) v
    one e s =
        let twice : size 0 m v ≡ 2 * ones (v % 2 ^ m) = rest s in
        let t = ones-top m v in
        let b = digit_one (v / 2 ^ m % 2) e in
        let f : k + lead (suc m) v ≡ k = omega (arith, lead_one m v e) in
        inl (omega (arith, t, b), omega (arith, size_one k m v e, t, b, twice, ap (λ (x : ℕ). length (numeral x)) f))
      where
        rest : Sized 0 m v → size 0 m v ≡ 2 * ones (v % 2 ^ m)
        rest (inl p) = omega (arith, p.1, length-small (0 + lead m v) (omega (arith, lead-small m v below)))
        rest (inr p) = omega (arith, p.1, p.2)

    none : bit v m ≡ false → Sized (suc k) m v → Sized k (suc m) v
    none e s = go s
      where
        digit : v / 2 ^ m % 2 ≡ 0
        digit = digit-zero (v / 2 ^ m % 2) (mod-lt (v / 2 ^ m) (zero-lt-suc 1)) e

        go : Sized (suc k) m v → Sized k (suc m) v
        go (inl p) =
            let f : k + lead (suc m) v ≡ suc k + lead m v = omega (arith, lead_zero m v e) in
            inl (
              omega (arith, p.0, ones-top m v, digit),
              omega (arith, p.1, size-zero k m v e, ones-top m v, digit, ap (λ (x : ℕ). length (numeral x)) f),
            )
        go (inr p) = inr (
          omega (arith, p.0, lead_zero m v e),
          omega (arith, p.1, size-zero k m v e),
          omega (arith, p.2, ones-top m v, digit),
        )

-- a dense word of 64 pixels
abbrev pub DenseMeasured : ℕ → ℕ → Type 0
DenseMeasured k v = (0 < ones v) × (size k 64 v + 1 ≡ length (numeral (k + count_leading_zeros 64 v)) + 2 * ones v)

module _ (k v : ℕ) (dense : Dense 64 v) (fits : v < 2 ^ 64) where
  -- few enough symbols for the code's numbers
  pub dense-few : (d : ℕ) → d ≡ length (numeral (k + count_leading_zeros 64 v)) → k < 2 ^ 24 → d + 2 * ones v < 20000000
  dense-few d e l = omega (arith, e, length_le (k + count_leading_zeros 64 v), leading_le 64 v, ones-le 64 v fits)

  pub dense-size : DenseMeasured k v
  dense-size = by (sized k 64 v dense)
    where
      by : Sized k 64 v → DenseMeasured k v
      by (inl p) =
          let e = ap ones (mod-eq_of_lt fits) in
          (omega (arith, p.0, e), omega (arith, p.1, e, ap (λ (x : ℕ). length (numeral (k + x))) (lead_is v fits)))
      by (inr p) = absurd (lt_irrefl 3 (omega (arith, p.0, lead-small 64 v dense)))

  dense_pos : 0 < v
  dense_pos = by v refl
    where
      by : (x : ℕ) → v ≡ x → 0 < v
      by zero e = absurd (dense 0 (omega arith) (zeros 0) (zeros (0 + 1)) (zeros (0 + 2)))
        where
          zeros : (i : ℕ) → bit v i ≡ false
          zeros i = ap (λ (x : ℕ). bit x i) e ∙ bit-zero i
      by (suc x) e = omega arith

-- ---- the pixels after the last point

after_low : (k m v : ℕ) → 0 < v → v < 2 ^ m → count_after k (word_kinds m v 0) ≡ count_trailing_zeros m v
unfolding count_after count_trailing_zeros
after_low k zero v p l = absurd (lt_irrefl 1 (omega arith))
after_low k (suc m) v p l =
    ap (count_after k) (kinds_low m v) ∙ count_parts_lem k (word_kinds m (v / 2) 0) (kind false (bit v 0) ∷ [])
    ∙ ap (λ (x : ℕ). count_after (count_after k (word_kinds m (v / 2) 0)) (kind false (eqb (x % 2) 1) ∷ [])) (half-none v)
    ∙ by (after_low k m (v / 2)) (v % 2) refl
  where
    half-none : (n : ℕ) → n / 2 ^ 0 ≡ n
    half-none n = omega arith

    by : (0 < v / 2 → v / 2 < 2 ^ m → count_after k (word_kinds m (v / 2) 0) ≡ count_trailing_zeros m (v / 2)) → (d : ℕ) → v % 2 ≡ d
        → count_after (count_after k (word_kinds m (v / 2) 0)) (kind false (eqb (v % 2) 1) ∷ []) ≡ under (v % 2) (count_trailing_zeros m (v / 2))
    by ih zero e =
        ap₂ (λ (x y : ℕ). count_after x (kind false (eqb y 1) ∷ [])) (ih (omega arith) (omega (arith, pow-suc 2 m))) e
        ∙ ap (λ (y : ℕ). under y (count_trailing_zeros m (v / 2))) (sym e)
    by ih (suc zero) e =
        ap (λ (y : ℕ). count_after (count_after k (word_kinds m (v / 2) 0)) (kind false (eqb y 1) ∷ [])) e
        ∙ ap (λ (y : ℕ). under y (count_trailing_zeros m (v / 2))) (sym e)
    by ih (suc (suc d)) e = absurd (lt_irrefl 2 (omega arith))

pub dense-after : (k v : ℕ) → Dense 64 v → v < 2 ^ 64 → count_trailing_zeros 64 v ≡ count_after k (word_kinds 64 v 0)
dense-after k v d l = sym (after_low k 64 v (dense_pos k v d l) l)
