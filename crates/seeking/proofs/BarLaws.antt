-- The free pixels of a word, those that no mask covers: how many there are, cut at one of them, and the one that k others are above.
use mathlib.Core.Bool.{Bool, cond, false, not, true, xor}
use mathlib.Core.List.{List, ◌++◌, ◌∷◌, map, map-append}
use mathlib.Core.Path.{◌∙◌, ◌≡◌, ap, ap₂, refl, subst, sym}
use Prim.Native.Nat.{◌%◌, ◌+◌, ◌-◌, ◌/◌, ◌<◌, ◌^◌, ◌≤◌, suc, zero, ℕ}
use native.Mathlib.Nat.{div-eq_of_lt, le_of_suc-le-suc, mod-eq_of_lt, mod-lt, mod-one, not-suc-le-zero, zero-lt-suc}
use native.Mathlib.Numerals.{add-one}
use native.Mathlib.Omega.{arith}
use lib.Bits.{bit_xor}
use lib.Count.{ones, ones_cat}
use lib.Dec.{T, eqb}
use lib.ListN.{length, length-map}
use lib.Pow.{field, mod-mod-pow, pow_pos, shr_lt, shr-shr, split}
use Rattle.morphology.specs.Element.{bit}
use Rattle.morphology.specs.Lists.{count_of}
use Rattle.morphology.proofs.BitLaws.{bit-xor}
use Rattle.morphology.proofs.TestLaws.{T_ext}
use Rattle.reading.proofs.SeekLaws.{free_of}
use Rattle.sections.proofs.WordLaws.{Top, bit_low, bit-ones, ones_digit, ones-top, power, power_is, top_below, top_one}
use Rattle.seeking.specs.Words.{barred, word_bits}
use Rattle.seeking.proofs.OnwardLaws.{length_word-bits, word-bits_agree, word-bits_parts}

-- ---- the pixels that a mask covers

-- all but the free ones
barred_is : (m v : ℕ) → barred m v ≡ map not (word_bits m v)
unfolding barred word_bits
barred_is zero v = refl
barred_is (suc m) v = ap (λ (l : List Bool). not (bit v m) ∷ l) (barred_is m v)

-- as many as are asked for
pub length-barred : (m v : ℕ) → length (barred m v) ≡ m
length-barred m v = ap length (barred_is m v) ∙ length-map (word_bits m v) not ∙ length_word-bits m v

-- those below a height are by the bits below it
pub barred_low : (h v : ℕ) → barred h (v % 2 ^ h) ≡ barred h v
barred_low h v =
    barred_is h (v % 2 ^ h) ∙ ap (map not) (word-bits_agree h (v % 2 ^ h) v (bit_low v h)) ∙ sym (barred_is h v)

-- the highest n, and the others
barred_parts : (n j v : ℕ) → barred (n + j) v ≡ barred n (v / 2 ^ j) ++ barred j v
barred_parts n j v =
    barred_is (n + j) v ∙ ap (map not) (word-bits_parts n j v) ∙ map-append not (word_bits n (v / 2 ^ j)) (word_bits j v)
    ∙ ap₂ (λ (a b : List Bool). a ++ b) (sym (barred_is n (v / 2 ^ j))) (sym (barred_is j v))

-- `(u64::MAX >> (64 - m)) ^ mask` has the free ones
pub barred-mask : (m all mask : ℕ) → all ≡ 2 ^ m - 1 → barred m (bit_xor all mask) ≡ word_bits m mask
unfolding xor barred word_bits
barred-mask m all mask full = below m (omega arith)
  where
    twice : (b : Bool) → not (xor true b) ≡ b
    twice true = refl
    twice false = refl

    at : (i : ℕ) → i < m → not (bit (bit_xor all mask) i) ≡ bit mask i
    at i l =
        ap not (bit-xor all mask i ∙ ap (λ (b : Bool). xor b (bit mask i)) (ap (λ (n : ℕ). bit n i) full ∙ bit-ones m i l)) ∙ twice (bit mask i)

    below : (n : ℕ) → n ≤ m → barred n (bit_xor all mask) ≡ word_bits n mask
    below zero l = refl
    below (suc n) l = ap₂ (λ (b : Bool) (r : List Bool). b ∷ r) (at n l) (below n (omega arith))

-- ---- how many pixels are free

-- by the lowest m bits
free_low : (m v : ℕ) → free_of (barred m v) ≡ ones (v % 2 ^ m)
unfolding barred count_of
free_low zero v = omega (arith, ap ones (mod-one v), ones_digit 0 (omega arith))
free_low (suc m) v =
    ap₂ ◌+◌ (digit (v / 2 ^ m % 2) (mod-lt (v / 2 ^ m) (zero-lt-suc 1))) (free_low m v) ∙ sym (ones-top m v)
  where
    digit : (d : ℕ) → d < 2 → cond (not (not (eqb d 1))) 1 0 ≡ d
    digit zero h = refl
    digit (suc zero) h = refl
    digit (suc (suc d)) h = absurd (not-suc-le-zero (le_of_suc-le-suc (le_of_suc-le-suc h)))

-- all of them
pub free-barred : (m v : ℕ) → v < 2 ^ m → free_of (barred m v) ≡ ones v
free-barred m v h = free_low m v ∙ ap ones (mod-eq_of_lt h)

-- the pixels above one that is free, that one, and those below it
pub barred-at : (m v h : ℕ) → v < 2 ^ m → h < m → T (bit v h)
    → (a : List Bool) × (barred m v ≡ a ++ (false ∷ barred h v)) × (free_of a ≡ ones (v / 2 ^ (h + 1))) × (length a ≡ m - h - 1)
unfolding barred
barred-at m v h f l b =
    let n = m - h - 1 in
    let w = v / 2 ^ (h + 1) in
    let e : m ≡ n + (h + 1) = omega arith in
    let one : h + 1 ≡ suc h = omega arith in
    let here : bit v h ≡ true = T_ext (λ x. tt) (λ x. b) in (
      barred n w,
      ap (λ (x : ℕ). barred x v) e ∙ barred_parts n (h + 1) v
          ∙ ap (λ (l : List Bool). barred n w ++ l) (ap (λ (x : ℕ). barred x v) one ∙ ap (λ (x : Bool). not x ∷ barred h v) here),
      free-barred n w (shr_lt n (h + 1) (subst (λ (x : ℕ). v < 2 ^ x) e f)),
      length-barred n w,
    )

-- ---- the free pixel that k others are above

-- the bits from height h on are those below a height i and those above it
ones-between : (v i h : ℕ) → h ≤ i → ones (v / 2 ^ h) ≡ ones (v / 2 ^ i) + ones (v % 2 ^ i / 2 ^ h)
ones-between v i h l =
    let j = i - h in
    let w = v / 2 ^ h in
    let e : h + j ≡ i = omega arith in
    let f : j + h ≡ i = omega arith in
    ap ones (sym (split w j)) ∙ ones_cat j (w / 2 ^ j) (w % 2 ^ j) (mod-lt w (pow_pos j))
    ∙ ap₂ (λ (a b : ℕ). ones a + ones b) (shr-shr v h j ∙ ap (λ (x : ℕ). v / 2 ^ x) e) (sym (field v j h) ∙ ap (λ (x : ℕ). v % 2 ^ x / 2 ^ h) f)

-- below a height the free pixels are in `rest`; those above it and the `above` highest of `rest` are the k that come before the one sought
pub record Picking (free k rest above : ℕ) : Type 0 where
  pub height : ℕ
  pub low : rest ≡ free % 2 ^ height
  pub passed : ones (free / 2 ^ height) + above ≡ k
  pub some : above < ones rest

-- at first none is above
pub picking-none : (free k : ℕ) → free < 2 ^ 64 → k < ones free → Picking free k free k
picking-none free k h l = record {
  height = 64;
  low = sym (mod-eq_of_lt h);
  passed = omega (arith, ap ones (div-eq_of_lt h), ones_digit 0 (omega arith));
  some = l;
}

module _ {free k rest above : ℕ} (p : Picking free k rest above) where
  -- some are left
  pub picking-some : 0 < rest
  picking-some = by rest p.some
    where
      by : (n : ℕ) → above < ones n → 0 < n
      by zero h = absurd (omega (arith, ones_digit 0 (omega arith)))
      by (suc n) h = omega arith

  module _ (h : ℕ) (t : Top rest h) where
    lower : h < p.height
    lower = top_below p.height rest h (subst (λ (x : ℕ). x < 2 ^ p.height) (sym p.low) (mod-lt free (pow_pos p.height))) t

    -- the bits from height i on
    above_is : (i n : ℕ) → i ≤ p.height → rest / 2 ^ i ≡ n → ones (free / 2 ^ i) ≡ ones (free / 2 ^ p.height) + ones n
    above_is i n l e =
        ones-between free p.height i l ∙ ap (λ (x : ℕ). ones (free / 2 ^ p.height) + ones x) (ap (λ (x : ℕ). x / 2 ^ i) (sym p.low) ∙ e)

    -- below it, where it is not the one sought
    pub picking_next : (left : ℕ) → above ≡ suc left → Picking free k (rest % power h) left
    picking_next left q =
        let one = top_one rest h t in
        let f : p.height ≡ (p.height - h) + h = omega (arith, lower) in
        let e : rest % 2 ^ h ≡ free % 2 ^ h =
        ap (λ (x : ℕ). x % 2 ^ h) (p.low ∙ ap (λ (x : ℕ). free % 2 ^ x) f) ∙ mod-mod-pow free (p.height - h) h in
        let g : ones rest ≡ 1 + ones (rest % 2 ^ h) =
        ap ones (sym (split rest h)) ∙ ones_cat h (rest / 2 ^ h) (rest % 2 ^ h) (mod-lt rest (pow_pos h))
        ∙ ap (λ (x : ℕ). x + ones (rest % 2 ^ h)) (ap ones one ∙ ones_digit 1 (omega arith)) in
        subst (λ (x : ℕ). Picking free k (rest % x) left) (sym (power_is h t.0)) (record {
          height = h;
          low = e;
          passed = omega (arith, above_is h 1 (omega (arith, lower)) one, ones_digit 1 (omega arith), p.passed);
          some = omega (arith, g, p.some);
        })

    -- where it is
    pub picking-end : above ≡ 0 → (h < 64) × T (bit free h) × (ones (free / 2 ^ (h + 1)) ≡ k)
    picking-end z =
        let here : bit rest h ≡ true = ap (λ (x : ℕ). eqb (x % 2) 1) (top_one rest h t) in
        let same : bit rest h ≡ bit free h = ap (λ (x : ℕ). bit x h) p.low ∙ bit_low free p.height h lower in
        let none : rest / 2 ^ (h + 1) ≡ 0 = div-eq_of_lt (subst (λ (x : ℕ). rest < 2 ^ x) (sym (add-one h)) t.2) in (
          t.0,
          subst T (sym here ∙ same) tt,
          omega (arith, above_is (h + 1) 0 (omega (arith, lower)) none, ones_digit 0 (omega arith), p.passed),
        )
