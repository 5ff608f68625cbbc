-- An element's extents, by the lines of the square that it meets.
use mathlib.Core.Bool.{Bool, cond, false, not, true}
use mathlib.Core.List.{List, Memᴰ, [], ◌∷◌}
use mathlib.Core.Path.{◌∙◌, ◌≡◌, ap, ap₂, refl, subst, sym}
use Prim.Native.Nat.{◌%◌, ◌*◌, ◌+◌, ◌-◌, ◌/◌, ◌<◌, ◌^◌, ◌≤◌, suc, zero, ℕ}
use native.Mathlib.Nat.{lt_of_le_of_lt, mod-eq_of_lt, mod-lt, pow-suc, zero-add, zero-mul}
use native.Mathlib.Omega.{arith}
use borrow.Author.Tests.{eq-eqb, eqb-false, eqb-true, ne_eqb}
use lib.Bits.{and_block, and_le_r, and_mask, and_mod, and_zero_r, bit_and}
use lib.Dec.{T, eqb, eqb→eq, leb, leb→le}
use lib.Pow.{pow_pos, split}
use Rattle.morphology.specs.Element.{bit, offset, offsets, offsets_below}
use Rattle.morphology.specs.Extent.{extent}
use Rattle.morphology.specs.Lists.{greatest, some_of}
use Rattle.morphology.specs.Point.{Point}
use Rattle.morphology.proofs.ElementLaws.{below_out}
use Rattle.morphology.proofs.ExtentLaws.{extent_le}
use Rattle.morphology.proofs.TestLaws.{any_in, any_out, upto, upto-out}
use Rattle.elements.specs.Lines.{lies, line, number_below}
use Rattle.elements.specs.Measures.{measure}

-- ---- the number of some points

number_lt : (p : Point → Bool) (n : ℕ) → number_below p n < 2 ^ n
unfolding number_below
number_lt p zero = omega arith
number_lt p (suc n) = omega (arith, number_lt p n, pow-suc 2 n, digit_le (p (offset 2 n)))
  where
    digit_le : (c : Bool) → cond c (2 ^ n) 0 ≤ 2 ^ n
    digit_le true = omega arith
    digit_le false = omega arith

-- one more digit
and-top : (e n l : ℕ) → l < 2 ^ n → bit_and e (2 ^ n + l) ≡ e / 2 ^ n % 2 * 2 ^ n + bit_and e l
and-top e n l h =
    ap₂ bit_and (sym (split e n)) one ∙ and_block n (e / 2 ^ n) 1 (e % 2 ^ n) l (mod-lt e (pow_pos n)) h
    ∙ ap₂ (λ (d k : ℕ). d * 2 ^ n + k) (and_mask (e / 2 ^ n) 1) (sym low)
  where
    one : 2 ^ n + l ≡ 1 * 2 ^ n + l
    one = omega arith

    low : bit_and e l ≡ bit_and (e % 2 ^ n) l
    low = sym (mod-eq_of_lt (lt_of_le_of_lt (and_le_r e l) h)) ∙ and_mod e l n ∙ ap (bit_and (e % 2 ^ n)) (mod-eq_of_lt h)

-- an element and the number of some points have a bit in common exactly where the element has one of the points
meets : (p : Point → Bool) (e n : ℕ) → not (eqb (bit_and e (number_below p n)) 0) ≡ some_of p (offsets_below 2 e n)
unfolding number_below offsets_below
meets p e zero = rw and_zero_r
meets p e (suc n) = go (p (offset 2 n)) (bit e n) refl refl (meets p e n)
  where
    go : (c b : Bool) → p (offset 2 n) ≡ c → bit e n ≡ b → not (eqb (bit_and e (number_below p n)) 0) ≡ some_of p (offsets_below 2 e n)
        → not (eqb (bit_and e (cond c (2 ^ n) 0 + number_below p n)) 0) ≡ some_of p (cond b (offset 2 n ∷ offsets_below 2 e n) (offsets_below 2 e n))
    go true true q r s =
        let d = eqb-true (e / 2 ^ n % 2) 1 r in
        rw (q, and-top e n (number_below p n) (number_lt p n), d) (ap not (ne_eqb (1 * 2 ^ n + bit_and e (number_below p n)) 0 (λ z. omega (arith, pow_pos n))))
    go true false q r s =
        let d : e / 2 ^ n % 2 ≡ 0 = omega (arith, eqb-false (e / 2 ^ n % 2) 1 r) in
        rw (and-top e n (number_below p n) (number_lt p n), d, zero-mul, zero-add) s
    go false true q r s = rw (q, zero-add) s
    go false false q r s = rw zero-add s

-- ---- how far

extent-most : (f : Point → ℕ) (B : List Point) (k : ℕ) → ((b : Point) → Memᴰ b B → f b ≤ k) → extent f B ≤ k
unfolding extent greatest
extent-most f [] k h = omega arith
extent-most f (x ∷ B) k h = omega (arith, h x (Memᴰ.head refl), extent-most f B k (λ b m. h b (Memᴰ.tail m)))

-- no point of the square lies further than 2 to a side
square_le : (s t : Bool) → T (upto (λ i. leb (measure s t (offset 2 i)) 2) 25)
unfolding offset
square_le true true = tt
square_le true false = tt
square_le false true = tt
square_le false false = tt

module _ (s t : Bool) (e : ℕ) where
  abbrev far : ℕ
  far = extent (measure s t) (offsets e)

  far-small : far ≤ 2
  unfolding offsets
  far-small = extent-most (measure s t) (offsets e) 2 (λ b m.
      let r = below_out 2 e 25 m in
      let h = upto-out (λ i. leb (measure s t (offset 2 i)) 2) 25 r.0 r.1 (square_le s t) in
      omega (arith, ap (measure s t) r.3, leb→le (measure s t (offset 2 r.0)) 2 h))

  module _ (d m : ℕ) (q : m ≡ line s t d) where
    some-lies : not (eqb (bit_and e m) 0) ≡ some_of (lies s t d) (offsets e)
    unfolding line offsets
    some-lies = ap (λ (m : ℕ). not (eqb (bit_and e m) 0)) q ∙ meets (lies s t d) e 25

    -- an element that meets a line goes as far
    far_met : (bit_and e m ≡ 0 → ⊥) → d ≤ far
    far_met h =
        let r = any_out (lies s t d) (offsets e) (subst T (sym (ap not (ne_eqb (bit_and e m) 0 h)) ∙ some-lies) tt) in
        omega (arith, eqb→eq (measure s t r.0) d r.2, extent_le (measure s t) (offsets e) r.1)

    -- one that misses it goes further or less far
    far_missed : bit_and e m ≡ 0 → far ≤ d → far ≤ d - 1
    far_missed h k = extent-most (measure s t) (offsets e) (d - 1) (λ b w. omega (arith, extent_le (measure s t) (offsets e) w, other w))
      where
        other : {b : Point} → Memᴰ b (offsets e) → measure s t b ≡ d → ⊥
        other w z = subst T (sym some-lies ∙ ap not (eq-eqb (bit_and e m) 0 h)) (any_in (lies s t d) w (subst T (sym (eq-eqb _ d z)) tt))

  -- by the outer line, o, and the inner one, i
  module _ (o : ℕ) (q : o ≡ line s t 2) where
    pub extent_two : (bit_and e o ≡ 0 → ⊥) → (2 ≡ far) × (2 ≤ 2)
    extent_two h = (omega (arith, far-small, far_met 2 o q h), omega arith)

    module _ (i : ℕ) (r : i ≡ line s t 1) (h : bit_and e o ≡ 0) where
      pub extent_one : (bit_and e i ≡ 0 → ⊥) → (1 ≡ far) × (1 ≤ 2)
      extent_one k = (omega (arith, far_missed 2 o q h far-small, far_met 1 i r k), omega arith)

      pub extent-none : bit_and e i ≡ 0 → (0 ≡ far) × (0 ≤ 2)
      extent-none k = (omega (arith, far_missed 1 i r k (far_missed 2 o q h far-small)), omega arith)
