-- An element has as many points as its number has ones; an accepted one has the origin and a second point.
use mathlib.Core.Bool.{Bool, ◌&&◌, ◌||◌, cond, false, not, true}
use mathlib.Core.List.Memᴰ
use mathlib.Core.List.{[], List, Memᴰ, ◌∷◌}
use mathlib.Core.Logic.{◌≢◌, ◌⊎◌, inl, inr}
use mathlib.Core.Path.{◌∙◌, ◌≡◌, ap, refl, subst, sym}
use Prim.Native.Nat.{◌%◌, ◌*◌, ◌+◌, ◌/◌, ◌<◌, ◌^◌, ◌≤◌, suc, zero, zero-le, ℕ}
use native.Mathlib.Decide.{ℕ_discrete}
use native.Mathlib.Nat.{le_of_suc-le-suc, mod-eq_of_lt, mod-lt, mod-one, not-suc-le-zero, zero-add, zero-lt-suc}
use native.Mathlib.Omega.{arith}
use borrow.Author.Tests.{ltb-true}
use lib.Arith.{lt_of_le-ne}
use lib.Count.{ones, ones_cat}
use lib.Dec.{T, T_not, eqb, eqb→eq, leb, leb→le, lit<, ltb}
use lib.ListN.{length}
use lib.Pow.{mod-pow-add, pow_pos}
use Rattle.morphology.specs.Element.{bit, is_element, offset, offsets, offsets_below}
use Rattle.morphology.specs.Lists.{some_of, up_to}
use Rattle.morphology.specs.Point.{Point, origin, same_integer, same_point}
use Rattle.morphology.proofs.ImageLaws.{mem-row, row_mem}
use Rattle.morphology.proofs.PointLaws.{same_refl}
use Rattle.morphology.proofs.TestLaws.{upto, and_in, and_l, and_r, any_in, any_out, decide, or-out, upto-out}

digit-count : (r e i u : ℕ) → u < 2
    → length (cond (eqb u 1) (offset r i ∷ offsets_below r e i) (offsets_below r e i)) ≡ ones u + length (offsets_below r e i)
unfolding ones
digit-count r e i zero h = omega arith
digit-count r e i (suc zero) h = omega arith
digit-count r e i (suc (suc u)) h = absurd (omega arith)

-- the number of an element's points is the count of ones
offsets-below : (r e i : ℕ) → length (offsets_below r e i) ≡ ones (e % 2 ^ i)
unfolding offsets_below ones
offsets-below r e zero = ap ones (sym (mod-one e))
offsets-below r e (suc i) =
    let q : e % 2 ^ suc i ≡ e / 2 ^ i % 2 * 2 ^ i + e % 2 ^ i = ap (λ (k : ℕ). e % 2 ^ k) one_plus ∙ mod-pow-add e 1 i in
    digit-count r e i (e / 2 ^ i % 2) (mod-lt (e / 2 ^ i) (zero-lt-suc 1))
    ∙ ap (λ (k : ℕ). ones (e / 2 ^ i % 2) + k) (offsets-below r e i)
    ∙ sym (ones_cat i (e / 2 ^ i % 2) (e % 2 ^ i) (mod-lt e (pow_pos i))) ∙ ap ones (sym q)
  where
    one_plus : suc i ≡ 1 + i
    one_plus = omega arith

pub offsets-count : (e : ℕ) → e < 2 ^ 25 → length (offsets e) ≡ ones e
unfolding offsets
offsets-count e h = offsets-below 2 e 25 ∙ ap ones (mod-eq_of_lt h)

pub below_out : (r e n : ℕ) {p : Point} → Memᴰ p (offsets_below r e n) → (i : ℕ) × (i < n) × T (bit e i) × (p ≡ offset r i)
unfolding offsets_below
below_out r e zero m = absurd (Memᴰ.not-nil m)
below_out r e (suc n) {p} m = go (λ k. below_out r e n k) (bit e n) refl m
  where
    more : (i : ℕ) × (i < n) × T (bit e i) × (p ≡ offset r i) → (i : ℕ) × (i < suc n) × T (bit e i) × (p ≡ offset r i)
    more q = (q.0, omega (arith, q.1), q.2, q.3)

    go : (Memᴰ p (offsets_below r e n) → (i : ℕ) × (i < n) × T (bit e i) × (p ≡ offset r i)) → (b : Bool) → bit e n ≡ b
        → Memᴰ p (cond b (offset r n ∷ offsets_below r e n) (offsets_below r e n)) → (i : ℕ) × (i < suc n) × T (bit e i) × (p ≡ offset r i)
    go rest true q (Memᴰ.head s) = (n, omega arith, subst T (sym q) tt, s)
    go rest true q (Memᴰ.tail k) = more (rest k)
    go rest false q k = more (rest k)

-- no member twice
abbrev pub Distinct : List Point → Type 0
Distinct [] = Unit {0}
Distinct (p ∷ l) = (Memᴰ p l → ⊥) × Distinct l

-- two bits of an element stand for two offsets
offset_inj : (i j : ℕ) → i < 25 → j < 25 → offset 2 i ≡ offset 2 j → i ≡ j
unfolding same_point same_integer offset
offset_inj i j hi hj q = by (or-out (eqb i j) (not (same_point (offset 2 i) (offset 2 j))) (upto-out (apart i) 25 j hj (upto-out (λ i. upto (apart i) 25) 25 i hi tt)))
  where
    apart : ℕ → ℕ → Bool
    apart i j = eqb i j || not (same_point (offset 2 i) (offset 2 j))

    by : T (eqb i j) ⊎ T (not (same_point (offset 2 i) (offset 2 j))) → i ≡ j
    by (inl s) = eqb→eq i j s
    by (inr s) = absurd (T_not (same_point (offset 2 i) (offset 2 j)) s (subst (λ (p : Point). T (same_point (offset 2 i) p)) q (same_refl (offset 2 i))))

distinct-below : (e n : ℕ) → n ≤ 25 → Distinct (offsets_below 2 e n)
unfolding offsets_below
distinct-below e zero h = tt
distinct-below e (suc n) h = go (bit e n) (distinct-below e n (omega arith))
  where
    go : (b : Bool) → Distinct (offsets_below 2 e n) → Distinct (cond b (offset 2 n ∷ offsets_below 2 e n) (offsets_below 2 e n))
    go true d = ((λ m. let r = below_out 2 e n m in let s = offset_inj n r.0 (omega arith) (omega (arith, r.1)) r.3 in omega (arith, r.1)), d)
    go false d = d

-- so that the count of ones is the size of the offset set
pub offsets_distinct : (e : ℕ) → Distinct (offsets e)
unfolding offsets
offsets_distinct e = distinct-below e 25 (omega arith)

-- row 2 by the count of ones
pub element-ones : (e : ℕ) → is_element e ≡ (ltb e (2 ^ 25) && (bit e 12 && leb 2 (ones e)))
unfolding is_element
element-ones e = go (ltb e (2 ^ 25)) refl
  where
    go : (t : Bool) → ltb e (2 ^ 25) ≡ t → (t && (bit e 12 && leb 2 (length (offsets e)))) ≡ (t && (bit e 12 && leb 2 (ones e)))
    go true q = ap (λ (n : ℕ). bit e 12 && leb 2 n) (offsets-count e (ltb-true e (2 ^ 25) q))
    go false q = refl

pub in-below : (r e n i : ℕ) → i < n → T (bit e i) → Memᴰ (offset r i) (offsets_below r e n)
unfolding offsets_below
in-below r e zero i h t = absurd (not-suc-le-zero h)
in-below r e (suc n) i h t = go (in-below r e n i) (ℕ_discrete i n) (bit e n) refl
  where
    go : (i < n → T (bit e i) → Memᴰ (offset r i) (offsets_below r e n)) → Dec (i ≡ n) → (b : Bool) → bit e n ≡ b
        → Memᴰ (offset r i) (cond b (offset r n ∷ offsets_below r e n) (offsets_below r e n))
    go rest (yes q) true p = Memᴰ.head (ap (offset r) q)
    go rest (yes q) false p = absurd (subst T (ap (bit e) q ∙ p) t)
    go rest (no q) true p = Memᴰ.tail (rest (lt_of_le-ne (le_of_suc-le-suc h) q) t)
    go rest (no q) false p = rest (lt_of_le-ne (le_of_suc-le-suc h) q) t

-- with no bit but the origin's there is one point at most
lonely : (r e n : ℕ) → ((i : ℕ) → i < n → T (bit e i) → i ≡ 12) → (length (offsets_below r e n) ≤ 1) × (n ≤ 12 → length (offsets_below r e n) ≤ 0)
unfolding offsets_below
lonely r e zero f = (zero-le, λ h. zero-le)
lonely r e (suc n) f = go (lonely r e n (λ i h t. f i (omega arith) t)) (bit e n) refl
  where
    go : (length (offsets_below r e n) ≤ 1) × (n ≤ 12 → length (offsets_below r e n) ≤ 0) → (b : Bool) → bit e n ≡ b
        → (length (cond b (offset r n ∷ offsets_below r e n) (offsets_below r e n)) ≤ 1) × (suc n ≤ 12 → length (cond b (offset r n ∷ offsets_below r e n) (offsets_below r e n)) ≤ 0)
    go r true p =
        let q = f n (omega arith) (subst T (sym p) tt) in
        let s = r.1 (omega arith) in
        (omega arith, λ h. absurd (omega arith))
    go r false p = (r.0, λ h. r.1 (omega arith))

-- an element has its origin
pub element-bit : (e : ℕ) → T (is_element e) → T (bit e 12)
unfolding is_element
element-bit e t = and_l (bit e 12) (leb 2 (length (offsets e))) (and_r (ltb e (2 ^ 25)) (bit e 12 && leb 2 (length (offsets e))) t)

pub origin_in : (e : ℕ) → T (bit e 12) → Memᴰ origin (offsets e)
unfolding offsets offset origin
origin_in e t = in-below 2 e 25 12 (lit< tt) t

apart : (i : ℕ) → i < 25 → T (eqb i 12 || not (same_point (offset 2 i) origin))
unfolding same_point same_integer offset origin
apart i h = upto-out (λ i. eqb i 12 || not (same_point (offset 2 i) origin)) 25 i h tt

element_other : (e : ℕ) → T (is_element e) → (b : Point) × Memᴰ b (offsets e) × (b ≢ origin)
unfolding is_element offsets
element_other e t = go (decide (some_of other (up_to 25)))
  where
    other : ℕ → Bool
    other i = bit e i && not (eqb i 12)

    two : 2 ≤ length (offsets_below 2 e 25)
    two = leb→le 2 (length (offsets_below 2 e 25)) (and_r (bit e 12) (leb 2 (length (offsets_below 2 e 25))) (and_r (ltb e (2 ^ 25)) (bit e 12 && leb 2 (length (offsets_below 2 e 25))) t))

    far : (i : ℕ) → T (not (eqb i 12)) → i < 25 → offset 2 i ≢ origin
    far i n h q = by (or-out (eqb i 12) (not (same_point (offset 2 i) origin)) (apart i h))
      where
        by : T (eqb i 12) ⊎ T (not (same_point (offset 2 i) origin)) → ⊥
        by (inl s) = T_not (eqb i 12) n s
        by (inr s) = T_not (same_point (offset 2 i) origin) s (subst (λ (p : Point). T (same_point (offset 2 i) p)) q (same_refl (offset 2 i)))

    one : T (not (some_of other (up_to 25))) → (i : ℕ) → i < 25 → T (bit e i) → i ≡ 12
    one n i h b = by (decide (eqb i 12))
      where
        by : T (eqb i 12) ⊎ T (not (eqb i 12)) → i ≡ 12
        by (inl s) = eqb→eq i 12 s
        by (inr s) =
            absurd (T_not (some_of other (up_to 25)) n
            (any_in other (subst (λ (k : ℕ). Memᴰ k (up_to 25)) (zero-add i) (mem-row (λ k. k) 0 25 i h)) (and_in (bit e i) (not (eqb i 12)) b s)))

    go : T (some_of other (up_to 25)) ⊎ T (not (some_of other (up_to 25))) → (b : Point) × Memᴰ b (offsets_below 2 e 25) × (b ≢ origin)
    go (inl s) =
        let r = any_out other (up_to 25) s in
        let m = row_mem (λ k. k) 0 25 r.1 in
        let q = m.2 ∙ zero-add m.0 in
        let h : r.0 < 25 = subst (λ (k : ℕ). k < 25) (sym q) m.1 in
        (offset 2 r.0, in-below 2 e 25 r.0 h (and_l (bit e r.0) (not (eqb r.0 12)) r.2), far r.0 (and_r (bit e r.0) (not (eqb r.0 12)) r.2) h)
    go (inr s) = let r = lonely 2 e 25 (one s) in absurd (omega (arith, r.0, two))

-- ---- what the laws ask of a structuring element

pub record Element (B : List Point) : Type 0 where
  pub centred : Memᴰ origin B
  pub second : (b : Point) × Memᴰ b B × (b ≢ origin)

pub element : (e : ℕ) → T (is_element e) → Element (offsets e)
element e t = record { centred = origin_in e (element-bit e t); second = element_other e t }
