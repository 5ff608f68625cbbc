-- Rows with and without ink, and the bytes of blank rows.
use mathlib.Core.Bool.{Bool, ◌||◌, false, not, true}
use mathlib.Core.List.{List, [], ◌∷◌}
use mathlib.Core.Path.{◌∙◌, ◌≡◌, ap, ap₂, refl, subst, sym}
use Prim.Native.Nat.{◌*◌, ◌+◌, ◌-◌, ◌/◌, ◌%◌, ◌<◌, ◌≤◌, suc, ℕ}
use native.Mathlib.Decide.{dec_lt}
use native.Mathlib.Nat.{div-add-mod', div-lt_iff_lt-mul, le-div_iff_mul-le, mod-lt, zero-lt-suc}
use native.Mathlib.Omega.{arith}
use borrow.Author.Tests.{eq-eqb, eqb-true}
use lib.Dec.{T, eqb}
use lib.ListN.{drop, get_or, get_or-replicate, length, length-drop, replicate, take}
use lib.Seq.{get_or-drop, get_or-take, length-take-le}
use Rattle.morphology.specs.Lists.{some_of}
use Rattle.raster.specs.Bands.{BlankRow}

-- bytes without a 1
pub zeros-out : (l : List ℕ) → some_of (λ b. not (eqb b 0)) l ≡ false → l ≡ replicate (length l) 0
zeros-out [] e = refl
zeros-out (b ∷ l) e = by (zeros-out l) (eqb b 0) refl
  where
    by : (some_of (λ b. not (eqb b 0)) l ≡ false → l ≡ replicate (length l) 0) → (t : Bool) → eqb b 0 ≡ t → b ∷ l ≡ 0 ∷ replicate (length l) 0
    by f true q = ap₂ (λ (x : ℕ) (y : List ℕ). x ∷ y) (eqb-true b 0 q) (f (sym (ap (λ (t : Bool). not t || some_of (λ b. not (eqb b 0)) l) q) ∙ e))
    by f false q = absurd (subst T (sym (ap (λ (t : Bool). not t || some_of (λ b. not (eqb b 0)) l) q) ∙ e) tt)

pub zeros_in : (l : List ℕ) → ((i : ℕ) → i < length l → get_or l i 0 ≡ 0) → some_of (λ b. not (eqb b 0)) l ≡ false
zeros_in [] f = refl
zeros_in (b ∷ l) f =
    ap₂ (λ (t u : Bool). not t || u) (eq-eqb b 0 (f 0 (zero-lt-suc (length l)))) (zeros_in l (λ i h. f (suc i) (omega arith)))

-- a row of k = r bytes, as it is lent
module _ (r y k : ℕ) (s : List ℕ) (e : k ≡ r) (h : y * r + r ≤ length s) where
  cut : length (take k (drop (y * r) s)) ≡ r
  cut = length-take-le k (drop (y * r) s) (omega (arith, length-drop (y * r) s)) ∙ e

  byte : (i : ℕ) → i < r → get_or (take k (drop (y * r) s)) i 0 ≡ get_or s (y * r + i) 0
  byte i l = get_or-take k (drop (y * r) s) i 0 (omega arith) ∙ get_or-drop (y * r) s i 0

  pub row-blank : some_of (λ b. not (eqb b 0)) (take k (drop (y * r) s)) ≡ false → BlankRow r s y
  row-blank z i l =
      let t = take k (drop (y * r) s) in
      sym (byte i l) ∙ ap (λ (m : List ℕ). get_or m i 0) (zeros-out t z) ∙ get_or-replicate (length t) i 0 0 (omega (arith, cut))

  pub row-ink : some_of (λ b. not (eqb b 0)) (take k (drop (y * r) s)) ≡ true → BlankRow r s y → ⊥
  row-ink z f = subst T (sym z ∙ zeros_in (take k (drop (y * r) s)) (λ i l. let q : i < r = omega (arith, cut) in byte i q ∙ f i q)) tt

-- one more blank row, at the end and at the start
pub blank_more : (r a y : ℕ) (s : List ℕ) → ((k : ℕ) → a ≤ k → k < y → BlankRow r s k) → BlankRow r s y → (k : ℕ) → a ≤ k → k < y + 1 → BlankRow r s k
blank_more r a y s f b k l u = by (dec_lt k y)
  where
    by : Dec (k < y) → BlankRow r s k
    by (yes h) = f k l h
    by (no h) = let e : y ≡ k = omega arith in subst (BlankRow r s) e b

pub blank_less : (r y b : ℕ) (s : List ℕ) → 0 < y → ((k : ℕ) → y ≤ k → k < b → BlankRow r s k) → BlankRow r s (y - 1) → (k : ℕ) → y - 1 ≤ k → k < b → BlankRow r s k
blank_less r y b s p f z k l u = by (dec_lt k y)
  where
    by : Dec (k < y) → BlankRow r s k
    by (yes h) = let e : y - 1 ≡ k = omega arith in subst (BlankRow r s) e z
    by (no h) = f k (omega arith) u

-- the bytes of blank rows
pub rows-blank : (r a b : ℕ) (s : List ℕ) → ((k : ℕ) → a ≤ k → k < b → BlankRow r s k) → (d : ℕ) → a * r ≤ d → d < b * r → get_or s d 0 ≡ 0
rows-blank r a b s f d l u = by (dec_lt 0 r)
  where
    by : Dec (0 < r) → get_or s d 0 ≡ 0
    by (yes p) = rw (← div-add-mod' d r) (f (d / r) ((le-div_iff_mul-le p).1 l) ((div-lt_iff_lt-mul p).1 u) (d % r) (mod-lt d p))
    by (no p) = let z : r ≡ 0 = omega arith in absurd (omega (arith, ap (λ (n : ℕ). b * n) z))
