-- What an element asks, pixel by pixel.
use mathlib.Core.Bool.{Bool, ◌&&◌, and_assoc, and_comm, and-true, false, not, or_assoc, or_comm, or-false, true}
use mathlib.Core.List.{List}
use mathlib.Core.Path.{◌∙◌, ◌≡◌, ap, ap₂, refl, sym}
use Prim.Native.Nat.{◌%◌, ◌*◌, ◌+◌, ◌-◌, ◌/◌, ◌<◌, ◌≤◌, suc, zero, ℕ}
use native.Mathlib.Decide.{dec_le, dec_lt}
use native.Mathlib.Nat.{le_refl}
use native.Mathlib.Numerals.{add-one}
use native.Mathlib.Omega.{arith}
use borrow.Author.Tests.{le-ltb, lt-leb}
use lib.Dec.{leb, ltb}
use lib.ListN.{get_or-eq_default, get_or, get_or-replicate, length-replicate, replicate}
use Rattle.raster.specs.Rows.{RowJoined, join, row_bit}
use Rattle.raster.proofs.ByteLaws.{zero_bit}
use Rattle.raster.proofs.RowLaws.{row_in, row_bit-same}
use Rattle.neighbours.specs.Neighbours.{joined, near_bit, turned}

-- ---- joining

pub join_assoc : (t a b c : Bool) → join t (join t a b) c ≡ join t a (join t b c)
join_assoc true a b c = or_assoc a b c
join_assoc false a b c = and_assoc a b c

pub join_unit : (t a : Bool) → join t a (not t) ≡ a
join_unit true a = or-false a
join_unit false a = and-true a

pub unit-join : (t a : Bool) → join t (not t) a ≡ a
unit-join true a = refl
unit-join false a = refl

pub join_comm : (t a b : Bool) → join t a b ≡ join t b a
join_comm true a b = or_comm a b
join_comm false a b = and_comm a b

pub joined_more : (t : Bool) (k : ℕ) (f : ℕ → Bool) → joined t (k + 1) f ≡ join t (joined t k f) (f k)
unfolding joined
joined_more t k f = ap (λ (n : ℕ). joined t n f) (add-one k)

-- ---- bytes of 0

abbrev zeros : ℕ → List ℕ
zeros n = replicate n 0

zeros-at : (n j : ℕ) → get_or (zeros n) j 0 ≡ 0
zeros-at n j = by (dec_lt j n)
  where
    by : Dec (j < n) → get_or (zeros n) j 0 ≡ 0
    by (yes l) = get_or-replicate n j 0 0 l
    by (no l) = get_or-eq_default (zeros n) 0 (omega (arith, length-replicate {A = ℕ} n 0))

pub zeros-bit : (n x : ℕ) → row_bit (zeros n) x ≡ false
unfolding row_bit
zeros-bit n x = zero_bit (get_or (zeros n) (x / 8) 0) (x % 8) (zeros-at n (x / 8))

-- ---- near rows

-- what is near hangs on the first h rows alone
pub near_same : (a b : List ℕ) (r h : ℕ) → ((j : ℕ) → j < h * r → get_or a j 0 ≡ get_or b j 0) → (X Y : ℕ) → near_bit a r h X Y ≡ near_bit b r h X Y
unfolding near_bit
near_same a b r h e X Y = by (dec_lt (Y - 2) h) (dec_le 8 X) (dec_lt X (8 * r + 8))
  where
    by : Dec (Y - 2 < h) → Dec (8 ≤ X) → Dec (X < 8 * r + 8) → near_bit a r h X Y ≡ near_bit b r h X Y
    by (no q) s t = simp (le-ltb (Y - 2) h (omega arith))
    by (yes q) (no s) t = simp (lt-leb 8 X (omega arith))
    by (yes q) (yes s) (no t) = simp (le-ltb X (8 * r + 8) (omega arith))
    by (yes q) (yes s) (yes t) =
        let i = row_in (Y - 2) h r (h * r) q (le_refl (h * r)) in
        let z : ℕ = 8 * ((Y - 2) * r) + (X - 8) in
        ap (λ (c : Bool). leb 2 Y && (ltb (Y - 2) h && (leb 8 X && (ltb X (8 * r + 8) && c)))) (row_bit-same a b z (e (z / 8) (omega (arith, i))))

-- ---- rows joined

pub row_kept : (t : Bool) (l : List ℕ) (f : ℕ → Bool) → ((x : ℕ) → f x ≡ not t) → RowJoined t l l f
row_kept t l f h = record { size = refl; pixels = λ x i. sym (ap (join t (row_bit l x)) (h x) ∙ join_unit t (row_bit l x)) }

-- ---- rows of the plane

-- each k below 5
pub below5 : (P : ℕ → Type 0) → P 0 → P 1 → P 2 → P 3 → P 4 → (k : ℕ) → k < 5 → P k
below5 P a b c d e zero l = a
below5 P a b c d e (suc zero) l = b
below5 P a b c d e (suc (suc zero)) l = c
below5 P a b c d e (suc (suc (suc zero))) l = d
below5 P a b c d e (suc (suc (suc (suc zero)))) l = e
below5 P a b c d e (suc (suc (suc (suc (suc k))))) l = absurd (omega arith)

pub turned_lt : (t : Bool) (k : ℕ) → k < 5 → turned t k < 5
turned_lt true k h = omega arith
turned_lt false k h = h

-- ---- joining many

pub joined_unit : (t : Bool) (n : ℕ) (f : ℕ → Bool) → ((i : ℕ) → i < n → f i ≡ not t) → joined t n f ≡ not t
unfolding joined
joined_unit t zero f h = refl
joined_unit t (suc n) f h = ap₂ (join t) (joined_unit t n f (λ i l. h i (omega arith))) (h n (omega arith)) ∙ unit-join t (not t)

join_four : (t a b c d : Bool) → join t (join t a b) (join t c d) ≡ join t (join t a c) (join t b d)
join_four t a b c d =
    join_assoc t a b (join t c d) ∙ ap (join t a) (sym (join_assoc t b c d) ∙ ap (λ (e : Bool). join t e d) (join_comm t b c) ∙ join_assoc t c b d)
    ∙ sym (join_assoc t a c (join t b d))

pub joined_two : (t : Bool) (n : ℕ) (f g : ℕ → Bool) → joined t n (λ i. join t (f i) (g i)) ≡ join t (joined t n f) (joined t n g)
unfolding joined
joined_two t zero f g = sym (unit-join t (not t))
joined_two t (suc n) f g =
    ap (λ (b : Bool). join t b (join t (f n) (g n))) (joined_two t n f g) ∙ join_four t (joined t n f) (joined t n g) (f n) (g n)

pub joined-swap : (t : Bool) (n m : ℕ) (f : ℕ → ℕ → Bool) → joined t n (λ i. joined t m (f i)) ≡ joined t m (λ j. joined t n (λ i. f i j))
unfolding joined
joined-swap t zero m f = sym (joined_unit t m (λ j. not t) (λ i l. refl))
joined-swap t (suc n) m f =
    ap (λ (b : Bool). join t b (joined t m (f n))) (joined-swap t n m f) ∙ sym (joined_two t m (λ j. joined t n (λ i. f i j)) (f n))

pub joined_same : (t : Bool) (n : ℕ) (f g : ℕ → Bool) → ((i : ℕ) → i < n → f i ≡ g i) → joined t n f ≡ joined t n g
unfolding joined
joined_same t zero f g e = refl
joined_same t (suc n) f g e = ap₂ (join t) (joined_same t n f g (λ i l. e i (omega arith))) (e n (omega arith))
