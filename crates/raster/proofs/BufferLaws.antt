-- Buffers copied, tested for ink and compared, element by element; padding.
use mathlib.Core.Bool.{Bool, ◌&&◌, ◌||◌, false, not, or_assoc, or-false}
use mathlib.Core.List.{List, Memᴰ, [], ◌++◌, ◌∷◌}
use mathlib.Core.Path.{◌∙◌, ◌≡◌, ap, ap₂, refl, subst, sym}
use Prim.Native.Nat.{◌%◌, ◌*◌, ◌+◌, ◌-◌, ◌/◌, ◌<◌, ◌^◌, ◌≤◌, suc, zero, ℕ}
use native.Mathlib.Decide.{dec_lt, ℕ_discrete}
use native.Mathlib.Nat.{add-suc, add-zero, le_of_suc-le-suc, mod-lt, mod-one, not-suc-le-zero, suc-add, zero-add, zero-lt-suc}
use native.Mathlib.Numerals.{add-one}
use native.Mathlib.Omega.{arith}
use borrow.Author.Tests.{eq-eqb, ne_eqb}
use lib.Bits.{and_le_l, and_le_r, bit_or, bit_xor, or_add_and, or_zero_l, xor_add_and, xor_self}
use lib.Dec.{T, eqb}
use lib.ListN.{get_or-append, drop, get_or, length, length-append, length-drop, take}
use lib.Pow.{mod-pow-add, pow_pos}
use lib.Seq.{ext_get_or, get_or-append-add, get_or-drop, get_or-take, length-take-le}
use Rattle.morphology.specs.Element.{bit}
use Rattle.morphology.specs.Image.{bit_of, is_clean, pixel, stride}
use Rattle.morphology.specs.Lists.{every_of, some_of, tabulate, up_to}
use Rattle.morphology.proofs.CountLaws.{all-suc}
use Rattle.morphology.proofs.ImageLaws.{mem-row}
use Rattle.morphology.proofs.TestLaws.{T_ext, all-out}
use Rattle.raster.specs.Limits.{max_frame, max_stride}
use Rattle.raster.proofs.ByteLaws.{below8}
use Rattle.raster.proofs.LoopLaws.{Mapped}

-- ---- copies

pub copied : (src old new : List ℕ) (i : ℕ) → length src ≡ length old → length old ≤ i → Mapped (λ j. get_or src j 0) old new i → new ≡ src
copied src old new i e h m = ext_get_or 0 new src (m.size ∙ sym e) (λ j l. m.done j (omega (arith, m.size)))

-- the n elements at p copied over the first n
pub copied-down : (p n : ℕ) (old new : List ℕ) → n ≤ p → p + n ≤ length old → Mapped (λ j. get_or old (p + j) 0) old new n
    → new ≡ take n (drop p old) ++ drop n old
copied-down p n old new np h m =
    let a : List ℕ = take n (drop p old) in
    let la : length a ≡ n = length-take-le n (drop p old) (omega (arith, length-drop p old)) in
    ext_get_or 0 new (a ++ drop n old) (m.size ∙ sym (simp length-append (omega (arith, la, length-drop n old)))) (λ i l. by i (dec_lt i n) la)
  where
    by : (i : ℕ) → Dec (i < n) → length (take n (drop p old)) ≡ n → get_or new i 0 ≡ get_or (take n (drop p old) ++ drop n old) i 0
    by i (yes k) la =
        m.done i k
        ∙ sym (get_or-append (take n (drop p old)) (drop n old) 0 i (omega arith) ∙ get_or-take n (drop p old) i 0 k ∙ get_or-drop p old i 0)
    by i (no k) la =
        m.rest i (omega arith)
        ∙ sym (ap (λ (j : ℕ). get_or (take n (drop p old) ++ drop n old) j 0) (omega (arith, la))
        ∙ get_or-append-add (take n (drop p old)) (drop n old) (i - n) 0 ∙ get_or-drop n old (i - n) 0 ∙ ap (λ (j : ℕ). get_or old j 0) (omega arith))

-- ---- ink

pub any-suc : (p : ℕ → Bool) (l : List ℕ) (i : ℕ) → i < length l → some_of p (take (suc i) l) ≡ (some_of p (take i l) || p (get_or l i 0))
any-suc p [] i h = absurd (not-suc-le-zero h)
any-suc p (b ∷ l) zero h = or-false (p b)
any-suc p (b ∷ l) (suc i) h = ap (λ (c : Bool). p b || c) (any-suc p l i (le_of_suc-le-suc h)) ∙ sym (or_assoc (p b) (some_of p (take i l)) (p (get_or l i 0)))

-- an or is 0 where both are
pub or-ink : (a b : ℕ) → not (eqb (bit_or a b) 0) ≡ (not (eqb a 0) || not (eqb b 0))
or-ink zero b = ap (λ (n : ℕ). not (eqb n 0)) (or_zero_l b)
or-ink (suc a) b = ap not (ne_eqb (bit_or (suc a) b) 0 (λ e. omega (arith, or_add_and (suc a) b, and_le_r (suc a) b, e))) ∙ sym (ap (λ (c : Bool). not c || not (eqb b 0)) (ne_eqb (suc a) 0 (λ e. omega arith)))

pub ink_more : (seen : ℕ) (l : List ℕ) (i : ℕ) → i < length l → not (eqb seen 0) ≡ some_of (λ b. not (eqb b 0)) (take i l)
    → not (eqb (bit_or seen (get_or l i 0)) 0) ≡ some_of (λ b. not (eqb b 0)) (take (i + 1) l)
ink_more seen l i h e =
    or-ink seen (get_or l i 0) ∙ ap (λ (c : Bool). c || not (eqb (get_or l i 0) 0)) e
    ∙ sym (ap (λ (n : ℕ). some_of (λ b. not (eqb b 0)) (take n l)) (add-one i) ∙ any-suc (λ b. not (eqb b 0)) l i h)

-- ---- tests of all numbers below n

pub all_more : (p : ℕ → Bool) (n : ℕ) → every_of p (up_to (n + 1)) ≡ (every_of p (up_to n) && p n)
all_more p n = ap (λ (k : ℕ). every_of p (up_to k)) (add-one n) ∙ all-suc p (λ k. k) 0 n ∙ ap (λ (k : ℕ). every_of p (up_to n) && p k) (zero-add n)

pub all-not : (p : ℕ → Bool) (n y : ℕ) → y < n → p y ≡ false → every_of p (up_to n) ≡ false
all-not p n y h e =
    T_ext (λ t. subst T e (all-out p t (subst (λ (k : ℕ). Memᴰ k (up_to n)) (zero-add y) (mem-row (λ k. k) 0 n y h)))) (λ t. absurd t)

-- ---- comparisons

xor-zero : (a b : ℕ) → bit_xor a b ≡ 0 → a ≡ b
xor-zero a b e = omega (arith, xor_add_and a b, and_le_l a b, and_le_r a b)

xor_same : (a b : ℕ) → eqb (bit_xor a b) 0 ≡ eqb a b
xor_same a b = by (ℕ_discrete a b)
  where
    by : Dec (a ≡ b) → eqb (bit_xor a b) 0 ≡ eqb a b
    by (yes e) = eq-eqb (bit_xor a b) 0 (ap (λ (n : ℕ). bit_xor n b) e ∙ xor_self b) ∙ sym (eq-eqb a b e)
    by (no e) = ne_eqb (bit_xor a b) 0 (λ z. e (xor-zero a b z)) ∙ sym (ne_eqb a b e)

or-none : (a b : ℕ) → eqb (bit_or a b) 0 ≡ (eqb a 0 && eqb b 0)
or-none zero b = ap (λ (n : ℕ). eqb n 0) (or_zero_l b)
or-none (suc a) b = ne_eqb (bit_or (suc a) b) 0 (λ e. omega (arith, or_add_and (suc a) b, and_le_r (suc a) b, e)) ∙ sym (ap (λ (c : Bool). c && eqb b 0) (ne_eqb (suc a) 0 (λ e. omega arith)))

pub same_more : (p : ℕ → Bool) (d a b i : ℕ) → eqb d 0 ≡ every_of p (up_to i) → p i ≡ eqb a b → eqb (bit_or d (bit_xor a b)) 0 ≡ every_of p (up_to (i + 1))
same_more p d a b i e q = or-none d (bit_xor a b) ∙ ap₂ ◌&&◌ e (xor_same a b ∙ sym q) ∙ sym (all_more p i)

-- ---- padding

top_digit : (d lo P : ℕ) → d < 2 → 0 < P → eqb (d * P + lo) 0 ≡ (not (eqb d 1) && eqb lo 0)
top_digit zero lo P h hp = ap (λ (n : ℕ). eqb n 0) (zero_add_mul lo)
  where
    zero_add_mul : (lo : ℕ) → 0 * P + lo ≡ lo
    zero_add_mul lo = omega arith
top_digit (suc zero) lo P h hp = ne_eqb (1 * P + lo) 0 (λ e. omega arith)
top_digit (suc (suc d)) lo P h hp = absurd (omega arith)

-- k pixels from x on, the lowest k bits of v, are background
padding_byte : (p : ℕ → Bool) (v x k : ℕ) → ((i : ℕ) → i < k → p (x + i) ≡ bit v (k - suc i))
    → every_of (λ c. not (p c)) (tabulate (λ c. c) x k) ≡ eqb (v % 2 ^ k) 0
unfolding tabulate
padding_byte p v x zero f = sym (ap (λ (n : ℕ). eqb n 0) (mod-one v))
padding_byte p v x (suc k) f =
    let q : suc k ≡ 1 + k = omega arith in
    let z : suc k - 1 ≡ k = omega arith in
    ap₂ (λ (a b : Bool). not a && b) (ap p (sym (add-zero x)) ∙ f 0 (zero-lt-suc k) ∙ ap (bit v) z)
    (padding_byte p v (suc x) k (λ i l. let w : suc k - suc (suc i) ≡ k - suc i = omega arith in ap p (suc-add x i ∙ sym (add-suc x i)) ∙ f (suc i) (omega arith) ∙ ap (bit v) w))
    ∙ sym (top_digit (v / 2 ^ k % 2) (v % 2 ^ k) (2 ^ k) (mod-lt (v / 2 ^ k) (zero-lt-suc 1)) (pow_pos k))
    ∙ sym (ap (λ (n : ℕ). eqb n 0) (ap (λ (j : ℕ). v % 2 ^ j) q ∙ mod-pow-add v 1 k))

-- the last byte of row y, and its padding
abbrev pub last_clean : List ℕ → ℕ → ℕ → ℕ → Bool
last_clean s r m y = eqb (get_or s (y * r + (r - 1)) 0 % m) 0

pub clean_last : (W H r : ℕ) (s : List ℕ) → r ≡ stride W → 1 ≤ W → is_clean W H s ≡ every_of (last_clean s r (2 ^ (r * 8 - W))) (up_to H)
unfolding is_clean pixel bit_of stride
clean_last W H r s q h = (λ i. every_of (λ y. line y i) (up_to H))
  where
    line : (y : ℕ) → every_of (λ x. not (pixel W s x y)) (tabulate (λ x. x) W (stride W * 8 - W)) ≡ last_clean s r (2 ^ (r * 8 - W)) y
    line y =
        ap (λ (n : ℕ). every_of (λ x. not (pixel W s x y)) (tabulate (λ x. x) W (n * 8 - W))) (sym q)
        ∙ padding_byte (λ x. pixel W s x y) (get_or s (y * r + (r - 1)) 0) W (r * 8 - W)
        (λ i l.
        let a : (W + i) / 8 ≡ r - 1 = omega arith in
        let b : 7 - (W + i) % 8 ≡ r * 8 - W - suc i = omega arith in
        ap₂ (λ (u v : ℕ). eqb (get_or s (y * u + (W + i) / 8) 0 / 2 ^ v % 2) 1) (sym q) b
        ∙ ap (λ (u : ℕ). eqb (get_or s (y * r + u) 0 / 2 ^ (r * 8 - W - suc i) % 2) 1) a)

pub one_shl : (k : ℕ) → k < 8 → (1 * 2 ^ k) % 2 ^ 8 ≡ 2 ^ k
one_shl k h = below8 (λ (k : ℕ). (1 * 2 ^ k) % 2 ^ 8 ≡ 2 ^ k) refl refl refl refl refl refl refl refl k h

pub padding_lt : (W r : ℕ) → r ≡ stride W → 1 ≤ W → W ≤ max_frame → (r * 8 - W < 8) × (W ≤ r * 8) × (1 ≤ r) × (r ≤ max_stride)
unfolding stride
padding_lt W r q h l = (omega arith, omega arith, omega arith, omega arith)

pub clean_with : (W H r : ℕ) (s : List ℕ) → r ≡ stride W → 1 ≤ W → W ≤ max_frame
    → is_clean W H s ≡ every_of (last_clean s r ((1 * 2 ^ (r * 8 - W)) % 2 ^ 8)) (up_to H)
clean_with W H r s q h l = clean_last W H r s q h ∙ ap (λ (m : ℕ). every_of (last_clean s r m) (up_to H)) (sym (one_shl (r * 8 - W) (padding_lt W r q h l).0))
