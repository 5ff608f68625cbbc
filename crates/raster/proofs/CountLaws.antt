-- Ones of a list of bytes: of parts of it, of words made of it, of words added place by place.
use mathlib.Core.List.{List, [], ◌++◌, ◌∷◌}
use mathlib.Core.Path.{◌∙◌, ◌≡◌, ap, ap₂, refl, subst, sym}
use Prim.Native.Nat.{◌%◌, ◌*◌, ◌+◌, ◌/◌, ◌<◌, ◌^◌, ◌≤◌, suc, zero, ℕ}
use native.Mathlib.Nat.{add_assoc, add_comm, add-zero, mul-suc, mul-zero, pow-suc, suc-add, suc-mul, zero-add, zero-mul}
use native.Mathlib.Numerals.{one-add}
use native.Mathlib.Omega.{arith}
use lib.Bits.{and_mod, and_shr, bit_and, bit_or, bit_xor, or_mod, or_shr, xor_mod, xor_shr}
use lib.Count.{ones, ones_cat, ones_step}
use lib.ListN.{drop, get_or, length, length-drop, take}
use lib.Pow.{pow-add}
use lib.Seq.{drop-cons, drop-drop, length-take-le, take-add, take-length}
use Rattle.std.specs.Int.{from_le_bytes, w64}
use Rattle.std.specs.Simd.{first_chunks}
use Rattle.morphology.specs.Image.{ones_of}
use Rattle.raster.specs.Counts.{Gathered, ones_apart}

-- ---- parts

ones_append : (a b : List ℕ) → ones_of (a ++ b) ≡ ones_of a + ones_of b
unfolding ones_of
ones_append [] b = sym (zero-add (ones_of b))
ones_append (x ∷ a) b = ap (λ (n : ℕ). ones x + n) (ones_append a b) ∙ sym (add_assoc (ones x) (ones_of a) (ones_of b))

-- k bytes more
pub ones_more : (l : List ℕ) (i k : ℕ) → ones_of (take (i + k) l) ≡ ones_of (take i l) + ones_of (take k (drop i l))
ones_more l i k = ap ones_of (take-add i k l) ∙ ones_append (take i l) (take k (drop i l))

-- one byte more
pub ones_next : (l : List ℕ) (i : ℕ) → i < length l → ones_of (take (i + 1) l) ≡ ones_of (take i l) + ones (get_or l i 0)
unfolding ones_of
ones_next l i h = ones_more l i 1 ∙ rw (drop-cons l i 0) (ap (λ (n : ℕ). ones_of (take i l) + n) (add-zero (ones (get_or l i 0))))

-- all of them
pub ones-whole : (l : List ℕ) (i : ℕ) → i ≡ length l → ones_of (take i l) ≡ ones_of l
ones-whole l i e = ap (λ (n : ℕ). ones_of (take n l)) e ∙ ap ones_of (take-length l)

-- k more, from o on
ones-part : (l : List ℕ) (o i k : ℕ) → ones_of (take (i + k) (drop o l)) ≡ ones_of (take i (drop o l)) + ones_of (take k (drop (o + i) l))
ones-part l o i k = rw (← drop-drop i o l) (ones_more (drop o l) i k)

-- ---- words

-- a byte
pub gathered_byte : {l : List ℕ} {i v : ℕ} → i < length l → v ≡ get_or l i 0 → v < 256 → Gathered l i 1 v
unfolding ones_of
gathered_byte {l} {i} {v} h e b = record { fits = b; same = rw (drop-cons l i 0) (ap ones e ∙ sym (add-zero (ones (get_or l i 0)))) }

-- two numbers side by side
pub gathered_both : {l : List ℕ} {i j k a b : ℕ} → b * 2 ^ (8 * j) + a < 2 ^ (8 * (j + k)) → Gathered l i j a → Gathered l (i + j) k b
    → Gathered l i (j + k) (b * 2 ^ (8 * j) + a)
gathered_both {l} {i} {j} {k} {a} {b} h x y =
    record { fits = h; same = ones_cat (8 * j) b a x.fits ∙ add_comm (ones b) (ones a) ∙ ap₂ ◌+◌ x.same y.same ∙ sym (ones-part l i j k) }

-- the number of some bytes, lowest first
number : List ℕ → ℕ
number [] = 0
number (b ∷ l) = number l * 2 ^ 8 + b

-- it has their ones: the first byte, and the number of the others beside it
gathered_number : {l : List ℕ} (i k : ℕ) → i + k ≤ length l → ((j : ℕ) → get_or l j 0 < 256) → Gathered l i k (number (take k (drop i l)))
unfolding number ones_of ones
gathered_number {l} i zero h b = record { fits = omega arith; same = refl }
gathered_number {l} i (suc k) h b =
    let y = gathered_number {l = l} (i + 1) k (omega arith) b in
    let e : 8 * (1 + k) ≡ 8 * k + 8 = omega arith in
    let q = ap (λ (n : ℕ). 2 ^ n) e ∙ pow-add 2 (8 * k) 8 in
    let n : suc i ≡ i + 1 = omega arith in
    rw (drop-cons l i 0 (omega arith), n) (rw (one-add k) at (gathered_both {j = 1} (omega (arith, q, b i)) (gathered_byte (omega arith) refl (b i)) y))

-- the library's number of eight bytes
number-word : (l : List ℕ) → length l ≡ 8 → from_le_bytes w64 l ≡ number l
unfolding number
number-word [] q = absurd (omega arith)
number-word (a ∷ []) q = absurd (omega arith)
number-word (a ∷ b ∷ []) q = absurd (omega arith)
number-word (a ∷ b ∷ c ∷ []) q = absurd (omega arith)
number-word (a ∷ b ∷ c ∷ d ∷ []) q = absurd (omega arith)
number-word (a ∷ b ∷ c ∷ d ∷ e ∷ []) q = absurd (omega arith)
number-word (a ∷ b ∷ c ∷ d ∷ e ∷ f ∷ []) q = absurd (omega arith)
number-word (a ∷ b ∷ c ∷ d ∷ e ∷ f ∷ g ∷ []) q = absurd (omega arith)
number-word (a ∷ b ∷ c ∷ d ∷ e ∷ f ∷ g ∷ h ∷ []) q = omega arith
number-word (a ∷ b ∷ c ∷ d ∷ e ∷ f ∷ g ∷ h ∷ x ∷ l) q = absurd (omega arith)

-- a word of the bytes from i on
pub gathered_word : {l : List ℕ} {i : ℕ} → i + 8 ≤ length l → ((j : ℕ) → get_or l j 0 < 256) → Gathered l i 8 (from_le_bytes w64 (take 8 (drop i l)))
gathered_word {l} {i} h b = rw (number-word (take 8 (drop i l)) (length-take-le 8 (drop i l) (omega (arith, length-drop i l)))) (gathered_number i 8 h b)

-- a word of all bytes
pub ones-word : (l : List ℕ) → length l ≡ 8 → ((j : ℕ) → get_or l j 0 < 256) → ones (from_le_bytes w64 l) ≡ ones_of l
ones-word l q h =
    let whole : take 8 (drop 0 l) ≡ l = ap (λ (n : ℕ). take n l) (sym q) ∙ take-length l in
    subst (λ (s : List ℕ). ones (from_le_bytes w64 s) ≡ ones_of s) whole (gathered_word {l = l} {i = 0} (omega arith) h).same

-- piece k of n bytes each
pub chunk-at : (n m k : ℕ) (l : List ℕ) → k < m → get_or (first_chunks n m l) k [] ≡ take n (drop (n * k) l)
chunk-at n zero k l h = absurd (omega arith)
chunk-at n (suc m) zero l h = rw mul-zero refl
chunk-at n (suc m) (suc k) l h =
    let e : n + n * k ≡ n * suc k = omega (arith, mul-suc n k) in
    chunk-at n m k (drop n l) (omega arith) ∙ ap (take n) (drop-drop (n * k) n l) ∙ ap (λ (j : ℕ). take n (drop j l)) e

-- ---- words added place by place

abbrev low : ℕ → ℕ → ℕ → ℕ
low a b c = bit_xor (bit_xor a b) c

abbrev high : ℕ → ℕ → ℕ → ℕ
high a b c = bit_or (bit_and a b) (bit_and (bit_xor a b) c)

-- a binary digit
binary : (P : ℕ → Type 0) → P 0 → P 1 → (n : ℕ) → n < 2 → P n
binary P x y zero h = x
binary P x y (suc zero) h = y
binary P x y (suc (suc n)) h = absurd (omega arith)

-- three of them
abbrev Digits : ℕ → ℕ → ℕ → Type 0
Digits a b c = low a b c + 2 * high a b c ≡ a + b + c

digits : (a b c : ℕ) → a < 2 → b < 2 → c < 2 → Digits a b c
digits a b c x y z =
    binary (λ (a : ℕ). Digits a b c)
    (binary (λ (b : ℕ). Digits 0 b c) (binary (Digits 0 0) refl refl c z) (binary (Digits 0 1) refl refl c z) b y)
    (binary (λ (b : ℕ). Digits 1 b c) (binary (Digits 1 0) refl refl c z) (binary (Digits 1 1) refl refl c z) b y)
    a x

-- words of d digits, by the last digit of each and the others
pub added : (d a b c : ℕ) → a < 2 ^ d → b < 2 ^ d → c < 2 ^ d → ones (low a b c) + 2 * ones (high a b c) ≡ ones a + ones b + ones c
unfolding ones
added zero zero zero zero x y z = refl
added zero zero zero (suc c) x y z = absurd (omega arith)
added zero zero (suc b) c x y z = absurd (omega arith)
added zero (suc a) b c x y z = absurd (omega arith)
added (suc d) a b c x y z =
    let half : (n : ℕ) → n < 2 ^ suc d → n / 2 < 2 ^ d = λ n h. omega (arith, pow-suc 2 d) in
    let l : low a b c / 2 ≡ low (a / 2) (b / 2) (c / 2) = rw (xor_shr (bit_xor a b) c 1, xor_shr a b 1) in
    let l' : low a b c % 2 ≡ low (a % 2) (b % 2) (c % 2) = rw (xor_mod (bit_xor a b) c 1, xor_mod a b 1) in
    let h : high a b c / 2 ≡ high (a / 2) (b / 2) (c / 2) =
    rw (or_shr (bit_and a b) (bit_and (bit_xor a b) c) 1, and_shr a b 1, and_shr (bit_xor a b) c 1, xor_shr a b 1) in
    let h' : high a b c % 2 ≡ high (a % 2) (b % 2) (c % 2) =
    rw (or_mod (bit_and a b) (bit_and (bit_xor a b) c) 1, and_mod a b 1, and_mod (bit_xor a b) c 1, xor_mod a b 1) in
    let last = digits (a % 2) (b % 2) (c % 2) (omega arith) (omega arith) (omega arith) in
    let others = added d (a / 2) (b / 2) (c / 2) (half a x) (half b y) (half c z) in
    omega (arith, ones_step (low a b c), ones_step (high a b c), ones_step a, ones_step b, ones_step c, ap ones l, ap ones h)

-- ---- pieces apart

-- k bytes more of each
apart_longer : (l : List ℕ) (p i k o n : ℕ) → ones_apart l p (i + k) o n ≡ ones_apart l p i o n + ones_apart l p k (o + i) n
unfolding ones_apart
apart_longer l p i k o zero = refl
apart_longer l p i k o (suc n) =
    let q : o + p + i ≡ o + i + p = omega arith in
    omega (arith, ones-part l o i k, apart_longer l p i k (o + p) n, ap (λ (m : ℕ). ones_apart l p k m n) q)

pub apart_more : (l : List ℕ) (p i k n : ℕ) → ones_apart l p (i + k) 0 n ≡ ones_apart l p i 0 n + ones_apart l p k i n
apart_more l p i k n = apart_longer l p i k 0 n ∙ ap (λ (o : ℕ). ones_apart l p i 0 n + ones_apart l p k o n) (zero-add i)

-- a and then b of them
pub apart_add : (l : List ℕ) (p k o a b : ℕ) → ones_apart l p k o (a + b) ≡ ones_apart l p k o a + ones_apart l p k (o + a * p) b
unfolding ones_apart
apart_add l p k o zero b = simp (zero-add, zero-mul, add-zero)
apart_add l p k o (suc a) b =
    let q : o + p + a * p ≡ o + suc a * p = omega (arith, suc-mul a p) in
    ap (ones_apart l p k o) (suc-add a b) ∙ omega (arith, apart_add l p k (o + p) a b, ap (λ (m : ℕ). ones_apart l p k m b) q)

-- pieces that fill what is between them
pub apart-whole : (l : List ℕ) (p o n : ℕ) → ones_apart l p p o n ≡ ones_of (take (n * p) (drop o l))
unfolding ones_apart ones_of
apart-whole l p o zero = rw zero-mul
apart-whole l p o (suc n) =
    let q : p + n * p ≡ suc n * p = omega (arith, suc-mul n p) in
    ap (λ (m : ℕ). ones_of (take p (drop o l)) + m) (apart-whole l p (o + p) n) ∙ sym (ones-part l o p (n * p))
    ∙ ap (λ (m : ℕ). ones_of (take m (drop o l))) q
