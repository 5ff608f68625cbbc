-- Pixels of bytes under `&`, `|` and shifts.
use mathlib.Core.Bool.{Bool, ◌&&◌, and-false, and-true, false, not, true, xor}
use mathlib.Core.Path.{◌∙◌, ◌≡◌, ap, refl, sym}
use Prim.Native.Nat.{◌%◌, ◌*◌, ◌+◌, ◌-◌, ◌/◌, ◌<◌, ◌^◌, ◌≤◌, suc, zero, ℕ}
use native.Mathlib.Decide.{dec_le}
use native.Mathlib.Nat.{add-zero, mod-eq_of_lt, zero-div, zero-mul}
use native.Mathlib.Omega.{arith}
use borrow.Author.Tests.{le-leb, le-ltb, lt-leb, lt-ltb, ne_eqb}
use lib.Bits.{and_high, bit_and, bit_or, bit_xor, or_shifted}
use lib.Dec.{eqb, leb, ltb}
use lib.Pow.{pow_pos, shl-shr, shr-shr, split}
use Rattle.morphology.specs.Element.{bit}
use Rattle.morphology.specs.Image.{bit_of}
use Rattle.morphology.proofs.BitLaws.{bit-and, bit-or, bit-xor}
use Rattle.morphology.proofs.ImageLaws.{below_top}
use Rattle.raster.specs.Rows.{join, join_byte}

-- ---- joined bytes

pub join-bit : (t : Bool) (a b k : ℕ) → bit_of (join_byte t a b) k ≡ join t (bit_of a k) (bit_of b k)
unfolding bit_of
join-bit true a b k = bit-or a b (7 - k)
join-bit false a b k = bit-and a b (7 - k)

-- each k below 8
not8 : {k : ℕ} → suc (suc (suc (suc (suc (suc (suc (suc k))))))) < 8 → ⊥
not8 {k} l = omega arith

pub below8 : (P : ℕ → Type 0) → P 0 → P 1 → P 2 → P 3 → P 4 → P 5 → P 6 → P 7 → (k : ℕ) → k < 8 → P k
below8 P a b c d e f g h zero l = a
below8 P a b c d e f g h (suc zero) l = b
below8 P a b c d e f g h (suc (suc zero)) l = c
below8 P a b c d e f g h (suc (suc (suc zero))) l = d
below8 P a b c d e f g h (suc (suc (suc (suc zero)))) l = e
below8 P a b c d e f g h (suc (suc (suc (suc (suc zero))))) l = f
below8 P a b c d e f g h (suc (suc (suc (suc (suc (suc zero)))))) l = g
below8 P a b c d e f g h (suc (suc (suc (suc (suc (suc (suc zero))))))) l = h
below8 P a b c d e f g h (suc (suc (suc (suc (suc (suc (suc (suc k)))))))) l = absurd (not8 l)

-- what the code computes of two neighbouring bytes, moved left by d
abbrev pub moved_byte : ℕ → ℕ → ℕ → ℕ
moved_byte a b d = bit_or ((a * 2 ^ d) % 2 ^ 8) (b / 2 ^ (7 - d) / 2 ^ 1)

-- as a sum
pub moved_sum : (a b d : ℕ) → a < 256 → b < 256 → d < 8 → moved_byte a b d ≡ (a * 2 ^ d) % 2 ^ 8 + b / 2 ^ (7 - d) / 2 ^ 1
moved_sum a b d ha hb hd =
    below8 (λ (d : ℕ). moved_byte a b d ≡ (a * 2 ^ d) % 2 ^ 8 + b / 2 ^ (7 - d) / 2 ^ 1)
    (one 0 (omega arith) (omega arith)) (one 1 (omega arith) (omega arith)) (one 2 (omega arith) (omega arith)) (one 3 (omega arith) (omega arith))
    (one 4 (omega arith) (omega arith)) (one 5 (omega arith) (omega arith)) (one 6 (omega arith) (omega arith)) (one 7 (omega arith) (omega arith)) d hd
  where
    one : (d : ℕ) → (a * 2 ^ d) % 2 ^ 8 ≡ ((a * 2 ^ d) % 2 ^ 8 / 2 ^ d) * 2 ^ d → b / 2 ^ (7 - d) / 2 ^ 1 < 2 ^ d
        → moved_byte a b d ≡ (a * 2 ^ d) % 2 ^ 8 + b / 2 ^ (7 - d) / 2 ^ 1
    one d e l =
        ap (λ (n : ℕ). bit_or n (b / 2 ^ (7 - d) / 2 ^ 1)) e ∙ or_shifted ((a * 2 ^ d) % 2 ^ 8 / 2 ^ d) d (b / 2 ^ (7 - d) / 2 ^ 1) l
        ∙ ap (λ (n : ℕ). n + b / 2 ^ (7 - d) / 2 ^ 1) (sym e)

-- digit m, from the left, of two neighbouring bytes
unfoldable pub win : ℕ → ℕ → ℕ → ℕ
win a b m = (a * 256 + b) / 2 ^ (15 - m) % 2

pub win-left : (a b m : ℕ) → b < 256 → m < 8 → eqb (win a b m) 1 ≡ bit_of a m
unfolding win bit_of
win-left a b m hb h =
    ap (λ (n : ℕ). eqb n 1)
    (below8 (λ (m : ℕ). (a * 256 + b) / 2 ^ (15 - m) % 2 ≡ a / 2 ^ (7 - m) % 2)
    (omega arith) (omega arith) (omega arith) (omega arith) (omega arith) (omega arith) (omega arith) (omega arith) m h)

pub win_right : (a b m : ℕ) → b < 256 → m < 8 → eqb (win a b (8 + m)) 1 ≡ bit_of b m
unfolding win bit_of
win_right a b m hb h =
    ap (λ (n : ℕ). eqb n 1)
    (below8 (λ (m : ℕ). (a * 256 + b) / 2 ^ (15 - (8 + m)) % 2 ≡ b / 2 ^ (7 - m) % 2)
    (omega arith) (omega arith) (omega arith) (omega arith) (omega arith) (omega arith) (omega arith) (omega arith) m h)

-- the moved byte is a byte of the two
moved_shr : (a b d : ℕ) → a < 256 → b < 256 → d < 8 → moved_byte a b d ≡ (a * 256 + b) / 2 ^ (8 - d) % 256
moved_shr a b d ha hb hd =
    moved_sum a b d ha hb hd
    ∙ below8 (λ (d : ℕ). (a * 2 ^ d) % 2 ^ 8 + b / 2 ^ (7 - d) / 2 ^ 1 ≡ (a * 256 + b) / 2 ^ (8 - d) % 256)
    (omega arith) (omega arith) (omega arith) (omega arith) (omega arith) (omega arith) (omega arith) (omega arith) d hd

byte_dig : (n k : ℕ) → k < 8 → n % 256 / 2 ^ (7 - k) % 2 ≡ n / 2 ^ (7 - k) % 2
byte_dig n k h =
    below8 (λ (k : ℕ). n % 256 / 2 ^ (7 - k) % 2 ≡ n / 2 ^ (7 - k) % 2)
    (omega arith) (omega arith) (omega arith) (omega arith) (omega arith) (omega arith) (omega arith) (omega arith) k h

pub moved-bit : (a b d k : ℕ) → a < 256 → b < 256 → d < 8 → k < 8 → bit_of (moved_byte a b d) k ≡ eqb (win a b (k + d)) 1
unfolding win bit_of
moved-bit a b d k ha hb hd hk =
    let v : ℕ = a * 256 + b in
    ap (λ (n : ℕ). eqb n 1)
    (ap (λ (n : ℕ). n / 2 ^ (7 - k) % 2) (moved_shr a b d ha hb hd)
    ∙ byte_dig (v / 2 ^ (8 - d)) k hk
    ∙ ap (λ (n : ℕ). n % 2) (shr-shr v (8 - d) (7 - k))
    ∙ ap (λ (n : ℕ). v / 2 ^ n % 2) (omega arith))

-- the lowest k bits cleared, as a word: a byte still, and pixels from 8 - k on are background
pub cleared-bit : (v k j : ℕ) → v < 256 → k ≤ 8 → j < 8 → bit_of ((v / 2 ^ k * 2 ^ k) % 2 ^ 32) j ≡ (bit_of v j && ltb j (8 - k))
unfolding bit_of
cleared-bit v k j hv hk hj = ap (λ (n : ℕ). eqb (n / 2 ^ m % 2) 1) e ∙ by (dec_le k m)
  where
    m : ℕ
    m = 7 - j

    u : ℕ
    u = v / 2 ^ k * 2 ^ k

    e : u % 2 ^ 32 ≡ u
    e = mod-eq_of_lt (omega (arith, split v k))

    by : Dec (k ≤ m) → eqb (u / 2 ^ m % 2) 1 ≡ (eqb (v / 2 ^ m % 2) 1 && ltb j (8 - k))
    by (yes l) =
        let q : m ≡ k + (m - k) = omega arith in
        let h : j < 8 - k = omega arith in
        ap (λ (n : ℕ). eqb (n % 2) 1)
        (ap (λ (n : ℕ). u / 2 ^ n) q ∙ sym (shr-shr u k (m - k)) ∙ ap (λ (n : ℕ). n / 2 ^ (m - k)) (shl-shr (v / 2 ^ k) k)
        ∙ shr-shr v k (m - k) ∙ ap (λ (n : ℕ). v / 2 ^ n) (sym q))
        ∙ sym (and-true (eqb (v / 2 ^ m % 2) 1)) ∙ ap (λ (b : Bool). eqb (v / 2 ^ m % 2) 1 && b) (sym (lt-ltb j (8 - k) h))
    by (no l) =
        let h : 8 - k ≤ j = omega arith in
        ap (λ (n : ℕ). eqb n 1)
        (ap (λ (n : ℕ). n / 2 ^ m % 2) (sym (add-zero u)) ∙ below_top (v / 2 ^ k) k 0 m (omega arith) ∙ ap (λ (n : ℕ). n % 2) (zero-div (2 ^ m)))
        ∙ sym (and-false (eqb (v / 2 ^ m % 2) 1)) ∙ ap (λ (b : Bool). eqb (v / 2 ^ m % 2) 1 && b) (sym (le-ltb j (8 - k) h))

-- the highest k bits cleared: pixels before k are background
pub started-bit : (v k j : ℕ) → k < 8 → j < 8 → bit_of ((v * 2 ^ k) % 2 ^ 8 / 2 ^ k) j ≡ (bit_of v j && leb k j)
unfolding bit_of
started-bit v k j hk hj = ap (λ (n : ℕ). eqb (n % 2) 1) (shr-shr u k (7 - j)) ∙ by (dec_le k j)
  where
    u : ℕ
    u = (v * 2 ^ k) % 2 ^ 8

    by : Dec (k ≤ j) → eqb (u / 2 ^ (k + (7 - j)) % 2) 1 ≡ (eqb (v / 2 ^ (7 - j) % 2) 1 && leb k j)
    by (yes l) =
        let q : k + (7 - j) ≡ 7 - (j - k) = omega arith in
        ap (λ (n : ℕ). eqb n 1)
        (ap (λ (n : ℕ). u / 2 ^ n % 2) q ∙ byte_dig (v * 2 ^ k) (j - k) (omega arith) ∙ ap (λ (n : ℕ). v * 2 ^ k / 2 ^ n % 2) (sym q)
        ∙ ap (λ (n : ℕ). n % 2) (sym (shr-shr (v * 2 ^ k) k (7 - j)) ∙ ap (λ (n : ℕ). n / 2 ^ (7 - j)) (shl-shr v k)))
        ∙ sym (and-true (eqb (v / 2 ^ (7 - j) % 2) 1)) ∙ ap (λ (b : Bool). eqb (v / 2 ^ (7 - j) % 2) 1 && b) (sym (le-leb k j l))
    by (no l) =
        let q : k + (7 - j) ≡ 8 + (k - j - 1) = omega arith in
        let z : u / 2 ^ 8 ≡ 0 = omega arith in
        ap (λ (n : ℕ). eqb (n % 2) 1)
        (ap (λ (n : ℕ). u / 2 ^ n) q ∙ sym (shr-shr u 8 (k - j - 1)) ∙ ap (λ (n : ℕ). n / 2 ^ (k - j - 1)) z ∙ zero-div (2 ^ (k - j - 1)))
        ∙ sym (and-false (eqb (v / 2 ^ (7 - j) % 2) 1)) ∙ ap (λ (b : Bool). eqb (v / 2 ^ (7 - j) % 2) 1 && b) (sym (lt-leb k j (omega arith)))

-- the test of one bit
pub bit_test : (b x : ℕ) → x < 8 → not (eqb (bit_and b (128 / 2 ^ x)) 0) ≡ bit_of b x
unfolding bit_of
bit_test b x h =
    ap (λ (n : ℕ). not (eqb (bit_and b n) 0)) (below8 (λ (x : ℕ). 128 / 2 ^ x ≡ 2 ^ (1 + (7 - x)) - 2 ^ (7 - x)) refl refl refl refl refl refl refl refl x h)
    ∙ ap (λ (n : ℕ). not (eqb n 0)) (and_high b 1 (7 - x)) ∙ by (b / 2 ^ (7 - x) % 2) (2 ^ (7 - x)) (omega arith) (pow_pos (7 - x))
  where
    by : (d p : ℕ) → d < 2 → 0 < p → not (eqb (d * p) 0) ≡ eqb d 1
    by zero p h l = ap (λ (n : ℕ). not (eqb n 0)) (zero-mul p)
    by (suc zero) p h l = ap not (ne_eqb (1 * p) 0 (λ e. absurd (omega arith)))
    by (suc (suc d)) p h l = absurd (omega arith)

pub zero_bit : (n k : ℕ) → n ≡ 0 → bit_of n k ≡ false
unfolding bit_of
zero_bit n k e = ap (λ (n : ℕ). eqb (n / 2 ^ (7 - k) % 2) 1) e ∙ ap (λ (n : ℕ). eqb (n % 2) 1) (zero-div (2 ^ (7 - k)))

pub full-bit : (k : ℕ) → k < 8 → bit_of 255 k ≡ true
unfolding bit_of
full-bit k h = below8 (λ (k : ℕ). eqb (255 / 2 ^ (7 - k) % 2) 1 ≡ true) refl refl refl refl refl refl refl refl k h

-- foreground and background exchanged
pub inverted-bit : (b k : ℕ) → k < 8 → bit_of (bit_xor b 255) k ≡ not (bit_of b k)
unfolding bit_of xor
inverted-bit b k h = bit-xor b 255 (7 - k) ∙ ap (xor (bit b (7 - k))) (full-bit k h) ∙ flip (bit b (7 - k))
  where
    flip : (c : Bool) → xor c true ≡ not c
    flip true = refl
    flip false = refl

-- pixels of a less those of b
pub less-bit : (a b k : ℕ) → k < 8 → bit_of (bit_and a (bit_xor b 255)) k ≡ (bit_of a k && not (bit_of b k))
unfolding bit_of
less-bit a b k h = bit-and a (bit_xor b 255) (7 - k) ∙ ap (λ (c : Bool). bit a (7 - k) && c) (inverted-bit b k h)
