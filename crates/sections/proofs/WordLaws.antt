-- Words of pixels: the highest points of one, its pixels part by part, and a pen that goes down it.
use mathlib.Core.Bool.{Bool, ◌||◌, false, true, xor}
use mathlib.Core.List.{List, [], ◌++◌, ◌∷◌, append_assoc}
use mathlib.Core.Path.{◌∙◌, ◌≡◌, ap, ap₂, refl, subst, sym}
use Prim.Native.Nat.{◌%◌, ◌*◌, ◌+◌, ◌-◌, ◌/◌, ◌<◌, ◌^◌, ◌≤◌, suc, zero, ℕ}
use native.Mathlib.Nat.{le_of_lt, le_of_suc-le-suc, le_refl, le_trans, lt_of_le_of_lt, lt_of_lt_of_le, lt_of_not-le, not-le_of_lt, not-suc-le-zero, zero-lt-suc}
use native.Mathlib.Nat.{mod-eq_of_lt, mod-le, mod-lt, mod-one, one-mul, pow-suc, zero-div}
use native.Mathlib.Numerals.{one-add}
use native.Mathlib.Omega.{arith}
use borrow.Author.Tests.{eqb-false}
use lib.Bits.{bit_or, bit_xor, or_lt, or_self, xor_lt, xor_self}
use lib.Count.{leading_length, leading_top, count_leading_zeros, ones, ones_cat, ones-ones, ones_step, ones_in}
use lib.Dec.{eqb}
use lib.ListN.{replicate}
use lib.Pow.{field, high, low, mod-mod-pow, mod-pow-add, ones_lt, ones_split, ones_sub-lt, pow_mono, pow_pos, shl_exact, shr_lt, shr-shr}
use Rattle.morphology.specs.Element.{bit}
use Rattle.morphology.proofs.BitLaws.{bit-or, bit-xor}
use Rattle.sections.specs.Kinds.{Kind, count_after, free, kind, masked, point, runs_of}
use Rattle.sections.specs.Pens.{Marked, PenRoom, PenWalked}
use Rattle.sections.specs.Words.{word_kinds}
use Rattle.sections.proofs.KindLaws.{count_parts_lem, runs_parts}
use Rattle.sections.proofs.PenLaws.{marked-none, walk_front, walk_next, walked_append, walked_none}

-- ---- powers of two

-- `1 << h`, as the code has it
abbrev pub power : ℕ → ℕ
power h = (1 * 2 ^ h) % 2 ^ 64

pub power_is : (h : ℕ) → h < 64 → power h ≡ 2 ^ h
power_is h l = shl_exact 1 h 64 (le_refl 2) (omega arith) ∙ one-mul (2 ^ h)

pub power_pos : (h : ℕ) → h < 64 → 0 < power h
power_pos h l = subst (λ (p : ℕ). 0 < p) (sym (power_is h l)) (pow_pos h)

-- what is left below bit h
pub low_lt : (n h : ℕ) → h < 64 → n % power h < 2 ^ h
low_lt n h l = subst (λ (p : ℕ). n % p < 2 ^ h) (sym (power_is h l)) (mod-lt n (pow_pos h))

-- ---- the highest points of h pixels: h less the length of the gaps

-- the pixels that are no points
abbrev gaps : ℕ → ℕ → ℕ
gaps h left = 2 ^ h - 1 - left

-- where 2 ^ h is `p`, as the code has it
abbrev pub Leading : ℕ → ℕ → ℕ → Type 0
Leading p left h = let n = count_leading_zeros 64 (p - 1 - left) + h - 64 in (n ≤ h) × (left / 2 ^ (h - n) ≡ 2 ^ n - 1)

module _ (h left : ℕ) (small : h < 64) (fits : left < 2 ^ h) where
  -- the length of the gaps
  top : (m : ℕ) × (count_leading_zeros 64 (gaps h left) + m ≡ 64) × (gaps h left < 2 ^ m) × (2 ^ m ≤ 2 * gaps h left + 1)
  top = leading_length 64 (gaps h left) (lt_of_lt_of_le (ones_sub-lt h left) (pow_mono (le_of_lt small)))

  -- at most h
  top_le : top.0 ≤ h
  top_le = le_of_suc-le-suc (lt_of_not-le (λ (g : suc h ≤ top.0). not-le_of_lt (omega (arith, pow-suc 2 h, top.3, fits)) (pow_mono g)))

  -- `leading_zeros(gaps) + h` is not below 64
  pub leading_in : 64 ≤ count_leading_zeros 64 (gaps h left) + h
  leading_in = omega (arith, top.1, top_le)

  -- all ones less the gaps, in two parts
  apart : (p x q c : ℕ) → p - 1 ≡ x + (q - 1) → c ≡ p - 1 - left → left < p → c < q → left ≡ x + (q - 1 - c)
  apart p x q c e f l k = omega arith

  -- above the gaps there are ones only
  pub leading-points : Leading (2 ^ h) left h
  leading-points =
      let m = top.0 in
      let n = h - m in
      let i : n ≡ count_leading_zeros 64 (gaps h left) + h - 64 = omega (arith, top.1, top_le) in
      let j : m ≡ h - n = omega (arith, top_le) in
      let k : n + m ≡ h = omega (arith, top_le) in
      let e : left ≡ (2 ^ n - 1) * 2 ^ m + (2 ^ m - 1 - gaps h left) =
      apart (2 ^ h) ((2 ^ n - 1) * 2 ^ m) (2 ^ m) (gaps h left) (ap (λ (t : ℕ). 2 ^ t - 1) (sym k) ∙ ones_split n m) refl fits top.2 in
      subst (λ (t : ℕ). (t ≤ h) × (left / 2 ^ (h - t) ≡ 2 ^ t - 1)) i (
        omega (arith, top_le),
        ap (λ (t : ℕ). left / 2 ^ t) (sym j) ∙ ap (λ (t : ℕ). t / 2 ^ m) e ∙ high (2 ^ n - 1) m (ones_sub-lt m (gaps h left)),
      )

-- ---- bits of a number's parts

-- from bit j on
pub bit_high : (n j i : ℕ) → bit (n / 2 ^ j) i ≡ bit n (i + j)
bit_high n j i = let e : j + i ≡ i + j = omega arith in ap (λ (x : ℕ). eqb (x % 2) 1) (shr-shr n j i) ∙ ap (bit n) e

-- below bit j
pub bit_low : (n j i : ℕ) → i < j → bit (n % 2 ^ j) i ≡ bit n i
bit_low n j i l =
    let k = j - i - 1 in
    let e : j ≡ (k + 1) + i = omega arith in
    ap (λ (x : ℕ). bit (n % 2 ^ x) i) e ∙ ap (λ (x : ℕ). eqb (x % 2) 1) (field n (k + 1) i) ∙ ap (λ (x : ℕ). eqb x 1) (mod-mod-pow (n / 2 ^ i) k 1)

-- the same, by the code's power
power-bit : (h : ℕ) → h < 64 → (n i : ℕ) → i < h → bit n i ≡ bit (n % power h) i
power-bit h s n i l = sym (ap (λ (p : ℕ). bit (n % p) i) (power_is h s) ∙ bit_low n h i l)

-- every bit of 2 ^ n - 1
pub bit-ones : (n i : ℕ) → i < n → bit (2 ^ n - 1) i ≡ true
bit-ones n i l =
    let k = n - i - 1 in
    let e : n ≡ (k + 1) + i = omega arith in
    ap (λ (x : ℕ). bit (2 ^ x - 1) i) e
    ∙ ap (λ (x : ℕ). eqb (x % 2) 1) (ap (λ (x : ℕ). x / 2 ^ i) (ones_split (k + 1) i) ∙ high (2 ^ (k + 1) - 1) i (ones_lt i) ∙ ones_split k 1)
    ∙ ap (λ (x : ℕ). eqb x 1) (low (2 ^ k - 1) 1 (ones_lt 1))

-- and none of 0
pub bit-zero : (i : ℕ) → bit 0 i ≡ false
bit-zero i = ap (λ (x : ℕ). eqb (x % 2) 1) (zero-div (2 ^ i))

-- ---- pixels by two words: one of points, one of the pixels that are counted

abbrev coded : Bool → Bool → Kind
coded true f = point
coded false true = free
coded false false = masked

-- the n pixels below height n, the highest leftmost
unfoldable pub pixels : ℕ → ℕ → ℕ → List Kind
pixels zero p f = []
pixels (suc n) p f = coded (bit p n) (bit f n) ∷ pixels n p f

-- no pixel below a height is both
abbrev pub Apart : ℕ → ℕ → ℕ → Type 0
Apart n p f = (i : ℕ) → i < n → bit p i ≡ true → bit f i ≡ false

-- equal where the bits are
pixels_agree : (n p f q g : ℕ) → ((i : ℕ) → i < n → bit p i ≡ bit q i) → ((i : ℕ) → i < n → bit f i ≡ bit g i) → pixels n p f ≡ pixels n q g
unfolding pixels
pixels_agree zero p f q g h k = refl
pixels_agree (suc n) p f q g h k =
    ap₂ (λ (a : Kind) (l : List Kind). a ∷ l) (ap₂ coded (h n (omega arith)) (k n (omega arith)))
    (pixels_agree n p f q g (λ i l. h i (omega arith)) (λ i l. k i (omega arith)))

-- the n highest of n + j
pixels_parts : (n j p f : ℕ) → pixels (n + j) p f ≡ pixels n (p / 2 ^ j) (f / 2 ^ j) ++ pixels j p f
unfolding pixels
pixels_parts zero j p f = let e : 0 + j ≡ j = omega arith in ap (λ (n : ℕ). pixels n p f) e
pixels_parts (suc n) j p f =
    let e : suc n + j ≡ suc (n + j) = omega arith in
    ap (λ (i : ℕ). pixels i p f) e
    ∙ ap₂ (λ (a : Kind) (l : List Kind). a ∷ l) (sym (ap₂ coded (bit_high p j n) (bit_high f j n))) (pixels_parts n j p f)

-- ---- pixels with no point

-- no run ends in them
gap_runs : (n k f : ℕ) → runs_of k (pixels n 0 f) ≡ []
unfolding runs_of pixels
gap_runs zero k f = refl
gap_runs (suc n) k f = ap (λ (b : Bool). runs_of k (coded b (bit f n) ∷ pixels n 0 f)) (bit-zero n) ∙ go (gap_runs n (suc k) f) (gap_runs n k f) (bit f n)
  where
    go : runs_of (suc k) (pixels n 0 f) ≡ [] → runs_of k (pixels n 0 f) ≡ [] → (b : Bool) → runs_of k (coded false b ∷ pixels n 0 f) ≡ []
    go x y true = x
    go x y false = y

-- a binary digit counts itself
pub ones_digit : (d : ℕ) → d < 2 → ones d ≡ d
unfolding ones ones_in
ones_digit zero h = refl
ones_digit (suc zero) h = refl
ones_digit (suc (suc d)) h = absurd (not-suc-le-zero (le_of_suc-le-suc (le_of_suc-le-suc h)))

-- the highest digit, and the count of the rest
pub ones-top : (n f : ℕ) → ones (f % 2 ^ suc n) ≡ f / 2 ^ n % 2 + ones (f % 2 ^ n)
ones-top n f =
    ap (λ (x : ℕ). ones (f % 2 ^ x)) (sym (one-add n)) ∙ ap ones (mod-pow-add f 1 n) ∙ ones_cat n (f / 2 ^ n % 2) (f % 2 ^ n) (mod-lt f (pow_pos n))
    ∙ ap (λ (x : ℕ). x + ones (f % 2 ^ n)) (ones_digit (f / 2 ^ n % 2) (mod-lt (f / 2 ^ n) (zero-lt-suc 1)))

-- and the others are counted
gap-count : (n k f : ℕ) → count_after k (pixels n 0 f) ≡ k + ones (f % 2 ^ n)
unfolding count_after pixels
gap-count zero k f = omega (arith, ap ones (mod-one f), ones_digit 0 (omega arith))
gap-count (suc n) k f =
    ap (λ (b : Bool). count_after k (coded b (bit f n) ∷ pixels n 0 f)) (bit-zero n)
    ∙ go (gap-count n (suc k) f) (gap-count n k f) (f / 2 ^ n % 2) (mod-lt (f / 2 ^ n) (zero-lt-suc 1))
    ∙ ap (λ (x : ℕ). k + x) (sym (ones-top n f))
  where
    go : count_after (suc k) (pixels n 0 f) ≡ suc k + ones (f % 2 ^ n) → count_after k (pixels n 0 f) ≡ k + ones (f % 2 ^ n)
        → (d : ℕ) → d < 2 → count_after k (coded false (eqb d 1) ∷ pixels n 0 f) ≡ k + (d + ones (f % 2 ^ n))
    go x y zero h = y ∙ omega arith
    go x y (suc zero) h = x ∙ omega arith
    go x y (suc (suc d)) h = absurd (not-suc-le-zero (le_of_suc-le-suc (le_of_suc-le-suc h)))

-- ---- pixels up to the first point

module _ (n k f : ℕ) (fits : f < 2 ^ (n + 1)) (even : f % 2 ≡ 0) where
  first : pixels (n + 1) 1 f ≡ pixels n 0 (f / 2) ++ point ∷ []
  unfolding pixels
  first = pixels_parts n 1 1 f

  before : count_after k (pixels n 0 (f / 2)) ≡ k + ones f
  before =
      gap-count n k (f / 2) ∙ ap (λ (x : ℕ). k + ones x) (mod-eq_of_lt (shr_lt n 1 fits))
      ∙ ap (λ (x : ℕ). k + x) (sym (ones_step f ∙ ap (λ (x : ℕ). x + ones (f / 2)) even ∙ omega arith))

  first_runs : runs_of k (pixels (n + 1) 1 f) ≡ (k + ones f) ∷ []
  unfolding runs_of
  first_runs =
      ap (runs_of k) first ∙ runs_parts k (pixels n 0 (f / 2)) (point ∷ [])
      ∙ ap₂ (λ (rs : List ℕ) (c : ℕ). rs ++ c ∷ []) (gap_runs n k (f / 2)) before

  first_count : count_after k (pixels (n + 1) 1 f) ≡ 0
  unfolding count_after
  first_count = ap (count_after k) first ∙ count_parts_lem k (pixels n 0 (f / 2)) (point ∷ [])

-- ---- points alone

-- each ends a run of no pixel
points-runs : (n p f : ℕ) → ((i : ℕ) → i < n → bit p i ≡ true) → runs_of 0 (pixels n p f) ≡ replicate n 0
unfolding runs_of pixels
points-runs zero p f h = refl
points-runs (suc n) p f h =
    ap (λ (b : Bool). runs_of 0 (coded b (bit f n) ∷ pixels n p f)) (h n (omega arith))
    ∙ ap (λ (rs : List ℕ). 0 ∷ rs) (points-runs n p f (λ i l. h i (omega arith)))

-- and none is counted after them
points-count : (n p f : ℕ) → ((i : ℕ) → i < n → bit p i ≡ true) → count_after 0 (pixels n p f) ≡ 0
unfolding count_after pixels
points-count zero p f h = refl
points-count (suc n) p f h =
    ap (λ (b : Bool). count_after 0 (coded b (bit f n) ∷ pixels n p f)) (h n (omega arith)) ∙ points-count n p f (λ i l. h i (omega arith))

-- ---- a word of foreground and a word of mask

-- the bits of both words: points, and pixels that are counted
point-bit : (a b : Bool) → coded (xor (a || b) b) (xor true (a || b)) ≡ kind b a
unfolding xor
point-bit true true = refl
point-bit true false = refl
point-bit false true = refl
point-bit false false = refl

free-bit : (a b : Bool) → xor (a || b) b ≡ true → xor true (a || b) ≡ false
unfolding xor
free-bit true b e = refl
free-bit false true e = refl
free-bit false false e = sym e

-- `u64::MAX >> (64 - m)`
pub all_ones : (m : ℕ) → m ≤ 64 → (2 ^ 64 - 1) / 2 ^ (64 - m) ≡ 2 ^ m - 1
all_ones m l =
    let e : 64 ≡ m + (64 - m) = omega arith in
    ap (λ (x : ℕ). (2 ^ x - 1) / 2 ^ (64 - m)) e ∙ ap (λ (x : ℕ). x / 2 ^ (64 - m)) (ones_split m (64 - m)) ∙ high (2 ^ m - 1) (64 - m) (ones_lt (64 - m))

-- ---- d pixels and the point after them

-- `u64::MAX >> (63 - d)`
abbrev pub reach : ℕ → ℕ
reach d = (2 ^ 64 - 1) / 2 ^ (63 - d)

reach_is : (d : ℕ) → d < 64 → reach d ≡ 2 ^ (d + 1) - 1
reach_is d l = let e : 63 - d ≡ 64 - (d + 1) = omega arith in ap (λ (x : ℕ). (2 ^ 64 - 1) / 2 ^ x) e ∙ all_ones (d + 1) (omega arith)

-- where all but the point are free, d are
pub ones-reach : (d : ℕ) → d < 64 → ones (reach d - 1) ≡ d
ones-reach d l =
    let e : (2 ^ d - 1) * 2 ^ 1 + (2 ^ 1 - 1) - 1 ≡ (2 ^ d - 1) * 2 ^ 1 + 0 = omega arith in
    ap (λ (x : ℕ). ones (x - 1)) (reach_is d l ∙ ones_split d 1) ∙ ap ones e ∙ ones_cat 1 (2 ^ d - 1) 0 (omega arith)
    ∙ omega (arith, ones-ones d, ones_digit 0 (omega arith))

-- ---- points and the others

abbrev pub points : ℕ → ℕ → ℕ
points ink mask = bit_xor (bit_or ink mask) mask

abbrev pub others : ℕ → ℕ → ℕ → ℕ
others all ink mask = bit_xor all (bit_or ink mask)

module _ (m all ink mask : ℕ) (full : all ≡ 2 ^ m - 1) where
  points-at : (i : ℕ) → bit (points ink mask) i ≡ xor (bit ink i || bit mask i) (bit mask i)
  points-at i = bit-xor (bit_or ink mask) mask i ∙ ap (λ (b : Bool). xor b (bit mask i)) (bit-or ink mask i)

  others-at : (i : ℕ) → i < m → bit (others all ink mask) i ≡ xor true (bit ink i || bit mask i)
  others-at i l = bit-xor all (bit_or ink mask) i ∙ ap₂ xor (ap (λ (n : ℕ). bit n i) full ∙ bit-ones m i l) (bit-or ink mask i)

  word-apart : Apart m (points ink mask) (others all ink mask)
  word-apart i l e = others-at i l ∙ free-bit (bit ink i) (bit mask i) (sym (points-at i) ∙ e)

  below : (n : ℕ) → n ≤ m → word_kinds n ink mask ≡ pixels n (points ink mask) (others all ink mask)
  unfolding word_kinds pixels
  below zero l = refl
  below (suc n) l =
      ap₂ (λ (a : Kind) (r : List Kind). a ∷ r) (sym (ap₂ coded (points-at n) (others-at n l) ∙ point-bit (bit ink n) (bit mask n))) (below n (omega arith))

  word-pixels : word_kinds m ink mask ≡ pixels m (points ink mask) (others all ink mask)
  word-pixels = below m (le_refl m)

  module _ (ink_fits : ink < 2 ^ m) (mask_fits : mask < 2 ^ m) where
    points_lt : points ink mask < 2 ^ m
    points_lt = xor_lt m (bit_or ink mask) mask (or_lt m ink mask ink_fits mask_fits) mask_fits

    others_lt : others all ink mask < 2 ^ m
    others_lt = xor_lt m all (bit_or ink mask) (subst (λ (x : ℕ). x < 2 ^ m) (sym full) (ones_lt m)) (or_lt m ink mask ink_fits mask_fits)

-- ---- steps down a word

-- the runs rs end in the pixels between two heights, the last at a point
pub record Step (k height left rest : ℕ) (rs : List ℕ) (height' left' rest' : ℕ) : Type 0 where
  pub passed : List Kind
  pub parts : pixels height left rest ≡ passed ++ pixels height' left' rest'
  pub runs : runs_of k passed ≡ rs
  pub none : count_after k passed ≡ 0
  pub lower : height' ≤ height
  pub small : left' < 2 ^ height'
  pub fits : rest' < 2 ^ height'
  pub apart : Apart height' left' rest'

-- the place of the highest point
abbrev pub Top : ℕ → ℕ → Type 0
Top left h = (h < 64) × (2 ^ h ≤ left) × (left < 2 ^ suc h)

abbrev pub highest : ℕ → ℕ
highest left = 63 - count_leading_zeros 64 left

pub top-point : (left : ℕ) → 0 < left → left < 2 ^ 64 → (count_leading_zeros 64 left ≤ 63) × Top left (highest left)
top-point left p l =
    let t = leading_top 64 left p l in
    let e : t.0 ≡ 63 - count_leading_zeros 64 left = omega (arith, t.1) in
    (omega (arith, t.1), subst (Top left) e (omega (arith, t.1), t.2, t.3))

-- below the height of the word
pub top_below : (height left h : ℕ) → left < 2 ^ height → Top left h → h < height
top_below height left h l t = lt_of_not-le (λ (g : height ≤ h). not-le_of_lt (lt_of_lt_of_le l (pow_mono g)) t.1)

-- no bit is above it
pub top_one : (left h : ℕ) → Top left h → left / 2 ^ h ≡ 1
top_one left h t =
    let e : left ≡ 1 * 2 ^ h + (left - 2 ^ h) = omega (arith, t.1) in
    ap (λ (x : ℕ). x / 2 ^ h) e ∙ high 1 h (omega (arith, t.1, t.2, pow-suc 2 h))

-- what is left below it is less
pub point_less : (left h : ℕ) → Top left h → left % power h < left
point_less left h t = lt_of_lt_of_le (low_lt left h t.0) t.1

pub points_less : (left h q : ℕ) → Top left h → left % power h % q < left
points_less left h q t = lt_of_le_of_lt (mod-le (left % power h) q) (point_less left h t)

-- to the highest point, which ends a run
module _ (k height left rest h : ℕ) (small : left < 2 ^ height) (fits : rest < 2 ^ height) (apart : Apart height left rest) (top : Top left h) where
  h_lt : h < height
  h_lt = top_below height left h small top

  one : left / 2 ^ h ≡ 1
  one = top_one left h top

  -- the point itself is not counted
  even : rest / 2 ^ h % 2 ≡ 0
  even =
      let b : bit left h ≡ true = ap (λ (x : ℕ). eqb (x % 2) 1) one in
      let f = eqb-false (rest / 2 ^ h % 2) 1 (apart h h_lt b) in
      by (rest / 2 ^ h % 2) (mod-lt (rest / 2 ^ h) (zero-lt-suc 1)) f
    where
      by : (d : ℕ) → d < 2 → (d ≡ 1 → ⊥) → d ≡ 0
      by zero l f = refl
      by (suc zero) l f = absurd (f refl)
      by (suc (suc d)) l f = absurd (not-suc-le-zero (le_of_suc-le-suc (le_of_suc-le-suc l)))

  pub step-point : (n : ℕ) → n ≡ ones (rest / 2 ^ h) → Step k height left rest ((k + n) ∷ []) h (left % power h) (rest % power h)
  step-point n c =
      let d = height - h - 1 in
      let e : height ≡ (d + 1) + h = omega (arith, h_lt) in
      let f = shr_lt (d + 1) h (subst (λ (x : ℕ). rest < 2 ^ x) e fits) in
      let below = power-bit h top.0 in
      let same = pixels_agree h left rest (left % power h) (rest % power h) (below left) (below rest) in
      record {
        passed = pixels (d + 1) 1 (rest / 2 ^ h);
        parts = ap (λ (x : ℕ). pixels x left rest) e ∙ pixels_parts (d + 1) h left rest
            ∙ ap₂ (λ (x : ℕ) (l : List Kind). pixels (d + 1) x (rest / 2 ^ h) ++ l) one same;
        runs = first_runs d k (rest / 2 ^ h) f even ∙ ap (λ (x : ℕ). (k + x) ∷ []) (sym c);
        none = first_count d k (rest / 2 ^ h) f even;
        lower = le_of_lt h_lt;
        small = low_lt left h top.0;
        fits = low_lt rest h top.0;
        apart = λ i l b. sym (below rest i l) ∙ apart i (omega (arith, h_lt)) (below left i l ∙ b);
      }

-- through the points right after it, which end runs of no pixel
module _ (h left rest n : ℕ) (fits : h < 64) (apart : Apart h left rest) (some : n ≤ h) (lead : left / 2 ^ (h - n) ≡ 2 ^ n - 1) where
  g_lt : h - n < 64
  g_lt = omega arith

  pub step-points : Step 0 h left rest (replicate n 0) (h - n) (left % power (h - n)) (rest % power (h - n))
  step-points =
      let g = h - n in
      let e : h ≡ n + g = omega arith in
      let below = power-bit g g_lt in
      let same = pixels_agree g left rest (left % power g) (rest % power g) (below left) (below rest) in
      record {
        passed = pixels n (2 ^ n - 1) (rest / 2 ^ g);
        parts = ap (λ (x : ℕ). pixels x left rest) e ∙ pixels_parts n g left rest
            ∙ ap₂ (λ (x : ℕ) (l : List Kind). pixels n x (rest / 2 ^ g) ++ l) lead same;
        runs = points-runs n (2 ^ n - 1) (rest / 2 ^ g) (bit-ones n);
        none = points-count n (2 ^ n - 1) (rest / 2 ^ g) (bit-ones n);
        lower = omega arith;
        small = low_lt left g g_lt;
        fits = low_lt rest g g_lt;
        apart = λ i l b. sym (below rest i l) ∙ apart i (omega arith) (below left i l ∙ b);
      }

-- ---- a pen down a word

-- the pixels above a height are walked; the points and the others below it are in `left` and `rest`
pub record Walking (down : Bool) (whole : List Kind) (old new : List ℕ) (at run j k height left rest : ℕ) : Type 0 where
  pub kinds : List Kind
  pub split : whole ≡ kinds ++ pixels height left rest
  pub walked : PenWalked down kinds old new at run j k
  pub short : height ≤ 64
  pub small : left < 2 ^ height
  pub fits : rest < 2 ^ height
  pub apart : Apart height left rest
  pub count : k ≤ run

module _ {down : Bool} {whole : List Kind} {old new : List ℕ} {at run j k height left rest : ℕ}
    (w : Walking down whole old new at run j k height left rest) where
  pub walking-left : left < 2 ^ 64
  walking-left = lt_of_lt_of_le w.small (pow_mono w.short)

  -- a step has room
  pub walking-room : {rs : List ℕ} {height' left' rest' : ℕ} → PenRoom down old at (runs_of run whole) → Step k height left rest rs height' left' rest'
      → PenRoom down new j rs
  walking-room {rs} {height'} {left'} {rest'} r s =
      let here = walk_next (pixels height left rest) (subst (λ (l : List Kind). PenRoom down old at (runs_of run l)) w.split r) w.walked in
      subst (PenRoom down new j) s.runs
      (walk_front k s.passed (pixels height' left' rest') (subst (λ (l : List Kind). PenRoom down new j (runs_of k l)) s.parts here))

  -- and once its runs are there, it is taken
  pub walking_step : {rs : List ℕ} {height' left' rest' : ℕ} {next : List ℕ} {j' : ℕ} → Step k height left rest rs height' left' rest'
      → Marked down rs new next j j' → Walking down whole old next at run j' 0 height' left' rest'
  walking_step {rs} {height'} {left'} {rest'} {next} {j'} s m = record {
    kinds = w.kinds ++ s.passed;
    split = w.split ∙ ap (λ (l : List Kind). w.kinds ++ l) s.parts ∙ sym (append_assoc w.kinds s.passed (pixels height' left' rest'));
    walked = walked_append w.walked (record { runs = subst (λ (l : List ℕ). Marked down l new next j j') (sym s.runs) m; count = sym s.none });
    short = le_trans s.lower w.short;
    small = s.small;
    fits = s.fits;
    apart = s.apart;
    count = omega arith;
  }

  -- to the highest point that is left, at h, past n pixels that are counted
  module _ (some : left ≡ 0 → ⊥) where
    abbrev h : ℕ
    h = highest left

    pub walking-top : (count_leading_zeros 64 left ≤ 63) × Top left (highest left)
    walking-top = top-point left (omega (arith, some)) walking-left

    pub walking-below : highest left < height
    walking-below = top_below height left h w.small walking-top.1

    module _ (n : ℕ) (counted : n ≡ ones (rest / 2 ^ highest left)) where
      pub walking-point : Step k height left rest ((k + n) ∷ []) (highest left) (left % power (highest left)) (rest % power (highest left))
      walking-point = step-point k height left rest h w.small w.fits w.apart walking-top.1 n counted

      -- and on through the m points right after it
      pub walking-points : (m : ℕ) → (m ≤ highest left) × (left % power (highest left) / 2 ^ (highest left - m) ≡ 2 ^ m - 1)
          → Step 0 (highest left) (left % power (highest left)) (rest % power (highest left)) (replicate m 0) (highest left - m)
          (left % power (highest left) % power (highest left - m)) (rest % power (highest left) % power (highest left - m))
      walking-points m e =
          let t = walking-top.1.0 in
          step-points h (left % power h) (rest % power h) m t walking-point.apart e.0 e.1

  -- until no point is left
  pub walking_done : left ≡ 0 → PenWalked down whole old new at run j (k + ones rest)
  walking_done z =
      let rs : runs_of k (pixels height left rest) ≡ [] = ap (λ (x : ℕ). runs_of k (pixels height x rest)) z ∙ gap_runs height k rest in
      let c : count_after k (pixels height left rest) ≡ k + ones rest =
      ap (λ (x : ℕ). count_after k (pixels height x rest)) z ∙ gap-count height k rest ∙ ap (λ (x : ℕ). k + ones x) (mod-eq_of_lt w.fits) in
      subst (λ (l : List Kind). PenWalked down l old new at run j (k + ones rest)) (sym w.split)
      (walked_append w.walked (record { runs = subst (λ (l : List ℕ). Marked down l new new j j) (sym rs) (marked-none down new j); count = sym c }))

-- none is walked at first
pub walking-none : (down : Bool) (m all ink mask : ℕ) (old : List ℕ) (at run : ℕ) → m ≤ 64 → all ≡ 2 ^ m - 1 → ink < 2 ^ m → mask < 2 ^ m
    → Walking down (word_kinds m ink mask) old old at run at run m (points ink mask) (others all ink mask)
walking-none down m all ink mask old at run l e i k = record {
  kinds = [];
  split = word-pixels m all ink mask e;
  walked = walked_none down old at run;
  short = l;
  small = points_lt m all ink mask e i k;
  fits = others_lt m all ink mask e i k;
  apart = word-apart m all ink mask e;
  count = le_refl run;
}

-- a word that is its own mask has no point
pub same_word : (down : Bool) (v : ℕ) (old : List ℕ) (at run : ℕ) → v < 2 ^ 64 → PenWalked down (word_kinds 64 v v) old old at run at (run + ones (bit_xor (2 ^ 64 - 1) v))
same_word down v old at run h =
    subst (λ (x : ℕ). PenWalked down (word_kinds 64 v v) old old at run at (run + ones (bit_xor (2 ^ 64 - 1) x))) (or_self v)
    (walking_done (walking-none down 64 (2 ^ 64 - 1) v v old at run (le_refl 64) refl h h) (ap (λ (x : ℕ). bit_xor x v) (or_self v) ∙ xor_self v))
