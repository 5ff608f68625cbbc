-- Images and sets: there and back.
use mathlib.Core.Bool.{Bool, ◌&&◌, cond, false, not, true}
use mathlib.Core.List.Memᴰ
use mathlib.Core.List.{List, Memᴰ, ◌++◌}
use mathlib.Core.Path.{◌∙◌, ◌≡◌, ap, ap₂, fun_ext, refl, subst, sym}
use Prim.Native.Nat.{◌%◌, ◌*◌, ◌+◌, ◌-◌, ◌/◌, ◌<◌, ◌^◌, ◌≤◌, suc, zero, ℕ}
use native.Mathlib.Decide.{dec_lt}
use native.Mathlib.Nat.{add-suc, add-zero, div-add-mod', div-lt_iff_lt-mul, le_of_suc-le-suc, mod-lt, mul-add-mod_self_right, mul_assoc, mul-zero, not-suc-le-zero, pow-suc, suc-add, zero-add, zero-lt-suc}
use native.Mathlib.Omega.{arith}
use borrow.Author.Tests.{le-ltb, lt-ltb}
use lib.Arith.{digits_div, digits_lt, digits_mod}
use lib.Dec.{T, T_not, eqb, ltb, ltb→lt, lt→ltb, not_T}
use lib.IntN.{negsuc, pos, ℤ}
use lib.ListN.{get_or-append, get_or, length}
use lib.Pow.{are_bytes, field, high, pow-add, pow_pos, shr_lt, split}
use lib.Seq.{ext_get_or}
use Rattle.morphology.specs.Image.{bit_of, clip, from_bits, image_set, inside, on_frame, is_clean, pack, pixel, plane_bytes, stride}
use Rattle.morphology.specs.Lists.{every_of, tabulate, up_to}
use Rattle.morphology.specs.Point.{Point, at}
use Rattle.morphology.proofs.FrameLaws.{OnFrame, on_in, on_out}
use Rattle.morphology.proofs.TestLaws.{T_ext, all_in, all-out, and_in, and_l, and_r}

-- ---- rows

pub mem-row : {A : Type 0} (f : ℕ → A) (i n k : ℕ) → k < n → Memᴰ (f (i + k)) (tabulate f i n)
unfolding tabulate
mem-row f i zero k h = absurd (not-suc-le-zero h)
mem-row f i (suc n) zero h = Memᴰ.head (ap f (add-zero i))
mem-row f i (suc n) (suc k) h = Memᴰ.tail (subst (λ (j : ℕ). Memᴰ (f j) (tabulate f (suc i) n)) (suc-add i k ∙ sym (add-suc i k)) (mem-row f (suc i) n k (le_of_suc-le-suc h)))

pub row_mem : {A : Type 0} (f : ℕ → A) (i n : ℕ) {a : A} → Memᴰ a (tabulate f i n) → (k : ℕ) × (k < n) × (a ≡ f (i + k))
unfolding tabulate
row_mem f i zero m = absurd (Memᴰ.not-nil m)
row_mem f i (suc n) (Memᴰ.head e) = (0, zero-lt-suc n, e ∙ ap f (sym (add-zero i)))
row_mem f i (suc n) (Memᴰ.tail m) =
    let r = row_mem f (suc i) n m in
    (suc r.0, omega (arith, r.1), r.2 ∙ ap f (suc-add i r.0 ∙ sym (add-suc i r.0)))

pub length-row : {A : Type 0} (f : ℕ → A) (i n : ℕ) → length (tabulate f i n) ≡ n
unfolding tabulate
length-row f i zero = refl
length-row f i (suc n) = ap suc (length-row f (suc i) n)

pub get_or-row : {A : Type 0} (f : ℕ → A) (i n k : ℕ) (d : A) → k < n → get_or (tabulate f i n) k d ≡ f (i + k)
unfolding tabulate
get_or-row f i zero k d h = absurd (not-suc-le-zero h)
get_or-row f i (suc n) zero d h = ap f (sym (add-zero i))
get_or-row f i (suc n) (suc k) d h = get_or-row f (suc i) n k d (le_of_suc-le-suc h) ∙ ap f (suc-add i k ∙ sym (add-suc i k))

one_lt : (c : Bool) → cond c 1 0 < 2
one_lt true = omega arith
one_lt false = omega arith

pub from_bits_lt : (b : ℕ → Bool) (i n : ℕ) → from_bits b i n < 2 ^ n
unfolding from_bits
from_bits_lt b i zero = zero-lt-suc 0
from_bits_lt b i (suc n) =
    subst (λ (m : ℕ). cond (b i) 1 0 * 2 ^ n + from_bits b (suc i) n < m) (mul_two n)
    (digits_lt (one_lt (b i)) (from_bits_lt b (suc i) n))
  where
    mul_two : (n : ℕ) → 2 * 2 ^ n ≡ 2 ^ suc n
    mul_two n = omega (arith, pow-suc 2 n)

-- bit k of c * 2 ^ n + r is bit k of r, below n
pub below_top : (c n r k : ℕ) → k < n → (c * 2 ^ n + r) / 2 ^ k % 2 ≡ r / 2 ^ k % 2
below_top c n r k h =
    let e : n ≡ (n - suc k) + (1 + k) = omega arith in
    sym (field (c * 2 ^ n + r) 1 k)
    ∙ ap (λ (m : ℕ). m / 2 ^ k)
    (ap (λ (m : ℕ). (c * m + r) % 2 ^ (1 + k)) (ap (λ (i : ℕ). 2 ^ i) e ∙ pow-add 2 (n - suc k) (1 + k))
    ∙ ap (λ (m : ℕ). (m + r) % 2 ^ (1 + k)) (sym (mul_assoc c (2 ^ (n - suc k)) (2 ^ (1 + k))))
    ∙ mul-add-mod_self_right (c * 2 ^ (n - suc k)) (2 ^ (1 + k)) r)
    ∙ field r 1 k

digit_is : (c : Bool) → eqb (cond c 1 0 % 2) 1 ≡ c
digit_is true = refl
digit_is false = refl

pub bit-from_bits : (b : ℕ → Bool) (i n j : ℕ) → j < n → eqb (from_bits b i n / 2 ^ (n - suc j) % 2) 1 ≡ b (i + j)
unfolding from_bits
bit-from_bits b i zero j h = absurd (not-suc-le-zero h)
bit-from_bits b i (suc n) zero h =
    let e : suc n - 1 ≡ n = omega arith in
    ap (λ (k : ℕ). eqb ((cond (b i) 1 0 * 2 ^ n + from_bits b (suc i) n) / 2 ^ k % 2) 1) e
    ∙ ap (λ (m : ℕ). eqb (m % 2) 1) (high (cond (b i) 1 0) n (from_bits_lt b (suc i) n)) ∙ digit_is (b i) ∙ ap b (sym (add-zero i))
bit-from_bits b i (suc n) (suc j) h =
    let e : suc n - suc (suc j) ≡ n - suc j = omega arith in
    ap (λ (k : ℕ). eqb ((cond (b i) 1 0 * 2 ^ n + from_bits b (suc i) n) / 2 ^ k % 2) 1) e
    ∙ ap (λ (m : ℕ). eqb m 1) (below_top (cond (b i) 1 0) n (from_bits b (suc i) n) (n - suc j) (omega arith))
    ∙ bit-from_bits b (suc i) n j (le_of_suc-le-suc h) ∙ ap b (suc-add i j ∙ sym (add-suc i j))

col_lt : (W x : ℕ) → x < W → x / 8 < stride W
unfolding stride
col_lt W x h = omega arith

-- padding bits included
pub pixel-pack-wide : (W H : ℕ) (X : Point → Bool) (x y : ℕ) → x / 8 < stride W → y < H → pixel W (pack W H X) x y ≡ X (at (pos x) (pos y))
unfolding pixel pack bit_of
pixel-pack-wide W H X x y hc hy =
    let R = stride W in
    let i = y * R + x / 8 in
    let f : ℕ → ℕ = λ k. from_bits (λ c. X (at (pos c) (pos (k / R)))) (k % R * 8) 8 in
    let e : 7 - x % 8 ≡ 8 - suc (x % 8) = omega arith in
    ap (λ (v : ℕ). eqb (v / 2 ^ (7 - x % 8) % 2) 1) (get_or-row f 0 (H * R) i 0 (digits_lt hy hc) ∙ ap f (zero-add i))
    ∙ ap (λ (k : ℕ). eqb (f i / 2 ^ k % 2) 1) e
    ∙ bit-from_bits (λ c. X (at (pos c) (pos (i / R)))) (i % R * 8) 8 (x % 8) (mod-lt x (zero-lt-suc 7))
    ∙ ap₂ (λ (u v : ℕ). X (at (pos (u * 8 + x % 8)) (pos v))) (digits_mod y hc) (digits_div y hc)
    ∙ ap (λ (u : ℕ). X (at (pos u) (pos y))) (div-add-mod' x 8)

pub pixel-pack : (W H : ℕ) (X : Point → Bool) (x y : ℕ) → x < W → y < H → pixel W (pack W H X) x y ≡ X (at (pos x) (pos y))
pixel-pack W H X x y hx hy = pixel-pack-wide W H X x y (col_lt W x hx) hy

-- ---- images

pub image_on : (W H : ℕ) (s : List ℕ) → OnFrame W H (image_set W H s)
unfolding image_set
image_on W H s = record { across = λ p t. (by p.x p.y t).0; down = λ p t. (by p.x p.y t).1 }
  where
    by : (x y : ℤ) → T (image_set W H s (at x y)) → T (inside W x) × T (inside H y)
    by (pos x) (pos y) t = (and_l (ltb x W) (ltb y H && pixel W s x y) t, and_l (ltb y H) (pixel W s x y) (and_r (ltb x W) (ltb y H && pixel W s x y) t))
    by (pos x) (negsuc y) t = absurd t
    by (negsuc x) y t = absurd t

-- the set that was packed
pub image-pack : (W H : ℕ) (X : Point → Bool) → OnFrame W H X → image_set W H (pack W H X) ≡ X
unfolding image_set
image-pack W H X on = fun_ext (λ p. by p.x p.y)
  where
    by : (x y : ℤ) → image_set W H (pack W H X) (at x y) ≡ X (at x y)
    by (pos x) (pos y) =
        let s = pack W H X in
        T_ext
        (λ t.
        let hx = ltb→lt x W (and_l (ltb x W) (ltb y H && pixel W s x y) t) in
        let u = and_r (ltb x W) (ltb y H && pixel W s x y) t in
        let hy = ltb→lt y H (and_l (ltb y H) (pixel W s x y) u) in
        subst T (pixel-pack W H X x y hx hy) (and_r (ltb y H) (pixel W s x y) u))
        (λ t.
        let tx = on.across (at (pos x) (pos y)) t in
        let ty = on.down (at (pos x) (pos y)) t in
        and_in (ltb x W) (ltb y H && pixel W s x y) tx
        (and_in (ltb y H) (pixel W s x y) ty (subst T (sym (pixel-pack W H X x y (ltb→lt x W tx) (ltb→lt y H ty))) t)))
    by (pos x) (negsuc y) = T_ext (λ t. absurd t) (λ t. absurd (on.down (at (pos x) (negsuc y)) t))
    by (negsuc x) y = T_ext (λ t. absurd t) (λ t. absurd (on.across (at (negsuc x) y) t))

pub length-pack : (W H : ℕ) (X : Point → Bool) → length (pack W H X) ≡ plane_bytes W H
unfolding pack
length-pack W H X = length-row (λ i. from_bits (λ c. X (at (pos c) (pos (i / stride W)))) (i % stride W * 8) 8) 0 (H * stride W)

digit_of : (d : ℕ) → d < 2 → cond (eqb (d % 2) 1) 1 0 ≡ d
digit_of zero h = refl
digit_of (suc zero) h = refl
digit_of (suc (suc d)) h = absurd (omega arith)

-- n bits that are those of v make v
pub bits_of : (v n : ℕ) (b : ℕ → Bool) (i : ℕ) → v < 2 ^ n → ((j : ℕ) → j < n → b (i + j) ≡ eqb (v / 2 ^ (n - suc j) % 2) 1) → from_bits b i n ≡ v
unfolding from_bits
bits_of v zero b i h f = omega arith
bits_of v (suc n) b i h f =
    let e : suc n - 1 ≡ n = omega arith in
    let q : suc n ≡ 1 + n = omega arith in
    let d = v / 2 ^ n in
    let hd : d < 2 ^ 1 = shr_lt 1 n (subst (λ (k : ℕ). v < 2 ^ k) q h) in
    let top : cond (b i) 1 0 ≡ d = ap (λ (k : ℕ). cond (b k) 1 0) (sym (add-zero i)) ∙ ap (λ (t : Bool). cond t 1 0) (f 0 (zero-lt-suc n) ∙ ap (λ (k : ℕ). eqb (v / 2 ^ k % 2) 1) e) ∙ digit_of d hd in
    let rest : from_bits b (suc i) n ≡ v % 2 ^ n =
    bits_of (v % 2 ^ n) n b (suc i) (mod-lt v (pow_pos n)) (λ j l.
    let m : suc n - suc (suc j) ≡ n - suc j = omega arith in
    ap b (suc-add i j ∙ sym (add-suc i j)) ∙ f (suc j) (omega arith) ∙ ap (λ (k : ℕ). eqb (v / 2 ^ k % 2) 1) m
    ∙ ap (λ (u : ℕ). eqb (u / 2 ^ (n - suc j) % 2) 1) (sym (split v n))
    ∙ ap (λ (u : ℕ). eqb u 1) (below_top d n (v % 2 ^ n) (n - suc j) (omega arith))) in
    ap₂ (λ (u r : ℕ). u * 2 ^ n + r) top rest ∙ split v n

-- a pixel of a clean image, padding included
pub pixel-image : (W H : ℕ) (s : List ℕ) → T (is_clean W H s) → (x y : ℕ) → x < 8 * stride W → y < H
    → image_set W H s (at (pos x) (pos y)) ≡ pixel W s x y
unfolding image_set is_clean
pixel-image W H s clean x y hx hy = go (dec_lt x W)
  where
    go : Dec (x < W) → (ltb x W && (ltb y H && pixel W s x y)) ≡ pixel W s x y
    go (yes l) = ap₂ (λ (a b : Bool). a && (b && pixel W s x y)) (lt-ltb x W l) (lt-ltb y H hy)
    go (no l) =
        let w : W ≤ x = omega arith in
        let k = x - W in
        let hk : k < stride W * 8 - W = omega arith in
        let e : W + k ≡ x = omega arith in
        let my = subst (λ (y : ℕ). Memᴰ y (up_to H)) (zero-add y) (mem-row (λ y. y) 0 H y hy) in
        let mx = subst (λ (c : ℕ). Memᴰ c (tabulate (λ c. c) W (stride W * 8 - W))) e (mem-row (λ c. c) W (stride W * 8 - W) k hk) in
        let t = all-out (λ c. not (pixel W s c y)) (all-out (λ y. every_of (λ c. not (pixel W s c y)) (tabulate (λ c. c) W (stride W * 8 - W))) clean my) mx in
        ap (λ (a : Bool). a && (ltb y H && pixel W s x y)) (le-ltb x W w) ∙ T_ext (λ u. absurd u) (λ u. T_not (pixel W s x y) t u)

-- bytes whose pixels, padding included, are those of a set
pub pack-pixels : (W H : ℕ) (X : Point → Bool) (s : List ℕ) → length s ≡ plane_bytes W H → ((i : ℕ) → get_or s i 0 < 256)
    → ((y x : ℕ) → y < H → x < 8 * stride W → pixel W s x y ≡ X (at (pos x) (pos y))) → pack W H X ≡ s
unfolding pack pixel bit_of
pack-pixels W H X s len bytes f =
    let g : ℕ → ℕ = λ i. from_bits (λ c. X (at (pos c) (pos (i / stride W)))) (i % stride W * 8) 8 in
    ext_get_or 0 (tabulate g 0 (H * stride W)) s (length-row g 0 (H * stride W) ∙ sym len)
    (λ i l.
    let h : i < H * stride W = subst (λ (n : ℕ). i < n) (length-row g 0 (H * stride W)) l in
    get_or-row g 0 (H * stride W) i 0 h ∙ ap g (zero-add i) ∙ byte i (stride W) refl h)
  where
    digit : (i j R : ℕ) → R ≡ stride W → 0 < R → i < H * R → j < 8
        → X (at (pos (i % R * 8 + j)) (pos (i / R))) ≡ eqb (get_or s i 0 / 2 ^ (8 - suc j) % 2) 1
    digit i j R q hR h hj =
        let x = i % R * 8 + j in
        let hx : x < R * 8 = digits_lt (mod-lt i hR) hj in
        let hx' : x < 8 * stride W = subst (λ (r : ℕ). x < 8 * r) q (omega arith) in
        let e : 7 - j ≡ 8 - suc j = omega arith in
        sym (f (i / R) x ((div-lt_iff_lt-mul hR).1 h) hx')
        ∙ ap₂ (λ (k m : ℕ). eqb (get_or s (i / R * stride W + k) 0 / 2 ^ (7 - m) % 2) 1) (digits_div (i % R) hj) (digits_mod (i % R) hj)
        ∙ ap (λ (k : ℕ). eqb (get_or s k 0 / 2 ^ (7 - j) % 2) 1) (ap (λ (r : ℕ). i / R * r + i % R) (sym q) ∙ div-add-mod' i R)
        ∙ ap (λ (k : ℕ). eqb (get_or s i 0 / 2 ^ k % 2) 1) e

    byte : (i R : ℕ) → R ≡ stride W → i < H * R → from_bits (λ c. X (at (pos c) (pos (i / R)))) (i % R * 8) 8 ≡ get_or s i 0
    byte i zero q h = absurd (not-suc-le-zero (subst (λ (n : ℕ). i < n) (mul-zero H) h))
    byte i (suc R) q h =
        bits_of (get_or s i 0) 8 (λ c. X (at (pos c) (pos (i / suc R)))) (i % suc R * 8) (bytes i) (λ j l. digit i j (suc R) q (zero-lt-suc R) h l)

-- the bytes that were read: a clean image of the right length
pub pack-image : (W H : ℕ) (s : List ℕ) → length s ≡ plane_bytes W H → ((i : ℕ) → get_or s i 0 < 256) → T (is_clean W H s) → pack W H (image_set W H s) ≡ s
pack-image W H s len bytes clean = pack-pixels W H (image_set W H s) s len bytes (λ y x hy hx. sym (pixel-image W H s clean x y hx hy))

-- what is packed is bytes, and clean
pub bytes-row : (f : ℕ → ℕ) (i n : ℕ) → ((k : ℕ) → f k < 256) → T (are_bytes (tabulate f i n))
unfolding tabulate
bytes-row f i zero h = tt
bytes-row f i (suc n) h = and_in (ltb (f i) 256) (are_bytes (tabulate f (suc i) n)) (lt→ltb (f i) 256 (h i)) (bytes-row f (suc i) n h)

pub bytes-pack : (W H : ℕ) (X : Point → Bool) → T (are_bytes (pack W H X))
unfolding pack
bytes-pack W H X =
    bytes-row (λ i. from_bits (λ c. X (at (pos c) (pos (i / stride W)))) (i % stride W * 8) 8) 0 (H * stride W)
    (λ i. from_bits_lt (λ c. X (at (pos c) (pos (i / stride W)))) (i % stride W * 8) 8)

pub clean-pack : (W H : ℕ) (X : Point → Bool) → OnFrame W H X → T (is_clean W H (pack W H X))
unfolding is_clean
clean-pack W H X on =
    all_in (λ y. every_of (λ x. not (pixel W s x y)) (tabulate (λ x. x) W (stride W * 8 - W))) (up_to H) (λ y my.
    all_in (λ x. not (pixel W s x y)) (tabulate (λ x. x) W (stride W * 8 - W)) (λ x mx.
    let ry = row_mem (λ y. y) 0 H my in
    let rx = row_mem (λ x. x) W (stride W * 8 - W) mx in
    let hy : y < H = subst (λ (k : ℕ). k < H) (sym (ry.2 ∙ zero-add ry.0)) ry.1 in
    let hx : x / 8 < stride W = omega (arith, rx.1, rx.2) in
    let far : W ≤ x = omega (arith, rx.2) in
    not_T (pixel W s x y) (λ t.
    let u = ltb→lt x W (on.across (at (pos x) (pos y)) (subst T (pixel-pack-wide W H X x y hx hy) t)) in
    omega arith)))
  where
    s : List ℕ
    s = pack W H X

-- ---- only the first P bytes matter

-- two buffers with the same first P bytes
abbrev pub Agree : ℕ → ℕ → List ℕ → List ℕ → Type 0
Agree W H a b = (j : ℕ) → j < plane_bytes W H → get_or a j 0 ≡ get_or b j 0

-- a plane followed by anything
pub agree_front : (W H : ℕ) (s t : List ℕ) → length s ≡ plane_bytes W H → Agree W H (s ++ t) s
agree_front W H s t e j h = get_or-append s t 0 j (omega arith)

pixel_agree : (W H : ℕ) (a b : List ℕ) → Agree W H a b → (x y : ℕ) → x / 8 < stride W → y < H → pixel W a x y ≡ pixel W b x y
unfolding pixel
pixel_agree W H a b f x y hx hy = ap (λ (v : ℕ). bit_of v (x % 8)) (f (y * stride W + x / 8) (digits_lt hy hx))

image-to : (W H : ℕ) (a b : List ℕ) → Agree W H a b → (x y : ℤ) → T (image_set W H a (at x y)) → T (image_set W H b (at x y))
unfolding image_set stride
image-to W H a b f (pos x) (pos y) t =
    let tx = and_l (ltb x W) (ltb y H && pixel W a x y) t in
    let u = and_r (ltb x W) (ltb y H && pixel W a x y) t in
    let ty = and_l (ltb y H) (pixel W a x y) u in
    let hx = ltb→lt x W tx in
    and_in (ltb x W) (ltb y H && pixel W b x y) tx
    (and_in (ltb y H) (pixel W b x y) ty (subst T (pixel_agree W H a b f x y (omega arith) (ltb→lt y H ty)) (and_r (ltb y H) (pixel W a x y) u)))
image-to W H a b f (pos x) (negsuc y) t = t
image-to W H a b f (negsuc x) y t = t

pub image_agree : (W H : ℕ) (a b : List ℕ) → Agree W H a b → image_set W H a ≡ image_set W H b
image_agree W H a b f = fun_ext (λ p. T_ext (image-to W H a b f p.x p.y) (image-to W H b a (λ j h. sym (f j h)) p.x p.y))

pub clean_agree : (W H : ℕ) (a b : List ℕ) → Agree W H a b → T (is_clean W H a) → T (is_clean W H b)
unfolding is_clean
clean_agree W H a b f t =
    all_in (λ y. every_of (λ x. not (pixel W b x y)) (tabulate (λ x. x) W (stride W * 8 - W))) (up_to H) (λ y my.
    all_in (λ x. not (pixel W b x y)) (tabulate (λ x. x) W (stride W * 8 - W)) (λ x mx.
    let ry = row_mem (λ y. y) 0 H my in
    let rx = row_mem (λ x. x) W (stride W * 8 - W) mx in
    let hy : y < H = subst (λ (k : ℕ). k < H) (sym (ry.2 ∙ zero-add ry.0)) ry.1 in
    let hx : x / 8 < stride W = omega (arith, rx.1, rx.2) in
    subst (λ (c : Bool). T (not c)) (pixel_agree W H a b f x y hx hy)
    (all-out (λ x. not (pixel W a x y)) (all-out (λ y. every_of (λ x. not (pixel W a x y)) (tabulate (λ x. x) W (stride W * 8 - W))) t my) mx)))

-- ---- the part of a set on the frame

pub clip_is : (W H : ℕ) (X : Point → Bool) → OnFrame W H X → clip W H X ≡ X
unfolding clip
clip_is W H X on =
    fun_ext (λ z. T_ext (and_r (on_frame W H z) (X z)) (λ t. and_in (on_frame W H z) (X z) (on_out W H X on z t) t))

pub clip_on : (W H : ℕ) (X : Point → Bool) → OnFrame W H (clip W H X)
unfolding clip
clip_on W H X = on_in W H (clip W H X) (λ z t. and_l (on_frame W H z) (X z) t)
