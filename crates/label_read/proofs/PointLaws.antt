-- Points joined to a plane, row by row.
use mathlib.Core.Bool.{Bool, ◌&&◌, ◌||◌, cond, false, or_comm, true}
use mathlib.Core.List.{List, [], ◌++◌, ◌∷◌, map, map-append}
use mathlib.Core.Path.{◌∙◌, ◌≡◌, ap, ap₂, refl, subst, sym}
use Prim.Native.Nat.{◌%◌, ◌*◌, ◌+◌, ◌-◌, ◌/◌, ◌<◌, ◌^◌, ◌≤◌, max, suc, zero, zero-le, ℕ}
use native.Mathlib.Decide.{dec_lt}
use native.Mathlib.Nat.{add-suc, add-zero, mod-eq_of_lt, mul_assoc, pow-suc, suc-add, zero-add, zero-mul}
use native.Mathlib.Numerals.{add-one}
use native.Mathlib.Omega.{arith}
use borrow.Author.Tests.{le-ltb, lt-ltb, ne_eqb}
use lib.Bits.{bit_or}
use lib.Dec.{T, eqb, ltb}
use lib.IntN.{pos}
use lib.ListN.{drop, get_or, length, length-drop, take}
use lib.Seq.{get_or-drop, get_or-take, length-take-le, take-suc}
use Rattle.std.specs.Int.{from_bool}
use Rattle.morphology.specs.Image.{bit_of, from_bits, image_set, is_clean, stride}
use Rattle.morphology.specs.Labels.{label_at}
use Rattle.morphology.specs.Lists.{greatest, some_of}
use Rattle.morphology.specs.Point.{at}
use Rattle.morphology.proofs.RefusalLaws.{or-out-false}
use Rattle.morphology.proofs.CountLaws.{digit}
use Rattle.morphology.proofs.ImageLaws.{bit-from_bits, bits_of, from_bits_lt}
use Rattle.raster.specs.Rows.{Pixelwise, PlaneIs, RowIs, row_bit}
use Rattle.raster.proofs.ByteLaws.{below8, join-bit}
use Rattle.raster.proofs.LoopLaws.{Mapped}
use Rattle.raster.proofs.PartLaws.{pixelwise-part, row_same}
use Rattle.raster.proofs.RowLaws.{mapped-pixels}
use Rattle.raster.proofs.PackLaws.{row-image}
use Rattle.raster.proofs.PlaneLaws.{rows_more}
use Rattle.label_read.specs.Points.{greatest_below, is_label, with_points}

-- ---- the largest

greatest_append : (l : List ℕ) (k : ℕ) → greatest (l ++ (k ∷ [])) ≡ max (greatest l) k
unfolding greatest
greatest_append [] k = refl
greatest_append (b ∷ l) k = let q = greatest_append l k in omega arith

pub greatest_more : (l : List ℕ) (i m : ℕ) → i < length l → m ≡ greatest (take i l) → max m (get_or l i 0) ≡ greatest (take (i + 1) l)
greatest_more l i m h e =
    ap (λ (n : ℕ). max n (get_or l i 0)) e ∙ sym (ap (λ (n : ℕ). greatest (take n l)) (add-one i) ∙ ap greatest (take-suc l i 0 h) ∙ greatest_append (take i l) (get_or l i 0))

-- a part has no larger one
pub greatest-take : (n : ℕ) (l : List ℕ) → greatest (take n l) ≤ greatest l
unfolding greatest
greatest-take zero l = zero-le
greatest-take (suc n) [] = zero-le
greatest-take (suc n) (k ∷ l) = omega (arith, greatest-take n l)

pub greatest-drop : (n : ℕ) (l : List ℕ) → greatest (drop n l) ≤ greatest l
unfolding greatest
greatest-drop zero l = omega arith
greatest-drop (suc n) [] = zero-le
greatest-drop (suc n) (k ∷ l) = omega (arith, greatest-drop n l)

-- ---- the largest below v

pub under_lt : (b v : ℕ) → b < v → cond (ltb b v) b 0 ≡ b
under_lt b v h = ap (λ (t : Bool). cond t b 0) (lt-ltb b v h)

pub under_ge : (b v : ℕ) → v ≤ b → cond (ltb b v) b 0 ≡ 0
under_ge b v h = ap (λ (t : Bool). cond t b 0) (le-ltb b v h)

pub below_more : (v : ℕ) (l : List ℕ) (i m : ℕ) → i < length l → m ≡ greatest_below v (take i l)
    → max m (cond (ltb (get_or l i 0) v) (get_or l i 0) 0) ≡ greatest_below v (take (i + 1) l)
unfolding greatest_below
below_more v l i m h e =
    let f : ℕ → ℕ = λ b. cond (ltb b v) b 0 in
    ap (λ (n : ℕ). max n (f (get_or l i 0))) e
    ∙ sym (ap (λ (n : ℕ). greatest_below v (take n l)) (add-one i) ∙ ap (greatest_below v) (take-suc l i 0 h) ∙ ap greatest (map-append f (take i l) (get_or l i 0 ∷ []))
    ∙ greatest_append (map f (take i l)) (f (get_or l i 0)))

-- all are below
below_all : (v : ℕ) (l : List ℕ) → greatest l < v → greatest_below v l ≡ greatest l
unfolding greatest greatest_below
below_all v [] h = refl
below_all v (b ∷ l) h = ap₂ max (below_all v l (omega arith)) (under_lt b v (omega arith))

-- a row's, at the largest label of all
pub below_row : (W a : ℕ) (labels : List ℕ) → greatest (take W (drop a labels)) ≡ greatest_below (greatest labels + 1) (take W (drop a labels))
below_row W a labels = sym (below_all (greatest labels + 1) (take W (drop a labels)) (omega (arith, greatest-take W (drop a labels), greatest-drop a labels)))

-- none is v: the same below v + 1 and below v
pub below-same : (v : ℕ) (l : List ℕ) → greatest_below (v + 1) l < v → greatest_below (v + 1) l ≡ greatest_below v l
unfolding greatest greatest_below
below-same v [] h = refl
below-same v (b ∷ l) h = ap₂ max (below-same v l (omega arith)) (by (dec_lt b v) (dec_lt b (v + 1)))
  where
    by : Dec (b < v) → Dec (b < v + 1) → cond (ltb b (v + 1)) b 0 ≡ cond (ltb b v) b 0
    by (yes k) d = under_lt b (v + 1) (omega arith) ∙ sym (under_lt b v k)
    by (no k) (yes j) = absurd (omega (arith, under_lt b (v + 1) j))
    by (no k) (no j) = under_ge b (v + 1) (omega arith) ∙ sym (under_ge b v (omega arith))

-- ---- bits

bits_last : (f : ℕ → Bool) (i n : ℕ) → from_bits f i (suc n) ≡ from_bits f i n * 2 + digit (f (i + n))
unfolding from_bits
bits_last f i zero = by (f i) ∙ ap (λ (k : ℕ). 0 * 2 + digit (f k)) (sym (add-zero i))
  where
    by : (c : Bool) → cond c 1 0 * 2 ^ 0 + 0 ≡ 0 * 2 + digit c
    by true = refl
    by false = refl
bits_last f i (suc n) =
    ap (λ (k : ℕ). cond (f i) 1 0 * 2 ^ suc n + k) (bits_last f (suc i) n) ∙ by (f i)
    ∙ ap (λ (k : ℕ). (cond (f i) 1 0 * 2 ^ n + from_bits f (suc i) n) * 2 + digit (f k)) (suc-add i n ∙ sym (add-suc i n))
  where
    by : (c : Bool) → cond c 1 0 * 2 ^ suc n + (from_bits f (suc i) n * 2 + digit (f (suc i + n))) ≡ (cond c 1 0 * 2 ^ n + from_bits f (suc i) n) * 2 + digit (f (suc i + n))
    by true = omega (arith, pow-suc 2 n)
    by false = omega arith

-- a test as a byte
byte-digit : (c : Bool) → from_bool c ≡ digit c
byte-digit true = refl
byte-digit false = refl

pub bits_more : (f : ℕ → Bool) (c : Bool) (n b : ℕ) → c ≡ f n → b ≡ from_bits f 0 n → b * 2 + from_bool c ≡ from_bits f 0 (n + 1)
bits_more f c n b q e =
    ap₂ (λ (k : ℕ) (d : Bool). k * 2 + from_bool d) e q ∙ ap (λ (k : ℕ). from_bits f 0 n * 2 + k) (byte-digit (f n)) ∙ sym (ap (from_bits f 0) (add-one n) ∙ bits_last f 0 n ∙ ap (λ (k : ℕ). from_bits f 0 n * 2 + digit (f k)) (zero_plus n))
  where
    zero_plus : (n : ℕ) → 0 + n ≡ n
    zero_plus n = omega arith

-- at most seven of them, and room for one more
pub bits_fit : (f : ℕ → Bool) (c : Bool) (n b : ℕ) → n < 8 → b ≡ from_bits f 0 n → b * 2 + from_bool c < 256
bits_fit f c n b h e = by c (omega (arith, from_bits_lt f 0 n, below8 (λ n. 2 ^ n ≤ 128) (omega arith) (omega arith) (omega arith) (omega arith) (omega arith) (omega arith) (omega arith) (omega arith) n h))
  where
    by : (c : Bool) → b < 128 → b * 2 + from_bool c < 256
    by true l = omega arith
    by false l = omega arith

-- bits of two tests that agree
pub bits-same : (f g : ℕ → Bool) (i j n : ℕ) → ((k : ℕ) → k < n → f (i + k) ≡ g (j + k)) → from_bits f i n ≡ from_bits g j n
bits-same f g i j n e = bits_of (from_bits g j n) n f i (from_bits_lt g j n) (λ k l. e k l ∙ sym (bit-from_bits g j n k l))

-- none from the m-th on
bits_pad : (f : ℕ → Bool) (i m k : ℕ) → ((j : ℕ) → m ≤ j → f (i + j) ≡ false) → from_bits f i (m + k) ≡ from_bits f i m * 2 ^ k
bits_pad f i m zero e = ap (from_bits f i) (add-zero m) ∙ omega arith
bits_pad f i m (suc k) e =
    ap (from_bits f i) (add-suc m k) ∙ bits_last f i (m + k) ∙ ap₂ (λ (a : ℕ) (c : Bool). a * 2 + digit c) (bits_pad f i m k e) (e (m + k) (omega arith))
    ∙ (let q : from_bits f i m * 2 ^ k * 2 + 0 ≡ from_bits f i m * 2 ^ k * 2 = omega arith in q) ∙ mul_assoc (from_bits f i m) (2 ^ k) 2
    ∙ ap (λ (n : ℕ). from_bits f i m * n) (let q : 2 ^ k * 2 ≡ 2 ^ suc k = omega (arith, pow-suc 2 k) in q)

-- ---- the labels of a row as bytes

-- a part of k labels
pub part-label : (row : List ℕ) (v x k j : ℕ) → x + k ≤ length row → j < k → is_label (take k (drop x row)) v j ≡ is_label row v (x + j)
unfolding is_label
part-label row v x k j h l =
    let m = length-take-le k (drop x row) (omega (arith, length-drop x row)) in
    ap₂ (λ (c : Bool) (n : ℕ). c && eqb n v) (lt-ltb j (length (take k (drop x row))) (omega (arith, m)) ∙ sym (lt-ltb (x + j) (length row) (omega arith)))
    (get_or-take k (drop x row) j 0 l ∙ get_or-drop x row j 0)

pub in-label : (row : List ℕ) (v x : ℕ) → x < length row → is_label row v x ≡ eqb (get_or row x 0) v
unfolding is_label
in-label row v x h = ap (λ (c : Bool). c && eqb (get_or row x 0) v) (lt-ltb x (length row) h)

past-label : (row : List ℕ) (v x : ℕ) → length row ≤ x → is_label row v x ≡ false
unfolding is_label
past-label row v x h = ap (λ (c : Bool). c && eqb (get_or row x 0) v) (le-ltb x (length row) h)

-- eight of them
pub byte-whole : (row : List ℕ) (v x k b : ℕ) → x + 8 ≤ length row → k ≡ 8 → b ≡ from_bits (is_label (take k (drop x row)) v) 0 (length (take k (drop x row)))
    → b ≡ from_bits (is_label row v) x 8
byte-whole row v x k b h q e =
    let m = length-take-le k (drop x row) (omega (arith, length-drop x row)) in
    e ∙ ap (from_bits (is_label (take k (drop x row)) v) 0) (m ∙ q)
    ∙ bits-same (is_label (take k (drop x row)) v) (is_label row v) 0 x 8
    (λ j l. ap (is_label (take k (drop x row)) v) (let z : 0 + j ≡ j = omega arith in z) ∙ part-label row v x k j (omega arith) (omega arith))

-- none of them
label-none : (row : List ℕ) (v x : ℕ) → some_of (λ b. eqb b v) row ≡ false → is_label row v x ≡ false
label-none row v x e = by (dec_lt x (length row))
  where
    no_label : (l : List ℕ) (x : ℕ) → x < length l → some_of (λ b. eqb b v) l ≡ false → eqb (get_or l x 0) v ≡ false
    no_label [] x h q = absurd (omega arith)
    no_label (b ∷ l) zero h q = (or-out-false (eqb b v) (some_of (λ b. eqb b v) l) q).0
    no_label (b ∷ l) (suc x) h q = no_label l x (omega arith) (or-out-false (eqb b v) (some_of (λ b. eqb b v) l) q).1

    by : Dec (x < length row) → is_label row v x ≡ false
    by (yes l) = in-label row v x l ∙ no_label row x l e
    by (no l) = past-label row v x (omega arith)

pub byte-none : (row : List ℕ) (v x k : ℕ) → x + 8 ≤ length row → k ≡ 8 → some_of (λ b. eqb b v) (take k (drop x row)) ≡ false → 0 ≡ from_bits (is_label row v) x 8
unfolding from_bits
byte-none row v x k h q e =
    let n : ℕ = length (take k (drop x row)) in
    byte-whole row v x k 0 h q
    (sym (ap (from_bits (is_label (take k (drop x row)) v) 0) (sym (zero-add n)) ∙ bits_pad (is_label (take k (drop x row)) v) 0 0 n (λ j l. label-none (take k (drop x row)) v (0 + j) e) ∙ zero-mul (2 ^ n)))

-- the last ones
pub byte-rest : (row : List ℕ) (v x k s b : ℕ) → x + k ≡ length row → k + s ≡ 8 → b ≡ from_bits (is_label (take k (drop x row)) v) 0 (length (take k (drop x row)))
    → (b * 2 ^ s) % 2 ^ 8 ≡ from_bits (is_label row v) x 8
byte-rest row v x k s b h q e =
    mod-eq_of_lt (subst (λ (n : ℕ). n < 2 ^ 8) (sym whole) (from_bits_lt (is_label row v) x 8)) ∙ whole
  where
    m : length (take k (drop x row)) ≡ k
    m = length-take-le k (drop x row) (omega (arith, length-drop x row))

    part : b ≡ from_bits (is_label row v) x k
    part =
        e ∙ ap (from_bits (is_label (take k (drop x row)) v) 0) m
        ∙ bits-same (is_label (take k (drop x row)) v) (is_label row v) 0 x k
        (λ j l. ap (is_label (take k (drop x row)) v) (let z : 0 + j ≡ j = omega arith in z) ∙ part-label row v x k j (omega arith) l)

    whole : b * 2 ^ s ≡ from_bits (is_label row v) x 8
    whole =
        ap (λ (n : ℕ). n * 2 ^ s) part ∙ sym (bits_pad (is_label row v) x k s (λ j l. past-label row v (x + j) (omega arith)))
        ∙ ap (from_bits (is_label row v) x) q

-- the end of `join_labels`
pub labels-joined : (row : List ℕ) (v : ℕ) (old new : List ℕ) (n : ℕ) → length old ≤ n
    → Mapped (λ j. bit_or (get_or old j 0) (from_bits (is_label row v) (8 * j) 8)) old new n
    → Pixelwise old new (λ x b. b || is_label row v x)
unfolding bit_of
labels-joined row v old new n h m =
    mapped-pixels old new (λ j. bit_or (get_or old j 0) (from_bits (is_label row v) (8 * j) 8)) (λ x b. b || is_label row v x) n h m (λ i k hi hk.
    let w : 7 - k ≡ 8 - suc k = omega arith in
    join-bit true (get_or old i 0) (from_bits (is_label row v) (8 * i) 8) k
    ∙ ap (λ (c : Bool). bit_of (get_or old i 0) k || c)
    (ap (λ (e : ℕ). eqb (from_bits (is_label row v) (8 * i) 8 / 2 ^ e % 2) 1) w ∙ bit-from_bits (is_label row v) (8 * i) 8 k hk))

-- a row without such a label
labels-none : (row : List ℕ) (v : ℕ) (old : List ℕ) → some_of (λ b. eqb b v) row ≡ false → Pixelwise old old (λ x b. b || is_label row v x)
labels-none row v old e = record { size = refl; pixels = λ x l. or-none (row_bit old x) (is_label row v x) (label-none row v x e) }
  where
    or-none : (b c : Bool) → c ≡ false → b ≡ (b || c)
    or-none true c q = refl
    or-none false c q = sym q

-- a row whose largest label up to v is smaller
pub labels-below : (row : List ℕ) (v : ℕ) (old : List ℕ) → greatest_below (v + 1) row < v → Pixelwise old old (λ x b. b || is_label row v x)
unfolding greatest greatest_below
labels-below row v old h = labels-none row v old (none row h)
  where
    none : (l : List ℕ) → greatest_below (v + 1) l < v → some_of (λ b. eqb b v) l ≡ false
    none [] h = refl
    none (b ∷ l) h = ap₂ (λ (c d : Bool). c || d) (ne_eqb b v (λ e. omega (arith, under_lt b (v + 1) (omega arith)))) (none l (omega arith))

-- ---- rows of a plane

-- the label of pixel x of row y is v
abbrev pub label_is : ℕ → List ℕ → ℕ → ℕ → ℕ → Bool
label_is w labels v y x = ltb x w && eqb (get_or labels (y * w + x) 0) v

pub row_label : (w : ℕ) (labels : List ℕ) (v y k x : ℕ) → k ≡ w → y * w + w ≤ length labels → is_label (take k (drop (y * w) labels)) v x ≡ label_is w labels v y x
row_label w labels v y k x q h = by (dec_lt x w)
  where
    m : length (take k (drop (y * w) labels)) ≡ k
    m = length-take-le k (drop (y * w) labels) (omega (arith, length-drop (y * w) labels))

    by : Dec (x < w) → is_label (take k (drop (y * w) labels)) v x ≡ label_is w labels v y x
    by (yes l) = part-label labels v (y * w) k x (omega arith) (omega arith) ∙ in-label labels v (y * w + x) (omega arith)
        ∙ sym (ap (λ (c : Bool). c && eqb (get_or labels (y * w + x) 0) v) (lt-ltb x w l))
    by (no l) = past-label (take k (drop (y * w) labels)) v x (omega (arith, m)) ∙ sym (ap (λ (c : Bool). c && eqb (get_or labels (y * w + x) 0) v) (le-ltb x w (omega arith)))

-- one row more: j = w labels joined to a part of k = r bytes
pub points_more : (w r y v j k : ℕ) (labels old u ys : List ℕ) → j ≡ w → k ≡ r → y * w + w ≤ length labels → y * r + r ≤ length u
    → PlaneIs 0 r y old u (λ y x. row_bit old (8 * (0 + y * r) + x) || label_is w labels v y x)
    → Pixelwise (take k (drop (y * r) u)) ys (λ x b. b || is_label (take j (drop (y * w) labels)) v x)
    → PlaneIs 0 r (y + 1) old (take (y * r) u ++ (ys ++ drop k (drop (y * r) u))) (λ y x. row_bit old (8 * (0 + y * r) + x) || label_is w labels v y x)
points_more w r y v j k labels old u ys ej ek hl hu a m =
    let new : List ℕ = take (y * r) u ++ (ys ++ drop k (drop (y * r) u)) in
    rows_more 0 r y old u new (λ y x b. b || label_is w labels v y x) a
    (subst (λ (n : ℕ). RowIs n r u new (λ x. row_bit u (8 * n + x) || label_is w labels v y x)) (sym (zero-add (y * r)))
    (row_same (pixelwise-part (y * r) r k u ys (λ x b. b || is_label (take j (drop (y * w) labels)) v x) ek hu m)
    (λ x l. ap (λ (t : Bool). row_bit u (8 * (y * r) + x) || t) (row_label w labels v y j x ej hl))))

-- the pixels of the whole plane
pub points_set : (W H r v : ℕ) (labels plane : List ℕ) → r ≡ stride W → 0 < v → T (is_clean W H plane) → (y x : ℕ) → y < H → x < 8 * r
    → (row_bit plane (8 * (0 + y * r) + x) || label_is W labels v y x) ≡ with_points W H labels v plane (at (pos x) (pos y))
unfolding label_at
points_set W H r v labels plane q hv clean y x hy hx =
    let z : 8 * (0 + y * r) + x ≡ 8 * (y * r) + x = omega arith in
    ap₂ (λ (a b : Bool). a || b) (ap (row_bit plane) z ∙ row-image W H r plane q clean y x hy hx) (by (ltb x W))
    ∙ or_comm (image_set W H plane (at (pos x) (pos y))) (eqb (label_at W H labels (at (pos x) (pos y))) v)
  where
    by : (c : Bool) → (c && eqb (get_or labels (y * W + x) 0) v) ≡ eqb (cond (c && ltb y H) (get_or labels (y * W + x) 0) 0) v
    by true = ap (λ (c : Bool). eqb (cond c (get_or labels (y * W + x) 0) 0) v) (sym (lt-ltb y H hy))
    by false = sym (ne_eqb 0 v (λ e. omega arith))
