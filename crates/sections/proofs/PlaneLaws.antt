-- Walks over rows and planes: words of pixels, rows of words, blocks of rows, planes of blocks.
use mathlib.Core.Bool.{Bool, ◌&&◌, cond, false, not, true}
use mathlib.Core.List.{List, [], ◌++◌, ◌∷◌}
use mathlib.Core.Path.{◌∙◌, ◌≡◌, ap, ap₂, refl, subst, sym}
use Prim.Native.Nat.{◌%◌, ◌*◌, ◌+◌, ◌-◌, ◌/◌, ◌<◌, ◌^◌, ◌≤◌, suc, zero, ℕ}
use native.Mathlib.Decide.{dec_lt}
use native.Mathlib.Nat.{add-mul, add-suc, add-zero, div-add-mod', div-lt_iff_lt-mul, lt_of_lt_of_le, mod-lt, mul_comm, mul-le-mul_right, not-suc-le-zero, pow-le-pow_right, suc-add, zero-add, zero-lt-suc, zero-mul}
use native.Mathlib.Omega.{arith}
use borrow.Author.Tests.{lt-ltb}
use lib.Arith.{digits_lt}
use lib.Dec.{T, eqb, eqb→eq}
use lib.IntN.{pos}
use lib.Count.{ones}
use lib.ListN.{drop, get_or, length, length-drop, replicate, take}
use Rattle.std.specs.Int.{from_be_bytes}
use Rattle.std.proofs.Common.{w64}
use lib.Pow.{high, pow-add, shr_lt, shr-shr}
use lib.Seq.{get_or-drop, get_or-take, length-take-le}
use Rattle.morphology.specs.Element.{bit}
use Rattle.morphology.specs.Image.{bit_of, image_set, is_clean, ones_of, pixel, plane_bytes, stride}
use Rattle.morphology.specs.Labels.{area, place, places}
use Rattle.morphology.specs.Lists.{count_of, every_of, some_of, tabulate, up_to}
use Rattle.morphology.specs.Point.{Point, at}
use Rattle.morphology.proofs.AreaLaws.{area-ones}
use Rattle.morphology.proofs.CoverLaws.{in-up_to, of-up_to}
use Rattle.morphology.proofs.ImageLaws.{Agree, below_top, clean_agree, image_agree, length-row, row_mem}
use Rattle.morphology.proofs.LabelLaws.{place_at}
use Rattle.morphology.proofs.PlaneLaws.{area_le}
use Rattle.morphology.proofs.TestLaws.{all_in, all-out}
use Rattle.raster.specs.Frames.{Frame}
use Rattle.raster.specs.Rows.{row_bit}
use Rattle.raster.proofs.BandLaws.{zeros-out}
use Rattle.raster.proofs.PackLaws.{frame-bytes, frame_row, row-pixel}
use Rattle.raster.proofs.PartLaws.{part_bytes}
use Rattle.raster.proofs.RowLaws.{row_bit-at, rows_in}
use Rattle.sections.specs.Kinds.{Kind, count_after, kind, kinds_from, runs_of}
use Rattle.sections.specs.Pens.{Marked, PenRoom, PenWalked}
use Rattle.sections.specs.Words.{Word, row_kinds, word_kinds}
use Rattle.sections.proofs.KindLaws.{count_le, row_agree, row_parts}
use Rattle.sections.proofs.PenLaws.{marked-none, walk_front, walk_next, walked_append, walked_none}

-- ---- bytes as a word

-- no byte
pub word_none : (s : List ℕ) (x : ℕ) → Word s x 0 0
word_none s x = record { small = zero-lt-suc 0; pixels = λ t l. absurd (not-suc-le-zero l) }

-- one byte more
pub word_byte_lem : (s : List ℕ) (i k v : ℕ) → get_or s (i + k) 0 < 256 → Word s (8 * i) (8 * k) v → Word s (8 * i) (8 * (k + 1)) (v * 256 + get_or s (i + k) 0)
unfolding bit_of
word_byte_lem s i k v h p = record { small = subst (λ (m : ℕ). v * 256 + d < m) wide (digits_lt p.small h); pixels = λ t l. by t l (dec_lt t (8 * k)) }
  where
    d : ℕ
    d = get_or s (i + k) 0

    wide : 2 ^ (8 * k) * 256 ≡ 2 ^ (8 * (k + 1))
    wide = let e : 8 * k + 8 ≡ 8 * (k + 1) = omega arith in sym (pow-add 2 (8 * k) 8) ∙ ap (λ (n : ℕ). 2 ^ n) e

    by : (t : ℕ) → t < 8 * (k + 1) → Dec (t < 8 * k) → bit (v * 256 + d) (8 * (k + 1) - 1 - t) ≡ row_bit s (8 * i + t)
    by t l (yes a) =
        let e : 8 * (k + 1) - 1 - t ≡ 8 + (8 * k - 1 - t) = omega arith in
        ap (bit (v * 256 + d)) e
        ∙ ap (λ (n : ℕ). eqb (n % 2) 1) (sym (shr-shr (v * 256 + d) 8 (8 * k - 1 - t)) ∙ ap (λ (n : ℕ). n / 2 ^ (8 * k - 1 - t)) (high v 8 h))
        ∙ p.pixels t a
    by t l (no a) =
        let u = t - 8 * k in
        let e : 8 * (k + 1) - 1 - t ≡ 7 - u = omega arith in
        let z : 8 * (i + k) + u ≡ 8 * i + t = omega arith in
        ap (bit (v * 256 + d)) e ∙ ap (λ (n : ℕ). eqb n 1) (below_top v 8 d (7 - u) (omega arith)) ∙ sym (row_bit-at s (i + k) u (omega arith)) ∙ ap (row_bit s) z

-- eight bytes, the first worth most
abbrev pub eight : List ℕ → ℕ → List ℕ
eight s i =
    get_or s i 0 ∷ get_or s (i + 1) 0 ∷ get_or s (i + 2) 0 ∷ get_or s (i + 3) 0 ∷ get_or s (i + 4) 0 ∷ get_or s (i + 5) 0 ∷ get_or s (i + 6) 0
    ∷ get_or s (i + 7) 0 ∷ []

pub word_eight : (s : List ℕ) (i v : ℕ) → ((k : ℕ) → get_or s k 0 < 256) → v ≡ from_be_bytes w64 (eight s i) → Word s (8 * i) 64 v
word_eight s i v h e =
    let more = λ (k u : ℕ) (w : Word s (8 * i) (8 * k) u). word_byte_lem s i k u (h (i + k)) w in
    subst (Word s (8 * i) 64) (omega (arith, e, ap (λ (k : ℕ). get_or s k 0) (add-zero i)))
    (more 7 _ (more 6 _ (more 5 _ (more 4 _ (more 3 _ (more 2 _ (more 1 _ (more 0 _ (word_none s (8 * i))))))))))

-- m pixels, where m is at most n
pub word_small : {s : List ℕ} {x m v : ℕ} (n : ℕ) → Word s x m v → m ≤ n → v < 2 ^ n
word_small {s} {x} {m} {v} n p h = lt_of_lt_of_le p.small (pow-le-pow_right (zero-lt-suc 1) h)

-- the first m of n pixels
pub word_first : (s : List ℕ) (x n m v : ℕ) → m ≤ n → Word s x n v → Word s x m (v / 2 ^ (n - m))
word_first s x n m v h p = record {
  small = let e : m + (n - m) ≡ n = omega arith in shr_lt m (n - m) (subst (λ (k : ℕ). v < 2 ^ k) (sym e) p.small);
  pixels = λ t l.
      let e : n - m + (m - 1 - t) ≡ n - 1 - t = omega arith in
      ap (λ (k : ℕ). eqb (k % 2) 1) (shr-shr v (n - m) (m - 1 - t)) ∙ ap (bit v) e ∙ p.pixels t (omega arith);
}

-- ---- a word's pixels

-- pixel i of the rows at bytes a and b
abbrev pub row_kind : List ℕ → ℕ → ℕ → ℕ → Kind
row_kind s a b i = kind (row_bit s (8 * b + i)) (row_bit s (8 * a + i))

-- equal pixel by pixel, from the highest bit down
word_row : (f : ℕ → Kind) (x m ink mask : ℕ) → ((t : ℕ) → t < m → kind (bit mask (m - 1 - t)) (bit ink (m - 1 - t)) ≡ f (x + t))
    → word_kinds m ink mask ≡ tabulate f x m
unfolding word_kinds tabulate
word_row f x zero ink mask h = refl
word_row f x (suc m) ink mask h =
    let e : suc m - 1 - 0 ≡ m = omega arith in
    ap₂ (λ (a : Kind) (l : List Kind). a ∷ l) (ap (λ (i : ℕ). kind (bit mask i) (bit ink i)) (sym e) ∙ h 0 (zero-lt-suc m) ∙ ap f (add-zero x))
    (word_row f (suc x) m ink mask (λ t l.
    let z : m - 1 - t ≡ suc m - 1 - suc t = omega arith in
    ap (λ (i : ℕ). kind (bit mask i) (bit ink i)) z ∙ h (suc t) (omega arith) ∙ ap f (add-suc x t ∙ sym (suc-add x t))))

-- two words are two rows
pub word_kinds_lem : (s : List ℕ) (a b m ink mask : ℕ) → Word s (8 * a) m ink → Word s (8 * b) m mask → word_kinds m ink mask ≡ row_kinds s a b 0 m
word_kinds_lem s a b m ink mask p q =
    word_row (row_kind s a b) 0 m ink mask (λ t l.
    ap₂ kind (q.pixels t l ∙ ap (λ (i : ℕ). row_bit s (8 * b + i)) (sym (zero-add t)))
    (p.pixels t l ∙ ap (λ (i : ℕ). row_bit s (8 * a + i)) (sym (zero-add t))))

-- and so are the first m of n pixels of two
pub word_few : (s : List ℕ) (a b n m ink mask : ℕ) → m ≤ n → Word s (8 * a) n ink → Word s (8 * b) n mask
    → (ink / 2 ^ (n - m) < 2 ^ m) × (mask / 2 ^ (n - m) < 2 ^ m) × (word_kinds m (ink / 2 ^ (n - m)) (mask / 2 ^ (n - m)) ≡ row_kinds s a b 0 m)
word_few s a b n m ink mask h p q =
    let i = word_first s (8 * a) n m ink h p in
    let j = word_first s (8 * b) n m mask h q in
    (i.small, j.small, word_kinds_lem s a b m (ink / 2 ^ (n - m)) (mask / 2 ^ (n - m)) i j)

-- ---- walks over a table of pixels

-- the same pixels by another name
pub walked_as : {down : Bool} {l m : List Kind} {old new : List ℕ} {at k at' k' : ℕ} → l ≡ m → PenWalked down l old new at k at' k'
    → PenWalked down m old new at k at' k'
walked_as {down} {l} {m} {old} {new} {at} {k} {at'} {k'} e p = subst (λ (i : List Kind). PenWalked down i old new at k at' k') e p

pub room_as : {down : Bool} {l m : List Kind} {s : List ℕ} {at : ℕ} (k : ℕ) → l ≡ m → PenRoom down s at (runs_of k l) → PenRoom down s at (runs_of k m)
room_as {down} {l} {m} {s} {at} k e p = subst (λ (i : List Kind). PenRoom down s at (runs_of k i)) e p

-- no pixel yet
pub table_none : (f : ℕ → Kind) (down : Bool) (old : List ℕ) (at k : ℕ) → PenWalked down (tabulate f 0 0) old old at k at k
unfolding tabulate
table_none f down old at k = walked_none down old at k

-- m pixels after x, and r after them
table_parts : (f : ℕ → Kind) (x m r : ℕ) → tabulate f 0 (x + (m + r)) ≡ tabulate f 0 x ++ (tabulate f x m ++ tabulate f (x + m) r)
table_parts f x m r =
    row_parts f 0 x (m + r)
    ∙ ap (λ (l : List Kind). tabulate f 0 x ++ l) (ap (λ (i : ℕ). tabulate f i (m + r)) (zero-add x) ∙ row_parts f x m r)

-- room for all n pixels is room for the m after x
pub table-room : {down : Bool} {old new : List ℕ} {at k at' k' : ℕ} {l : List Kind} (f : ℕ → Kind) (x m n : ℕ) → x + m ≤ n → tabulate f x m ≡ l
    → PenRoom down old at (runs_of k (tabulate f 0 n)) → PenWalked down (tabulate f 0 x) old new at k at' k' → PenRoom down new at' (runs_of k' l)
table-room {down} {old} {new} {at} {k} {at'} {k'} {l} f x m n h e r p =
    let z : n ≡ x + (m + (n - (x + m))) = omega arith in
    let b = tabulate f (x + m) (n - (x + m)) in
    room_as k' e (walk_front k' (tabulate f x m) b (walk_next (tabulate f x m ++ b) (room_as k (ap (tabulate f 0) z ∙ table_parts f x m (n - (x + m))) r) p))

-- m pixels more
pub table_more : {down : Bool} {l : List Kind} {old mid new : List ℕ} {at a at' k c k' : ℕ} (f : ℕ → Kind) (x m : ℕ) → tabulate f x m ≡ l
    → PenWalked down (tabulate f 0 x) old mid at k a c → PenWalked down l mid new a c at' k' → PenWalked down (tabulate f 0 (x + m)) old new at k at' k'
table_more {down} {l} {old} {mid} {new} {at} {a} {at'} {k} {c} {k'} f x m e p q =
    walked_as (sym (row_parts f 0 x m ∙ ap (λ (i : ℕ). tabulate f 0 x ++ tabulate f i m) (zero-add x))) (walked_append p (walked_as (sym e) q))

-- each pixel is counted at most once
pub table-count : {down : Bool} {old new : List ℕ} {at k at' k' : ℕ} (f : ℕ → Kind) (x : ℕ) → PenWalked down (tabulate f 0 x) old new at k at' k' → k' ≤ k + x
table-count {down} {old} {new} {at} {k} {at'} {k'} f x p = omega (arith, p.count, count_le k (tabulate f 0 x), length-row f 0 x)

-- ---- rows

-- from pixel x, in byte y, on
pub row_on : (s : List ℕ) (a b x y m : ℕ) → x ≡ 8 * y → tabulate (row_kind s a b) x m ≡ row_kinds s (a + y) (b + y) 0 m
row_on s a b x y m e =
    row_agree (row_kind s a b) (row_kind s (a + y) (b + y)) x 0 m (λ t l.
    let ea : 8 * a + (x + t) ≡ 8 * (a + y) + (0 + t) = omega arith in
    let eb : 8 * b + (x + t) ≡ 8 * (b + y) + (0 + t) = omega arith in
    ap₂ (λ (i j : ℕ). kind (row_bit s i) (row_bit s j)) eb ea)

-- ---- walks over rows of a plane

-- pixel j of the first plane under the plane at q, and the first m of them
abbrev pub plane_kind : ℕ → ℕ → ℕ → List ℕ → ℕ → Kind
plane_kind W H q s j = kind (image_set W H (drop q s) (place W j)) (image_set W H s (place W j))

abbrev pub plane_kinds : ℕ → ℕ → ℕ → List ℕ → ℕ → List Kind
plane_kinds W H q s m = kinds_from W (image_set W H s) (image_set W H (drop q s)) 0 m

-- no row yet
pub rows_none : (W H q : ℕ) (s : List ℕ) (down : Bool) (old : List ℕ) (at k : ℕ) → PenWalked down (plane_kinds W H q s (0 * W)) old old at k at k
unfolding kinds_from
rows_none W H q s down old at k = walked_as (ap (tabulate (plane_kind W H q s) 0) (sym (zero-mul W))) (table_none (plane_kind W H q s) down old at k)

-- n rows, of m = n W pixels, after y rows of H
module _ (W H q y n m : ℕ) (s : List ℕ) (size : m ≡ n * W) (inside : y + n ≤ H) where
  within : y * W + m ≤ W * H
  within = omega (arith, rows_in y n H W inside, mul_comm H W)

  -- room for them
  pub rows-room : {down : Bool} {old new : List ℕ} {at k at' k' : ℕ} {l : List Kind} → tabulate (plane_kind W H q s) (y * W) m ≡ l
      → PenRoom down old at (runs_of k (plane_kinds W H q s (W * H))) → PenWalked down (plane_kinds W H q s (y * W)) old new at k at' k'
      → PenRoom down new at' (runs_of k' l)
  unfolding kinds_from
  rows-room {down} {old} {new} {at} {k} {at'} {k'} {l} e r p = table-room (plane_kind W H q s) (y * W) m (W * H) within e r p

  -- and walked
  pub rows_more : {down : Bool} {l : List Kind} {old mid new : List ℕ} {at a at' k c k' : ℕ} → tabulate (plane_kind W H q s) (y * W) m ≡ l
      → PenWalked down (plane_kinds W H q s (y * W)) old mid at k a c → PenWalked down l mid new a c at' k'
      → PenWalked down (plane_kinds W H q s ((y + n) * W)) old new at k at' k'
  unfolding kinds_from
  rows_more {down} {l} {old} {mid} {new} {at} {a} {at'} {k} {c} {k'} e p w =
      let z : y * W + m ≡ (y + n) * W = omega (arith, add-mul y n W) in
      walked_as (ap (tabulate (plane_kind W H q s) 0) z) (table_more (plane_kind W H q s) (y * W) m e p w)

  -- a count before them, and their pixels, stay within the plane's
  pub rows-count : {down : Bool} {old new : List ℕ} {at k at' k' : ℕ} → PenWalked down (plane_kinds W H q s (y * W)) old new at k at' k' → k' + m ≤ k + W * H
  unfolding kinds_from
  rows-count {down} {old} {new} {at} {k} {at'} {k'} p = omega (arith, table-count (plane_kind W H q s) (y * W) p, within)

-- all rows
pub rows_all : {down : Bool} {old new : List ℕ} {at k at' k' : ℕ} (W H q y : ℕ) (s : List ℕ) → y ≡ H
    → PenWalked down (plane_kinds W H q s (y * W)) old new at k at' k' → PenWalked down (plane_kinds W H q s (W * H)) old new at k at' k'
rows_all {down} {old} {new} {at} {k} {at'} {k'} W H q y s e p = walked_as (ap (plane_kinds W H q s) (ap (λ (i : ℕ). i * W) e ∙ mul_comm H W)) p

-- ---- rows of bytes of a plane

-- a pixel after the first q bytes
drop-bit : (q : ℕ) (s : List ℕ) (z w : ℕ) → w ≡ 8 * q + z → row_bit (drop q s) z ≡ row_bit s w
unfolding row_bit
drop-bit q s z w e =
    let a : w / 8 ≡ q + z / 8 = omega arith in
    let m : z % 8 ≡ w % 8 = omega arith in
    ap₂ (λ (i k : ℕ). bit_of i k) (get_or-drop q s (z / 8) 0 ∙ ap (λ (i : ℕ). get_or s i 0) (sym a)) m

-- a point on the frame is a pixel
image-at : (W H : ℕ) (s : List ℕ) (x y : ℕ) → x < W → y < H → image_set W H s (at (pos x) (pos y)) ≡ pixel W s x y
unfolding image_set
image-at W H s x y hx hy = ap₂ (λ (a b : Bool). a && (b && pixel W s x y)) (lt-ltb x W hx) (lt-ltb y H hy)

-- row y of two planes is two rows of bytes
pub row_kinds_lem : (W H r q y : ℕ) (s : List ℕ) → r ≡ stride W → y < H → tabulate (plane_kind W H q s) (y * W) W ≡ row_kinds s (y * r) (q + y * r) 0 W
row_kinds_lem W H r q y s e hy =
    row_agree (plane_kind W H q s) (row_kind s (y * r) (q + y * r)) (y * W) 0 W (λ t l.
    let z : 8 * (y * r) + t ≡ 8 * (y * r) + (0 + t) = omega arith in
    ap₂ kind (pixel_of (drop q s) t l ∙ drop-bit q s (8 * (y * r) + t) (8 * (q + y * r) + (0 + t)) (omega arith)) (pixel_of s t l ∙ ap (row_bit s) z))
  where
    pixel_of : (u : List ℕ) (t : ℕ) → t < W → image_set W H u (place W (y * W + t)) ≡ row_bit u (8 * (y * r) + t)
    pixel_of u t l = ap (image_set W H u) (place_at W t y l) ∙ image-at W H u t y l hy ∙ sym (row-pixel W u r t y e)

-- ---- planes that are the same

-- what the test of the bytes says
pub same_set : (W H r q : ℕ) (s : List ℕ) → r ≡ stride W → every_of (λ i. eqb (get_or s (0 + i) 0) (get_or s (q + i) 0)) (up_to (H * r)) ≡ true
    → image_set W H (drop q s) ≡ image_set W H s
same_set W H r q s e t =
    image_agree W H (drop q s) s (λ j h.
    let m = in-up_to (H * r) j (subst (λ (k : ℕ). j < H * k) (sym e) h) in
    get_or-drop q s j 0
    ∙ sym (eqb→eq (get_or s (0 + j) 0) (get_or s (q + j) 0) (all-out (λ i. eqb (get_or s (0 + i) 0) (get_or s (q + i) 0)) (subst T (sym t) tt) m))
    ∙ ap (λ (i : ℕ). get_or s i 0) (zero-add j))

-- no run ends where each point is masked
runs_same : (p : Point → Bool) (g : ℕ → Point) (k i n : ℕ) → runs_of k (tabulate (λ j. kind (p (g j)) (p (g j))) i n) ≡ []
unfolding runs_of tabulate
runs_same p g k i zero = refl
runs_same p g k i (suc n) =
    by (p (g i)) (tabulate (λ j. kind (p (g j)) (p (g j))) (suc i) n) (runs_same p g k (suc i) n) (runs_same p g (suc k) (suc i) n)
  where
    by : (b : Bool) (l : List Kind) → runs_of k l ≡ [] → runs_of (suc k) l ≡ [] → runs_of k (kind b b ∷ l) ≡ []
    by true l e f = e
    by false l e f = f

-- and all but the masked ones are counted
count_same : (p : Point → Bool) (g : ℕ → Point) (k i n : ℕ) → count_after k (tabulate (λ j. kind (p (g j)) (p (g j))) i n) + count_of p (tabulate g i n) ≡ k + n
unfolding count_after count_of tabulate
count_same p g k i zero = refl
count_same p g k i (suc n) =
    by (p (g i)) (tabulate (λ j. kind (p (g j)) (p (g j))) (suc i) n) (count_of p (tabulate g (suc i) n)) (count_same p g k (suc i) n)
    (count_same p g (suc k) (suc i) n)
  where
    by : (b : Bool) (l : List Kind) (m : ℕ) → count_after k l + m ≡ k + n → count_after (suc k) l + m ≡ suc k + n
        → count_after k (kind b b ∷ l) + (cond b 1 0 + m) ≡ k + suc n
    by true l m e f = omega arith
    by false l m e f = omega arith

-- a walk over such planes
pub same_walked : (W H q m : ℕ) (s : List ℕ) (down : Bool) (old : List ℕ) (at k : ℕ) → image_set W H (drop q s) ≡ image_set W H s
    → m ≡ area W H (image_set W H (drop q s)) → PenWalked down (plane_kinds W H q s (W * H)) old old at k at (k + (W * H - m))
unfolding kinds_from area places
same_walked W H q m s down old at k e a =
    let M = image_set W H (drop q s) in
    walked_as (ap (λ (S : Point → Bool). kinds_from W S M 0 (W * H)) e) (record {
      runs = subst (λ (rs : List ℕ). Marked down rs old old at at) (sym (runs_same M (place W) k 0 (W * H))) (marked-none down old at);
      count = omega (arith, count_same M (place W) k 0 (W * H), area_le W H M);
    })

-- the mask's area is the ones of its m = H r bytes
pub mask-ones : (W H r q m : ℕ) (s : List ℕ) → Frame W H r → m ≡ H * r → q + m ≤ length s → ((i : ℕ) → get_or s i 0 < 256) → T (is_clean W H (drop q s))
    → ones_of (take m (drop q s)) ≡ area W H (image_set W H (drop q s))
mask-ones W H r q m s f e h bytes clean =
    let t = take m (drop q s) in
    let p : m ≡ plane_bytes W H = e ∙ frame-bytes f in
    let a : Agree W H (drop q s) t = λ j l. sym (get_or-take m (drop q s) j 0 (subst (λ (k : ℕ). j < k) (sym p) l)) in
    sym (area-ones W H t (length-take-le m (drop q s) (omega (arith, length-drop q s)) ∙ p) (part_bytes q m s bytes h) (clean_agree W H (drop q s) t a clean))
    ∙ ap (area W H) (sym (image_agree W H (drop q s) t a))

-- bytes without a 1 have no ones
zeros-ones : (n : ℕ) → ones_of (replicate n 0) ≡ 0
unfolding ones_of ones
zeros-ones zero = refl
zeros-ones (suc n) = let z : ones 0 ≡ 0 = refl in omega (arith, z, zeros-ones n)

pub blank-ones : (s : List ℕ) → some_of (λ b. not (eqb b 0)) s ≡ false → ones_of s ≡ 0
blank-ones s e = ap ones_of (zeros-out s e) ∙ zeros-ones (length s)

-- where the planes are the same no run ends
pub same_marked : (W H q : ℕ) (s : List ℕ) (down : Bool) (old : List ℕ) (at k : ℕ) → image_set W H (drop q s) ≡ image_set W H s
    → Marked down (runs_of k (plane_kinds W H q s (W * H))) old old at at
same_marked W H q s down old at k e = (same_walked W H q (area W H (image_set W H (drop q s))) s down old at k e refl).runs

-- few enough for the code's numbers
pub frame-few : {w h r : ℕ} → Frame w h r → h * r < 2 ^ 20
frame-few {w} {h} {r} f = omega (arith, mul-le-mul_right r f.down, (frame_row f).3)

-- ---- blocks of rows of a plane

-- the n rows of t are those of s from row y on
abbrev RowsOf : ℕ → ℕ → ℕ → List ℕ → List ℕ → Type 0
RowsOf W n y s t = (j : ℕ) → j < n * stride W → get_or t j 0 ≡ get_or s (y * stride W + j) 0

-- lent from byte p on, q bytes after that
rows-lent : (W n y q p k : ℕ) (s : List ℕ) → p ≡ y * stride W → q + n * stride W ≤ k → RowsOf W n y (drop q s) (drop q (take k (drop p s)))
rows-lent W n y q p k s e h j l =
    let z : p + (q + j) ≡ q + (y * stride W + j) = omega arith in
    get_or-drop q (take k (drop p s)) j 0 ∙ get_or-take k (drop p s) (q + j) 0 (omega arith) ∙ get_or-drop p s (q + j) 0 ∙ ap (λ (i : ℕ). get_or s i 0) z
    ∙ sym (get_or-drop q s (y * stride W + j) 0)

-- row i of the block is row y + i of the plane
rows-pixel : (W n y : ℕ) (s t : List ℕ) → RowsOf W n y s t → (x i : ℕ) → x / 8 < stride W → i < n → pixel W t x i ≡ pixel W s x (y + i)
unfolding pixel
rows-pixel W n y s t f x i hx hi =
    let z : y * stride W + (i * stride W + x / 8) ≡ (y + i) * stride W + x / 8 = omega (arith, add-mul y i (stride W)) in
    ap (λ (b : ℕ). bit_of b (x % 8)) (f (i * stride W + x / 8) (digits_lt hi hx) ∙ ap (λ (k : ℕ). get_or s k 0) z)

-- place j of the block is place y W + j of the plane
rows-place : (W H n y : ℕ) (s t : List ℕ) → 0 < W → y + n ≤ H → RowsOf W n y s t → (j : ℕ) → j < W * n
    → image_set W n t (place W j) ≡ image_set W H s (place W (y * W + j))
unfolding stride
rows-place W H n y s t hw hn f j l =
    let x = j % W in
    let i = j / W in
    let hx : x < W = mod-lt j hw in
    let hi : i < n = (div-lt_iff_lt-mul {k = W} {x = j} {y = n} hw).1 (omega (arith, mul_comm W n)) in
    let z : (y + i) * W + x ≡ y * W + j = omega (arith, add-mul y i W, div-add-mod' j W) in
    image-at W n t x i hx hi ∙ rows-pixel W n y s t f x i (omega arith) hi ∙ sym (image-at W H s x (y + i) hx (omega arith))
    ∙ ap (image_set W H s) (sym (place_at W x (y + i) hx) ∙ ap (place W) z)

-- the pixels of a block are the plane's from row y on
block_kinds : (W H n y q : ℕ) (s t : List ℕ) → 0 < W → y + n ≤ H → RowsOf W n y s t → RowsOf W n y (drop q s) (drop q t)
    → tabulate (plane_kind W H q s) (y * W) (W * n) ≡ plane_kinds W n q t (W * n)
unfolding kinds_from
block_kinds W H n y q s t hw hn f g =
    row_agree (plane_kind W H q s) (plane_kind W n q t) (y * W) 0 (W * n) (λ j l.
    ap₂ kind (sym (rows-place W H n y (drop q s) (drop q t) hw hn g j l) ∙ ap (λ (i : ℕ). image_set W n (drop q t) (place W i)) (sym (zero-add j)))
    (sym (rows-place W H n y s t hw hn f j l) ∙ ap (λ (i : ℕ). image_set W n t (place W i)) (sym (zero-add j))))

-- rows of a clean plane are clean
rows-clean : (W H n y : ℕ) (s t : List ℕ) → y + n ≤ H → RowsOf W n y s t → T (is_clean W H s) → T (is_clean W n t)
unfolding is_clean
rows-clean W H n y s t hn f clean =
    all_in (λ i. every_of (λ x. not (pixel W t x i)) (tabulate (λ x. x) W (stride W * 8 - W))) (up_to n) (λ i mi.
    all_in (λ x. not (pixel W t x i)) (tabulate (λ x. x) W (stride W * 8 - W)) (λ x mx.
    let hi = of-up_to n mi in
    let rx = row_mem (λ x. x) W (stride W * 8 - W) mx in
    subst (λ (b : Bool). T (not b)) (sym (rows-pixel W n y s t f x i (omega (arith, rx.1, rx.2)) hi))
    (all-out (λ x. not (pixel W s x (y + i)))
    (all-out (λ i. every_of (λ x. not (pixel W s x i)) (tabulate (λ x. x) W (stride W * 8 - W))) clean (in-up_to H (y + i) (omega arith))) mx)))

-- ---- the block lent from row y on

-- a list from p on
abbrev pub from : ℕ → List ℕ → List ℕ
from p s = take (length s - p) (drop p s)

pub length_from : (p : ℕ) (s : List ℕ) → length (from p s) ≡ length s - p
length_from p s = length-take-le (length s - p) (drop p s) (omega (arith, length-drop p s))

module _ (W H r q n y : ℕ) (s : List ℕ) (f : Frame W H r) (inside : q + H * r ≤ length s) (block : y + n ≤ H) where
  -- it has its n rows of both planes
  pub block-fits : q + n * r ≤ length s - y * r
  block-fits = omega (arith, rows_in y n H r block)

  -- and these are the plane's
  lent : (p : ℕ) → p ≤ q → RowsOf W n y (drop p s) (drop p (from (y * r) s))
  lent p h =
      let e = ap (λ (k : ℕ). n * k) f.row in
      rows-lent W n y p (y * r) (length s - y * r) s (ap (λ (k : ℕ). y * k) f.row) (omega (arith, block-fits))

  -- its pixels are the plane's from row y on
  pub block-pixels : tabulate (plane_kind W H q s) (y * W) (W * n) ≡ plane_kinds W n q (from (y * r) s) (W * n)
  block-pixels = block_kinds W H n y q s (from (y * r) s) (omega (arith, f.wide)) block (lent 0 (omega arith)) (lent q (omega arith))

  -- its mask is clean where the plane's is
  pub block-clean : T (is_clean W H (drop q s)) → T (is_clean W n (drop q (from (y * r) s)))
  block-clean clean = rows-clean W H n y (drop q s) (drop q (from (y * r) s)) block (lent q (omega arith)) clean
