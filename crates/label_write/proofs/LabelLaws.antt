-- Labels written row by row.
use mathlib.Core.Bool.{Bool, ◌&&◌, and-not_self, cond, false, not, true}
use mathlib.Core.List.{List, ◌++◌}
use mathlib.Core.Path.{◌∙◌, ◌≡◌, ap, ap₂, refl, subst, sym}
use Prim.Native.Nat.{◌%◌, ◌*◌, ◌+◌, ◌-◌, ◌/◌, ◌<◌, ◌^◌, ◌≤◌, suc, zero, ℕ}
use native.Mathlib.Decide.{dec_lt}
use native.Mathlib.Nat.{add_assoc, add-mul, add-zero, le_refl, mul_comm, mul-le-mul_right, not-suc-le-zero, suc-mul, zero-add, zero-mul}
use native.Mathlib.Numerals.{add-one}
use native.Mathlib.Omega.{arith}
use borrow.Author.Tests.{lt-ltb}
use lib.Bits.{bit_and, bit_xor}
use lib.Count.{ones}
use lib.Dec.{T, eqb, eqb→eq, ltb}
use lib.IntN.{pos}
use lib.ListN.{drop, get_or, length, length-drop, take}
use lib.Seq.{get_or-drop, get_or-take, length-take-le}
use Rattle.morphology.specs.Image.{bit_of, image_set, pixel, stride}
use Rattle.morphology.specs.Labels.{area, place}
use Rattle.morphology.specs.Lists.{count_of, every_of, tabulate, up_to}
use Rattle.morphology.specs.Point.{Point, at}
use Rattle.morphology.proofs.CountLaws.{count_le, count_none, count-suc, digit}
use Rattle.morphology.proofs.CoverLaws.{in-up_to, of-up_to}
use Rattle.morphology.proofs.ImageLaws.{length-row}
use Rattle.morphology.proofs.LabelLaws.{place_at}
use Rattle.morphology.proofs.PlaneLaws.{area_last, area_le, area-start, area_turn, area_below}
use Rattle.morphology.proofs.TestLaws.{all-out, upto, upto-out}
use Rattle.raster.specs.Limits.{max_frame}
use Rattle.raster.specs.Rows.{row_bit}
use Rattle.raster.proofs.ByteLaws.{less-bit}
use Rattle.raster.proofs.LoopLaws.{Mapped}
use Rattle.raster.proofs.PartLaws.{part_back}
use Rattle.raster.proofs.RowLaws.{row_bit-at}
use Rattle.raster.proofs.PackLaws.{row-pixel}
use Rattle.label_write.specs.Labelled.{Labelled, RowLabelled, RowsLabelled, lacking, left_at}

-- a pixel after the first q bytes
pub drop-bit : (q : ℕ) (s : List ℕ) (z w : ℕ) → w ≡ 8 * q + z → row_bit s w ≡ row_bit (drop q s) z
unfolding row_bit
drop-bit q s z w e =
    let a : w / 8 ≡ q + z / 8 = omega arith in
    let m : w % 8 ≡ z % 8 = omega arith in
    ap₂ (λ (i k : ℕ). bit_of (get_or s i 0) k) a m ∙ ap (λ (n : ℕ). bit_of n (z % 8)) (sym (get_or-drop q s (z / 8) 0))

-- ---- one pixel

-- the ones among the first m pixels of a byte
pub ones-first : (b m : ℕ) → b < 256 → m ≤ 8 → ones (b / 2 ^ (8 - m)) ≡ count_of (bit_of b) (up_to m)
unfolding bit_of count_of ones tabulate
ones-first b m hb hm =
    eqb→eq (ones (b / 2 ^ (8 - m))) (count_of (bit_of b) (up_to m))
    (upto-out (λ m. eqb (ones (b / 2 ^ (8 - m))) (count_of (bit_of b) (up_to m))) 9 m (omega arith)
    (upto-out (λ b. upto (λ m. eqb (ones (b / 2 ^ (8 - m))) (count_of (bit_of b) (up_to m))) 9) 256 b hb tt))

-- what the code makes of the two bytes
pub left_byte : (s : List ℕ) (a b x : ℕ) → x < 8 → bit_of (bit_and (get_or s a 0) (bit_xor (get_or s b 0) 255)) x ≡ left_at s a b x
left_byte s a b x h = less-bit (get_or s a 0) (get_or s b 0) x h ∙ ap₂ (λ (c d : Bool). c && not d) (sym (row_bit-at s a x h)) (sym (row_bit-at s b x h))

-- ---- one row

pub count_more : (f : ℕ → Bool) (x : ℕ) → count_of f (up_to (x + 1)) ≡ count_of f (up_to x) + digit (f x)
count_more f x = ap (λ (k : ℕ). count_of f (up_to k)) (add-one x) ∙ count-suc f (λ i. i) 0 x ∙ ap (λ (k : ℕ). count_of f (up_to x) + digit (f k)) (zero-add x)

pub count-up_to : (f : ℕ → Bool) (x : ℕ) → count_of f (up_to x) ≤ x
count-up_to f x = subst (λ (n : ℕ). count_of f (up_to x) ≤ n) (length-row (λ i. i) 0 x) (count_le f (up_to x))

-- the loop's end
pub row_labelled : (f : ℕ → Bool) (v : ℕ) (old new : List ℕ) (x n : ℕ) → x ≡ length old → Mapped (λ j. cond (f j) v (get_or old j 0)) old new x → n ≡ count_of f (up_to x)
    → RowLabelled 0 (length old) f v old new n
row_labelled f v old new x n e m q = record {
  size = m.size;
  before = λ j l. absurd (not-suc-le-zero l);
  after = λ j l. m.rest j (omega arith);
  places = λ j l. ap (λ (i : ℕ). get_or new i 0) (zero-add j) ∙ m.done j (omega arith) ∙ ap (λ (i : ℕ). cond (f j) v (get_or old i 0)) (sym (zero-add j));
  points = q ∙ ap (λ (k : ℕ). count_of f (up_to k)) e;
}

-- a row of k = w labels lent and back
pub row_back : (at w k : ℕ) (f : ℕ → Bool) (v : ℕ) (old ys : List ℕ) (n : ℕ) → k ≡ w → at + w ≤ length old
    → RowLabelled 0 (length (take k (drop at old))) f v (take k (drop at old)) ys n → RowLabelled at w f v old (take at old ++ (ys ++ drop k (drop at old))) n
row_back at w k f v old ys n e h m =
    let cut : length (take k (drop at old)) ≡ k = length-take-le k (drop at old) (omega (arith, length-drop at old)) in
    let p = part_back at k old ys (omega arith) (m.size ∙ cut) in
    record {
      size = p.size;
      before = p.before;
      after = λ j l. p.after j (omega arith);
      places = λ x l.
          p.within x (omega arith) ∙ ap (λ (i : ℕ). get_or ys i 0) (sym (zero-add x)) ∙ m.places x (omega arith)
          ∙ ap (λ (i : ℕ). cond (f x) v i) (ap (λ (i : ℕ). get_or (take k (drop at old)) i 0) (zero-add x) ∙ get_or-take k (drop at old) x 0 (omega arith) ∙ get_or-drop at old x 0);
      points = m.points ∙ ap (λ (i : ℕ). count_of f (up_to i)) (cut ∙ e);
    }

-- nothing to label
pub row-blank : (at w : ℕ) (f : ℕ → Bool) (v : ℕ) (old : List ℕ) → ((x : ℕ) → x < w → f x ≡ false) → RowLabelled at w f v old old 0
row-blank at w f v old none = record {
  size = refl;
  before = λ j l. refl;
  after = λ j l. refl;
  places = λ x l. sym (ap (λ (c : Bool). cond c v (get_or old (at + x) 0)) (none x l));
  points = sym (count_none f (up_to w) (λ x m t. subst T (none x (of-up_to w m)) t));
}

-- what the test of two rows says
pub same_bytes : (s : List ℕ) (a b r : ℕ) → every_of (λ i. eqb (get_or s (a + i) 0) (get_or s (b + i) 0)) (up_to r) ≡ true → (i : ℕ) → i < r → get_or s (a + i) 0 ≡ get_or s (b + i) 0
same_bytes s a b r e i l =
    eqb→eq (get_or s (a + i) 0) (get_or s (b + i) 0) (all-out (λ j. eqb (get_or s (a + j) 0) (get_or s (b + j) 0)) (subst T (sym e) tt) (in-up_to r i l))

-- two rows that are the same
pub row_same : (s : List ℕ) (a b r at w v : ℕ) (old : List ℕ) → w ≤ 8 * r → ((i : ℕ) → i < r → get_or s (a + i) 0 ≡ get_or s (b + i) 0) → RowLabelled at w (left_at s a b) v old old 0
unfolding row_bit
row_same s a b r at w v old h f = row-blank at w (left_at s a b) v old none
  where
    none : (x : ℕ) → x < w → left_at s a b x ≡ false
    none x l =
        let q = f (x / 8) (omega arith) in
        let ea : (8 * a + x) / 8 ≡ a + x / 8 = omega arith in
        let eb : (8 * b + x) / 8 ≡ b + x / 8 = omega arith in
        let ma : (8 * a + x) % 8 ≡ (8 * b + x) % 8 = omega arith in
        let z : row_bit s (8 * a + x) ≡ row_bit s (8 * b + x) =
        ap₂ (λ (i k : ℕ). bit_of (get_or s i 0) k) ea ma ∙ ap (λ (n : ℕ). bit_of n ((8 * b + x) % 8)) q ∙ ap (λ (i : ℕ). bit_of (get_or s i 0) ((8 * b + x) % 8)) (sym eb) in
        ap (λ (c : Bool). c && not (row_bit s (8 * b + x))) z ∙ and-not_self (row_bit s (8 * b + x))

-- counted up to x, and from there
count_on : (f g : ℕ → Bool) (x m : ℕ) → ((j : ℕ) → j < m → g j ≡ f (x + j)) → count_of f (up_to (x + m)) ≡ count_of f (up_to x) + count_of g (up_to m)
unfolding count_of tabulate
count_on f g x zero e = ap (λ (k : ℕ). count_of f (up_to k)) (add-zero x) ∙ sym (add-zero (count_of f (up_to x)))
count_on f g x (suc m) e =
    let q : x + suc m ≡ (x + m) + 1 = omega arith in
    ap (λ (k : ℕ). count_of f (up_to k)) q ∙ count_more f (x + m)
    ∙ ap₂ (λ (k l : ℕ). k + l) (count_on f g x m (λ j l. e j (omega arith))) (ap digit (sym (e m (omega arith))))
    ∙ add_assoc (count_of f (up_to x)) (count_of g (up_to m)) (digit (g m))
    ∙ ap (λ (k : ℕ). count_of f (up_to x) + k) (sym (ap (λ (k : ℕ). count_of g (up_to k)) (sym (add-one m)) ∙ count_more g m))

-- the same by another name
pub row_as : (at w : ℕ) (f g : ℕ → Bool) (v : ℕ) (old new : List ℕ) (n : ℕ) → ((x : ℕ) → x < w → f x ≡ g x) → RowLabelled at w f v old new n → RowLabelled at w g v old new n
unfolding count_of tabulate
row_as at w f g v old new n e m = record {
  size = m.size;
  before = m.before;
  after = m.after;
  places = λ x l. m.places x l ∙ ap (λ (c : Bool). cond c v (get_or old (at + x) 0)) (e x l);
  points = m.points ∙
      ap (λ (k : ℕ). count_of f (up_to k)) (sym (zero-add w)) ∙ count_on f g 0 w (λ j l. sym (e j l) ∙ ap f (sym (zero-add j))) ∙ zero-add (count_of g (up_to w));
}

pub row-none : (at : ℕ) (f : ℕ → Bool) (v : ℕ) (old : List ℕ) → RowLabelled at 0 f v old old 0
unfolding count_of tabulate
row-none at f v old = record { size = refl; before = λ j l. refl; after = λ j l. refl; places = λ x l. absurd (not-suc-le-zero l); points = refl }

-- m labels more
pub row_more : (at x m w : ℕ) (f g : ℕ → Bool) (v : ℕ) (old u u' : List ℕ) (n k : ℕ) → w ≡ x + m → ((j : ℕ) → j < m → g j ≡ f (x + j))
    → RowLabelled at x f v old u n → RowLabelled (at + x) m g v u u' k → RowLabelled at w f v old u' (n + k)
row_more at x m w f g v old u u' n k q e a b = record {
  size = b.size ∙ a.size;
  before = λ j l. b.before j (omega arith) ∙ a.before j l;
  after = λ j l. b.after j (omega arith) ∙ a.after j (omega arith);
  places = λ j l. by j (dec_lt j x) (omega arith);
  points = ap₂ (λ (p q : ℕ). p + q) a.points b.points ∙ sym (count_on f g x m e) ∙ ap (λ (i : ℕ). count_of f (up_to i)) (sym q);
}
  where
    by : (j : ℕ) → Dec (j < x) → j < x + m → get_or u' (at + j) 0 ≡ cond (f j) v (get_or old (at + j) 0)
    by j (yes l) h = b.before (at + j) (omega arith) ∙ a.places j l
    by j (no l) h =
        let i = j - x in
        let hi : i < m = omega arith in
        let q : at + x + i ≡ at + j = omega arith in
        let z : x + i ≡ j = omega arith in
        ap (λ (t : ℕ). get_or u' t 0) (sym q) ∙ b.places i hi
        ∙ ap₂ (λ (c : Bool) (t : ℕ). cond c v t) (e i hi ∙ ap f z) (ap (λ (t : ℕ). get_or u t 0) q ∙ a.after (at + j) (omega arith))

-- from byte k on
pub left_on : (s : List ℕ) (a b k j : ℕ) → left_at s (a + k) (b + k) j ≡ left_at s a b (8 * k + j)
left_on s a b k j =
    let ea : 8 * (a + k) + j ≡ 8 * a + (8 * k + j) = omega arith in
    let eb : 8 * (b + k) + j ≡ 8 * b + (8 * k + j) = omega arith in
    ap₂ (λ (c d : ℕ). row_bit s c && not (row_bit s d)) ea eb

-- ---- rows of a plane

-- the points above row y
area-above : (W : ℕ) (S : Point → Bool) (y : ℕ) → area_below W S (y * W) ≡ area W y S
area-above W S y = ap (area_below W S) (mul_comm y W) ∙ area_last W y S

pub rows_none : (W : ℕ) (S : Point → Bool) (v y : ℕ) (old : List ℕ) → RowsLabelled W S v y y old old 0
rows_none W S v y old =
    record { size = refl; before = λ i l. refl; after = λ i l. refl; places = λ i l h. absurd (omega arith); points = add-zero (area W y S) }

-- rows y to k, and k to e
pub rows_join : (W : ℕ) (S : Point → Bool) (v y k e : ℕ) (old u u' : List ℕ) (n m : ℕ) → y ≤ k → k ≤ e
    → RowsLabelled W S v y k old u n → RowsLabelled W S v k e u u' m → RowsLabelled W S v y e old u' (n + m)
rows_join W S v y k e old u u' n m hy he a b =
    let ly : y * W ≤ k * W = mul-le-mul_right W hy in
    let le : k * W ≤ e * W = mul-le-mul_right W he in
    record {
      size = b.size ∙ a.size;
      before = λ i l. b.before i (omega arith) ∙ a.before i l;
      after = λ i l. b.after i l ∙ a.after i (omega arith);
      places = λ i l h. by i (dec_lt i (k * W)) l h;
      points = omega (arith, a.points, b.points);
    }
  where
    by : (i : ℕ) → Dec (i < k * W) → y * W ≤ i → i < e * W → get_or u' i 0 ≡ cond (S (place W i)) v (get_or old i 0)
    by i (yes l) g h = b.before i l ∙ a.places i g l
    by i (no l) g h = b.places i (omega arith) h ∙ ap (λ (t : ℕ). cond (S (place W i)) v t) (a.after i (omega arith))

-- the points of a row
area-row : (W : ℕ) (S : Point → Bool) (f : ℕ → Bool) (y : ℕ) → ((x : ℕ) → x < W → f x ≡ S (at (pos x) (pos y))) → (x : ℕ) → x ≤ W
    → area_below W S (y * W + x) ≡ area_below W S (y * W) + count_of f (up_to x)
unfolding count_of tabulate
area-row W S f y e zero h = ap (area_below W S) (add-zero (y * W)) ∙ sym (add-zero (area_below W S (y * W)))
area-row W S f y e (suc x) h =
    let q : y * W + suc x ≡ (y * W + x) + 1 = omega arith in
    ap (area_below W S) q ∙ area_turn W S (y * W + x)
    ∙ ap₂ (λ (a b : ℕ). a + b) (area-row W S f y e x (omega arith)) (ap digit (ap S (place_at W x y h) ∙ sym (e x h)))
    ∙ add_assoc (area_below W S (y * W)) (count_of f (up_to x)) (digit (f x))
    ∙ ap (λ (k : ℕ). area_below W S (y * W) + k) (sym (ap (λ (k : ℕ). count_of f (up_to k)) (sym (add-one x)) ∙ count_more f x))

-- one row
pub rows_one : (W : ℕ) (S : Point → Bool) (v y : ℕ) (f : ℕ → Bool) (old new : List ℕ) (n : ℕ) → ((x : ℕ) → x < W → f x ≡ S (at (pos x) (pos y)))
    → RowLabelled (y * W) W f v old new n → RowsLabelled W S v y (y + 1) old new n
rows_one W S v y f old new n e a =
    let z : (y + 1) * W ≡ y * W + W = ap (λ (i : ℕ). i * W) (add-one y) ∙ suc-mul y W in
    record {
      size = a.size;
      before = a.before;
      after = λ i l. a.after i (omega arith);
      places = λ i l h. by i l (omega arith);
      points =
          ap₂ (λ (p q : ℕ). p + q) (sym (area-above W S y)) a.points
          ∙ sym (area-row W S f y e W (le_refl W)) ∙ ap (area_below W S) (sym z) ∙ area-above W S (y + 1);
    }
  where
    by : (i : ℕ) → y * W ≤ i → i < y * W + W → get_or new i 0 ≡ cond (S (place W i)) v (get_or old i 0)
    by i l h =
        let x = i - y * W in
        let q : y * W + x ≡ i = omega arith in
        let hx : x < W = omega arith in
        ap (λ (j : ℕ). get_or new j 0) (sym q) ∙ a.places x hx
        ∙ ap (λ (c : Bool). cond c v (get_or old (y * W + x) 0)) (e x hx ∙ ap S (sym (place_at W x y hx)))
        ∙ ap (λ (j : ℕ). cond (S (place W j)) v (get_or old j 0)) q

-- all of them
pub rows-labelled : (W H : ℕ) (S : Point → Bool) (v e : ℕ) (old new : List ℕ) (n : ℕ) → e ≡ H → length old ≡ W * H → RowsLabelled W S v 0 e old new n → Labelled W H S v old new n
rows-labelled W H S v e old new n h z a =
    let q : e * W ≡ W * H = ap (λ (i : ℕ). i * W) h ∙ mul_comm H W in
    let o : area W 0 S ≡ 0 = sym (area-above W S 0) ∙ ap (area_below W S) (zero-mul W) ∙ area-start W S in
    record {
      size = a.size ∙ z;
      places = λ i l. a.places i (omega (arith, zero-mul W)) (omega arith);
      points = omega (arith, a.points) ∙ ap (λ (k : ℕ). area W k S) h;
    }

-- a row of the two planes
pub left-lacking : (W H r q : ℕ) (s : List ℕ) → r ≡ stride W → (y x : ℕ) → y < H → x < W → left_at s (y * r) (q + y * r) x ≡ lacking W H q s (at (pos x) (pos y))
unfolding image_set
left-lacking W H r q s e y x hy hx =
    ap₂ (λ (c d : Bool). c && not d) (row-pixel W s r x y e ∙ inside s) (dropped ∙ row-pixel W (drop q s) r x y e ∙ inside (drop q s))
  where
    inside : (t : List ℕ) → pixel W t x y ≡ (ltb x W && (ltb y H && pixel W t x y))
    inside t = sym (ap₂ (λ (c d : Bool). c && (d && pixel W t x y)) (lt-ltb x W hx) (lt-ltb y H hy))

    dropped : row_bit s (8 * (q + y * r) + x) ≡ row_bit (drop q s) (8 * (y * r) + x)
    dropped = drop-bit q s (8 * (y * r) + x) (8 * (q + y * r) + x) (omega arith)

-- rows that are the same
pub rows_same : (W H r q v : ℕ) (s old : List ℕ) (y e : ℕ) → r ≡ stride W → y ≤ e → e ≤ H
    → ((i : ℕ) → i < (e - y) * r → get_or s (y * r + i) 0 ≡ get_or s (q + y * r + i) 0) → RowsLabelled W (lacking W H q s) v y e old old 0
unfolding stride
rows_same W H r q v s old y e hr hy he f =
    subst (λ (k : ℕ). RowsLabelled W (lacking W H q s) v y k old old 0) (omega arith) (first (e - y) (le_refl (e - y)))
  where
    -- row y + j
    row : (j : ℕ) → j < e - y → (i : ℕ) → i < r → get_or s ((y + j) * r + i) 0 ≡ get_or s (q + (y + j) * r + i) 0
    row j l i h =
        let b : j * r + r ≤ (e - y) * r = omega (arith, mul-le-mul_right r l, suc-mul j r) in
        let z : (y + j) * r ≡ y * r + j * r = add-mul y j r in
        let p : (y + j) * r + i ≡ y * r + (j * r + i) = omega arith in
        let g : q + y * r + (j * r + i) ≡ q + (y + j) * r + i = omega arith in
        ap (λ (k : ℕ). get_or s k 0) p ∙ f (j * r + i) (omega arith) ∙ ap (λ (k : ℕ). get_or s k 0) g

    first : (j : ℕ) → j ≤ e - y → RowsLabelled W (lacking W H q s) v y (y + j) old old 0
    first zero h = subst (λ (k : ℕ). RowsLabelled W (lacking W H q s) v y k old old 0) (sym (add-zero y)) (rows_none W (lacking W H q s) v y old)
    first (suc j) h =
        let z : (y + j) + 1 ≡ y + suc j = omega arith in
        subst (λ (k : ℕ). RowsLabelled W (lacking W H q s) v y k old old 0) z
        (rows_join W (lacking W H q s) v y (y + j) (y + j + 1) old old old 0 0 (omega arith) (omega arith) (first j (omega arith))
        (rows_one W (lacking W H q s) v (y + j) (left_at s ((y + j) * r) (q + (y + j) * r)) old old 0
        (λ x l. left-lacking W H r q s hr (y + j) x (omega arith) l)
        (row_same s ((y + j) * r) (q + (y + j) * r) r ((y + j) * W) W v old (omega arith) (row j (omega arith)))))

-- few enough to count
pub area_small : (W : ℕ) (S : Point → Bool) (y : ℕ) → W ≤ max_frame → y ≤ max_frame → area W y S ≤ max_frame * max_frame
area_small W S y hw hy = omega (arith, area_le W y S, mul-le-mul_right y hw)
