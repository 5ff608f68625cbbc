-- The area of an image is the number of ones in its bytes.
use mathlib.Core.Bool.{Bool, ◌&&◌, cond, false, not, true}
use mathlib.Core.List.{List, Memᴰ, [], ◌∷◌}
use mathlib.Core.Path.{◌∙◌, ◌≡◌, ap, ap₂, refl, subst, sym}
use Prim.Native.Nat.{◌*◌, ◌+◌, ◌-◌, ◌<◌, suc, zero, ℕ}
use native.Mathlib.Nat.{add_assoc, add-suc, add-zero, mul_comm, suc-add, suc-mul, zero-add, zero-lt-suc}
use native.Mathlib.Omega.{arith}
use borrow.Author.Tests.{lt-ltb}
use lib.Arith.{digits_div, digits_mod}
use lib.Count.{ones}
use lib.Dec.{T, eqb, eqb→eq}
use lib.ListN.{get_or, length}
use Rattle.morphology.specs.Image.{bit_of, image_set, is_clean, ones_of, pixel, plane_bytes, stride}
use Rattle.morphology.specs.Labels.{area, place, places}
use Rattle.morphology.specs.Lists.{count_of, every_of, tabulate, up_to}
use Rattle.morphology.specs.Point.{Point}
use Rattle.morphology.proofs.ImageLaws.{mem-row}
use Rattle.morphology.proofs.LabelLaws.{place_at}
use Rattle.morphology.proofs.TestLaws.{all-out, upto-out}

-- ---- sums

-- f i + f (i + 1) + .., n of them
total : (ℕ → ℕ) → ℕ → ℕ → ℕ
total f i zero = 0
total f i (suc n) = f i + total f (suc i) n

total_ext : (f g : ℕ → ℕ) (i n : ℕ) → ((k : ℕ) → k < n → f (i + k) ≡ g (i + k)) → total f i n ≡ total g i n
unfolding total
total_ext f g i zero h = refl
total_ext f g i (suc n) h =
    ap₂ (λ (a b : ℕ). a + b) (ap f (sym (add-zero i)) ∙ h 0 (zero-lt-suc n) ∙ ap g (add-zero i))
    (total_ext f g (suc i) n (λ k l. let q = suc-add i k ∙ sym (add-suc i k) in ap f q ∙ h (suc k) (omega arith) ∙ ap g (sym q)))

total_add : (f : ℕ → ℕ) (i n m : ℕ) → total f i (n + m) ≡ total f i n + total f (i + n) m
unfolding total
total_add f i zero m = ap₂ (λ (a b : ℕ). total f a b) (sym (add-zero i)) (zero-add m) ∙ sym (zero-add (total f (i + 0) m))
total_add f i (suc n) m =
    ap (total f i) (suc-add n m) ∙ ap (λ (k : ℕ). f i + k) (total_add f (suc i) n m ∙ ap (λ (k : ℕ). total f (suc i) n + total f k m) (suc-add i n ∙ sym (add-suc i n)))
    ∙ sym (add_assoc (f i) (total f (suc i) n) (total f (i + suc n) m))

total_shift : (f : ℕ → ℕ) (k i n : ℕ) → total f (k + i) n ≡ total (λ j. f (k + j)) i n
unfolding total
total_shift f k i zero = refl
total_shift f k i (suc n) = ap (λ (t : ℕ). f (k + i) + t) (ap (λ (j : ℕ). total f j n) (sym (add-suc k i)) ∙ total_shift f k (suc i) n)

-- row by row
total_blocks : (f : ℕ → ℕ) (W H : ℕ) → total f 0 (H * W) ≡ total (λ y. total (λ x. f (y * W + x)) 0 W) 0 H
unfolding total
total_blocks f W zero = let q : 0 * W ≡ 0 = omega arith in ap (total f 0) q
total_blocks f W (suc H) =
    let g : ℕ → ℕ = λ y. total (λ x. f (y * W + x)) 0 W in
    let q : H + 1 ≡ suc H = omega arith in
    ap (total f 0) (suc-mul H W) ∙ total_add f 0 (H * W) W
    ∙ ap₂ (λ (a b : ℕ). a + b) (total_blocks f W H) (ap (λ (k : ℕ). total f k W) (zero-add (H * W) ∙ sym (add-zero (H * W))) ∙ total_shift f (H * W) 0 W)
    ∙ ap (λ (k : ℕ). total g 0 H + k) (ap g (sym (zero-add H)) ∙ sym (add-zero (g (0 + H)))) ∙ sym (total_add g 0 H 1) ∙ ap (total g 0) q

total-zero : (f : ℕ → ℕ) (i n : ℕ) → ((k : ℕ) → k < n → f (i + k) ≡ 0) → total f i n ≡ 0
unfolding total
total-zero f i zero h = refl
total-zero f i (suc n) h =
    let a = ap f (sym (add-zero i)) ∙ h 0 (zero-lt-suc n) in
    let b = total-zero f (suc i) n (λ k l. ap f (suc-add i k ∙ sym (add-suc i k)) ∙ h (suc k) (omega arith)) in
    omega arith

-- ---- counts as sums

abbrev digit : Bool → ℕ
digit b = cond b 1 0

count-row : {A : Type 0} (p : A → Bool) (g : ℕ → A) (i n : ℕ) → count_of p (tabulate g i n) ≡ total (λ j. digit (p (g j))) i n
unfolding count_of tabulate total
count-row p g i zero = refl
count-row p g i (suc n) = ap (λ (k : ℕ). digit (p (g i)) + k) (count-row p g (suc i) n)

ones_total : (s : List ℕ) → ones_of s ≡ total (λ i. ones (get_or s i 0)) 0 (length s)
unfolding ones_of total
ones_total [] = refl
ones_total (b ∷ s) =
    ap (λ (k : ℕ). ones b + k)
    (ones_total s ∙ sym (total_shift (λ i. ones (get_or (b ∷ s) i 0)) 1 0 (length s) ∙ total_ext (λ j. ones (get_or (b ∷ s) (1 + j) 0)) (λ j. ones (get_or s j 0)) 0 (length s) (λ k l. ap (λ (j : ℕ). ones (get_or (b ∷ s) j 0)) (suc_of (0 + k)))))
  where
    suc_of : (k : ℕ) → 1 + k ≡ suc k
    suc_of k = omega arith

-- a byte's ones, by its pixels
byte-ones : (v : ℕ) → v < 256 → ones v ≡ total (λ j. digit (bit_of v j)) 0 8
unfolding total ones bit_of
byte-ones v h = eqb→eq (ones v) (total (λ j. digit (bit_of v j)) 0 8) (upto-out (λ v. eqb (ones v) (total (λ j. digit (bit_of v j)) 0 8)) 256 v h tt)

-- ---- the law

module _ (W H : ℕ) (s : List ℕ) (size : length s ≡ plane_bytes W H) (bytes : (i : ℕ) → get_or s i 0 < 256) (clean : T (is_clean W H s)) where
  -- pixel x of row y, as a number
  abbrev px : ℕ → ℕ → ℕ
  px y x = digit (pixel W s x y)

  pad : (b : Bool) → T (not b) → digit b ≡ 0
  pad true t = absurd t
  pad false t = refl

  frame_row : (y : ℕ) → y < H → total (px y) 0 W ≡ total (px y) 0 (stride W * 8)
  unfolding is_clean stride
  frame_row y hy =
      let n = stride W * 8 - W in
      let q : W + n ≡ stride W * 8 = wide in
      let my = subst (λ (k : ℕ). Memᴰ k (up_to H)) (zero-add y) (mem-row (λ k. k) 0 H y hy) in
      let z : total (px y) (0 + W) n ≡ 0 =
      total-zero (px y) (0 + W) n (λ k l.
      ap (px y) (ap (λ (a : ℕ). a + k) (zero-add W))
      ∙ pad (pixel W s (W + k) y)
      (all-out (λ x. not (pixel W s x y)) (all-out (λ y. every_of (λ x. not (pixel W s x y)) (tabulate (λ x. x) W (stride W * 8 - W))) clean my) (mem-row (λ k. k) W n k l))) in
      let t = total_add (px y) 0 W n in
      sym (ap (total (px y) 0) (sym q) ∙ t ∙ ap (λ (k : ℕ). total (px y) 0 W + k) z ∙ add-zero (total (px y) 0 W))
    where
      wide : W + (stride W * 8 - W) ≡ stride W * 8
      wide = omega arith

  byte-row : (y : ℕ) → total (px y) 0 (stride W * 8) ≡ total (λ c. ones (get_or s (y * stride W + c) 0)) 0 (stride W)
  unfolding pixel
  byte-row y =
      total_blocks (px y) 8 (stride W)
      ∙ total_ext (λ c. total (λ j. px y (c * 8 + j)) 0 8) (λ c. ones (get_or s (y * stride W + c) 0)) 0 (stride W) (λ k l.
      let c = 0 + k in
      total_ext (λ j. px y (c * 8 + j)) (λ j. digit (bit_of (get_or s (y * stride W + c) 0) j)) 0 8 (λ i h.
      let j = 0 + i in
      let hj : j < 8 = omega arith in
      ap₂ (λ (a b : ℕ). digit (bit_of (get_or s (y * stride W + a) 0) b)) (digits_div c hj) (digits_mod c hj))
      ∙ sym (byte-ones (get_or s (y * stride W + c) 0) (bytes (y * stride W + c))))

  pub area-ones : area W H (image_set W H s) ≡ ones_of s
  unfolding area places image_set
  area-ones =
      let X = image_set W H s in
      count-row X (place W) 0 (W * H) ∙ ap (total (λ j. digit (X (place W j))) 0) (mul_comm W H)
      ∙ total_blocks (λ j. digit (X (place W j))) W H
      ∙ total_ext (λ y. total (λ x. digit (X (place W (y * W + x)))) 0 W) (λ y. total (λ c. ones (get_or s (y * stride W + c) 0)) 0 (stride W)) 0 H (λ k l.
      let y = 0 + k in
      let hy : y < H = omega arith in
      total_ext (λ x. digit (X (place W (y * W + x)))) (px y) 0 W (λ i h.
      let x = 0 + i in
      let hx : x < W = omega arith in
      ap (λ (p : Point). digit (X p)) (place_at W x y hx) ∙ ap₂ (λ (a b : Bool). digit (a && (b && pixel W s x y))) (lt-ltb x W hx) (lt-ltb y H hy))
      ∙ frame_row y hy ∙ byte-row y)
      ∙ sym (total_blocks (λ i. ones (get_or s i 0)) (stride W) H) ∙ ap (total (λ i. ones (get_or s i 0)) 0) (sym size) ∙ sym (ones_total s)
