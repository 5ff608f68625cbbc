-- A plane with one pixel.
use mathlib.Core.Bool.{Bool, ◌&&◌, and-true, cond, false, true}
use mathlib.Core.List.{List, ◌++◌}
use mathlib.Core.Path.{◌∙◌, ◌≡◌, ap, ap₂, refl, subst, sym}
use Prim.Native.Nat.{◌%◌, ◌*◌, ◌+◌, ◌-◌, ◌/◌, ◌<◌, ◌^◌, ◌≤◌, suc, ℕ}
use native.Mathlib.Decide.{ℕ_discrete}
use native.Mathlib.Nat.{div-add-mod', div-le_self, div-lt_iff_lt-mul, mod-lt, mul_comm, zero-add, zero-div}
use native.Mathlib.Omega.{arith}
use borrow.Author.Tests.{eq-eqb}
use lib.Arith.{digits_div, digits_lt, digits_mod}
use lib.Dec.{T, eqb, eqb→eq}
use lib.IntN.{pos}
use lib.ListN.{drop, get_or, get_or-replicate, length, length-append, length-drop, length-replicate, length-set, replicate, set}
use lib.Seq.{drop_at, drop-drop, drop-set-lt, ext_get_or, get_or-set_other, get_or-set_same, take_at, take-set-lt}
use Rattle.morphology.specs.Image.{from_bits, pack, plane_bytes, stride}
use Rattle.morphology.specs.Lists.{tabulate}
use Rattle.morphology.specs.Point.{at, same_integer, same_point}
use Rattle.morphology.proofs.ImageLaws.{bits_of, get_or-row, length-row}
use Rattle.morphology.proofs.RefusalLaws.{false_of}
use Rattle.morphology.proofs.TestLaws.{T_ext, and_l, and_r, upto, upto-out}
use Rattle.iteration.specs.Steps.{First}
use Rattle.minimal.specs.Covers.{single}

-- ---- one pixel of a byte

bit_at : (j k : ℕ) → Bool
bit_at j k = eqb (128 / 2 ^ k / 2 ^ (8 - suc j) % 2) (cond (eqb j k) 1 0)

pixel-bit : (j k : ℕ) → j < 8 → k < 8 → eqb j k ≡ eqb (128 / 2 ^ k / 2 ^ (8 - suc j) % 2) 1
unfolding bit_at
pixel-bit j k hj hk =
    by (eqb j k) ∙ ap (λ (n : ℕ). eqb n 1) (sym (eqb→eq (128 / 2 ^ k / 2 ^ (8 - suc j) % 2) (cond (eqb j k) 1 0)
    (upto-out (λ j. bit_at j k) 8 j hj (upto-out (λ k. upto (λ j. bit_at j k) 8) 8 k hk tt))))
  where
    by : (b : Bool) → b ≡ eqb (cond b 1 0) 1
    by true = refl
    by false = refl

byte_small : (k : ℕ) → 128 / 2 ^ k < 256
byte_small k = omega (arith, div-le_self 128 (2 ^ k))

single-at : (W a u v : ℕ) → single W a (at (pos u) (pos v)) ≡ (eqb u (a % W) && eqb v (a / W))
unfolding same_point same_integer
single-at W a u v = refl

-- ---- one pixel of a plane

module _ (W H a : ℕ) (hw : 1 ≤ W) (ha : a < W * H) where
  -- its byte
  abbrev mark_at : ℕ
  mark_at = a / W * stride W + a % W / 8

  abbrev mark : ℕ
  mark = 128 / 2 ^ (a % W % 8)

  column : a % W / 8 < stride W
  unfolding stride
  column = omega (arith, mod-lt a {m = W} hw)

  row : a / W < H
  row = (div-lt_iff_lt-mul {k = W} {x = a} {y = H} hw).1 (subst (λ (n : ℕ). a < n) (mul_comm W H) ha)

  mark-inside : mark_at < plane_bytes W H
  mark-inside = digits_lt row column

  zeros : List ℕ
  zeros = replicate (plane_bytes W H) 0

  byte : (i : ℕ) → i < plane_bytes W H → from_bits (λ c. single W a (at (pos c) (pos (i / stride W)))) (i % stride W * 8) 8 ≡ get_or (set zeros mark_at mark) i 0
  unfolding zeros
  byte i h = by (ℕ_discrete i mark_at)
    where
      b : ℕ → Bool
      b c = single W a (at (pos c) (pos (i / stride W)))

      by : Dec (i ≡ mark_at) → from_bits b (i % stride W * 8) 8 ≡ get_or (set zeros mark_at mark) i 0
      by (yes e) =
          let y : i / stride W ≡ a / W = ap (λ (n : ℕ). n / stride W) e ∙ digits_div (a / W) column in
          let x : i % stride W ≡ a % W / 8 = ap (λ (n : ℕ). n % stride W) e ∙ digits_mod (a / W) column in
          bits_of mark 8 b (i % stride W * 8) (byte_small (a % W % 8)) (λ j l.
          single-at W a (i % stride W * 8 + j) (i / stride W)
          ∙ ap₂ (λ (u v : Bool). u && v) (column_is j l x) (eq-eqb (i / stride W) (a / W) y) ∙ and-true (eqb j (a % W % 8))
          ∙ pixel-bit j (a % W % 8) l (omega arith))
          ∙ sym (ap (λ (n : ℕ). get_or (set zeros mark_at mark) n 0) e ∙ get_or-set_same zeros mark_at mark 0
          (subst (λ (n : ℕ). mark_at < n) (sym (length-replicate {A = ℕ} (plane_bytes W H) 0)) mark-inside))
        where
          column_is : (j : ℕ) → j < 8 → i % stride W ≡ a % W / 8 → eqb (i % stride W * 8 + j) (a % W) ≡ eqb j (a % W % 8)
          column_is j l x = T_ext
              (λ t. let q = eqb→eq (i % stride W * 8 + j) (a % W) t in subst T (sym (eq-eqb j (a % W % 8) (omega arith))) tt)
              (λ t. let q = eqb→eq j (a % W % 8) t in subst T (sym (eq-eqb (i % stride W * 8 + j) (a % W) (omega arith))) tt)
      by (no e) =
          bits_of 0 8 b (i % stride W * 8) (omega arith) (λ j l.
          false_of (b (i % stride W * 8 + j)) (λ t.
          let s = subst T (single-at W a (i % stride W * 8 + j) (i / stride W)) t in
          let x = eqb→eq (i % stride W * 8 + j) (a % W) (and_l (eqb (i % stride W * 8 + j) (a % W)) (eqb (i / stride W) (a / W)) s) in
          let y = eqb→eq (i / stride W) (a / W) (and_r (eqb (i % stride W * 8 + j) (a % W)) (eqb (i / stride W) (a / W)) s) in
          let z : i % stride W ≡ a % W / 8 = omega arith in
          e (sym (div-add-mod' i (stride W)) ∙ ap₂ (λ (u v : ℕ). u * stride W + v) y z))
          ∙ sym (ap (λ (n : ℕ). eqb (n % 2) 1) (zero-div (2 ^ (8 - suc j)))))
          ∙ sym (get_or-set_other zeros mark_at i mark 0 e ∙ get_or-replicate (plane_bytes W H) i 0 0 h)

  mark-pack : set (replicate (plane_bytes W H) 0) mark_at mark ≡ pack W H (single W a)
  unfolding pack zeros
  mark-pack =
      let f : ℕ → ℕ = λ i. from_bits (λ c. single W a (at (pos c) (pos (i / stride W)))) (i % stride W * 8) 8 in
      let P = plane_bytes W H in
      let size : length (set zeros mark_at mark) ≡ P = length-set zeros mark_at mark ∙ length-replicate {A = ℕ} P 0 in
      ext_get_or 0 (set zeros mark_at mark) (tabulate f 0 P) (size ∙ sym (length-row f 0 P)) (λ i l.
      let h : i < P = subst (λ (n : ℕ). i < n) size l in
      sym (get_or-row f 0 P i 0 h ∙ ap f (zero-add i) ∙ byte i h))

  pub mark-at : (p r d : ℕ) → p ≡ plane_bytes W H → r ≡ stride W → d ≡ a / W * r + a % W / 8 → (d < p) × (d ≡ a / W * stride W + a % W / 8)
  mark-at p r d q e z =
      let t : d ≡ a / W * stride W + a % W / 8 = z ∙ ap (λ (n : ℕ). a / W * n + a % W / 8) e in
      (subst (λ (n : ℕ). d < n) (sym q) (subst (λ (n : ℕ). n < plane_bytes W H) (sym t) mark-inside), t)

  -- the first plane of work, emptied and marked
  pub mark-first : (p d v : ℕ) (work ys : List ℕ) → p ≡ plane_bytes W H → p ≤ length work → ys ≡ replicate p 0
      → d ≡ a / W * stride W + a % W / 8 → v ≡ 128 / 2 ^ (a % W % 8)
      → First W H p (single W a) work (set (ys ++ drop p work) d v)
  mark-first p d v work ys q h z ed ev =
      let l : length ys ≡ p = ap length z ∙ length-replicate {A = ℕ} p 0 in
      let hd : d < p = subst (λ (n : ℕ). d < n) (sym q) (subst (λ (n : ℕ). n < plane_bytes W H) (sym ed) mark-inside) in
      let two : 2 * p ≡ p + p = omega arith in
      record {
        size = length-set (ys ++ drop p work) d v ∙ length-append ys (drop p work) ∙ omega (arith, l, length-drop p work);
        first = take-set-lt p (ys ++ drop p work) d v hd ∙ ap (λ (s : List ℕ). set s d v) (take_at ys (drop p work) p l ∙ z ∙ ap (λ (n : ℕ). replicate n 0) q)
            ∙ ap₂ (λ (i j : ℕ). set (replicate (plane_bytes W H) 0) i j) ed ev ∙ mark-pack;
        rest = drop-set-lt (2 * p) (ys ++ drop p work) d v (omega arith) ∙ ap (λ (n : ℕ). drop n (ys ++ drop p work)) two
            ∙ sym (drop-drop p p (ys ++ drop p work)) ∙ ap (drop p) (drop_at ys (drop p work) p l) ∙ drop-drop p p work ∙ ap (λ (n : ℕ). drop n work) (sym two);
      }
