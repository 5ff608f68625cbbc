-- Sets in a band of rows: moved up to row 0 they are eroded, opened, packed and counted there as on the whole frame.
use mathlib.Core.Bool.{Bool, false}
use mathlib.Core.List.{List}
use mathlib.Core.Path.{◌∙◌, ◌≡◌, ap, ap₂, fun_ext, subst, sym}
use Prim.Native.Nat.{◌%◌, ◌*◌, ◌+◌, ◌-◌, ◌/◌, ◌<◌, ◌^◌, ◌≤◌, suc, zero, ℕ}
use native.Mathlib.Decide.{dec_lt}
use native.Mathlib.Nat.{add_comm, add-mul, add-zero, div-lt_iff_lt-mul, le-div_iff_mul-le, mul-add-div_right, mul-add-mod_self_right, mul_comm, mul-le-mul_right, zero-add, zero-div}
use native.Mathlib.Numerals.{add-one}
use native.Mathlib.Omega.{arith}
use lib.Dec.{T, eqb, ltb→lt, lt→ltb}
use lib.IntN.{+ℤ_idr, +ℤ-neg_ℤ_cancel, ◌+ℤ◌, ◌-ℤ◌, negsuc, pos, ℤ}
use lib.ListN.{get_or}
use Rattle.morphology.specs.Image.{bit_of, from_bits, inside, pack, pixel, plane_bytes, stride}
use Rattle.morphology.specs.Labels.{area, place}
use Rattle.morphology.specs.Lists.{every_of, some_of}
use Rattle.morphology.specs.Morphology.{dilate, erode, opening}
use Rattle.morphology.specs.Point.{Point, ◌⊞◌, at, minus}
use Rattle.morphology.proofs.CountLaws.{digit}
use Rattle.morphology.proofs.FrameLaws.{OnFrame}
use Rattle.morphology.proofs.ImageLaws.{get_or-row, pixel-pack}
use Rattle.morphology.proofs.PlaneLaws.{area_last, area-start, area_turn, area_below, bits_none}
use Rattle.morphology.proofs.PointLaws.{assoc, comm}
use Rattle.morphology.proofs.TestLaws.{T_ext}

-- X moved up by a rows
unfoldable pub moved : ℕ → (Point → Bool) → (Point → Bool)
moved a X z = X (z ⊞ at (pos 0) (pos a))

pub moved_at_lem : (a : ℕ) (X : Point → Bool) (x y : ℕ) → moved a X (at (pos x) (pos y)) ≡ X (at (pos x) (pos (a + y)))
unfolding moved ◌⊞◌
moved_at_lem a X x y = ap₂ (λ (u v : ℕ). X (at (pos u) (pos v))) (add-zero x) (add_comm y a)

-- ---- eroded and opened

swap : (z b t : Point) → z ⊞ b ⊞ t ≡ z ⊞ t ⊞ b
swap z b t = assoc z b t ∙ ap (λ (k : Point). z ⊞ k) (comm b t) ∙ sym (assoc z t b)

pub erode-moved : (B : List Point) (a : ℕ) (X : Point → Bool) → erode B (moved a X) ≡ moved a (erode B X)
unfolding moved erode
erode-moved B a X = fun_ext (λ z. ap (λ (f : Point → Bool). every_of f B) (fun_ext (λ b. ap X (swap z b (at (pos 0) (pos a))))))

pub dilate-moved : (B : List Point) (a : ℕ) (X : Point → Bool) → dilate B (moved a X) ≡ moved a (dilate B X)
unfolding moved dilate
dilate-moved B a X = fun_ext (λ z. ap (λ (f : Point → Bool). some_of f B) (fun_ext (λ b. ap X (swap z (minus b) (at (pos 0) (pos a))))))

pub open-moved : (B : List Point) (a : ℕ) (X : Point → Bool) → opening B (moved a X) ≡ moved a (opening B X)
unfolding opening
open-moved B a X = ap (dilate B) (erode-moved B a X) ∙ dilate-moved B a (erode B X)

-- ---- a set in the n rows from a on

abbrev pub InRows : ℕ → ℕ → (Point → Bool) → Type 0
InRows a n X = (z : Point) → T (X z) → (y : ℕ) × (y < n) × (z.y ≡ pos (a + y))

pub moved_on : (W H a n : ℕ) (X : Point → Bool) → OnFrame W H X → InRows a n X → OnFrame W n (moved a X)
unfolding moved ◌⊞◌
moved_on W H a n X on rows = record {
  across = λ z t. subst (λ (k : ℤ). T (inside W k)) (+ℤ_idr z.x) (on.across (z ⊞ at (pos 0) (pos a)) t);
  down = λ z t. let r = rows (z ⊞ at (pos 0) (pos a)) t in subst (λ (k : ℤ). T (inside n k)) (sym (back z.y r.0 r.2)) (lt→ltb r.0 n r.1);
}
  where
    back : (k : ℤ) (y : ℕ) → k +ℤ pos a ≡ pos (a + y) → k ≡ pos y
    back k y e = sym (+ℤ-neg_ℤ_cancel k (pos a)) ∙ ap (λ (j : ℤ). j -ℤ pos a) (e ∙ ap pos (add_comm a y)) ∙ +ℤ-neg_ℤ_cancel (pos y) (pos a)

-- no point in a row outside
pub row_outside : (a n : ℕ) (X : Point → Bool) (x y : ℕ) → InRows a n X → (a ≤ y → y < a + n → ⊥) → X (at (pos x) (pos y)) ≡ false
row_outside a n X x y rows f =
    T_ext (λ t. let r = rows (at (pos x) (pos y)) t in let e = same r.2 in f (omega arith) (omega (arith, r.1))) (λ t. absurd t)
  where
    same : {k m : ℕ} → pos k ≡ pos m → k ≡ m
    same e = cc

-- ---- packed

get_or-pack : (W H : ℕ) (X : Point → Bool) (i : ℕ) → i < plane_bytes W H
    → get_or (pack W H X) i 0 ≡ from_bits (λ x. X (at (pos x) (pos (i / stride W)))) (i % stride W * 8) 8
unfolding pack
get_or-pack W H X i h =
    let f : ℕ → ℕ = λ k. from_bits (λ x. X (at (pos x) (pos (k / stride W)))) (k % stride W * 8) 8 in
    get_or-row f 0 (plane_bytes W H) i 0 h ∙ ap f (zero-add i)

module _ (W H a n : ℕ) (X : Point → Bool) (hR : 0 < stride W) (fit : a + n ≤ H) where
  -- the bytes of the band
  pub pack-moved : (i : ℕ) → i < plane_bytes W n → get_or (pack W n (moved a X)) i 0 ≡ get_or (pack W H X) (a * stride W + i) 0
  pack-moved i h =
      let R = stride W in
      let hi : a * R + i < H * R = omega (arith, mul-le-mul_right R fit, add-mul a n R) in
      get_or-pack W n (moved a X) i h
      ∙ ap₂ (λ (f : ℕ → Bool) (k : ℕ). from_bits f (k * 8) 8)
      (fun_ext (λ x. moved_at_lem a X x (i / R) ∙ ap (λ (k : ℕ). X (at (pos x) (pos k))) (sym (mul-add-div_right hR a i))))
      (sym (mul-add-mod_self_right a R i))
      ∙ sym (get_or-pack W H X (a * R + i) hi)

  -- the others are 0
  pub pack_outside : InRows a n X → (j : ℕ) → j < plane_bytes W H → (a * stride W ≤ j → j < (a + n) * stride W → ⊥) → get_or (pack W H X) j 0 ≡ 0
  pack_outside rows j h f =
      let R = stride W in
      get_or-pack W H X j h
      ∙ ap (λ (g : ℕ → Bool). from_bits g (j % R * 8) 8) (fun_ext (λ x. row_outside a n X x (j / R) rows (λ l u. f ((le-div_iff_mul-le hR).0 l) ((div-lt_iff_lt-mul hR).0 u))))
      ∙ bits_none (j % R * 8) 8

  -- rows of 0 outside the band: no point there
  pub in_rows : OnFrame W H X → ((y i : ℕ) → y < a → i < stride W → get_or (pack W H X) (y * stride W + i) 0 ≡ 0)
      → ((y i : ℕ) → a + n ≤ y → y < H → i < stride W → get_or (pack W H X) (y * stride W + i) 0 ≡ 0) → InRows a n X
  unfolding pixel bit_of stride
  in_rows on above below z t = by z.x z.y (on.across z t) (on.down z t) t
    where
      blank : (x y : ℕ) → x < W → y < H → get_or (pack W H X) (y * stride W + x / 8) 0 ≡ 0 → T (X (at (pos x) (pos y))) → ⊥
      blank x y hx hy e t = none (x % 8) (subst T (sym (pixel-pack W H X x y hx hy) ∙ ap (λ (v : ℕ). bit_of v (x % 8)) e) t)
        where
          none : (k : ℕ) → T (bit_of 0 k) → ⊥
          none k t = subst T (ap (λ (v : ℕ). eqb (v % 2) 1) (zero-div (2 ^ (7 - k)))) t

      by : (x y : ℤ) → T (inside W x) → T (inside H y) → T (X (at x y)) → (k : ℕ) × (k < n) × (y ≡ pos (a + k))
      by (pos x) (pos y) tx ty t = go (dec_lt y a) (dec_lt y (a + n))
        where
          hx : x < W
          hx = ltb→lt x W tx

          hy : y < H
          hy = ltb→lt y H ty

          col : x / 8 < stride W
          col = omega (arith, hx)

          go : Dec (y < a) → Dec (y < a + n) → (k : ℕ) × (k < n) × (pos y ≡ pos (a + k))
          go (yes l) d = absurd (blank x y hx hy (above y (x / 8) l col) t)
          go (no l) (yes u) = let e : y ≡ a + (y - a) = omega arith in (y - a, omega arith, ap pos e)
          go (no l) (no u) = absurd (blank x y hx hy (below y (x / 8) (omega arith) hy col) t)
      by (pos x) (negsuc y) tx ty t = absurd ty
      by (negsuc x) y tx ty t = absurd tx

-- ---- counted

module _ (W H a n : ℕ) (S : Point → Bool) (hW : 0 < W) (fit : a + n ≤ H) (rows : InRows a n S) where
  pub place-moved : (i : ℕ) → moved a S (place W i) ≡ S (place W (a * W + i))
  place-moved i =
      moved_at_lem a S (i % W) (i / W) ∙ ap₂ (λ (u v : ℕ). S (at (pos u) (pos v))) (sym (mul-add-mod_self_right a W i)) (sym (mul-add-div_right hW a i))

  pub place_outside : (i : ℕ) → (a * W ≤ i → i < (a + n) * W → ⊥) → S (place W i) ≡ false
  place_outside i f = row_outside a n S (i % W) (i / W) rows (λ l u. f ((le-div_iff_mul-le hW).0 l) ((div-lt_iff_lt-mul hW).0 u))

  -- none in the places from i on that are outside
  below_outside : (i k : ℕ) → ((j : ℕ) → i ≤ j → j < i + k → S (place W j) ≡ false) → area_below W S (i + k) ≡ area_below W S i
  below_outside i zero f = ap (area_below W S) (add-zero i)
  below_outside i (suc k) f =
      let e : i + suc k ≡ (i + k) + 1 = omega arith in
      let z : digit (S (place W (i + k))) ≡ 0 = ap digit (f (i + k) (omega arith) (omega arith)) in
      ap (area_below W S) e ∙ area_turn W S (i + k) ∙ omega (arith, z, below_outside i k (λ j l u. f j l (omega arith)))

  below-moved : (i : ℕ) → area_below W (moved a S) i ≡ area_below W S (a * W + i)
  below-moved zero =
      area-start W (moved a S)
      ∙ sym (area-start W S) ∙ sym (below_outside 0 (a * W) (λ j l u. place_outside j (λ g h. absurd (omega arith)))) ∙ ap (area_below W S) (zero-add (a * W) ∙ sym (add-zero (a * W)))
  below-moved (suc i) =
      let e : a * W + suc i ≡ (a * W + i) + 1 = omega arith in
      ap (area_below W (moved a S)) (sym (add-one i)) ∙ area_turn W (moved a S) i
      ∙ ap₂ (λ (k : ℕ) (b : Bool). k + digit b) (below-moved i) (place-moved i) ∙ sym (ap (area_below W S) e ∙ area_turn W S (a * W + i))

  pub area-moved : area W n (moved a S) ≡ area W H S
  area-moved =
      let m = mul-le-mul_right W fit in
      let d = add-mul a n W in
      let q : W * n ≡ n * W = mul_comm W n in
      let e : W * H ≡ H * W = mul_comm W H in
      let rest : ℕ = H * W - (a * W + n * W) in
      let z : (a * W + W * n) + rest ≡ W * H = omega arith in
      sym (area_last W n (moved a S)) ∙ below-moved (W * n)
      ∙ sym (below_outside (a * W + W * n) rest (λ j l u. place_outside j (λ g h. absurd (omega arith)))) ∙ ap (area_below W S) z ∙ area_last W H S
