-- The pixels of bytes in a row, and of rows in a plane.
use mathlib.Core.Bool.{Bool, false}
use mathlib.Core.List.{List}
use mathlib.Core.Path.{◌∙◌, ◌≡◌, ap, subst, sym}
use Prim.Native.Nat.{◌%◌, ◌*◌, ◌+◌, ◌-◌, ◌/◌, ◌<◌, ◌≤◌, zero-le, ℕ}
use native.Mathlib.Decide.{dec_lt}
use native.Mathlib.Nat.{div-lt_iff_lt-mul, le-div_iff_mul-le, mod-lt, mul_comm, mul-le-mul_right}
use native.Mathlib.Omega.{arith}
use lib.Dec.{T, ltb→lt}
use lib.IntN.{pos}
use lib.ListN.{get_or}
use Rattle.morphology.specs.Image.{bit_of, image_set, stride}
use Rattle.morphology.specs.Point.{at}
use Rattle.morphology.proofs.ImageLaws.{image_on}
use Rattle.morphology.proofs.LabelLaws.{place_at}
use Rattle.morphology.proofs.RefusalLaws.{false_of}
use Rattle.raster.specs.Rows.{row_bit}
use Rattle.raster.proofs.ByteLaws.{zero_bit}
use Rattle.raster.proofs.RowLaws.{row_in, row_bit-at}
use Rattle.raster.proofs.PackLaws.{row-image}
use Rattle.minimal.specs.Bands.{InBand, Blank, Margins, ink_at}
use Rattle.minimal.specs.declared.bands.Band.{Band}
use Rattle.minimal.specs.Moves.{below}
use Rattle.minimal.proofs.MoveLaws.{below_in, below_out, none_below}

-- byte j of a row at d
pub byte_of : (s : List ℕ) (d j k : ℕ) → k < 8 → bit_of (get_or s (d + j) 0) k ≡ row_bit s (8 * d + (8 * j + k))
byte_of s d j k h = let e : 8 * (d + j) + k ≡ 8 * d + (8 * j + k) = omega arith in sym (row_bit-at s (d + j) k h) ∙ ap (row_bit s) e

-- pixels of blank bytes
blank-bit : (s : List ℕ) (a e q : ℕ) → Blank a e s → 8 * a ≤ q → q < 8 * e → row_bit s q ≡ false
unfolding row_bit
blank-bit s a e q b lo hi = zero_bit (get_or s (q / 8) 0) (q % 8) (b (q / 8) (omega arith) (omega arith))

-- a row that is blank before left and from right on
module _ (s : List ℕ) (d r left right : ℕ) (m : Margins d r left right s) where
  abbrev row : ℕ → Bool
  row k = row_bit s (8 * d + k)

  pub margin-start : (k : ℕ) → below (8 * left) (λ k. row_bit s (8 * d + k)) k ≡ false
  margin-start = none_below (8 * left) row (λ k l. blank-bit s d (d + left) (8 * d + k) m.start (omega arith) (omega arith))

  pub margin-end : (k : ℕ) → below (8 * right) (λ k. row_bit s (8 * d + k)) k ≡ below (8 * r) (λ k. row_bit s (8 * d + k)) k
  margin-end k = by (dec_lt k (8 * right)) (dec_lt k (8 * r))
    where
      by : Dec (k < 8 * right) → Dec (k < 8 * r) → below (8 * right) row k ≡ below (8 * r) row k
      by (yes h) e = below_in (8 * right) row k h ∙ sym (below_in (8 * r) row k (omega (arith, m.room)))
      by (no h) (no e) = below_out (8 * right) row k (omega arith) ∙ sym (below_out (8 * r) row k (omega arith))
      by (no h) (yes e) =
          below_out (8 * right) row k (omega arith)
          ∙ sym (below_in (8 * r) row k e ∙ blank-bit s (d + right) (d + r) (8 * d + k) m.end (omega arith) (omega arith))

module _ (W H r : ℕ) (g : Band) (s : List ℕ) (b : InBand W H r g s) where
  -- ---- a row of the plane

  wide : W ≤ 8 * r
  unfolding stride
  wide = omega (arith, b.frame.row)

  pub row-ink : (y k : ℕ) → y < H → k < W → row_bit s (8 * (y * r) + k) ≡ ink_at W H s (y * W + k)
  row-ink y k hy hk = row-image W H r s b.frame.row b.clean y k hy (omega (arith, wide)) ∙ ap (image_set W H s) (sym (place_at W k y hk))

  -- its padding is blank
  pub row_padded : (y : ℕ) → y < H → (k : ℕ) → below (8 * r) (λ k. row_bit s (8 * (y * r) + k)) k ≡ below W (λ k. row_bit s (8 * (y * r) + k)) k
  row_padded y hy k = by (dec_lt k W) (dec_lt k (8 * r))
    where
      R : ℕ → Bool
      R k = row_bit s (8 * (y * r) + k)

      by : Dec (k < W) → Dec (k < 8 * r) → below (8 * r) R k ≡ below W R k
      by (yes h) d = below_in (8 * r) R k (omega (arith, wide)) ∙ sym (below_in W R k h)
      by (no h) (no d) = below_out (8 * r) R k (omega arith) ∙ sym (below_out W R k (omega arith))
      by (no h) (yes d) =
          below_in (8 * r) R k d ∙ row-image W H r s b.frame.row b.clean y k hy d
          ∙ false_of (image_set W H s (at (pos k) (pos y))) (λ t. h (ltb→lt k W ((image_on W H s).across (at (pos k) (pos y)) t)))
          ∙ sym (below_out W R k (omega arith))

  -- ---- blank rows

  -- the byte of a pixel
  ink_byte : (q : ℕ) → T (ink_at W H s q) → (q / W < H) × (get_or s (q / W * r + q % W / 8) 0 ≡ 0 → ⊥)
  unfolding row_bit
  ink_byte q t =
      let hy = ltb→lt (q / W) H ((image_on W H s).down (at (pos (q % W)) (pos (q / W))) t) in
      let hx : q % W < W = mod-lt q (omega (arith, b.frame.wide)) in (
        hy,
        λ z.
            let e : (8 * (q / W * r) + q % W) / 8 ≡ q / W * r + q % W / 8 = omega arith in
            subst T (sym (row-image W H r s b.frame.row b.clean (q / W) (q % W) hy (omega (arith, wide)))
            ∙ zero_bit (get_or s ((8 * (q / W * r) + q % W) / 8) 0) ((8 * (q / W * r) + q % W) % 8) (ap (λ (d : ℕ). get_or s d 0) e ∙ z)) t,
      )

  column : (q : ℕ) → q % W / 8 < r
  column q = omega (arith, wide, mod-lt q {m = W} (omega (arith, b.frame.wide)))

  pub ink-above : (q : ℕ) → q < g.above * W → ink_at W H s q ≡ false
  ink-above q h = false_of (ink_at W H s q) (λ t.
      let y = (div-lt_iff_lt-mul {k = W} {x = q} {y = g.above} (omega (arith, b.frame.wide))).1 h in
      let l = row_in (q / W) g.above r (g.above * r) y (omega arith) in
      (ink_byte q t).1 (b.bounds.top (q / W * r + q % W / 8) zero-le (omega (arith, l, column q))))

  pub ink_under : (q : ℕ) → (H - g.under) * W ≤ q → ink_at W H s q ≡ false
  ink_under q h = false_of (ink_at W H s q) (λ t.
      let y = (le-div_iff_mul-le {k = W} {x = H - g.under} {y = q} (omega (arith, b.frame.wide))).1 h in
      let i = ink_byte q t in
      let l = row_in (q / W) H r (H * r) i.0 (omega arith) in
      i.1 (b.bounds.bottom (q / W * r + q % W / 8) (omega (arith, mul-le-mul_right r y)) (omega (arith, l, column q))))

  -- the rows between are all
  pub ink_band : (k : ℕ) → below ((H - g.under) * W) (ink_at W H s) k ≡ below (W * H) (ink_at W H s) k
  ink_band k = by (dec_lt k ((H - g.under) * W)) (dec_lt k (W * H))
    where
      F : ℕ → Bool
      F = ink_at W H s

      short : (H - g.under) * W ≤ W * H
      short = let l : H - g.under ≤ H = omega arith in omega (arith, mul-le-mul_right W l, mul_comm H W)

      by : Dec (k < (H - g.under) * W) → Dec (k < W * H) → below ((H - g.under) * W) F k ≡ below (W * H) F k
      by (yes h) d = below_in ((H - g.under) * W) F k h ∙ sym (below_in (W * H) F k (omega (arith, short)))
      by (no h) (yes d) = below_out ((H - g.under) * W) F k (omega arith) ∙ sym (below_in (W * H) F k d ∙ ink_under k (omega arith))
      by (no h) (no d) = below_out ((H - g.under) * W) F k (omega arith) ∙ sym (below_out (W * H) F k (omega arith))
