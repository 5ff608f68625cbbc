-- Frames; the bridge from rows of packed pixels to sets of points and back.
use mathlib.Core.Bool.{Bool}
use mathlib.Core.List.{List}
use mathlib.Core.Path.{◌∙◌, ◌≡◌, ap, ap₂, subst, sym}
use Prim.Native.Nat.{◌%◌, ◌*◌, ◌+◌, ◌/◌, ◌<◌, ◌≤◌, ℕ}
use native.Mathlib.Nat.{le_refl}
use native.Mathlib.Omega.{arith}
use lib.Dec.{T}
use lib.IntN.{pos}
use lib.ListN.{drop, get_or, length, length-drop, take}
use lib.Seq.{get_or-drop, get_or-take, length-take-le}
use Rattle.morphology.specs.Image.{bit_of, image_set, is_clean, pack, pixel, plane_bytes, stride}
use Rattle.morphology.specs.Point.{Point, at}
use Rattle.morphology.proofs.ImageLaws.{length-pack, pack-pixels, pixel-image}
use Rattle.raster.specs.Frames.{Frame}
use Rattle.raster.specs.Limits.{max_stride}
use Rattle.raster.specs.Rows.{PlaneIs, overwrite, row_bit}
use Rattle.raster.proofs.PartLaws.{cut-bit, overwrite_is, part_bytes}
use Rattle.raster.proofs.RowLaws.{row_in}

-- ---- frames

pub frame_row : {w h r : ℕ} → Frame w h r → (w ≤ 8 * r) × (8 * r < w + 8) × (0 < r) × (r ≤ max_stride)
unfolding stride
frame_row {w} {h} {r} f =
    let a = f.wide in
    let b = f.across in
    let c = f.row in
    (omega arith, omega arith, omega arith, omega arith)

pub frame-bytes : {w h r : ℕ} → Frame w h r → h * r ≡ plane_bytes w h
frame-bytes {w} {h} {r} f = ap (λ (n : ℕ). h * n) f.row

-- ---- from rows to sets

-- a pixel of an image is one of a row of its bytes
pub row-pixel : (W : ℕ) (s : List ℕ) (r x y : ℕ) → r ≡ stride W → row_bit s (8 * (y * r) + x) ≡ pixel W s x y
unfolding row_bit pixel
row-pixel W s r x y q =
    let e : (8 * (y * r) + x) / 8 ≡ y * r + x / 8 = omega arith in
    let m : (8 * (y * r) + x) % 8 ≡ x % 8 = omega arith in
    ap₂ (λ (i k : ℕ). bit_of (get_or s i 0) k) e m ∙ ap (λ (r : ℕ). bit_of (get_or s (y * r + x / 8) 0) (x % 8)) q

-- of a clean image, padding included
pub row-image : (W H r : ℕ) (s : List ℕ) → r ≡ stride W → T (is_clean W H s) → (y x : ℕ) → y < H → x < 8 * r
    → row_bit s (8 * (y * r) + x) ≡ image_set W H s (at (pos x) (pos y))
row-image W H r s q clean y x hy hx =
    row-pixel W s r x y q ∙ sym (pixel-image W H s clean x y (subst (λ (k : ℕ). x < 8 * k) q hx) hy)

-- ---- from rows to packed sets

pub pack-rows : (W H r : ℕ) (X : Point → Bool) (s : List ℕ) → r ≡ stride W → length s ≡ plane_bytes W H → ((i : ℕ) → get_or s i 0 < 256)
    → ((y x : ℕ) → y < H → x < 8 * r → row_bit s (8 * (y * r) + x) ≡ X (at (pos x) (pos y))) → pack W H X ≡ s
pack-rows W H r X s q len bytes f =
    pack-pixels W H X s len bytes (λ y x hy hx. sym (row-pixel W s r x y q) ∙ f y x hy (subst (λ (k : ℕ). x < 8 * k) (sym q) hx))

-- a plane whose pixels are those of a set, padding included
pub plane_packed : (W H r p : ℕ) (X : Point → Bool) (g : ℕ → ℕ → Bool) (old new : List ℕ) → Frame W H r → p + H * r ≤ length old → ((i : ℕ) → get_or new i 0 < 256)
    → PlaneIs p r H old new g → ((y x : ℕ) → y < H → x < 8 * r → g y x ≡ X (at (pos x) (pos y))) → new ≡ overwrite p (pack W H X) old
plane_packed W H r p X g old new f h bytes m e =
    overwrite_is p n old (pack W H X) new (length-pack W H X ∙ sym (frame-bytes f)) h (record {
      size = m.size;
      within = λ j l. sym (get_or-drop p new j 0) ∙ sym (get_or-take n (drop p new) j 0 l) ∙ ap (λ (s : List ℕ). get_or s j 0) (sym written);
      before = m.before;
      after = m.after;
    })
  where
    n : ℕ
    n = H * r

    bits : (y x : ℕ) → y < H → x < 8 * r → row_bit (take n (drop p new)) (8 * (y * r) + x) ≡ X (at (pos x) (pos y))
    bits y x hy hx =
        let i = row_in y H r (H * r) hy (le_refl (H * r)) in
        let z : 8 * p + (8 * (y * r) + x) ≡ 8 * (p + y * r) + x = omega arith in
        cut-bit p n new (8 * (y * r) + x) (omega (arith, i)) ∙ ap (row_bit new) z ∙ m.pixels y x hy hx ∙ e y x hy hx

    written : pack W H X ≡ take n (drop p new)
    written =
        let sz = m.size in
        pack-rows W H r X (take n (drop p new)) f.row
        (length-take-le n (drop p new) (omega (arith, length-drop p new)) ∙ frame-bytes f)
        (part_bytes p n new bytes (omega arith)) bits
