-- Walks over the rows of a plane: where its pixels are, its padding, blocks of rows.
use mathlib.Core.Bool.{Bool, ◌||◌, cond, false, not, true}
use mathlib.Core.List.{List, [], ◌++◌, ◌∷◌, map}
use mathlib.Core.Path.{◌∙◌, ◌≡◌, ap, ap₂, refl, subst, sym}
use Prim.Native.Nat.{◌%◌, ◌*◌, ◌+◌, ◌-◌, ◌/◌, ◌<◌, ◌^◌, ◌≤◌, suc, ℕ}
use native.Mathlib.Decide.{dec_lt}
use native.Mathlib.Nat.{add-mul, div-add-mod', div-lt_iff_lt-mul, le_refl, mod-lt, mul_comm, mul-le-mul_right, zero-add}
use native.Mathlib.Omega.{arith}
use lib.Arith.{digits_div, digits_mod}
use lib.Dec.{T}
use lib.ListN.{drop, get_or, length, length-drop, length-map, take}
use lib.Seq.{ext_get_or, length-take-le}
use Rattle.std.specs.Prelude.{Option, Some}
use Rattle.morphology.specs.Image.{image_set, is_clean, pixel, stride}
use Rattle.morphology.specs.Labels.{area, place, places}
use Rattle.morphology.specs.Lists.{count_of, every_of, tabulate, up_to}
use Rattle.morphology.specs.Point.{Point}
use Rattle.morphology.proofs.ImageLaws.{get_or-row, length-row, row_mem}
use Rattle.morphology.proofs.TestLaws.{all_in, all-out}
use Rattle.raster.specs.Frames.{Frame}
use Rattle.raster.specs.Rows.{row_bit}
use Rattle.raster.proofs.PackLaws.{frame_row, row-image, row-pixel}
use Rattle.raster.proofs.PartLaws.{PartIs, cut-bit, part_back, part-bit}
use Rattle.raster.proofs.RowLaws.{row_in, row_bit-same}
use Rattle.reading.specs.Seeking.{Seek, seek, sought_all, sought_points}
use Rattle.reading.specs.declared.Next.{Next}
use Rattle.reading.proofs.SeekLaws.{free_of, skip_all, sought-place}
use Rattle.sections.proofs.KindLaws.{row_agree}
use Rattle.placing.specs.Planes.{PixelsSought, PixelsWalked, pixels_at, plane_place, row_place}
use Rattle.seeking.proofs.OnwardLaws.{Over, run_of}
use Rattle.placing.proofs.WalkLaws.{Increasing, sought-none, walk_more, walk-over, walk_sized}

-- ---- where the pixels are

-- one row's bytes end before the next's
row_below : (y z r : ℕ) → y < z → y * r + r ≤ z * r
row_below y z r h = row_in y z r (z * r) h (le_refl (z * r))

-- pixel x of row y
pub place-digits : (w r y x : ℕ) → x < w → plane_place w r (y * w + x) ≡ 8 * (y * r) + x
place-digits w r y x h = ap₂ (λ (u v : ℕ). 8 * (u * r) + v) (digits_div y h) (digits_mod y h)

module _ {w h r : ℕ} (f : Frame w h r) where
  -- one after the other
  pub place_rising : Increasing (plane_place w r)
  place_rising i j l = by (dec_lt (i / w) (j / w)) (dec_lt (j / w) (i / w))
    where
      by : Dec (i / w < j / w) → Dec (j / w < i / w) → plane_place w r i < plane_place w r j
      by (yes a) d = omega (arith, row_below (i / w) (j / w) r a, mod-lt i f.wide, (frame_row f).0)
      by (no a) (yes b) = absurd (omega (arith, row_below (j / w) (i / w) w b, div-add-mod' i w, div-add-mod' j w, mod-lt j f.wide))
      by (no a) (no b) =
          let e : i / w ≡ j / w = omega arith in
          omega (arith, ap (λ (q : ℕ). q * r) e, ap (λ (q : ℕ). q * w) e, div-add-mod' i w, div-add-mod' j w)

  -- those after y rows
  pub place_after : (y i : ℕ) → 8 * (y * r) + plane_place w r i ≡ plane_place w r (y * w + i)
  place_after y i =
      let z : (y + i / w) * w + i % w ≡ y * w + i = omega (arith, add-mul y (i / w) w, div-add-mod' i w) in
      let p = place-digits w r (y + i / w) (i % w) (mod-lt i f.wide) in
      let e : 8 * (y * r) + plane_place w r i ≡ 8 * ((y + i / w) * r) + i % w = omega (arith, add-mul y (i / w) r) in
      e ∙ sym p ∙ ap (plane_place w r) z

  -- a row's
  pub row-after : (y i : ℕ) → i < w → row_place (y * r) i ≡ plane_place w r (y * w + i)
  row-after y i l = sym (place-digits w r y i l)

  -- n rows are within their bytes
  pub place-within : (n k i : ℕ) → n * r ≤ k → i < w * n → plane_place w r i < 8 * k
  place-within n k i l m =
      let hi : i / w < n = (div-lt_iff_lt-mul {k = w} {x = i} {y = n} f.wide).1 (omega (arith, mul_comm w n)) in
      omega (arith, row_below (i / w) n r hi, mod-lt i f.wide, (frame_row f).0)

  -- none is in the padding
  pub place_unpadded : (y x i : ℕ) → w ≤ x → x < 8 * r → plane_place w r i ≡ 8 * (y * r) + x → ⊥
  place_unpadded y x i a b e = by (dec_lt (i / w) y) (dec_lt y (i / w))
    where
      by : Dec (i / w < y) → Dec (y < i / w) → ⊥
      by (yes c) d = omega (arith, row_below (i / w) y r c, mod-lt i f.wide, (frame_row f).0)
      by (no c) (yes d) = omega (arith, row_below y (i / w) r d)
      by (no c) (no d) = let q : i / w ≡ y = omega arith in omega (arith, ap (λ (k : ℕ). k * r) q, mod-lt i f.wide)

  -- so a clean plane stays clean
  pub sought-clean : {s : List ℕ} {limit n : ℕ} {t : Seek} {old new : List ℕ} {next : Option Next} → PixelsSought s limit n (plane_place w r) t old new next
      → T (is_clean w h old) → T (is_clean w h new)
  unfolding is_clean
  sought-clean {s} {limit} {n} {t} {old} {new} {next} p clean =
      all_in (λ y. every_of (λ x. not (pixel w new x y)) (tabulate (λ x. x) w (stride w * 8 - w))) (up_to h) (λ y my.
      all_in (λ x. not (pixel w new x y)) (tabulate (λ x. x) w (stride w * 8 - w)) (λ x mx.
      let k = row_mem (λ x. x) w (stride w * 8 - w) mx in
      let e = f.row in
      subst (λ (b : Bool). T (not b)) (
      sym (row-pixel w old r x y e) ∙ sym (p.others (8 * (y * r) + x) (λ i l. place_unpadded y x i (omega (arith, k.1, k.2)) (omega (arith, k.1, k.2))))
      ∙ row-pixel w new r x y e)
      (all-out (λ x. not (pixel w old x y)) (all-out (λ y. every_of (λ x. not (pixel w old x y)) (tabulate (λ x. x) w (stride w * 8 - w))) clean my) mx)))

-- ---- walks over rows

-- few enough for the code's numbers
pub frame-pixels : {w h r : ℕ} → Frame w h r → w * h ≤ 2 ^ 20
frame-pixels {w} {h} {r} f = omega (arith, mul-le-mul_right h f.across, f.down)

-- y rows and n more are within h
pub rows-within : (y n h w : ℕ) → y + n ≤ h → (y + n) * w ≤ w * h
rows-within y n h w l = subst (λ (k : ℕ). (y + n) * w ≤ k) (mul_comm h w) (mul-le-mul_right w l)

-- n rows more, of m pixels
pub rows_more : {w h r limit left at k j m : ℕ} {s : List ℕ} {q : ℕ → ℕ} {old mid new : List ℕ} {next : Option Next} (y n : ℕ) → Frame w h r → m ≡ n * w
    → ((i : ℕ) → i < m → q i ≡ plane_place w r (y * w + i)) → PixelsWalked s limit (y * w) (plane_place w r) left at old mid (Some (run_of k j))
    → PixelsWalked s limit m q k j mid new next → PixelsWalked s limit ((y + n) * w) (plane_place w r) left at old new next
rows_more {w} {h} {r} {limit} {left} {at} {k} {j} {m} {s} {q} {old} {mid} {new} {next} y n f e after a b =
    let z : y * w + m ≡ (y + n) * w = omega (arith, add-mul y n w) in
    walk_sized z (walk_more (place_rising f) after a b)

-- after them nothing follows that is a run
pub rows-over : {w h r limit left at : ℕ} {s : List ℕ} {old new : List ℕ} {next : Option Next} (y n : ℕ) → Frame w h r → y + n ≤ h → Over next
    → PixelsWalked s limit ((y + n) * w) (plane_place w r) left at old new next → PixelsWalked s limit (w * h) (plane_place w r) left at old new next
rows-over {w} {h} y n f l o a = walk-over (w * h) (rows-within y n h w l) (place_rising f) o a

-- ---- the pixels of a clean plane are its set

-- at a place
pub image-place : {w h r : ℕ} (s : List ℕ) → Frame w h r → T (is_clean w h s) → (i : ℕ) → i < w * h → image_set w h s (place w i) ≡ row_bit s (plane_place w r i)
image-place {w} {h} {r} s f clean i l =
    let hi : i / w < h = (div-lt_iff_lt-mul {k = w} {x = i} {y = h} f.wide).1 (omega (arith, mul_comm w h)) in
    sym (row-image w h r s f.row clean (i / w) (i % w) hi (omega (arith, mod-lt i f.wide, (frame_row f).0)))

pub length-places : (w h : ℕ) → length (places w h) ≡ w * h
unfolding places
length-places w h = length-row (place w) 0 (w * h)

-- all
pub image-pixels : {w h r : ℕ} (s : List ℕ) → Frame w h r → T (is_clean w h s)
    → map (image_set w h s) (places w h) ≡ pixels_at s (plane_place w r) (w * h)
image-pixels {w} {h} {r} s f clean =
    ext_get_or false (map (image_set w h s) (places w h)) (pixels_at s p (w * h)) (size ∙ sym (length-row (λ i. row_bit s (p i)) 0 (w * h))) (λ i l.
    let k : i < w * h = omega (arith, size) in
    sought-place w h (image_set w h s) i k ∙ image-place s f clean i k
    ∙ sym (get_or-row (λ i. row_bit s (p i)) 0 (w * h) i false k ∙ ap (λ (j : ℕ). row_bit s (p j)) (zero-add i)))
  where
    p : ℕ → ℕ
    p = plane_place w r

    size : length (map (image_set w h s) (places w h)) ≡ w * h
    size = length-map (places w h) (image_set w h s) ∙ length-places w h

-- those outside a set and those in it are all
free-count : (M : Point → Bool) (l : List Point) → free_of (map M l) + count_of M l ≡ length l
unfolding count_of
free-count M [] = refl
free-count M (z ∷ l) = by (M z) (free-count M l)
  where
    by : (b : Bool) → free_of (map M l) + count_of M l ≡ length l → cond (not b) 1 0 + free_of (map M l) + (cond b 1 0 + count_of M l) ≡ suc (length l)
    by true e = omega arith
    by false e = omega arith

-- the free pixels of a plane of which a mask covers m
pub free-plane : {w h r : ℕ} (s : List ℕ) (m : ℕ) → Frame w h r → T (is_clean w h s) → m ≡ area w h (image_set w h s)
    → free_of (pixels_at s (plane_place w r) (w * h)) ≡ w * h - m
unfolding area
free-plane {w} {h} {r} s m f clean e =
    sym (ap free_of (image-pixels s f clean)) ∙ omega (arith, free-count (image_set w h s) (places w h), length-places w h)

-- a walk over it, all within a run
pub plane_passed : {w h r limit left : ℕ} (s : List ℕ) (at m : ℕ) (old : List ℕ) → Frame w h r → T (is_clean w h old) → m ≡ area w h (image_set w h old)
    → w * h - m ≤ left → left < limit → PixelsWalked s limit (w * h) (plane_place w r) left at old old (Some (run_of (left - (w * h - m)) at))
plane_passed {w} {h} {r} {limit} {left} s at m old f clean e l k =
    let n = free-plane old m f clean e in
    let q = skip_all limit left (pixels_at old (plane_place w r) (w * h)) (drop at s) (omega arith) in
    record {
      found = sought-none (ap (λ (i : ℕ). seek (left - i) (drop at s)) (sym n) ∙ sym q.0) q.1;
      moved = (omega arith, omega arith);
    }

-- ---- a walk over a part of the bytes, lent from byte a on and back

module _ (n : ℕ) (p : ℕ → ℕ) (old : List ℕ) (a k : ℕ) (inside : a + k ≤ length old) (within : (i : ℕ) → i < n → p i < 8 * k) where
  lent-pixels : pixels_at (take k (drop a old)) p n ≡ pixels_at old (λ i. 8 * a + p i) n
  lent-pixels =
      row_agree (λ i. row_bit (take k (drop a old)) (p i)) (λ i. row_bit old (8 * a + p i)) 0 0 n (λ i l.
      cut-bit a k old (p (0 + i)) (within (0 + i) (omega arith)))

  sought-lent : {s : List ℕ} {limit : ℕ} {t : Seek} {ys : List ℕ} {next : Option Next} → PixelsSought s limit n p t (take k (drop a old)) ys next
      → PixelsSought s limit n (λ i. 8 * a + p i) t old (take a old ++ (ys ++ drop k (drop a old))) next
  sought-lent {s} {limit} {t} {ys} {next} b = record {
    size = part.size;
    pixels = λ i l.
        part-bit part (p i) (within i l) ∙ b.pixels i l
        ∙ ap₂ ◌||◌ (cut-bit a k old (p i) (within i l)) (ap (λ (m : List Bool). get_or (sought_points limit m t) i false) lent-pixels);
    others = λ x f. by x f (dec_lt x (8 * a)) (dec_lt x (8 * (a + k)));
    stands = b.stands ∙ ap (λ (m : List Bool). sought_all limit m t) lent-pixels;
  }
    where
      new : List ℕ
      new = take a old ++ (ys ++ drop k (drop a old))

      part : PartIs a k old ys new
      part = part_back a k old ys inside (b.size ∙ length-take-le k (drop a old) (omega (arith, length-drop a old)))

      by : (x : ℕ) → ((i : ℕ) → i < n → 8 * a + p i ≡ x → ⊥) → Dec (x < 8 * a) → Dec (x < 8 * (a + k)) → row_bit new x ≡ row_bit old x
      by x f (yes d) e = row_bit-same new old x (part.before (x / 8) (omega arith))
      by x f (no d) (no e) = row_bit-same new old x (part.after (x / 8) (omega arith))
      by x f (no d) (yes e) =
          let z = x - 8 * a in
          let g : 8 * a + z ≡ x = omega arith in
          ap (row_bit new) (sym g) ∙ part-bit part z (omega arith) ∙ b.others z (λ i l h. f i l (ap (λ (j : ℕ). 8 * a + j) h ∙ g))
          ∙ cut-bit a k old z (omega arith) ∙ ap (row_bit old) g

  pub walk-lent : {s : List ℕ} {limit left at : ℕ} {ys : List ℕ} {next : Option Next} → PixelsWalked s limit n p left at (take k (drop a old)) ys next
      → PixelsWalked s limit n (λ i. 8 * a + p i) left at old (take a old ++ (ys ++ drop k (drop a old))) next
  walk-lent b = record { found = sought-lent b.found; moved = b.moved }
