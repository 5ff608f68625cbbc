-- Rows of a plane lent as a plane of their own, and a set written into them.
use mathlib.Core.Bool.{Bool}
use mathlib.Core.List.{List}
use mathlib.Core.Path.{◌∙◌, ◌≡◌, ap, subst, sym}
use Prim.Native.Nat.{◌*◌, ◌+◌, ◌-◌, ◌<◌, ◌≤◌, ℕ}
use native.Mathlib.Decide.{dec_lt}
use native.Mathlib.Nat.{add-mul}
use native.Mathlib.Omega.{arith}
use lib.Dec.{T}
use lib.ListN.{get_or, length, take}
use lib.Seq.{get_or-take, length-take-le}
use Rattle.morphology.specs.Image.{image_set, is_clean, pack, stride}
use Rattle.morphology.specs.Point.{Point}
use Rattle.morphology.proofs.BandLaws.{InRows, moved, moved_on, pack-moved, pack_outside}
use Rattle.morphology.proofs.FrameLaws.{OnFrame}
use Rattle.morphology.proofs.ImageLaws.{Agree, clean_agree, clean-pack, image_agree, image_on, image-pack, length-pack, pack-image}
use Rattle.raster.specs.Frames.{Frame}
use Rattle.raster.specs.Rows.{overwrite}
use Rattle.raster.proofs.PackLaws.{frame-bytes, frame_row}
use Rattle.raster.proofs.PartLaws.{PartIs, overwrite_is, part_bytes, part-overwrite}
use Rattle.raster.proofs.RowLaws.{rows_in}

-- the bytes of a clean plane
module _ {W H r : ℕ} (f : Frame W H r) (s : List ℕ) (bytes : (i : ℕ) → get_or s i 0 < 256) (size : H * r ≤ length s) (clean : T (is_clean W H s)) where
  agree-taken : Agree W H (take (H * r) s) s
  agree-taken j l = get_or-take (H * r) s j 0 (omega (arith, frame-bytes f))

  taken-image : image_set W H (take (H * r) s) ≡ image_set W H s
  taken-image = image_agree W H (take (H * r) s) s agree-taken

  taken-clean : T (is_clean W H (take (H * r) s))
  taken-clean = clean_agree W H s (take (H * r) s) (λ j l. sym (agree-taken j l)) clean

  pub taken-plane : pack W H (image_set W H s) ≡ take (H * r) s
  taken-plane =
      ap (pack W H) (sym taken-image)
      ∙ pack-image W H (take (H * r) s) (length-take-le (H * r) s size ∙ frame-bytes f) (part_bytes 0 (H * r) s bytes (omega arith)) taken-clean

  pub plane_byte : (j : ℕ) → j < H * r → get_or s j 0 ≡ get_or (pack W H (image_set W H s)) j 0
  plane_byte j l = sym (ap (λ (t : List ℕ). get_or t j 0) taken-plane ∙ get_or-take (H * r) s j 0 l)

module _ {W H r : ℕ} (f : Frame W H r) (a n : ℕ) (fit : a + n ≤ H) where
  some_byte : 0 < stride W
  some_byte = subst (λ (k : ℕ). 0 < k) f.row (frame_row f).2

  rows_fit : a * r + n * r ≤ H * r
  rows_fit = rows_in a n H r fit

  pub lent-frame : Frame W n r
  lent-frame = record { wide = f.wide; across = f.across; down = omega (arith, f.down, fit); row = f.row }

  -- a set in the rows: its bytes there, and elsewhere
  pub lent-pack : (Y : Point → Bool) (i : ℕ) → i < n * r → get_or (pack W n (moved a Y)) i 0 ≡ get_or (pack W H Y) (a * r + i) 0
  lent-pack Y i l =
      pack-moved W H a n Y some_byte fit i (omega (arith, frame-bytes lent-frame))
      ∙ ap (λ (k : ℕ). get_or (pack W H Y) (a * k + i) 0) (sym f.row)

  pub lent_outside : (Y : Point → Bool) → InRows a n Y → (j : ℕ) → j < H * r → (a * r ≤ j → j < a * r + n * r → ⊥) → get_or (pack W H Y) j 0 ≡ 0
  lent_outside Y rows j l out =
      pack_outside W H a n Y some_byte fit rows j (omega (arith, frame-bytes f)) (λ x y.
      out (omega (arith, ap (λ (k : ℕ). a * k) f.row)) (omega (arith, ap (λ (k : ℕ). (a + n) * k) f.row, add-mul a n r)))

  -- a plane whose points lie in the rows, and u, which begins with their bytes
  module _ (s u : List ℕ) (bytes : (i : ℕ) → get_or s i 0 < 256) (size : H * r ≤ length s) (clean : T (is_clean W H s)) (rows : InRows a n (image_set W H s))
      (lent : (j : ℕ) → j < n * r → get_or u j 0 ≡ get_or s (a * r + j) 0) where
    on : OnFrame W n (moved a (image_set W H s))
    on = moved_on W H a n (image_set W H s) (image_on W H s) rows

    agree : Agree W n u (pack W n (moved a (image_set W H s)))
    agree j l =
        let h : j < n * r = omega (arith, frame-bytes lent-frame) in
        lent j h ∙ plane_byte f s bytes size clean (a * r + j) (omega (arith, rows_fit)) ∙ sym (lent-pack (image_set W H s) j h)

    pub lent-clean : T (is_clean W n u)
    lent-clean = clean_agree W n (pack W n (moved a (image_set W H s))) u (λ j l. sym (agree j l)) (clean-pack W n (moved a (image_set W H s)) on)

    pub lent-image : image_set W n u ≡ moved a (image_set W H s)
    lent-image = image_agree W n u (pack W n (moved a (image_set W H s))) agree ∙ image-pack W n (moved a (image_set W H s)) on

  -- a set in the rows, written there into the plane at p: it is written whole where the bytes of the other rows are 0
  pub lent_written : (p : ℕ) (Y : Point → Bool) (old : List ℕ) → InRows a n Y → p + H * r ≤ length old
      → ((j : ℕ) → j < H * r → (a * r ≤ j → j < a * r + n * r → ⊥) → get_or old (p + j) 0 ≡ 0)
      → overwrite (a * r + p) (pack W n (moved a Y)) old ≡ overwrite p (pack W H Y) old
  lent_written p Y old rows room zeros =
      overwrite_is p (H * r) old (pack W H Y) new (length-pack W H Y ∙ sym (frame-bytes f)) room (record {
        size = part.size;
        within = λ j l. by j l (dec_lt j (a * r)) (dec_lt j (a * r + n * r));
        before = λ j l. part.before j (omega arith);
        after = λ j l. part.after j (omega (arith, rows_fit));
      })
    where
      new : List ℕ
      new = overwrite (a * r + p) (pack W n (moved a Y)) old

      part : PartIs (a * r + p) (n * r) old (pack W n (moved a Y)) new
      part =
          part-overwrite (a * r + p) (n * r) old (pack W n (moved a Y)) (length-pack W n (moved a Y) ∙ sym (frame-bytes lent-frame))
          (omega (arith, rows_fit))

      by : (j : ℕ) → j < H * r → Dec (j < a * r) → Dec (j < a * r + n * r) → get_or new (p + j) 0 ≡ get_or (pack W H Y) j 0
      by j l (yes x) y = part.before (p + j) (omega arith) ∙ zeros j l (λ g h. omega arith) ∙ sym (lent_outside Y rows j l (λ g h. omega arith))
      by j l (no x) (no y) = part.after (p + j) (omega arith) ∙ zeros j l (λ g h. omega arith) ∙ sym (lent_outside Y rows j l (λ g h. omega arith))
      by j l (no x) (yes y) =
          let i = j - a * r in
          let z : a * r + p + i ≡ p + j = omega arith in
          let q : a * r + i ≡ j = omega arith in
          ap (λ (k : ℕ). get_or new k 0) (sym z) ∙ part.within i (omega arith) ∙ lent-pack Y i (omega arith) ∙ ap (λ (k : ℕ). get_or (pack W H Y) k 0) q
