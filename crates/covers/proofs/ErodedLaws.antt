-- Whether what contains a cover is eroded to it, by the rows where that has ink.
use mathlib.Core.Bool.{Bool}
use mathlib.Core.List.{List, ◌++◌}
use mathlib.Core.Path.{◌∙◌, ◌≡◌, ap, subst, sym}
use Prim.Native.Nat.{◌*◌, ◌+◌, ◌-◌, ◌<◌, ◌≤◌, ℕ}
use native.Mathlib.Decide.{dec_lt}
use native.Mathlib.Omega.{arith}
use lib.Dec.{T, eqb, eqb_refl, eqb→eq}
use lib.ListN.{drop, get_or, length, length-drop, take}
use lib.Seq.{ext_get_or, get_or-drop, get_or-take, length-take-le}
use Rattle.morphology.specs.Element.{offsets}
use Rattle.morphology.specs.Image.{image_set, is_clean, pack}
use Rattle.morphology.specs.Lists.{every_of, up_to}
use Rattle.morphology.specs.Morphology.{erode}
use Rattle.morphology.specs.Point.{Point}
use Rattle.morphology.proofs.BandLaws.{InRows, erode-moved, moved}
use Rattle.morphology.proofs.CoverLaws.{in-up_to, of-up_to}
use Rattle.morphology.proofs.ImageLaws.{image_on, length-pack}
use Rattle.morphology.proofs.PlaneLaws.{on_sub, pack_inj}
use Rattle.morphology.proofs.TestLaws.{all_in, all-out}
use Rattle.raster.specs.Bands.{EndRow, FirstRow}
use Rattle.raster.specs.Frames.{Frame}
use Rattle.raster.specs.Rows.{overwrite}
use Rattle.raster.proofs.PackLaws.{frame-bytes}
use Rattle.raster.proofs.PartLaws.{PartIs, overwrite-rest, part-drop, part-overwrite, part-take}
use Rattle.raster.proofs.RowLaws.{rows_in}
use Rattle.iteration.proofs.BandLaws.{banded-rows, banded-start, eroded_sub}
use Rattle.covers.specs.Grown.{CoverPair, CoverTested}
use Rattle.covers.proofs.LentLaws.{lent-clean, lent-frame, lent-image, lent_outside, lent-pack, plane_byte, taken-plane}

-- two planes, and the rows of the second one's ink, from up to to
pub record PairFound (w h r p e from to : ℕ) (work : List ℕ) : Type 0 where
  pub start : CoverPair w h r p e work
  pub bytes : (i : ℕ) → get_or work i 0 < 256
  pub first : FirstRow r 0 h (take (2 * p - p) (drop p work)) from
  pub end : EndRow r from h (take (2 * p - p) (drop p work)) to

pub pair_found : {w h r p e from to : ℕ} {work : List ℕ} → CoverPair w h r p e work → ((i : ℕ) → get_or work i 0 < 256)
    → FirstRow r 0 h (take (2 * p - p) (drop p work)) from → EndRow r from h (take (2 * p - p) (drop p work)) to
    → PairFound w h r p e from to work
pair_found s b f t = record { start = s; bytes = b; first = f; end = t }

module _ {w h r p e from to : ℕ} {work : List ℕ} (c : PairFound w h r p e from to work) where
  abbrev B : List Point
  B = offsets e

  -- the cover, and what contains it
  abbrev X : Point → Bool
  X = image_set w h work

  abbrev Y : Point → Bool
  Y = image_set w h (drop p work)

  abbrev n : ℕ
  n = to - from

  plane : p ≡ h * r
  plane = c.start.sheet.plane

  frame : Frame w h r
  frame = c.start.sheet.frame

  -- the second plane
  bytes : (i : ℕ) → get_or (drop p work) i 0 < 256
  bytes i = subst (λ (v : ℕ). v < 256) (sym (get_or-drop p work i 0)) (c.bytes (p + i))

  room : h * r ≤ length (drop p work)
  room = omega (arith, plane, c.start.room, length-drop p work)

  second : take (2 * p - p) (drop p work) ≡ pack w h Y
  second =
      let q : 2 * p - p ≡ h * r = omega (arith, plane) in
      ap (λ (k : ℕ). take k (drop p work)) q ∙ sym (taken-plane frame (drop p work) bytes room c.start.second)

  rows : InRows from n Y
  rows = banded-rows w h r from to Y (take (2 * p - p) (drop p work)) frame (image_on w h (drop p work)) second
      (banded-start h r from to (take (2 * p - p) (drop p work)) c.first c.end)

  fit : from + n ≤ h
  fit = omega (arith, c.end.from, c.end.to)

  pub ink-bytes : from * r + (to - from) * r ≤ p
  ink-bytes = omega (arith, rows_in from n h r fit, plane)

  pub ink-frame : Frame w (to - from) r
  ink-frame = lent-frame frame from n fit

  -- what is lent of work
  module _ (k : ℕ) (ek : k ≡ length work - (p + from * r)) where
    u : List ℕ
    u = take k (drop (p + from * r) work)

    lent : (j : ℕ) → j < n * r → get_or u j 0 ≡ get_or (drop p work) (from * r + j) 0
    unfolding u
    lent j l =
        let q : p + from * r + j ≡ p + (from * r + j) = omega arith in
        get_or-take k (drop (p + from * r) work) j 0 (omega (arith, ink-bytes, c.start.room)) ∙ get_or-drop (p + from * r) work j 0
        ∙ ap (λ (i : ℕ). get_or work i 0) q ∙ sym (get_or-drop p work (from * r + j) 0)

    pub ink_long : p + (to - from) * r ≤ length (take k (drop (p + from * r) work))
    ink_long =
        omega (arith, length-take-le k (drop (p + from * r) work) (omega (arith, length-drop (p + from * r) work)), ink-bytes, c.start.room)

    pub ink-clean : T (is_clean w (to - from) (take k (drop (p + from * r) work)))
    unfolding u
    ink-clean = lent-clean frame from n fit (drop p work) u bytes room c.start.second rows lent

    eroded-set : erode B (image_set w n u) ≡ moved from (erode B Y)
    eroded-set = ap (erode B) (lent-image frame from n fit (drop p work) u bytes room c.start.second rows lent) ∙ erode-moved B from Y

    -- after the erosion: the third plane has it, in these rows
    module _ (ys : List ℕ) (written : ys ≡ overwrite p (pack w (to - from) (erode (offsets e) (image_set w (to - from) (take k (drop (p + from * r) work)))))
        (take k (drop (p + from * r) work))) where
      abbrev new : List ℕ
      new = take (p + from * r) work ++ (ys ++ drop k (drop (p + from * r) work))

      third : List ℕ
      third = pack w n (moved from (erode B Y))

      size : length third ≡ n * r
      unfolding third
      size = length-pack w n (moved from (erode B Y)) ∙ sym (frame-bytes ink-frame)

      part : PartIs (p + from * r + p) (n * r) work third new
      unfolding third u
      part = subst (PartIs (p + from * r + p) (n * r) work third)
          (sym (ap (λ (l : List ℕ). take (p + from * r) work ++ (l ++ drop k (drop (p + from * r) work)))
          (written ∙ ap (λ (Z : Point → Bool). overwrite p (pack w n Z) u) eroded-set)
          ∙ overwrite-rest (p + from * r) k p (n * r) work third (omega (arith, ink-bytes, c.start.room)) ek size (omega (arith, ink-bytes, c.start.room))))
          (part-overwrite (p + from * r + p) (n * r) work third size (omega (arith, ink-bytes, c.start.room)))

      pub eroded-size : length (take (p + from * r) work ++ (ys ++ drop k (drop (p + from * r) work))) ≡ length work
      eroded-size = part.size

      -- the rows of the first plane and of the third
      first_byte : (i : ℕ) → i < n * r → get_or new (from * r + i) 0 ≡ get_or (pack w h X) (from * r + i) 0
      first_byte i l =
          part.before (from * r + i) (omega (arith, ink-bytes))
          ∙ plane_byte frame work c.bytes (omega (arith, plane, c.start.room)) c.start.clean (from * r + i) (omega (arith, ink-bytes, plane))

      third_byte : (i : ℕ) → i < n * r → get_or new (2 * p + from * r + i) 0 ≡ get_or (pack w h (erode B Y)) (from * r + i) 0
      unfolding third
      third_byte i l =
          let q : 2 * p + from * r + i ≡ p + from * r + p + i = omega arith in
          ap (λ (j : ℕ). get_or new j 0) q ∙ part.within i l ∙ lent-pack frame from n fit (erode B Y) i l

      -- equal there, equal everywhere
      same_bytes : ((i : ℕ) → i < n * r → get_or new (from * r + i) 0 ≡ get_or new (2 * p + from * r + i) 0) → pack w h (erode B Y) ≡ pack w h X
      same_bytes f =
          let z = length-pack w h (erode B Y) ∙ sym (frame-bytes frame) in
          ext_get_or 0 (pack w h (erode B Y)) (pack w h X) (length-pack w h (erode B Y) ∙ sym (length-pack w h X)) (λ j l.
          by j (omega arith) (dec_lt j (from * r)) (dec_lt j (from * r + n * r)))
        where
          outside : (j : ℕ) → j < h * r → (from * r ≤ j → j < from * r + n * r → ⊥) → get_or (pack w h (erode B Y)) j 0 ≡ get_or (pack w h X) j 0
          outside j l out =
              lent_outside frame from n fit (erode B Y) (λ z t. rows z (eroded_sub e c.start.element Y z t)) j l out
              ∙ sym (lent_outside frame from n fit X (λ z t. rows z (c.start.within z t)) j l out)

          by : (j : ℕ) → j < h * r → Dec (j < from * r) → Dec (j < from * r + n * r) → get_or (pack w h (erode B Y)) j 0 ≡ get_or (pack w h X) j 0
          by j l (yes x) y = outside j l (λ g h. omega arith)
          by j l (no x) (no y) = outside j l (λ g h. omega arith)
          by j l (no x) (yes y) =
              let i = j - from * r in
              let q : from * r + i ≡ j = omega arith in
              let hi : i < n * r = omega arith in
              ap (λ (m : ℕ). get_or (pack w h (erode B Y)) m 0) (sym q) ∙ sym (third_byte i hi) ∙ sym (f i hi) ∙ first_byte i hi
              ∙ ap (λ (m : ℕ). get_or (pack w h X) m 0) q

      test : ℕ → Bool
      test i = eqb (get_or new (from * r + i) 0) (get_or new (2 * p + from * r + i) 0)

      pub eroded_tested : (t : Bool)
          → t ≡ every_of (λ i. eqb (get_or (take (p + from * r) work ++ (ys ++ drop k (drop (p + from * r) work))) (from * r + i) 0)
          (get_or (take (p + from * r) work ++ (ys ++ drop k (drop (p + from * r) work))) (2 * p + from * r + i) 0)) (up_to ((to - from) * r))
          → CoverTested w h p (offsets e) work (take (p + from * r) work ++ (ys ++ drop k (drop (p + from * r) work))) t
      unfolding test
      eroded_tested t q = record {
        answer = (
          (λ g.
              pack_inj w h (erode B Y) X (on_sub w h (erode B Y) Y (eroded_sub e c.start.element Y) (image_on w h (drop p work))) (image_on w h work)
              (same_bytes (λ i l. eqb→eq (get_or new (from * r + i) 0) (get_or new (2 * p + from * r + i) 0) (all-out test (subst T q g) (in-up_to (n * r) i l))))),
          (λ g.
              subst T (sym q) (all_in test (up_to (n * r)) (λ i m.
              let l = of-up_to (n * r) m in
              subst (λ (v : ℕ). T (eqb (get_or new (from * r + i) 0) v))
              (first_byte i l ∙ ap (λ (Z : Point → Bool). get_or (pack w h Z) (from * r + i) 0) (sym g) ∙ sym (third_byte i l))
              (eqb_refl (get_or new (from * r + i) 0))))),
        );
        size = part.size;
        first = part-take part (2 * p) (omega (arith, ink-bytes)) (omega (arith, c.start.room));
        rest = part-drop part (3 * p) (omega (arith, ink-bytes));
      }
