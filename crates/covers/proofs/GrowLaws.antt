-- A cover grown by one size, on the rows that it reaches.
use mathlib.Core.Bool.{Bool, false}
use mathlib.Core.List.{List, ◌++◌}
use mathlib.Core.Path.{◌∙◌, ◌≡◌, ap, refl, subst, sym}
use Prim.Native.Nat.{◌*◌, ◌+◌, ◌-◌, ◌<◌, ◌≤◌, ℕ}
use native.Mathlib.Omega.{arith}
use lib.Dec.{T}
use lib.ListN.{drop, get_or, length, length-drop, take}
use lib.Seq.{get_or-drop, get_or-take, length-take-le}
use Rattle.morphology.specs.Element.{offsets}
use Rattle.morphology.specs.Falls.{falls_off}
use Rattle.morphology.specs.Image.{clip, image_set, is_clean, pack}
use Rattle.morphology.specs.Morphology.{dilate}
use Rattle.morphology.specs.Point.{Point}
use Rattle.morphology.proofs.BandLaws.{InRows, moved}
use Rattle.morphology.proofs.ElementLaws.{element}
use Rattle.morphology.proofs.FallsLaws.{falls-empty}
use Rattle.morphology.proofs.FoldTurns.{dilate-empty}
use Rattle.morphology.proofs.ImageLaws.{image_on, length-pack}
use Rattle.morphology.proofs.PlaneLaws.{Empty, empty_eq}
use Rattle.raster.specs.Bands.{EndRow, FirstRow}
use Rattle.raster.specs.Frames.{Frame}
use Rattle.raster.specs.Rows.{overwrite}
use Rattle.raster.proofs.PackLaws.{frame-bytes}
use Rattle.raster.proofs.PartLaws.{PartIs, overwrite_is, overwrite-rest, part-drop, part-overwrite, part-take}
use Rattle.raster.proofs.RowLaws.{rows_in}
use Rattle.elements.specs.Measures.{Reached}
use Rattle.iteration.proofs.BandLaws.{banded-rows, banded-start}
use Rattle.covers.specs.Grown.{CoverGrown, CoverStart}
use Rattle.covers.proofs.LentLaws.{lent-clean, lent-frame, lent-image, lent_outside, lent_written, taken-plane}
use Rattle.covers.proofs.ReachLaws.{Reach, falls-reach, reach-clip, reach-rows, rows-within}

-- a cover, and the rows of its ink, from up to to
pub record CoverFound (w h r p e from to : ℕ) (work : List ℕ) : Type 0 where
  pub start : CoverStart w h r p e work
  pub bytes : (i : ℕ) → get_or work i 0 < 256
  pub first : FirstRow r 0 h (take p work) from
  pub end : EndRow r from h (take p work) to

-- the rows from top on, but for the last ones, `rest` of them, hold these
pub record CoverLent (w h r p e from to top rest : ℕ) (work : List ℕ) : Type 0 where
  pub found : CoverFound w h r p e from to work
  pub above : top ≤ from
  pub below : to + rest ≤ h

pub cover_found : {w h r p e from to : ℕ} {work : List ℕ} → CoverStart w h r p e work → ((i : ℕ) → get_or work i 0 < 256) → FirstRow r 0 h (take p work) from
    → EndRow r from h (take p work) to
    → CoverFound w h r p e from to work
cover_found s b f t = record { start = s; bytes = b; first = f; end = t }

-- the rows that a dilation reaches
pub lent_rows : {w h r p e from to top rest : ℕ} {work : List ℕ} (up down : ℕ) → CoverFound w h r p e from to work → top ≡ from - up → rest ≡ h - to - down
    → CoverLent w h r p e from to top rest work
lent_rows up down c t r = record { found = c; above = omega arith; below = omega (arith, c.end.to) }

module _ {w h r p e from to : ℕ} {work : List ℕ} (c : CoverFound w h r p e from to work) where
  plane : p ≡ h * r
  plane = c.start.sheet.plane

  frame : Frame w h r
  frame = c.start.sheet.frame

  room : (h * r ≤ length work) × (p + h * r ≤ length work)
  room = (omega (arith, plane, c.start.room), omega (arith, plane, c.start.room))

  front : take p work ≡ pack w h (image_set w h work)
  front = ap (λ (k : ℕ). take k work) plane ∙ sym (taken-plane frame work c.bytes room.0 c.start.clean)

  rows : InRows from (to - from) (image_set w h work)
  rows =
      banded-rows w h r from to (image_set w h work) (take p work) frame (image_on w h work) front
      (banded-start h r from to (take p work) c.first c.end)

  -- the second plane is the first
  second : (j : ℕ) → j < h * r → get_or work (p + j) 0 ≡ get_or (pack w h (image_set w h work)) j 0
  second j l =
      sym (get_or-take p (drop p work) j 0 (omega (arith, plane)) ∙ get_or-drop p work j 0) ∙ ap (λ (s : List ℕ). get_or s j 0) (c.start.again ∙ front)

  -- no ink: what is grown is nothing
  pub grow-blank : from ≡ to → CoverGrown w h p (offsets e) work work false
  grow-blank q = record {
    answer = sym (falls-empty w h (offsets e) X empty);
    grown = λ z.
        overwrite_is p (h * r) work (pack w h Y) work (length-pack w h Y ∙ sym (frame-bytes frame)) room.1 (record {
          size = refl;
          within = λ j l. second j l ∙ ap (λ (Z : Point → Bool). get_or (pack w h Z) j 0) same;
          before = λ j l. refl;
          after = λ j l. refl;
        });
    size = refl;
    first = refl;
    rest = refl;
  }
    where
      X : Point → Bool
      X = image_set w h work

      empty : Empty X
      empty z t = let k = rows z t in omega (arith, k.1)

      Y : Point → Bool
      Y = dilate (offsets e) X

      same : X ≡ Y
      same = empty_eq X empty ∙ sym (empty_eq Y (dilate-empty (offsets e) X empty))

-- ---- dilated on these rows

module _ {w h r p e from to top rest : ℕ} {work : List ℕ} (d : CoverLent w h r p e from to top rest work) where
  abbrev c : CoverFound w h r p e from to work
  c = d.found

  abbrev X : Point → Bool
  X = image_set w h work

  abbrev B : List Point
  B = offsets e

  abbrev n : ℕ
  n = h - rest - top

  fit : top + n ≤ h
  fit = omega (arith, d.above, d.below, c.end.from)

  own : InRows top n X
  own = rows-within from (to - from) top n X d.above (omega (arith, d.above, d.below, c.end.from)) (rows c)

  pub rows-bytes : top * r + (h - rest - top) * r ≤ p
  rows-bytes = omega (arith, rows_in top n h r fit, plane c)

  pub rows_frame : Frame w (h - rest - top) r
  rows_frame = lent-frame (frame c) top n fit

  -- what is lent of work
  module _ (k : ℕ) (ek : k ≡ length work - top * r) where
    u : List ℕ
    u = take k (drop (top * r) work)

    lent : (j : ℕ) → j < n * r → get_or u j 0 ≡ get_or work (top * r + j) 0
    unfolding u
    lent j l = get_or-take k (drop (top * r) work) j 0 (omega (arith, rows-bytes, c.start.room)) ∙ get_or-drop (top * r) work j 0

    pub rows_long : p + (h - rest - top) * r ≤ length (take k (drop (top * r) work))
    rows_long =
        omega (arith, length-take-le k (drop (top * r) work) (omega (arith, length-drop (top * r) work)), rows-bytes, c.start.room)

    pub rows-clean : T (is_clean w (h - rest - top) (take k (drop (top * r) work)))
    unfolding u
    rows-clean = lent-clean (frame c) top n fit work u c.bytes (room c).0 c.start.clean own lent

    image : image_set w n u ≡ moved top X
    image = lent-image (frame c) top n fit work u c.bytes (room c).0 c.start.clean own lent

    -- after the dilation
    module _ (ys : List ℕ) (written : ys ≡ overwrite p (pack w (h - rest - top) (clip w (h - rest - top) (dilate (offsets e) (image_set w (h - rest - top)
        (take k (drop (top * r) work)))))) (take k (drop (top * r) work))) where
      abbrev new : List ℕ
      new = take (top * r) work ++ (ys ++ drop k (drop (top * r) work))

      second-rows : List ℕ
      second-rows = pack w n (clip w n (dilate B (image_set w n u)))

      size : length second-rows ≡ n * r
      unfolding second-rows
      size = length-pack w n (clip w n (dilate B (image_set w n u))) ∙ sym (frame-bytes rows_frame)

      over : new ≡ overwrite (top * r + p) second-rows work
      unfolding second-rows u
      over =
          ap (λ (l : List ℕ). take (top * r) work ++ (l ++ drop k (drop (top * r) work))) written
          ∙ overwrite-rest (top * r) k p (n * r) work second-rows (omega (arith, rows-bytes, c.start.room)) ek size (omega (arith, rows-bytes, c.start.room))

      part : PartIs (top * r + p) (n * r) work second-rows new
      part = subst (PartIs (top * r + p) (n * r) work second-rows) (sym over)
          (part-overwrite (top * r + p) (n * r) work second-rows size (omega (arith, rows-bytes, c.start.room)))

      -- these are the rows that the dilation can reach
      module _ {left right up down : ℕ} (x : Reached left right up down (offsets e)) (above : top ≡ from - up) (below : rest ≡ h - to - down) where
        reach : Reach w h B left right up down from to top n X
        reach = record {
          centred = (element e c.start.element).centred;
          sides = x;
          on = image_on w h work;
          rows = rows c;
          order = c.end.from;
          within = c.end.to;
          above = above;
          below = omega (arith, d.above, d.below, c.end.from);
        }

        -- where nothing falls off, the second plane is the dilation
        whole : falls_off w h B X ≡ false → new ≡ overwrite p (pack w h (dilate B X)) work
        unfolding second-rows
        whole stays =
            over
            ∙ ap (λ (Z : Point → Bool). overwrite (top * r + p) (pack w n Z) work)
            (ap (λ (Z : Point → Bool). clip w n (dilate B Z)) image ∙ reach-clip reach stays)
            ∙ lent_written (frame c) top n fit p (dilate B X) work (reach-rows reach stays) (room c).1
            (λ j l out. second c j l ∙ lent_outside (frame c) top n fit X own j l out)

        -- what falls off there is what falls off the frame
        pub grow_done : (t : Bool) → t ≡ falls_off w (h - rest - top) (offsets e) (image_set w (h - rest - top) (take k (drop (top * r) work)))
            → CoverGrown w h p (offsets e) work (take (top * r) work ++ (ys ++ drop k (drop (top * r) work))) t
        unfolding u
        grow_done t q =
            let answer = q ∙ ap (falls_off w n B) image ∙ falls-reach reach in
            record {
              answer = answer;
              grown = λ z. whole (sym answer ∙ z);
              size = part.size;
              first = part-take part p (omega arith) (omega (arith, c.start.room));
              rest = part-drop part (2 * p) (omega (arith, rows-bytes));
            }
