-- One size, read over the whole plane.
use mathlib.Core.Bool.{Bool, ◌||◌, false, or_comm}
use mathlib.Core.List.{List}
use mathlib.Core.Path.{◌∙◌, ◌≡◌, ap, ap₂, subst, sym}
use Prim.Native.Nat.{◌%◌, ◌*◌, ◌+◌, ◌/◌, ◌<◌, ◌≤◌, ℕ}
use native.Mathlib.Decide.{dec_lt}
use native.Mathlib.Nat.{div-add-mod', mod-lt, mul_comm}
use native.Mathlib.Omega.{arith}
use lib.Arith.{digits_lt}
use lib.Dec.{T}
use lib.IntN.{pos}
use lib.ListN.{drop, get_or, length}
use Rattle.std.specs.Prelude.{None, Option, Some}
use Rattle.coding.specs.Runs.{unmasked}
use Rattle.morphology.specs.Image.{image_set, is_clean, pack}
use Rattle.morphology.specs.Labels.{place, places}
use Rattle.morphology.specs.Point.{Point, at}
use Rattle.morphology.proofs.LabelLaws.{place_at}
use Rattle.morphology.proofs.RefusalLaws.{false_of}
use Rattle.morphology.proofs.TestLaws.{T_ext}
use Rattle.raster.specs.Frames.{Frame}
use Rattle.raster.specs.Rows.{row_bit}
use Rattle.raster.proofs.PackLaws.{frame-bytes, pack-rows, row-image}
use Rattle.reading.specs.Nexts.{Nearby, next_of}
use Rattle.reading.specs.Points.{among}
use Rattle.reading.specs.Seeking.{Seek, first_run, selected, size_found, sought_all, sought_points}
use Rattle.reading.specs.Taking.{read_size}
use Rattle.reading.specs.declared.Next.{Next}
use Rattle.reading.specs.declared.Next.TheVariants.{Ended, Run}
use Rattle.reading.proofs.SeekLaws.{among-place, seek-size}
use Rattle.placing.specs.Planes.{PixelsSought, PixelsWalked, SizeRead, pixels_at, plane_place}
use Rattle.seeking.specs.Words.{Advanced}
use Rattle.seeking.proofs.OnwardLaws.{Over, run_of}
use Rattle.placing.proofs.PlaneLaws.{image-pixels, length-places, place-digits, place_unpadded}
use Rattle.placing.proofs.WalkLaws.{over_none}

-- ---- the set of the marked places

-- pixel x of row y is place y w + x
place_index : (w x y i : ℕ) → at (pos x) (pos y) ≡ place w i → (x ≡ i % w) × (y ≡ i / w)
place_index w x y i e =
    let a : pos x ≡ pos (i % w) = ap (λ (p : Point). p.x) e in
    let b : pos y ≡ pos (i / w) = ap (λ (p : Point). p.y) e in
    (cc, cc)

marked-at : (w h : ℕ) (marks : List Bool) (x y : ℕ) → x < w → y < h
    → among (selected (places w h) marks) (at (pos x) (pos y)) ≡ get_or marks (y * w + x) false
marked-at w h marks x y hx hy = T_ext
    (λ t.
    let r = (among-place w h marks (at (pos x) (pos y))).0 t in
    let q = place_index w x y r.0 r.2 in
    let e : r.0 ≡ y * w + x = omega (arith, div-add-mod' r.0 w, q.0, ap (λ (k : ℕ). k * w) q.1) in
    subst (λ (k : ℕ). T (get_or marks k false)) e r.3)
    (λ t. (among-place w h marks (at (pos x) (pos y))).1 (y * w + x, omega (arith, digits_lt hy hx, mul_comm w h), sym (place_at w x y hx), t))

-- none is in the padding
unmarked-at : (w h : ℕ) (marks : List Bool) (x y : ℕ) → 0 < w → w ≤ x → among (selected (places w h) marks) (at (pos x) (pos y)) ≡ false
unmarked-at w h marks x y h0 hx = false_of (among (selected (places w h) marks) (at (pos x) (pos y))) (λ t.
    let r = (among-place w h marks (at (pos x) (pos y))).0 t in
    omega (arith, (place_index w x y r.0 r.2).0, mod-lt r.0 h0))

-- ---- the size

module _ {w h r : ℕ} {s : List ℕ} {next : Option Next} (j : ℕ) (old new : List ℕ) (f : Frame w h r) (clean : T (is_clean w h old))
    (p : PixelsSought s (w * h) (w * h) (plane_place w r) (first_run (w * h) (drop j s)) old new next) where
  -- the marks of its points, and these
  marks : List Bool
  marks = sought_points (w * h) (pixels_at old (plane_place w r) (w * h)) (first_run (w * h) (drop j s))

  pub size_points : List Point
  size_points = selected (places w h) marks

  -- what is read
  pub size-found : read_size (unmasked w h (image_set w h old)) (drop j s) ≡ size_found (next_of s next) size_points
  unfolding unmasked size_points marks
  size-found =
      let t = first_run (w * h) (drop j s) in
      seek-size (image_set w h old) (places w h) (w * h) (drop j s) (omega (arith, length-places w h))
      ∙ ap (λ (l : List Bool). size_found (sought_all (w * h) l t) (selected (places w h) (sought_points (w * h) l t))) (image-pixels old f clean)
      ∙ ap (λ (u : Seek). size_found u size_points) (sym p.stands)

  -- its points joined to the mask, padding included
  size-pixel : (y x : ℕ) → y < h → x < 8 * r → Dec (x < w)
      → row_bit new (8 * (y * r) + x) ≡ (among size_points (at (pos x) (pos y)) || image_set w h old (at (pos x) (pos y)))
  unfolding size_points marks
  size-pixel y x hy hx (yes l) =
      let e = place-digits w r y x l in
      ap (row_bit new) (sym e) ∙ p.pixels (y * w + x) (omega (arith, digits_lt hy l, mul_comm w h))
      ∙ ap₂ ◌||◌ (ap (row_bit old) e ∙ row-image w h r old f.row clean y x hy hx) (sym (marked-at w h marks x y l hy))
      ∙ or_comm (image_set w h old (at (pos x) (pos y))) (among size_points (at (pos x) (pos y)))
  size-pixel y x hy hx (no l) =
      p.others (8 * (y * r) + x) (λ i k. place_unpadded f y x i (omega arith) hx) ∙ row-image w h r old f.row clean y x hy hx
      ∙ sym (ap (λ (b : Bool). b || image_set w h old (at (pos x) (pos y))) (unmarked-at w h marks x y f.wide (omega arith)))

  pub size_packed : length old ≡ h * r → ((i : ℕ) → get_or new i 0 < 256) → new ≡ pack w h (λ z. among size_points z || image_set w h old z)
  size_packed len bytes =
      sym (pack-rows w h r (λ z. among size_points z || image_set w h old z) new f.row (p.size ∙ len ∙ frame-bytes f) bytes (λ y x hy hx.
      size-pixel y x hy hx (dec_lt x w)))

-- ---- what the code answers

abbrev pub section_of : Option Next → Option ℕ
section_of None = None
section_of (Some (Ended end)) = Some end
section_of (Some (Run run)) = None

-- a size of n pixels from symbol j on has so many symbols
abbrev Reached : ℕ → ℕ → Option Next → Type 0
Reached n j None = Unit {0}
Reached n j (Some (Ended end)) = end ≤ j + 2 * n + 2
Reached n j (Some (Run run)) = Unit {0}

reached : (next : Option Next) (limit n j left i : ℕ) → i ≤ j + left + 2 → Advanced limit n left i next → Reached n j next
reached None limit n j left i k m = tt
reached (Some (Ended end)) limit n j left i k m = omega arith
reached (Some (Run run)) limit n j left i k m = tt

reached_once : (next : Option Next) (n j : ℕ) → Over next → Nearby j next → Reached n j next
reached_once None n j o b = tt
reached_once (Some (Ended end)) n j o b = omega arith
reached_once (Some (Run run)) n j o b = tt

-- what a size begins with, and the plane
module _ {w h r : ℕ} (s : List ℕ) (j : ℕ) (old : List ℕ) (f : Frame w h r) (clean : T (is_clean w h old)) (len : length old ≡ h * r) where
  size_read : (first next : Option Next) (new : List ℕ) → next_of s first ≡ first_run (w * h) (drop j s)
      → PixelsSought s (w * h) (w * h) (plane_place w r) (next_of s first) old new next → Reached (w * h) j next → ((i : ℕ) → get_or new i 0 < 256)
      → SizeRead s w h j old new (section_of next)
  size_read first next new a p = by next (subst (λ (u : Seek). PixelsSought s (w * h) (w * h) (plane_place w r) u old new next) a p)
    where
      by : (next : Option Next) → PixelsSought s (w * h) (w * h) (plane_place w r) (first_run (w * h) (drop j s)) old new next → Reached (w * h) j next
          → ((i : ℕ) → get_or new i 0 < 256) → SizeRead s w h j old new (section_of next)
      by None p n bytes = (p.size, size-found j old new f clean p)
      by (Some (Ended end)) p n bytes = (size_points j old new f clean p, size-found j old new f clean p, size_packed j old new f clean p len bytes, n)
      by (Some (Run run)) p n bytes = (p.size, size-found j old new f clean p)

  -- it is over at once
  pub size_once : (next : Option Next) → Over next → (next_of s next ≡ first_run (w * h) (drop j s)) × Nearby j next → ((i : ℕ) → get_or old i 0 < 256)
      → SizeRead s w h j old old (section_of next)
  size_once next o a =
      size_read next next old a.0 (over_none next s (w * h) (w * h) (plane_place w r) old o) (reached_once next (w * h) j o a.1)

  -- it is walked from the first run on
  pub size_walked : {left i : ℕ} {new : List ℕ} (next : Option Next)
      → (next_of s (Some (run_of left i)) ≡ first_run (w * h) (drop j s)) × Nearby j (Some (run_of left i))
      → PixelsWalked s (w * h) (w * h) (plane_place w r) left i old new next → ((k : ℕ) → get_or new k 0 < 256) → SizeRead s w h j old new (section_of next)
  size_walked {left} {i} {new} next a p =
      size_read (Some (run_of left i)) next new a.0 p.found (reached next (w * h) (w * h) j left i a.1 p.moved)
