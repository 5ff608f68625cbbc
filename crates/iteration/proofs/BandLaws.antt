-- The band of rows that hold the foreground: how it is found, and a turn on it.
use mathlib.Core.Bool.{Bool}
use mathlib.Core.List.{List, ◌++◌}
use mathlib.Core.Path.{◌∙◌, ◌≡◌, ap, ap₂, subst, sym}
use Prim.Native.Nat.{◌*◌, ◌+◌, ◌-◌, ◌/◌, ◌<◌, ◌≤◌, ℕ}
use native.Mathlib.Decide.{dec_lt}
use native.Mathlib.Nat.{add-mul, div-lt_iff_lt-mul, le-div_iff_mul-le, le_refl, mul-le-mul_right, not-suc-le-zero, zero-add}
use native.Mathlib.Omega.{arith}
use lib.Arith.{digits_div, digits_lt}
use lib.Dec.{T}
use lib.ListN.{drop, get_or, length, length-drop, take}
use lib.Seq.{ext_get_or, get_or-drop, get_or-take, length-take-le}
use Rattle.morphology.specs.Element.{is_element, offsets}
use Rattle.morphology.specs.Image.{image_set, is_clean, pack, plane_bytes, stride}
use Rattle.morphology.specs.Morphology.{erode, opening}
use Rattle.morphology.specs.Point.{Point}
use Rattle.morphology.proofs.BandLaws.{InRows, erode-moved, in_rows, moved, moved_on, pack-moved, pack_outside}
use Rattle.morphology.proofs.FrameLaws.{OnFrame}
use Rattle.morphology.proofs.ImageLaws.{Agree, clean_agree, clean-pack, image_agree, image_on, image-pack, length-pack}
use Rattle.morphology.proofs.MorphologyLaws.{◌⊆◌, erode_sub}
use Rattle.morphology.proofs.ElementLaws.{element}
use Rattle.raster.specs.Rows.{overwrite}
use Rattle.raster.proofs.PartLaws.{PartIs, part_back, part-overwrite}
use Rattle.raster.specs.Frames.{Frame, Sheet}
use Rattle.raster.proofs.PackLaws.{frame-bytes, frame_row}
use Rattle.raster.proofs.RowLaws.{rows_in}
use Rattle.raster.specs.Bands.{BlankRow, EndRow, FirstRow}
use Rattle.iteration.specs.Bands.{Banded, PlaneEroded}
use Rattle.iteration.proofs.StepLaws.{first-start}

-- the first b rows lie in the first plane
pub sheet-rows : {w h r p : ℕ} → Sheet w h r p → (b : ℕ) (s : List ℕ) → b ≤ h → p ≤ length s → b * r ≤ length (take p s)
sheet-rows {r = r} {p} sheet b s l g = omega (arith, length-take-le p s g, mul-le-mul_right r l, sheet.plane)

-- the band found anew in the rows a up to b
pub banded-found : (h r a b a' b' : ℕ) (s : List ℕ) → b ≤ h → ((y : ℕ) → y < a → BlankRow r s y) → ((y : ℕ) → b ≤ y → y < h → BlankRow r s y)
    → FirstRow r a b s a' → EndRow r a' b s b' → Banded h r a' b' s
banded-found h r a b a' b' s l above below f g = record {
  order = g.from;
  down = omega (arith, g.to);
  above = λ y u. before y u (dec_lt y a);
  below = λ y u v. after y u v (dec_lt y b);
  ink = λ u. f.ink (omega (arith, g.to));
}
  where
    before : (y : ℕ) → y < a' → Dec (y < a) → BlankRow r s y
    before y u (yes x) = above y x
    before y u (no x) = f.blank y (omega arith) u

    after : (y : ℕ) → b' ≤ y → y < h → Dec (y < b) → BlankRow r s y
    after y u v (yes x) = g.blank y u x
    after y u v (no x) = below y (omega arith) v

-- in all rows
pub banded-start : (h r a b : ℕ) (s : List ℕ) → FirstRow r 0 h s a → EndRow r a h s b → Banded h r a b s
banded-start h r a b s f g = banded-found h r 0 h a b s (le_refl h) (λ y l. absurd (not-suc-le-zero l)) (λ y l u. absurd (omega arith)) f g

-- ---- a set in the band

-- the origin is in the element
pub eroded_sub : (e : ℕ) → T (is_element e) → (X : Point → Bool) → erode (offsets e) X ⊆ X
eroded_sub e el X = erode_sub (offsets e) X (element e el).centred

some_byte : {w h r : ℕ} → Frame w h r → 0 < stride w
some_byte f = subst (λ (k : ℕ). 0 < k) f.row (frame_row f).2

pub band_fit : {h r a b : ℕ} {s : List ℕ} → Banded h r a b s → a + (b - a) ≤ h
band_fit d = omega (arith, d.order, d.down)

module _ (W H r a b : ℕ) (Y : Point → Bool) (s : List ℕ) (f : Frame W H r) (on : OnFrame W H Y) (q : s ≡ pack W H Y) where
  at_row : (y i : ℕ) → get_or (pack W H Y) (y * stride W + i) 0 ≡ get_or s (y * r + i) 0
  at_row y i = sym (ap₂ (λ (t : List ℕ) (k : ℕ). get_or t (y * k + i) 0) q f.row)

  pub banded-rows : Banded H r a b s → InRows a (b - a) Y
  banded-rows d =
      in_rows W H a (b - a) Y (some_byte f) (band_fit d) on
      (λ y i l g. at_row y i ∙ d.above y l i (omega (arith, f.row)))
      (λ y i l u g. at_row y i ∙ d.below y (omega (arith, d.order)) u i (omega (arith, f.row)))

  -- a part of it lies in the same rows
  module _ (d : Banded H r a b s) (Z : Point → Bool) (s' : List ℕ) (sub : Z ⊆ Y) (q' : s' ≡ pack W H Z) where
    kept : (y : ℕ) → y < H → (a ≤ y → y < b → ⊥) → BlankRow r s' y
    kept y l out i hi =
        let R = stride W in
        let g : i < R = omega (arith, f.row) in
        let e : (y * R + i) / R ≡ y = digits_div y g in
        ap₂ (λ (t : List ℕ) (k : ℕ). get_or t (y * k + i) 0) q' f.row
        ∙ pack_outside W H a (b - a) Z (some_byte f) (band_fit d) (λ z t. banded-rows d z (sub z t)) (y * R + i) (digits_lt l g) (λ u v.
        let lo = (le-div_iff_mul-le (some_byte f)).1 u in
        let hi = (div-lt_iff_lt-mul (some_byte f)).1 v in
        out (omega arith) (omega (arith, d.order)))

    pub banded_next : (a' b' : ℕ) → FirstRow r a b s' a' → EndRow r a' b s' b' → Banded H r a' b' s'
    banded_next a' b' = banded-found H r a b a' b' s' d.down (λ y l. kept y (omega (arith, d.order, d.down)) (λ u v. omega arith))
        (λ y l u. kept y u (λ v w. omega arith))

-- the band in rows of k elements
pub band_span : {h r a b : ℕ} {s : List ℕ} → Banded h r a b s → (k : ℕ) → a * k + (b - a) * k ≤ h * k
band_span {h} {r} {a} {b} d k = rows_in a (b - a) h k (band_fit d)

-- ---- a turn on the band

module _ (W H r a b e : ℕ) (work : List ℕ) (f : Frame W H r) (h : 3 * (H * r) ≤ length work) (el : T (is_element e)) (bytes : (i : ℕ) → get_or work i 0 < 256)
    (clean : T (is_clean W H work)) (d : Banded H r a b (take (H * r) work)) where
  abbrev p : ℕ
  p = H * r

  abbrev n : ℕ
  n = b - a

  abbrev X : Point → Bool
  X = image_set W H work

  abbrev B : List Point
  B = offsets e

  fit : a + n ≤ H
  fit = band_fit d

  rows-bytes : a * r + n * r ≤ H * r
  rows-bytes = band_span d r

  plane : take p work ≡ pack W H X
  plane = (first-start W H p work (frame-bytes f) (omega arith) bytes clean).first

  at-plane : (j : ℕ) → j < H * r → get_or work j 0 ≡ get_or (pack W H X) j 0
  at-plane j l = sym (get_or-take p work j 0 l) ∙ ap (λ (s : List ℕ). get_or s j 0) plane

  pub band-rows : InRows a (b - a) (image_set W H work)
  band-rows = banded-rows W H r a b X (take p work) f (image_on W H work) plane d

  pub band-frame : Frame W n r
  band-frame = record { wide = f.wide; across = f.across; down = omega (arith, f.down, fit); row = f.row }

  -- what is lent of work
  module _ (k : ℕ) (ek : k ≡ length work - a * r) where
    u : List ℕ
    u = take k (drop (a * r) work)

    long : length u ≡ k
    unfolding u
    long = length-take-le k (drop (a * r) work) (omega (arith, length-drop (a * r) work))

    at_band : (j : ℕ) → j < k → get_or u j 0 ≡ get_or work (a * r + j) 0
    unfolding u
    at_band j l = get_or-take k (drop (a * r) work) j 0 l ∙ get_or-drop (a * r) work j 0

    agree : Agree W n u (pack W n (moved a X))
    agree j l =
        let z : n * r ≡ plane_bytes W n = frame-bytes band-frame in
        at_band j (omega (arith, rows-bytes)) ∙ at-plane (a * r + j) (omega (arith, rows-bytes)) ∙ ap (λ (m : ℕ). get_or (pack W H X) (a * m + j) 0) f.row
        ∙ sym (pack-moved W H a n X (some_byte f) fit j l)

    on : OnFrame W n (moved a X)
    on = moved_on W H a n X (image_on W H work) band-rows

    pub band_long : (H * r) + (H * r) + n * r ≤ length (take k (drop (a * r) work))
    unfolding u
    band_long = omega (arith, long, rows-bytes)

    pub band-clean : T (is_clean W n (take k (drop (a * r) work)))
    unfolding u
    band-clean = clean_agree W n (pack W n (moved a X)) u (λ j l. sym (agree j l)) (clean-pack W n (moved a X) on)

    pub band-image : image_set W (b - a) (take k (drop (a * r) work)) ≡ moved a (image_set W H work)
    unfolding u
    band-image = image_agree W n u (pack W n (moved a X)) agree ∙ image-pack W n (moved a X) on

    -- the first plane eroded by way of the others, on the rows of the band
    pub band-eroded : (ys : List ℕ)
        → ys ≡ overwrite 0 (pack W (b - a) (erode (offsets e) (image_set W (b - a) (take k (drop (a * r) work)))))
        (overwrite (H * r + H * r) (pack W (b - a) (opening (offsets e) (image_set W (b - a) (take k (drop (a * r) work)))))
        (overwrite (H * r) (pack W (b - a) (erode (offsets e) (image_set W (b - a) (take k (drop (a * r) work))))) (take k (drop (a * r) work))))
        → PlaneEroded W H (H * r) (offsets e) work (take (a * r) work ++ (ys ++ drop k (drop (a * r) work)))
    unfolding u moved
    band-eroded ys t = record {
      size = whole.size;
      first = ext_get_or 0 (take p new) (pack W H (erode B X)) (cut ∙ frame-bytes f ∙ sym (length-pack W H (erode B X))) (λ j l.
          let hj : j < H * r = omega (arith, cut) in
          get_or-take p new j 0 hj ∙ by j hj (dec_lt j (a * r)) (dec_lt j (a * r + n * r)));
      rest = ext_get_or 0 (drop (3 * p) new) (drop (3 * p) work)
          (length-drop (3 * p) new ∙ ap (λ (i : ℕ). i - 3 * p) whole.size ∙ sym (length-drop (3 * p) work)) (λ j l.
          get_or-drop (3 * p) new j 0 ∙ past (3 * p + j) (omega arith) (omega (arith, length-drop (3 * p) new, whole.size)) ∙ sym (get_or-drop (3 * p) work j 0));
    }
      where
        new : List ℕ
        new = take (a * r) work ++ (ys ++ drop k (drop (a * r) work))

        E : List ℕ
        E = pack W n (erode B (image_set W n u))

        O : List ℕ
        O = pack W n (opening B (image_set W n u))

        size_e : length E ≡ n * r
        size_e = length-pack W n (erode B (image_set W n u)) ∙ sym (frame-bytes band-frame)

        size_o : length O ≡ n * r
        size_o = length-pack W n (opening B (image_set W n u)) ∙ sym (frame-bytes band-frame)

        part₁ : PartIs p (n * r) u E (overwrite p E u)
        part₁ = part-overwrite p (n * r) u E size_e (omega (arith, band_long))

        part₂ : PartIs (p + p) (n * r) (overwrite p E u) O (overwrite (p + p) O (overwrite p E u))
        part₂ = part-overwrite (p + p) (n * r) (overwrite p E u) O size_o (omega (arith, part₁.size, band_long))

        part₃ : PartIs 0 (n * r) (overwrite (p + p) O (overwrite p E u)) E ys
        part₃ = subst (PartIs 0 (n * r) (overwrite (p + p) O (overwrite p E u)) E) (sym t)
            (part-overwrite 0 (n * r) (overwrite (p + p) O (overwrite p E u)) E size_e (omega (arith, part₁.size, part₂.size, band_long)))

        whole : PartIs (a * r) k work ys new
        whole = part_back (a * r) k work ys (omega (arith, rows-bytes)) (part₃.size ∙ part₂.size ∙ part₁.size ∙ long)

        cut : length (take p new) ≡ H * r
        cut = length-take-le p new (omega (arith, whole.size))

        rows_e : InRows a n (erode B X)
        rows_e z g = band-rows z (eroded_sub e el X z g)

        -- a byte of new in the part
        within : (j : ℕ) → a * r ≤ j → j < length work → get_or new j 0 ≡ get_or ys (j - a * r) 0
        within j l g = let z : a * r + (j - a * r) ≡ j = omega arith in ap (λ (i : ℕ). get_or new i 0) (sym z) ∙ whole.within (j - a * r) (omega arith)

        back : (j : ℕ) → a * r ≤ j → j < length work → get_or u (j - a * r) 0 ≡ get_or work j 0
        back j l g = let z : a * r + (j - a * r) ≡ j = omega arith in at_band (j - a * r) (omega arith) ∙ ap (λ (i : ℕ). get_or work i 0) z

        past : (j : ℕ) → 3 * p ≤ j → j < length work → get_or new j 0 ≡ get_or work j 0
        past j l g =
            let i = j - a * r in
            let q : p + p + n * r ≤ i = omega (arith, rows-bytes) in
            within j (omega (arith, rows-bytes)) g ∙ part₃.after i (omega arith) ∙ part₂.after i (omega arith) ∙ part₁.after i (omega arith)
            ∙ back j (omega (arith, rows-bytes)) g

        outside : (j : ℕ) → j < H * r → (a * r ≤ j → j < a * r + n * r → ⊥) → get_or work j 0 ≡ get_or (pack W H (erode B X)) j 0
        outside j l g =
            let z : H * r ≡ plane_bytes W H = frame-bytes f in
            let out : a * stride W ≤ j → j < (a + n) * stride W → ⊥ =
            λ x y. g (omega (arith, ap (λ (i : ℕ). a * i) f.row)) (omega (arith, ap (λ (i : ℕ). (a + n) * i) f.row, add-mul a n r)) in
            at-plane j l ∙ pack_outside W H a n X (some_byte f) fit band-rows j (omega arith) out
            ∙ sym (pack_outside W H a n (erode B X) (some_byte f) fit rows_e j (omega arith) out)

        by : (j : ℕ) → j < H * r → Dec (j < a * r) → Dec (j < a * r + n * r) → get_or new j 0 ≡ get_or (pack W H (erode B X)) j 0
        by j l (yes x) y = whole.before j x ∙ outside j l (λ g _. omega arith)
        by j l (no x) (no y) =
            let i = j - a * r in
            within j (omega arith) (omega arith) ∙ part₃.after i (omega arith) ∙ part₂.before i (omega arith) ∙ part₁.before i (omega arith)
            ∙ back j (omega arith) (omega arith) ∙ outside j l (λ _ g. omega arith)
        by j l (no x) (yes y) =
            let i = j - a * r in
            let hi : i < n * r = omega arith in
            let z : a * r + i ≡ j = omega arith in
            within j (omega arith) (omega arith) ∙ ap (λ (c : ℕ). get_or ys c 0) (sym (zero-add i)) ∙ part₃.within i hi
            ∙ ap (λ (Y : Point → Bool). get_or (pack W n Y) i 0) (ap (erode B) band-image ∙ erode-moved B a X)
            ∙ pack-moved W H a n (erode B X) (some_byte f) fit i (omega (arith, frame-bytes band-frame))
            ∙ ap (λ (c : ℕ). get_or (pack W H (erode B X)) (a * c + i) 0) (sym f.row) ∙ ap (λ (c : ℕ). get_or (pack W H (erode B X)) c 0) z
