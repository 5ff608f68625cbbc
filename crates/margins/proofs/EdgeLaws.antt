-- What falls off, by the extents of the element: the ink in the rows and columns that lack room for it.
use mathlib.Core.Bool.{Bool, ◌&&◌, ◌||◌, false, not, true}
use mathlib.Core.List.{List, Memᴰ}
use mathlib.Core.Logic.{◌⊎◌, inl, inr}
use mathlib.Core.Path.{◌∙◌, ◌≡◌, ap, subst, sym}
use Prim.Native.Nat.{◌%◌, ◌*◌, ◌+◌, ◌-◌, ◌/◌, ◌<◌, ◌≤◌, zero-le, ℕ}
use native.Mathlib.Decide.{dec_lt}
use native.Mathlib.Nat.{le_refl, mul-le-mul_right}
use native.Mathlib.Omega.{arith}
use lib.Dec.{T, T_not, eqb, eqb→eq, leb, leb→le, le→leb, ltb, ltb→lt, lt→ltb, not_T}
use lib.IntN.{pos}
use lib.ListN.{drop, get_or, get_or-replicate, length, length-drop, take}
use lib.Seq.{get_or-drop, get_or-take, length-take-le}
use Rattle.morphology.specs.Element.{bit, offsets}
use Rattle.morphology.specs.Extent.{boxed, extent, fits}
use Rattle.morphology.specs.Falls.{falls_off}
use Rattle.morphology.specs.Image.{bit_of, image_set, is_clean}
use Rattle.morphology.specs.Labels.{places}
use Rattle.morphology.specs.Lists.{some_of, up_to}
use Rattle.morphology.specs.Point.{Point, at, origin}
use Rattle.morphology.proofs.CoverLaws.{in-up_to, of-up_to}
use Rattle.morphology.proofs.ElementLaws.{origin_in}
use Rattle.morphology.proofs.FallsLaws.{falls-boxed}
use Rattle.morphology.proofs.FrameLaws.{OnFrame}
use Rattle.morphology.proofs.ImageLaws.{image_on}
use Rattle.morphology.proofs.LabelLaws.{of_places, on-places}
use Rattle.morphology.proofs.RefusalLaws.{false_of}
use Rattle.morphology.proofs.TestLaws.{T_ext, and_in, and_l, and_r, any_in, any_out, decide, or_l, or-out, or_r}
use Rattle.raster.specs.Bands.{BlankRow}
use Rattle.raster.specs.Frames.{Frame}
use Rattle.raster.specs.Rows.{row_bit}
use Rattle.raster.proofs.BandLaws.{rows-blank, zeros_in, zeros-out}
use Rattle.raster.proofs.ByteLaws.{zero_bit}
use Rattle.raster.proofs.PackLaws.{frame_row, row-image}
use Rattle.raster.proofs.RowLaws.{row_in, row_bit-at}
use Rattle.elements.specs.Measures.{Reached, measure}
use Rattle.margins.specs.Columns.{column_ink, columns_ink}
use Rattle.margins.proofs.ColumnLaws.{byte-bits, span_in, span-out}

-- column x of W and row y of H have room for an element that goes so far to the four sides
pub record HasRoom (W H left right up down x y : ℕ) : Type 0 where
  pub before : left ≤ x
  pub after : x + right < W
  pub above : up ≤ y
  pub below : y + down < H

-- one side of the box, in numbers
side-out : (W lo hi x : ℕ) → T (fits W (1 * lo) (1 * hi) (pos x)) → (lo ≤ x) × (x + hi < W)
side-out W lo hi x t =
    let l = leb→le (1 * lo) x (and_l (leb (1 * lo) x) (ltb (x + 1 * hi) W) t) in
    let h = ltb→lt (x + 1 * hi) W (and_r (leb (1 * lo) x) (ltb (x + 1 * hi) W) t) in
    (omega arith, omega arith)

side_in : (W lo hi x : ℕ) → lo ≤ x → x + hi < W → T (fits W (1 * lo) (1 * hi) (pos x))
side_in W lo hi x l h =
    and_in (leb (1 * lo) x) (ltb (x + 1 * hi) W) (le→leb (1 * lo) x (omega arith)) (lt→ltb (x + 1 * hi) W (omega arith))

module _ {B : List Point} {left right up down : ℕ} (e : Reached left right up down B) (W H x y : ℕ) where
  fx : Bool
  fx = fits W (1 * extent (measure true false) B) (1 * extent (measure true true) B) (pos x)

  fy : Bool
  fy = fits H (1 * extent (measure false false) B) (1 * extent (measure false true) B) (pos y)

  -- the box, in numbers
  box_out : T (boxed W H B 1 (at (pos x) (pos y))) → HasRoom W H left right up down x y
  unfolding boxed fx fy
  box_out t =
      let a = side-out W (extent (measure true false) B) (extent (measure true true) B) x (and_l fx fy t) in
      let b = side-out H (extent (measure false false) B) (extent (measure false true) B) y (and_r fx fy t) in
      record {
        before = omega (arith, e.leftward, a.0);
        after = omega (arith, e.rightward, a.1);
        above = omega (arith, e.upward, b.0);
        below = omega (arith, e.downward, b.1);
      }

  box_in : HasRoom W H left right up down x y → T (boxed W H B 1 (at (pos x) (pos y)))
  unfolding boxed fx fy
  box_in c =
      and_in fx fy
      (side_in W (extent (measure true false) B) (extent (measure true true) B) x (omega (arith, e.leftward, c.before))
      (omega (arith, e.rightward, c.after)))
      (side_in H (extent (measure false false) B) (extent (measure false true) B) y (omega (arith, e.upward, c.above)) (omega (arith, e.downward, c.below)))

module _ {B : List Point} {left right up down : ℕ} (ob : Memᴰ origin B) (e : Reached left right up down B) (W H : ℕ) (X : Point → Bool)
    (on : OnFrame W H X) where
  -- a point without room falls off
  pub falls-near : (x y : ℕ) → T (X (at (pos x) (pos y))) → (HasRoom W H left right up down x y → ⊥) → T (falls_off W H B X)
  falls-near x y t f =
      let p = at (pos x) (pos y) in
      subst T (sym (falls-boxed W H B X ob))
      (any_in (λ p. X p && not (boxed W H B 1 p)) (on-places W H X on p t)
      (and_in (X p) (not (boxed W H B 1 p)) t (not_T (boxed W H B 1 p) (λ b. f (box_out e W H x y b)))))

  -- and what falls off is one
  pub near-falls : T (falls_off W H B X) → (x y : ℕ) × T (X (at (pos x) (pos y))) × (HasRoom W H left right up down x y → ⊥)
  near-falls t =
      let r = any_out (λ p. X p && not (boxed W H B 1 p)) (places W H) (subst T (falls-boxed W H B X ob) t) in
      let q = of_places W H r.1 in
      let p = at (pos q.0) (pos q.1) in
      let u = subst (λ (p : Point). T (X p && not (boxed W H B 1 p))) q.4 r.2 in
      (q.0, q.1, and_l (X p) (not (boxed W H B 1 p)) u, λ c. T_not (boxed W H B 1 p) (and_r (X p) (not (boxed W H B 1 p)) u) (box_in e W H q.0 q.1 c))

-- ---- a plane

-- the bytes of the rows from a up to b of h rows of r bytes
pub record RowBytes (r h a b : ℕ) (s l : List ℕ) : Type 0 where
  pub order : a ≤ b
  pub within : b ≤ h
  pub size : length l ≡ b * r - a * r
  pub byte : (i : ℕ) → i < b * r - a * r → get_or l i 0 ≡ get_or s (a * r + i) 0

-- those of the first rows, and of the last
pub first_rows : (r h b : ℕ) (s : List ℕ) → b ≤ h → h * r ≤ length s → RowBytes r h 0 b s (take (b * r) s)
first_rows r h b s l g = record {
  order = zero-le;
  within = l;
  size = length-take-le (b * r) s (omega (arith, mul-le-mul_right r l)) ∙ omega arith;
  byte = λ i hi. get_or-take (b * r) s i 0 (omega arith) ∙ ap (λ (n : ℕ). get_or s n 0) (omega arith);
}

pub last-rows : (r h a : ℕ) (s : List ℕ) → a ≤ h → h * r ≤ length s → RowBytes r h a h s (take (h * r - a * r) (drop (a * r) s))
last-rows r h a s l g = record {
  order = l;
  within = le_refl h;
  size = length-take-le (h * r - a * r) (drop (a * r) s) (omega (arith, length-drop (a * r) s));
  byte = λ i hi. get_or-take (h * r - a * r) (drop (a * r) s) i 0 hi ∙ get_or-drop (a * r) s i 0;
}

-- a plane, and an element's extents
pub record EdgePlane (w h r e left right up down : ℕ) (s : List ℕ) : Type 0 where
  pub frame : Frame w h r
  pub size : h * r ≤ length s
  pub bytes : (i : ℕ) → get_or s i 0 < 256
  pub clean : T (is_clean w h s)
  pub centre : T (bit e 12)
  pub reach : Reached left right up down (offsets e)

pub edge_plane : {w h r e left right up down : ℕ} {s : List ℕ} → Frame w h r → (h * r ≤ length s) × T (bit e 12) × T (is_clean w h s)
    → ((i : ℕ) → get_or s i 0 < 256) → Reached left right up down (offsets e)
    → EdgePlane w h r e left right up down s
edge_plane f q b x = record { frame = f; size = q.0; bytes = b; clean = q.2; centre = q.1; reach = x }

module _ {w h r e left right up down : ℕ} {s : List ℕ} (c : EdgePlane w h r e left right up down s) where
  abbrev X : Point → Bool
  X = image_set w h s

  abbrev B : List Point
  B = offsets e

  -- a byte that is not 0
  abbrev Ink : ℕ → Bool
  Ink v = not (eqb v 0)

  ink-at : (k y : ℕ) → k < 8 * r → y < h → row_bit s (8 * (y * r) + k) ≡ X (at (pos k) (pos y))
  ink-at k y hk hy = row-image w h r s c.frame.row c.clean y k hy hk

  row_byte : (y k : ℕ) → row_bit s (8 * (y * r) + k) ≡ bit_of (get_or s (y * r + k / 8) 0) (k % 8)
  row_byte y k =
      let z : 8 * (y * r) + k ≡ 8 * (y * r + k / 8) + k % 8 = omega arith in
      ap (row_bit s) z ∙ row_bit-at s (y * r + k / 8) (k % 8) (omega arith)

  -- where a point lies
  across : (k y : ℕ) → T (X (at (pos k) (pos y))) → (k < w) × (y < h)
  across k y t = (ltb→lt k w ((image_on w h s).across (at (pos k) (pos y)) t), ltb→lt y h ((image_on w h s).down (at (pos k) (pos y)) t))

  -- a point without room falls off, and what falls off is one
  near : (k y : ℕ) → T (X (at (pos k) (pos y))) → (HasRoom w h left right up down k y → ⊥) → T (falls_off w h B X)
  near = falls-near (origin_in e c.centre) c.reach w h X (image_on w h s)

  -- ---- some rows

  -- a row without a point is blank
  row-none : (y : ℕ) → y < h → ((k : ℕ) → T (X (at (pos k) (pos y))) → ⊥) → BlankRow r s y
  row-none y hy none i hi = by (decide (eqb v 0))
    where
      v : ℕ
      v = get_or s (y * r + i) 0

      by : T (eqb v 0) ⊎ T (not (eqb v 0)) → v ≡ 0
      by (inl t) = eqb→eq v 0 t
      by (inr t) =
          let q = span-out (bit_of v) 0 8 (subst T (byte-bits v (c.bytes (y * r + i))) t) in
          let z : 8 * (y * r + i) + q.0 ≡ 8 * (y * r) + (8 * i + q.0) = omega arith in
          absurd (none (8 * i + q.0)
          (subst T (sym (row_bit-at s (y * r + i) q.0 q.2) ∙ ap (row_bit s) z ∙ ink-at (8 * i + q.0) y (omega (arith, q.2)) hy) q.3))

  module _ {a b : ℕ} {l : List ℕ} (d : RowBytes r h a b s l) where
    -- a point in them
    rows_in : (k y : ℕ) → T (X (at (pos k) (pos y))) → a ≤ y → y < b → T (some_of Ink l)
    rows_in k y t ha hb = by (decide (some_of Ink l))
      where
        g : (k < w) × (y < h)
        g = across k y t

        hk : k < 8 * r
        hk = omega (arith, g.0, (frame_row c.frame).0)

        i : ℕ
        i = y * r + k / 8 - a * r

        lo : a * r ≤ y * r
        lo = mul-le-mul_right r ha

        hi : y * r + k / 8 < b * r
        hi = omega (arith, hk, row_in y b r (b * r) hb (omega arith))

        by : T (some_of Ink l) ⊎ T (not (some_of Ink l)) → T (some_of Ink l)
        by (inl u) = u
        by (inr u) =
            let z = zeros-out l (false_of (some_of Ink l) (T_not (some_of Ink l) u)) in
            let q : a * r + i ≡ y * r + k / 8 = omega (arith, lo) in
            let n : get_or s (y * r + k / 8) 0 ≡ 0 =
            ap (λ (j : ℕ). get_or s j 0) (sym q) ∙ sym (d.byte i (omega (arith, lo, hi)))
            ∙ ap (λ (m : List ℕ). get_or m i 0) z ∙ get_or-replicate (length l) i 0 0 (omega (arith, lo, hi, d.size)) in
            absurd (subst T (sym (ink-at k y hk g.1) ∙ row_byte y k ∙ zero_bit (get_or s (y * r + k / 8) 0) (k % 8) n) t)

    -- ink in them, and no room for any of their points
    rows_fall : ((k y : ℕ) → a ≤ y → y < b → HasRoom w h left right up down k y → ⊥) → T (some_of Ink l) → T (falls_off w h B X)
    rows_fall g t = by (decide (falls_off w h B X))
      where
        none : T (not (falls_off w h B X)) → (k y : ℕ) → a ≤ y → y < b → T (X (at (pos k) (pos y))) → ⊥
        none n k y ha hb u = T_not (falls_off w h B X) n (near k y u (g k y ha hb))

        by : T (falls_off w h B X) ⊎ T (not (falls_off w h B X)) → T (falls_off w h B X)
        by (inl u) = u
        by (inr n) = absurd (subst T (zeros_in l (λ i hi. blank i (omega (arith, hi, d.size)))) t)
          where
            blank : (i : ℕ) → i < b * r - a * r → get_or l i 0 ≡ 0
            blank i hi =
                d.byte i hi
                ∙ rows-blank r a b s (λ y ha hb. row-none y (omega (arith, d.within)) (λ k. none n k y ha hb)) (a * r + i) (omega arith)
                (omega arith)

  -- ---- some columns

  columns_in : (a b k y : ℕ) → b ≤ 8 * r → T (X (at (pos k) (pos y))) → a ≤ k → k < b → T (columns_ink s r h a b)
  columns_in a b k y hb t ha hk =
      let g = across k y t in
      span_in (column_ink s r h) a b k ha hk
      (any_in (λ y. row_bit s (8 * (y * r) + k)) (in-up_to h y g.1) (subst T (sym (ink-at k y (omega arith) g.1)) t))

  columns_fall : (a b : ℕ) → b ≤ 8 * r → ((k y : ℕ) → a ≤ k → k < b → k < w → HasRoom w h left right up down k y → ⊥) → T (columns_ink s r h a b)
      → T (falls_off w h B X)
  columns_fall a b hb g t =
      let q = span-out (column_ink s r h) a b t in
      let k = q.0 in
      let v = any_out (λ y. row_bit s (8 * (y * r) + k)) (up_to h) q.3 in
      let y = v.0 in
      let u = subst T (ink-at k y (omega (arith, q.2)) (of-up_to h v.1)) v.2 in
      near k y u (g k y q.1 q.2 (across k y u).0)

  -- ---- the test

  -- no point has room
  pub falls_all : {l : List ℕ} → RowBytes r h 0 h s l → (w ≤ left + right) ⊎ (h ≤ up + down) → some_of Ink l ≡ falls_off w h B X
  falls_all {l} d n = T_ext (rows_fall d (λ k y ha hb g. none g n)) (λ t.
      let q = near-falls (origin_in e c.centre) c.reach w h X (image_on w h s) t in
      rows_in d q.0 q.1 q.2 zero-le (across q.0 q.1 q.2).1)
    where
      none : {k y : ℕ} → HasRoom w h left right up down k y → (w ≤ left + right) ⊎ (h ≤ up + down) → ⊥
      none g (inl l) = omega (arith, g.before, g.after)
      none g (inr l) = omega (arith, g.above, g.below)

  -- the rows above and below, the columns to the left and to the right
  pub falls_edges : {a b : List ℕ} → RowBytes r h 0 up s a → RowBytes r h (h - down) h s b → left ≤ 8 * r
      → (((some_of Ink a || some_of Ink b) || columns_ink s r h 0 left) || columns_ink s r h (w - right) w) ≡ falls_off w h B X
  falls_edges {a} {b} da db hl = T_ext (λ t. by (or-out ((A || Z) || L) R t)) (λ t.
      let q = near-falls (origin_in e c.centre) c.reach w h X (image_on w h s) t in
      back q.0 q.1 q.2 q.3 (dec_lt q.0 left) (dec_lt (q.0 + right) w) (dec_lt q.1 up) (dec_lt (q.1 + down) h))
    where
      A : Bool
      A = some_of Ink a

      Z : Bool
      Z = some_of Ink b

      L : Bool
      L = columns_ink s r h 0 left

      R : Bool
      R = columns_ink s r h (w - right) w

      rows : T A ⊎ T Z → T (falls_off w h B X)
      rows (inl t) = rows_fall da (λ k y ha hb g. omega (arith, g.above)) t
      rows (inr t) = rows_fall db (λ k y ha hb g. omega (arith, g.below)) t

      early : T (A || Z) ⊎ T L → T (falls_off w h B X)
      early (inl t) = rows (or-out A Z t)
      early (inr t) = columns_fall 0 left hl (λ k y ha hb hw g. omega (arith, g.before)) t

      by : T ((A || Z) || L) ⊎ T R → T (falls_off w h B X)
      by (inl t) = early (or-out (A || Z) L t)
      by (inr t) = columns_fall (w - right) w (frame_row c.frame).0 (λ k y ha hb hw g. omega (arith, g.after)) t

      edge : T A ⊎ T Z → T (((A || Z) || L) || R)
      edge (inl t) = or_l ((A || Z) || L) R (or_l (A || Z) L (or_l A Z t))
      edge (inr t) = or_l ((A || Z) || L) R (or_l (A || Z) L (or_r A Z t))

      back : (k y : ℕ) → T (X (at (pos k) (pos y))) → (HasRoom w h left right up down k y → ⊥) → Dec (k < left) → Dec (k + right < w) → Dec (y < up) → Dec (y + down < h)
          → T (((A || Z) || L) || R)
      back k y t g (yes p) q u v = or_l ((A || Z) || L) R (or_r (A || Z) L (columns_in 0 left k y hl t zero-le p))
      back k y t g (no p) (no q) u v =
          or_r ((A || Z) || L) R (columns_in (w - right) w k y (frame_row c.frame).0 t (omega arith) (across k y t).0)
      back k y t g (no p) (yes q) (yes u) v = edge (inl (rows_in da k y t zero-le u))
      back k y t g (no p) (yes q) (no u) (no v) = edge (inr (rows_in db k y t (omega arith) (across k y t).1))
      back k y t g (no p) (yes q) (no u) (yes v) = absurd (g (record { before = omega arith; after = q; above = omega arith; below = v }))
