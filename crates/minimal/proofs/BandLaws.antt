-- The counters of a row's pixels, byte by byte, and of a plane's, row by row.
use mathlib.Core.Bool.{Bool, false, true}
use mathlib.Core.List.{List}
use mathlib.Core.Path.{◌∙◌, ◌≡◌, ap, fun_ext, subst, sym}
use Prim.Native.Nat.{◌*◌, ◌+◌, ◌-◌, ◌<◌, ◌^◌, ◌≤◌, ℕ}
use native.Mathlib.Nat.{mul_comm, mul-le-mul_right, suc-mul}
use native.Mathlib.Numerals.{add-one}
use native.Mathlib.Omega.{arith}
use lib.ListN.{get_or, length}
use Rattle.morphology.specs.Image.{bit_of, stride}
use Rattle.raster.specs.Limits.{max_frame}
use Rattle.raster.specs.Rows.{row_bit}
use Rattle.raster.proofs.RowLaws.{row_in}
use Rattle.minimal.specs.Bands.{CoverRow, InBand, ink_at}
use Rattle.minimal.specs.declared.bands.Band.{Band}
use Rattle.minimal.specs.Moves.{Task, Done, Ready, below}
use Rattle.minimal.proofs.MoveLaws.{done_as, done-fails, done_next, none_below, none-done, part_ready}
use Rattle.minimal.proofs.PixelLaws.{byte_of, margin-end, margin-start, ink-above, ink_band, row-ink, row_padded}

-- ---- a row, byte by byte

module _ {d r left right at : ℕ} {s : List ℕ} (b : CoverRow d r left right at s) (k : Task) (a : ℕ) where
  -- its pixels, and those of byte j
  abbrev pub pixels : ℕ → Bool
  pixels i = row_bit s (8 * d + i)

  abbrev pub byte : ℕ → (ℕ → Bool)
  byte j = bit_of (get_or s (d + j) 0)

  pub row-start : (c : List ℕ) → Done k (below (8 * left) pixels) at a c c true
  row-start c = none-done k (below (8 * left) pixels) at a c (margin-start s d r left right b.margins)

  pub row_ready : (j : ℕ) (c u : List ℕ) → j < right → Ready k (below (8 * r) pixels) at a c
      → Done k (below (8 * j) pixels) at a c u true → Ready k (below 8 (byte j)) (at + 8 * j) a u
  row_ready j c u h w p = part_ready pixels (byte j) at (8 * j) 8 a (byte_of s d j) k (8 * r) c u true (omega (arith, b.margins.room)) w p

  pub row_next : (j : ℕ) (c u v : List ℕ) (t : Bool) → Done k (below (8 * j) pixels) at a c u true
      → Done k (below 8 (byte j)) (at + 8 * j) a u v t → t ≡ true
      → Done k (below (8 * (j + 1)) pixels) at a c v true
  row_next j c u v t p q e = done_next pixels (byte j) at (8 * j) 8 a (byte_of s d j) k (8 * (j + 1)) c u v t (omega arith) p q e

  -- a byte that fails
  pub row-fails : (j : ℕ) (c u v : List ℕ) (t : Bool) → j < right → Done k (below (8 * j) pixels) at a c u true
      → Done k (below 8 (byte j)) (at + 8 * j) a u v t → t ≡ false
      → Done k (below (8 * r) pixels) at a c v false
  row-fails j c u v t h p q e = done-fails pixels (byte j) at (8 * j) 8 a (byte_of s d j) k (8 * r) c u v t (omega (arith, b.margins.room)) p q e

  pub row_last : (j : ℕ) (c u : List ℕ) → j ≡ right → Done k (below (8 * j) pixels) at a c u true
      → Done k (below (8 * r) pixels) at a c u true
  row_last j c u e p =
      done_as k (below (8 * j) pixels) (below (8 * r) pixels) at a c u true
      (λ i. ap (λ (n : ℕ). below (8 * n) pixels i) e ∙ margin-end s d r left right b.margins i) p

-- ---- a plane, row by row

module _ {W H r : ℕ} {g : Band} {s : List ℕ} (b : InBand W H r g s) where
  -- a row's pixels
  abbrev pub row_of : ℕ → (ℕ → Bool)
  row_of y k = row_bit s (8 * (y * r) + k)

  -- a row of the band
  pub band-row : (y i : ℕ) → i < 2 ^ 30 → g.above ≤ y → y < H - g.under → CoverRow (y * r) r g.left g.right (i + y * W) s
  unfolding stride
  band-row y i l lo hi =
      let h : y < H = omega arith in
      let d : y ≤ max_frame = omega (arith, b.frame.down) in
      record {
        near = omega (arith, mul-le-mul_right W d, b.frame.across);
        stride = omega (arith, b.frame.row, b.frame.across);
        bytes = row_in y H r (length s) h b.bytes;
        margins = record {
          order = b.bounds.order;
          room = b.bounds.room;
          start = λ j p q. b.bounds.start y lo hi j (omega arith) q;
          end = b.bounds.end y lo hi;
        };
      }

  in_frame : (y : ℕ) → y < H - g.under → y * W + W ≤ W * H
  in_frame y h = let l : y < H = omega arith in row_in y H W (W * H) l (omega (arith, mul_comm H W))

  padded : (y : ℕ) → y < H - g.under → below W (row_of y) ≡ below (8 * r) (row_of y)
  padded y h = fun_ext (λ k. sym (row_padded W H r g s b y (omega arith) k))

  next_row : (y : ℕ) → y * W + W ≡ (y + 1) * W
  next_row y = sym (ap (λ (n : ℕ). n * W) (add-one y) ∙ suc-mul y W)

  module _ (k : Task) (a i : ℕ) where
    of_row : (y : ℕ) → y < H - g.under → (q : ℕ) → q < W → row_of y q ≡ ink_at W H s (y * W + q)
    of_row y h q l = row-ink W H r g s b y q (omega arith) l

    pub band-start : (c : List ℕ) → Done k (below (g.above * W) (ink_at W H s)) i a c c true
    band-start c = none-done k (below (g.above * W) (ink_at W H s)) i a c (none_below (g.above * W) (ink_at W H s) (λ j l. ink-above W H r g s b j l))

    pub band_ready : (y : ℕ) (c u : List ℕ) → y < H - g.under → Ready k (below (W * H) (ink_at W H s)) i a c
        → Done k (below (y * W) (ink_at W H s)) i a c u true
        → Ready k (below (8 * r) (row_of y)) (i + y * W) a u
    band_ready y c u h w p =
        subst (λ (f : ℕ → Bool). Ready k f (i + y * W) a u) (padded y h)
        (part_ready (ink_at W H s) (row_of y) i (y * W) W a (of_row y h) k (W * H) c u true (in_frame y h) w p)

    unpadded : (y : ℕ) (u v : List ℕ) (t : Bool) → y < H - g.under → Done k (below (8 * r) (row_of y)) (i + y * W) a u v t
        → Done k (below W (row_of y)) (i + y * W) a u v t
    unpadded y u v t h q = subst (λ (f : ℕ → Bool). Done k f (i + y * W) a u v t) (sym (padded y h)) q

    pub band_next : (y : ℕ) (c u v : List ℕ) (t : Bool) → y < H - g.under → Done k (below (y * W) (ink_at W H s)) i a c u true
        → Done k (below (8 * r) (row_of y)) (i + y * W) a u v t → t ≡ true → Done k (below ((y + 1) * W) (ink_at W H s)) i a c v true
    band_next y c u v t h p q e =
        done_next (ink_at W H s) (row_of y) i (y * W) W a (of_row y h) k ((y + 1) * W) c u v t (next_row y) p (unpadded y u v t h q) e

    -- a row that fails
    pub band-fails : (y : ℕ) (c u v : List ℕ) (t : Bool) → y < H - g.under → Done k (below (y * W) (ink_at W H s)) i a c u true
        → Done k (below (8 * r) (row_of y)) (i + y * W) a u v t → t ≡ false → Done k (below (W * H) (ink_at W H s)) i a c v false
    band-fails y c u v t h p q e =
        done-fails (ink_at W H s) (row_of y) i (y * W) W a (of_row y h) k (W * H) c u v t (in_frame y h) p (unpadded y u v t h q) e

    pub band_last : (y : ℕ) (c u : List ℕ) → y ≡ H - g.under → Done k (below (y * W) (ink_at W H s)) i a c u true
        → Done k (below (W * H) (ink_at W H s)) i a c u true
    band_last y c u e p =
        done_as k (below (y * W) (ink_at W H s)) (below (W * H) (ink_at W H s)) i a c u true
        (λ j. ap (λ (n : ℕ). below (n * W) (ink_at W H s) j) e ∙ ink_band W H r g s b j) p
