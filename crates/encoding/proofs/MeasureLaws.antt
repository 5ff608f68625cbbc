-- Sizes measured: how long a section is, how many sizes there are, and the lengths of their sections.
use mathlib.Core.Bool.{Bool, false, not, true}
use mathlib.Core.List.{List, [], ◌∷◌, map}
use mathlib.Core.Path.{◌∙◌, ◌≡◌, ap, refl, subst, sym}
use Prim.Native.Nat.{◌*◌, ◌+◌, ◌<◌, ◌^◌, ◌≤◌, max, suc, zero, ℕ}
use native.Mathlib.Decide.{dec_lt}
use native.Mathlib.Nat.{mul-le-mul_right, suc-ne-zero, zero-add}
use native.Mathlib.Omega.{arith}
use lib.Dec.{T, eqb}
use lib.ListN.{get_or, length, length-append, replicate, set, take}
use lib.Seq.{get_or-set_other, get_or-set_same}
use Rattle.coding.specs.Runs.{runs, unmasked}
use Rattle.coding.specs.Symbols.{numeral, section}
use Rattle.coding.specs.Writing.{ending, eroded_runs, runs_symbols}
use Rattle.coding.proofs.SectionLaws.{section-runs}
use Rattle.iteration.specs.Steps.{First}
use Rattle.raster.specs.Frames.{Frame, Sheet}
use Rattle.iteration.proofs.StepLaws.{first_zeros, sheet-bytes}
use Rattle.morphology.specs.Element.{is_element, offsets}
use Rattle.morphology.specs.Image.{image_set, is_clean, plane_bytes}
use Rattle.morphology.specs.Lists.{some_of}
use Rattle.morphology.specs.Morphology.{dilate, erode, opening, times}
use Rattle.morphology.specs.Point.{Point}
use Rattle.morphology.proofs.DecomposeLaws.{eroded_on, turns_lt}
use Rattle.morphology.proofs.ElementLaws.{element}
use Rattle.morphology.proofs.FrameLaws.{OnFrame}
use Rattle.morphology.proofs.ImageLaws.{image_on, length-row}
use Rattle.morphology.proofs.PlaneLaws.{empty-pack, pack-empty, some-point}
use Rattle.raster.specs.Limits.{max_frame}
use Rattle.sections.specs.Kinds.{kinds_from}
use Rattle.sections.specs.Pens.{Marked, PenRoom}
use Rattle.sections.proofs.KindLaws.{frame-runs, symbols_le}
use Rattle.encoding.specs.Sizes.{Lengths, Measured, SizesPassed, SizeStepped, open_runs, symbols_below}
use Rattle.encoding.proofs.SizeLaws.{below_suc, passed-clean, passed_more, passed-runs}

-- ---- how long a section is

-- the pixels of a frame
pub frame_small : {W H r : ℕ} → Frame W H r → W * H ≤ 2 ^ 20
frame_small {H = H} f = omega (arith, mul-le-mul_right H f.across, f.down)

-- the runs of a size have at most two symbols a pixel
pub runs_le : (W H : ℕ) (S M : Point → Bool) → length (runs_symbols (runs S 0 (unmasked W H M))) ≤ 2 * (W * H)
unfolding kinds_from
runs_le W H S M =
    let l = kinds_from W S M 0 (W * H) in
    omega (arith, ap (λ (rs : List ℕ). length (runs_symbols rs)) (frame-runs W H S M), symbols_le 0 l, pixels)
  where
    pixels : length (kinds_from W S M 0 (W * H)) ≡ W * H
    pixels = length-row _ 0 (W * H)

-- as they are read off a plane, and by their size
pub open_le : (W H : ℕ) (B : List Point) (work : List ℕ) → length (runs_symbols (open_runs W H B work)) ≤ 2 * (W * H)
open_le W H B work = let X = image_set W H work in runs_le W H X (opening B X)

eroded_le : (W H : ℕ) (B : List Point) (X : Point → Bool) (n : ℕ) → length (runs_symbols (eroded_runs W H B X n)) ≤ 2 * (W * H)
eroded_le W H B X n = runs_le W H (erode (times B n) X) (dilate B (erode (times B (suc n)) X))

-- a pen that is up has room
pub room_up : {W H r : ℕ} → Frame W H r → (B : List Point) (work s : List ℕ) → PenRoom false s 0 (open_runs W H B work)
room_up {W} {H} f B work s = record {
  small = omega (arith, open_le W H B work, frame_small f);
  inside = λ t. absurd t;
  commas = λ t. absurd t;
}

ending_le : (rs : List ℕ) → length (ending rs) ≤ 2
ending_le [] = omega arith
ending_le (r ∷ rs) = omega arith

-- the commas that end a section are two at most
pub section_le : (W H : ℕ) (B : List Point) (X : Point → Bool) (n : ℕ) → length (section (map numeral (eroded_runs W H B X n))) ≤ 2 * (W * H) + 2
section_le W H B X n =
    let rs = eroded_runs W H B X n in
    omega (arith, ap length (section-runs rs), length-append (runs_symbols rs) (ending rs), ending_le rs, eroded_le W H B X n)

-- so n sections have a bound
pub below_le : (W H : ℕ) (B : List Point) (X : Point → Bool) (n : ℕ) → length (symbols_below (eroded_runs W H B X) n) ≤ n * (2 * (W * H) + 2)
unfolding symbols_below
below_le W H B X zero = omega arith
below_le W H B X (suc n) =
    let f = eroded_runs W H B X in
    omega (arith, length-append (section (map numeral (f n))) (symbols_below f n), section_le W H B X n, below_le W H B X n)

-- ---- how many sizes there are

-- a size with ink is below the larger side
pub ink_lt : (W H e : ℕ) → T (is_element e) → {X : Point → Bool} → OnFrame W H X → (n : ℕ) → (z : Point) × T (erode (times (offsets e) n) X z) → n < max W H
ink_lt W H e el {X} on n z = turns_lt W H (offsets e) (element e el) X on n (λ g. g z.0 z.1)

-- where the last of n sizes has ink
module _ {W H r : ℕ} (f : Frame W H r) (e : ℕ) (el : T (is_element e)) {X : Point → Bool} (on : OnFrame W H X) (n : ℕ)
    (before : (k : ℕ) → n ≡ suc k → (z : Point) × T (erode (times (offsets e) k) X z)) where
  pub sizes_le : n ≤ max W H
  sizes_le = go n refl
    where
      go : (m : ℕ) → n ≡ m → n ≤ max W H
      go zero q = omega arith
      go (suc k) q = omega (arith, ink_lt W H e el on k (before k q))

  pub sizes-few : n ≤ max_frame
  sizes-few = omega (arith, sizes_le, f.across, f.down)

  pub total-small : length (symbols_below (eroded_runs W H (offsets e) X) n) < 2 ^ 33
  total-small = omega (arith, below_le W H (offsets e) X n, mul-le-mul_right (2 * (W * H) + 2) sizes-few, frame_small f)

-- ---- whether ink is left

-- bytes of 0 hold no 1
zeros-none : (n : ℕ) → some_of (λ b. not (eqb b 0)) (replicate n 0) ≡ false
zeros-none zero = refl
zeros-none (suc n) = zeros-none n

module _ {W H r p : ℕ} (e : ℕ) (sheet : Sheet W H r p) (el : T (is_element e)) {X : Point → Bool} (on : OnFrame W H X) {n : ℕ} {w₀ w : List ℕ}
    (t : SizesPassed W H p (offsets e) X n w₀ w) where
  abbrev Y : Point → Bool
  Y = erode (times (offsets e) n) X

  Y_on : OnFrame W H Y
  Y_on = eroded_on W H (offsets e) (element e el) X on n

  first_of : First W H p Y w w
  first_of = record { size = refl; first = t.eroded; rest = refl }

  -- a byte that is not 0 is of a point
  pub passed-point : some_of (λ b. not (eqb b 0)) (take p w) ≡ true → (z : Point) × T (erode (times (offsets e) n) X z)
  passed-point s =
      some-point W H Y Y_on (λ g. subst T (sym s ∙ ap (some_of (λ b. not (eqb b 0))) (t.eroded ∙ pack-empty W H Y g) ∙ zeros-none (plane_bytes W H)) tt)

  -- the runs of its size, counted from 0 on
  pub passed-count : {old new : List ℕ} {m : ℕ} → Marked false (open_runs W H (offsets e) w) old new 0 m
      → m ≡ length (runs_symbols (eroded_runs W H (offsets e) X n))
  passed-count d =
      d.pen ∙ zero-add (length (runs_symbols (open_runs W H (offsets e) w)))
      ∙ ap (λ (rs : List ℕ). length (runs_symbols rs)) (passed-runs e sheet el on t)

  -- bytes of 0 have none
  pub passed-gone : p ≤ length w → some_of (λ b. not (eqb b 0)) (take p w) ≡ false → (z : Point) → T (erode (times (offsets e) n) X z) → ⊥
  passed-gone h s = empty-pack W H Y Y_on (sym t.eroded ∙ first_zeros (sheet-bytes sheet) h first_of s)

-- a size with ink is before the next
pub before_more : (B : List Point) (X : Point → Bool) (n : ℕ) → (z : Point) × T (erode (times B n) X z)
    → (k : ℕ) → n + 1 ≡ suc k → (z : Point) × T (erode (times B k) X z)
before_more B X n z k q = let i : n ≡ k = omega arith in subst (λ (j : ℕ). (z : Point) × T (erode (times B j) X z)) i z

-- ---- the lengths of the sections

-- of no size
pub lengths-start : (W H : ℕ) (B : List Point) (X : Point → Bool) (l : List ℕ) → Lengths W H B X 0 l 0
unfolding symbols_below
lengths-start W H B X l = record { each = λ k h. absurd (omega arith); whole = refl }

-- one more
pub lengths_more : {W H : ℕ} {B : List Point} {X : Point → Bool} {n : ℕ} {l : List ℕ} {total : ℕ} (v : ℕ) → Lengths W H B X n l total → n < length l
    → v ≡ length (section (map numeral (eroded_runs W H B X n))) → Lengths W H B X (n + 1) (set l n v) (total + v)
lengths_more {W} {H} {B} {X} {n} {l} {total} v m h q =
    let f = eroded_runs W H B X in
    record {
      each = λ k b. by k b (dec_lt k n);
      whole = omega (arith, m.whole, q, ap length (below_suc f n), length-append (section (map numeral (f n))) (symbols_below f n));
    }
  where
    by : (k : ℕ) → k < n + 1 → Dec (k < n) → get_or (set l n v) k 0 ≡ length (section (map numeral (eroded_runs W H B X k)))
    by k b (yes i) = get_or-set_other l n k v 0 (λ z. omega arith) ∙ m.each k i
    by k b (no i) =
        let z : n ≡ k = omega arith in
        subst (λ (j : ℕ). get_or (set l n v) j 0 ≡ length (section (map numeral (eroded_runs W H B X j)))) z (get_or-set_same l n v 0 h ∙ q)

-- ---- the sizes counted so far

-- the sizes below n are measured, the last of them had ink, and the plane of size n stands in work
pub record Counted (W H p e : ℕ) (work₀ : List ℕ) (n total : ℕ) (lengths work : List ℕ) : Type 0 where
  pub plane : SizesPassed W H p (offsets e) (image_set W H work₀) n work₀ work
  pub measured : Lengths W H (offsets e) (image_set W H work₀) n lengths total
  pub before : (k : ℕ) → n ≡ suc k → (z : Point) × T (erode (times (offsets e) k) (image_set W H work₀) z)

-- none at first
pub counted-start : (W H p e : ℕ) (work lengths : List ℕ) → SizesPassed W H p (offsets e) (image_set W H work) 0 work work → Counted W H p e work 0 0 lengths work
counted-start W H p e work lengths t = record {
  plane = t;
  measured = lengths-start W H (offsets e) (image_set W H work) lengths;
  before = λ k q. absurd (suc-ne-zero k (sym q));
}

module _ {W H r p e : ℕ} {work₀ : List ℕ} {n total : ℕ} {lengths work : List ℕ} (sheet : Sheet W H r p) (el : T (is_element e))
    (w : Counted W H p e work₀ n total lengths work) where
  abbrev on : OnFrame W H (image_set W H work₀)
  on = image_on W H work₀

  pub counted-clean : T (is_clean W H work)
  counted-clean = passed-clean e sheet el on w.plane

  -- few symbols until now
  pub counted-small : total < 2 ^ 33
  counted-small = omega (arith, w.measured.whole, total-small sheet.frame e el on n w.before)

  -- where the plane has ink
  module _ (ink : some_of (λ b. not (eqb b 0)) (take p work) ≡ true) where
    pub counted-ink : (z : Point) × T (erode (times (offsets e) n) (image_set W H work₀) z)
    counted-ink = passed-point e sheet el on w.plane ink

    pub counted-below : n < max W H
    counted-below = ink_lt W H e el on n counted-ink

    pub counted-few : n < max_frame
    counted-few = let f = sheet.frame in omega (arith, counted-below, f.across, f.down)

    -- it is one size more, of m symbols
    pub counted_more : {old new work' : List ℕ} {m : ℕ} (v : ℕ) → n < length lengths → SizeStepped false W H p (offsets e) work work' old new 0 m
        → ((rs : List ℕ) → m ≡ length (runs_symbols rs) → v ≡ length (section (map numeral rs)))
        → Counted W H p e work₀ (n + 1) (total + v) (set lengths n v) work'
    counted_more v long d size = record {
      plane = passed_more e sheet el on w.plane d.planes;
      measured = lengths_more v w.measured long (size _ (passed-count e sheet el on w.plane d.runs));
      before = before_more (offsets e) (image_set W H work₀) n counted-ink;
    }

  -- and where it has none, these are all
  pub counted_all : p ≤ length work → some_of (λ b. not (eqb b 0)) (take p work) ≡ false
      → Measured W H p (offsets e) (image_set W H work₀) n lengths total work₀ work
  counted_all long none = record {
    measured = w.measured;
    before = w.before;
    gone = passed-gone e sheet el on w.plane long none;
    size = w.plane.size;
    rest = w.plane.rest;
  }

-- the runs of a size have few symbols
pub runs-small : {W H r p : ℕ} → Sheet W H r p → {B : List Point} {work old new work' : List ℕ} {m : ℕ} → SizeStepped false W H p B work work' old new 0 m → m ≤ 2 ^ 21
runs-small {W} {H} sheet {B} {work} d = omega (arith, open_le W H B work, d.runs.pen, frame_small sheet.frame)
