-- Walks over pixels of a plane, part by part.
use mathlib.Core.Bool.{Bool, ◌||◌, false, or-false}
use mathlib.Core.List.{List, ◌++◌}
use mathlib.Core.Path.{◌∙◌, ◌≡◌, ap, ap₂, refl, subst, sym}
use Prim.Native.Nat.{◌+◌, ◌-◌, ◌<◌, ◌≤◌, ℕ}
use native.Mathlib.Decide.{dec_lt}
use native.Mathlib.Nat.{zero-add}
use native.Mathlib.Omega.{arith}
use lib.ListN.{get_or-append, drop, get_or, get_or-replicate, length, replicate}
use lib.Seq.{get_or-append-add}
use Rattle.std.specs.Prelude.{None, Option, Some}
use Rattle.morphology.specs.Lists.{tabulate}
use Rattle.morphology.proofs.ImageLaws.{length-row}
use Rattle.raster.specs.Rows.{row_bit}
use Rattle.reading.specs.Nexts.{next_of}
use Rattle.reading.specs.Seeking.{Seek, sought_all, sought_points}
use Rattle.reading.specs.declared.Next.{Next}
use Rattle.reading.specs.declared.Next.TheVariants.{Ended, Run}
use Rattle.reading.proofs.SeekLaws.{ended_all, length-points, lost_all, points_append, sought_append}
use Rattle.sections.proofs.KindLaws.{row_agree, row_parts}
use Rattle.placing.specs.Planes.{PixelsSought, PixelsWalked, pixels_at}
use Rattle.seeking.specs.Words.{Advanced}
use Rattle.seeking.proofs.OnwardLaws.{Over, run_of}

-- the pixels come one after the other
abbrev pub Increasing : (ℕ → ℕ) → Type 0
Increasing p = (i j : ℕ) → i < j → p i < p j

-- ---- the points, and what follows

-- a walk that finds no point
pub sought-none : {s : List ℕ} {limit n : ℕ} {p : ℕ → ℕ} {t : Seek} {old : List ℕ} {next : Option Next} → next_of s next ≡ sought_all limit (pixels_at old p n) t
    → sought_points limit (pixels_at old p n) t ≡ replicate (length (pixels_at old p n)) false → PixelsSought s limit n p t old old next
sought-none {s} {limit} {n} {p} {t} {old} {next} e f = record {
  size = refl;
  pixels = λ i l.
      sym (ap (λ (b : Bool). row_bit old (p i) || b) (
      ap (λ (k : List Bool). get_or k i false) f
      ∙ get_or-replicate (length (pixels_at old p n)) i false false (omega (arith, length-row (λ i. row_bit old (p i)) 0 n))) ∙ or-false (row_bit old (p i)));
  others = λ x g. refl;
  stands = e;
}

-- over n pixels, and over the m after them
module _ {s : List ℕ} {limit n m : ℕ} {p q : ℕ → ℕ} {t : Seek} {old mid new : List ℕ} {e next : Option Next} (inc : Increasing p)
    (after : (i : ℕ) → i < m → q i ≡ p (n + i)) (a : PixelsSought s limit n p t old mid e) (b : PixelsSought s limit m q (next_of s e) mid new next) where
  marks : List Bool
  marks = sought_points limit (pixels_at old p n) t

  -- the first walk has not changed the pixels of the second
  kept : (i : ℕ) → i < m → row_bit mid (q i) ≡ row_bit old (p (n + i))
  kept i l = ap (row_bit mid) (after i l) ∙ a.others (p (n + i)) (λ j h z. omega (arith, inc j (n + i) (omega arith)))

  pixels_parts : pixels_at old p (n + m) ≡ pixels_at old p n ++ pixels_at mid q m
  pixels_parts =
      row_parts (λ i. row_bit old (p i)) 0 n m
      ∙ ap (λ (l : List Bool). pixels_at old p n ++ l) (ap (λ (i : ℕ). tabulate (λ i. row_bit old (p i)) i m) (zero-add n)
      ∙ sym (row_agree (λ i. row_bit mid (q i)) (λ i. row_bit old (p i)) 0 n m (λ i l. ap (λ (j : ℕ). row_bit mid (q j)) (zero-add i) ∙ kept i l)))

  marks_parts : sought_points limit (pixels_at old p (n + m)) t ≡ marks ++ sought_points limit (pixels_at mid q m) (next_of s e)
  unfolding marks
  marks_parts =
      ap (λ (l : List Bool). sought_points limit l t) pixels_parts ∙ points_append limit (pixels_at old p n) (pixels_at mid q m) t
      ∙ ap (λ (u : Seek). marks ++ sought_points limit (pixels_at mid q m) u) (sym a.stands)

  length-marks : length marks ≡ n
  unfolding marks
  length-marks = length-points limit (pixels_at old p n) t ∙ length-row (λ i. row_bit old (p i)) 0 n

  pixels_more : (i : ℕ) → i < n + m → Dec (i < n)
      → row_bit new (p i) ≡ (row_bit old (p i) || get_or (sought_points limit (pixels_at old p (n + m)) t) i false)
  unfolding marks
  pixels_more i l (yes d) =
      b.others (p i) (λ j h z. omega (arith, after j h, inc i (n + j) (omega arith))) ∙ a.pixels i d
      ∙ ap (λ (v : Bool). row_bit old (p i) || v) (sym (ap (λ (k : List Bool). get_or k i false) marks_parts
      ∙ get_or-append marks (sought_points limit (pixels_at mid q m) (next_of s e)) false i (omega (arith, length-marks))))
  pixels_more i l (no d) =
      let j = i - n in
      let h : j < m = omega arith in
      let z : n + j ≡ i = omega arith in
      let w : length marks + j ≡ i = omega (arith, length-marks) in
      let rest = sought_points limit (pixels_at mid q m) (next_of s e) in
      ap (row_bit new) (ap p (sym z) ∙ sym (after j h)) ∙ b.pixels j h
      ∙ ap₂ ◌||◌ (kept j h ∙ ap (λ (k : ℕ). row_bit old (p k)) z) (sym (ap (λ (k : List Bool). get_or k i false) marks_parts
      ∙ ap (λ (k : ℕ). get_or (marks ++ rest) k false) (sym w) ∙ get_or-append-add marks rest j false))

  pub sought_more : PixelsSought s limit (n + m) p t old new next
  sought_more = record {
    size = b.size ∙ a.size;
    pixels = λ i l. pixels_more i l (dec_lt i n);
    others = λ x f. b.others x (λ j l z. f (n + j) (omega arith) (sym (after j l) ∙ z)) ∙ a.others x (λ i l z. f i (omega arith) z);
    stands = b.stands ∙ ap (sought_all limit (pixels_at mid q m)) a.stands
        ∙ sym (ap (λ (l : List Bool). sought_all limit l t) pixels_parts ∙ sought_append limit (pixels_at old p n) (pixels_at mid q m) t);
  }

-- ---- and how far it has gone

-- no pixel yet
pub walk_none : {limit left : ℕ} (s : List ℕ) (p : ℕ → ℕ) (at : ℕ) (old : List ℕ) → left < limit → PixelsWalked s limit 0 p left at old old (Some (run_of left at))
unfolding tabulate sought_all sought_points
walk_none s p at old l = record { found = sought-none refl refl; moved = (omega arith, l) }

-- two walks, one after the other
moved_more : (next : Option Next) (limit n m left at k j : ℕ) → Advanced limit n left at (Some (run_of k j)) → Advanced limit m k j next → Advanced limit (n + m) left at next
moved_more None limit n m left at k j h g = tt
moved_more (Some (Ended end)) limit n m left at k j h g = omega (arith, h.0)
moved_more (Some (Run run)) limit n m left at k j h g = (omega (arith, h.0, g.0), g.1)

pub walk_more : {s : List ℕ} {limit n m left at k j : ℕ} {p q : ℕ → ℕ} {old mid new : List ℕ} {next : Option Next} → Increasing p
    → ((i : ℕ) → i < m → q i ≡ p (n + i)) → PixelsWalked s limit n p left at old mid (Some (run_of k j)) → PixelsWalked s limit m q k j mid new next
    → PixelsWalked s limit (n + m) p left at old new next
walk_more {s} {limit} {n} {m} {left} {at} {k} {j} {p} {q} {old} {mid} {new} {next} inc after a b = record {
  found = sought_more inc after a.found b.found;
  moved = moved_more next limit n m left at k j a.moved b.moved;
}

-- the same by another name
pub walk_sized : {s : List ℕ} {limit n m left at : ℕ} {p : ℕ → ℕ} {old new : List ℕ} {next : Option Next} → n ≡ m → PixelsWalked s limit n p left at old new next
    → PixelsWalked s limit m p left at old new next
walk_sized {s} {limit} {n} {m} {left} {at} {p} {old} {new} {next} q a = subst (λ (k : ℕ). PixelsWalked s limit k p left at old new next) q a

-- where no run follows the pixels up to w are as they were
pub over_none : (next : Option Next) (s : List ℕ) (limit n : ℕ) (p : ℕ → ℕ) (old : List ℕ) → Over next → PixelsSought s limit n p (next_of s next) old old next
over_none None s limit n p old o = let r = lost_all limit (pixels_at old p n) in sought-none (sym r.0) r.1
over_none (Some (Ended end)) s limit n p old o = let r = ended_all limit (pixels_at old p n) (drop end s) in sought-none (sym r.0) r.1
over_none (Some (Run run)) s limit n p old o = absurd o

moved-over : (next : Option Next) (limit n w left at : ℕ) → n ≤ w → Over next → Advanced limit n left at next → Advanced limit w left at next
moved-over None limit n w left at h o m = tt
moved-over (Some (Ended end)) limit n w left at h o m = omega arith
moved-over (Some (Run run)) limit n w left at h o m = absurd o

pub walk-over : {s : List ℕ} {limit n left at : ℕ} {p : ℕ → ℕ} {old new : List ℕ} {next : Option Next} (w : ℕ) → n ≤ w → Increasing p → Over next
    → PixelsWalked s limit n p left at old new next → PixelsWalked s limit w p left at old new next
walk-over {s} {limit} {n} {left} {at} {p} {old} {new} {next} w h inc o a =
    let z : n + (w - n) ≡ w = omega arith in
    walk_sized z (record {
      found = sought_more inc (λ i l. refl) a.found (over_none next s limit (w - n) (λ i. p (n + i)) new o);
      moved = moved-over next limit n (n + (w - n)) left at (omega arith) o a.moved;
    })
