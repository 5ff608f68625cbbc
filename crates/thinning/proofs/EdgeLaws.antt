-- The edge of the frame cleared in a row.
use mathlib.Core.Bool.{Bool, ◌&&◌, and_assoc, and-false, false}
use mathlib.Core.List.{List}
use mathlib.Core.Path.{◌∙◌, ◌≡◌, ap, sym}
use Prim.Native.Nat.{◌+◌, ◌-◌, ◌≤◌, ℕ}
use native.Mathlib.Omega.{arith}
use borrow.Author.Tests.{le-ltb, lt-leb}
use lib.Dec.{leb, ltb, ltb→lt, lt→ltb}
use lib.ListN.{length, length-replicate, replicate}
use Rattle.morphology.proofs.TestLaws.{T_ext}
use Rattle.raster.specs.Rows.{Pixelwise, row_bit}
use Rattle.neighbours.proofs.NeighbourLaws.{zeros-bit}
use Rattle.thinning.specs.Hits.{inner}

-- the start of a row, then its end
pub ends-cleared : (w : ℕ) (u v t : List ℕ) → 1 ≤ w → Pixelwise u v (λ x b. b && leb 1 x) → Pixelwise v t (λ x b. b && ltb x (w - 1))
    → Pixelwise u t (λ x b. b && inner w x)
ends-cleared w u v t h a b = record {
  size = b.size ∙ a.size;
  pixels = λ x l.
      b.pixels x (omega (arith, a.size)) ∙ ap (λ (c : Bool). c && ltb x (w - 1)) (a.pixels x l) ∙ and_assoc (row_bit u x) (leb 1 x) (ltb x (w - 1))
      ∙ ap (λ (c : Bool). row_bit u x && (leb 1 x && c)) (last x);
}
  where
    last : (x : ℕ) → ltb x (w - 1) ≡ ltb (x + 1) w
    last x = T_ext (λ t. lt→ltb (x + 1) w (omega (arith, ltb→lt x (w - 1) t))) (λ t. lt→ltb x (w - 1) (omega (arith, ltb→lt (x + 1) w t)))

-- all of a row that is the first or the last
pub row-cleared : (w h y : ℕ) (u v : List ℕ) → inner h y ≡ false → v ≡ replicate (length u) 0 → Pixelwise u v (λ x b. b && (inner w x && inner h y))
row-cleared w h y u v e q = record {
  size = ap length q ∙ length-replicate (length u) 0;
  pixels = λ x l.
      ap (λ (s : List ℕ). row_bit s x) q ∙ zeros-bit (length u) x
      ∙ sym (ap (λ (b : Bool). row_bit u x && (inner w x && b)) e ∙ ap (λ (b : Bool). row_bit u x && b) (and-false (inner w x)) ∙ and-false (row_bit u x));
}

-- which rows these are
pub first-row : (h y : ℕ) → y ≡ 0 → inner h y ≡ false
first-row h y e = ap (λ (b : Bool). b && ltb (y + 1) h) (lt-leb 1 y (omega arith))

pub last_row : (h y : ℕ) → y + 1 ≡ h → inner h y ≡ false
last_row h y e = ap (λ (b : Bool). leb 1 y && b) (le-ltb (y + 1) h (omega arith)) ∙ and-false (leb 1 y)
