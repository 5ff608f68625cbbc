-- Planes as bytes and as sets: equal, empty, on the frame.
use mathlib.Core.Bool.{Bool, false, not}
use mathlib.Core.List.{List, [], ◌∷◌}
use mathlib.Core.Logic.{◌⊎◌, inl, inr}
use mathlib.Core.Path.{◌∙◌, ◌≡◌, ap, ap₂, refl, subst, sym}
use Prim.Native.Nat.{◌%◌, ◌*◌, ◌+◌, ◌<◌, ◌≤◌, suc, zero, ℕ}
use native.Mathlib.Nat.{zero-add, zero-lt-suc}
use native.Mathlib.Numerals.{add-one}
use native.Mathlib.Omega.{arith}
use lib.Dec.{T, T_not, ltb, ltb→lt}
use lib.ListN.{get_or, length, replicate}
use lib.Pow.{are_bytes}
use Rattle.morphology.specs.Image.{from_bits, image_set, is_clean, ones_of, pack, plane_bytes, stride}
use Rattle.morphology.specs.Labels.{area, place, places}
use Rattle.morphology.specs.Lists.{count_of, some_of, tabulate}
use Rattle.morphology.specs.Point.{Point}
use Rattle.morphology.proofs.AreaLaws.{area-ones}
use Rattle.morphology.proofs.CountLaws.{count_le, count-suc, digit}
use Rattle.morphology.proofs.FrameLaws.{OnFrame}
use Rattle.morphology.proofs.ImageLaws.{bytes-pack, clean-pack, image-pack, length-pack, length-row, pack-image}
use Rattle.morphology.proofs.LabelLaws.{on-places}
use Rattle.morphology.proofs.MorphologyLaws.{◌⊆◌, set_ext}
use Rattle.morphology.proofs.TestLaws.{and_l, and_r, any_in, any_out, decide}

-- ---- sets without a point

abbrev pub Empty : (Point → Bool) → Type 0
Empty X = (z : Point) → T (X z) → ⊥

abbrev pub none : Point → Bool
none z = false

pub empty_eq : (X : Point → Bool) → Empty X → X ≡ none
empty_eq X e = set_ext (λ z t. e z t) (λ z t. absurd t)

pub on_sub : (W H : ℕ) (X Y : Point → Bool) → X ⊆ Y → OnFrame W H Y → OnFrame W H X
on_sub W H X Y f on = record { across = λ p t. on.across p (f p t); down = λ p t. on.down p (f p t) }

pub none_on : (W H : ℕ) → OnFrame W H none
none_on W H = record { across = λ p t. absurd t; down = λ p t. absurd t }

-- ---- planes

-- P bytes with no 1 in a padding bit
pub record Plane (W H : ℕ) (s : List ℕ) : Type 0 where
  pub size : length s ≡ plane_bytes W H
  pub bytes : (i : ℕ) → get_or s i 0 < 256
  pub clean : T (is_clean W H s)

pub byte_lt : (s : List ℕ) (i : ℕ) → T (are_bytes s) → get_or s i 0 < 256
byte_lt [] i t = zero-lt-suc 255
byte_lt (d ∷ s) zero t = ltb→lt d 256 (and_l (ltb d 256) (are_bytes s) t)
byte_lt (d ∷ s) (suc i) t = byte_lt s i (and_r (ltb d 256) (are_bytes s) t)

pub plane-pack : (W H : ℕ) (X : Point → Bool) → OnFrame W H X → Plane W H (pack W H X)
plane-pack W H X on = record {
  size = length-pack W H X;
  bytes = λ i. byte_lt (pack W H X) i (bytes-pack W H X);
  clean = clean-pack W H X on;
}

-- a plane is what its set packs to
pub plane_back : (W H : ℕ) (s : List ℕ) → Plane W H s → pack W H (image_set W H s) ≡ s
plane_back W H s p = pack-image W H s p.size p.bytes p.clean

pub pack_inj : (W H : ℕ) (X Y : Point → Bool) → OnFrame W H X → OnFrame W H Y → pack W H X ≡ pack W H Y → X ≡ Y
pack_inj W H X Y ox oy e = sym (image-pack W H X ox) ∙ ap (image_set W H) e ∙ image-pack W H Y oy

-- ---- planes of zeros

pub bits_none : (i n : ℕ) → from_bits (λ c. false) i n ≡ 0
unfolding from_bits
bits_none i zero = refl
bits_none i (suc n) = omega (arith, bits_none (suc i) n)

pub row_zeros : (f : ℕ → ℕ) (i n : ℕ) → ((k : ℕ) → f k ≡ 0) → tabulate f i n ≡ replicate n 0
unfolding tabulate
row_zeros f i zero h = refl
row_zeros f i (suc n) h = ap₂ (λ (a : ℕ) (l : List ℕ). a ∷ l) (h i) (row_zeros f (suc i) n h)

pub pack-none : (W H : ℕ) → pack W H none ≡ replicate (plane_bytes W H) 0
unfolding pack
pack-none W H = row_zeros (λ i. from_bits (λ c. false) (i % stride W * 8) 8) 0 (H * stride W) (λ i. bits_none (i % stride W * 8) 8)

pub pack-empty : (W H : ℕ) (X : Point → Bool) → Empty X → pack W H X ≡ replicate (plane_bytes W H) 0
pack-empty W H X e = ap (pack W H) (empty_eq X e) ∙ pack-none W H

pub empty-pack : (W H : ℕ) (X : Point → Bool) → OnFrame W H X → pack W H X ≡ replicate (plane_bytes W H) 0 → Empty X
empty-pack W H X on e z t = subst (λ (Y : Point → Bool). T (Y z)) (pack_inj W H X none on (none_on W H) (e ∙ sym (pack-none W H))) t

-- ---- areas

pub area-pack : (W H : ℕ) (X : Point → Bool) → OnFrame W H X → area W H X ≡ ones_of (pack W H X)
area-pack W H X on =
    let p = plane-pack W H X on in
    ap (area W H) (sym (image-pack W H X on)) ∙ area-ones W H (pack W H X) p.size p.bytes p.clean

pub area_le : (W H : ℕ) (X : Point → Bool) → area W H X ≤ W * H
unfolding area places
area_le W H X = subst (λ (n : ℕ). count_of X (places W H) ≤ n) (length-row (place W) 0 (W * H)) (count_le X (places W H))

-- place by place
unfoldable pub area_below : ℕ → (Point → Bool) → ℕ → ℕ
area_below W X i = count_of X (tabulate (place W) 0 i)

pub area-start : (W : ℕ) (X : Point → Bool) → area_below W X 0 ≡ 0
unfolding area_below count_of tabulate
area-start W X = refl

pub area_turn : (W : ℕ) (X : Point → Bool) (i : ℕ) → area_below W X (i + 1) ≡ area_below W X i + digit (X (place W i))
unfolding area_below
area_turn W X i =
    ap (area_below W X) (add-one i) ∙ count-suc X (place W) 0 i ∙ ap (λ (k : ℕ). area_below W X i + digit (X (place W k))) (zero-add i)

pub area_last : (W H : ℕ) (X : Point → Bool) → area_below W X (W * H) ≡ area W H X
unfolding area_below area places
area_last W H X = refl

-- a set on the frame that is not empty has a point
pub some-point : (W H : ℕ) (X : Point → Bool) → OnFrame W H X → (Empty X → ⊥) → (z : Point) × T (X z)
some-point W H X on f = go (decide (some_of X (places W H)))
  where
    go : T (some_of X (places W H)) ⊎ T (not (some_of X (places W H))) → (z : Point) × T (X z)
    go (inl t) = let r = any_out X (places W H) t in (r.0, r.2)
    go (inr t) = absurd (f (λ z u. T_not (some_of X (places W H)) t (any_in X (on-places W H X on z u) u)))
