-- Planes changed row by row, and rows within a plane.
use mathlib.Core.Bool.{Bool}
use mathlib.Core.List.{List, ◌++◌}
use mathlib.Core.Path.{◌∙◌, ◌≡◌, ap, refl, subst, sym}
use Prim.Native.Nat.{◌*◌, ◌+◌, ◌/◌, ◌<◌, ◌≤◌, ℕ}
use native.Mathlib.Decide.{dec_lt}
use native.Mathlib.Nat.{le_refl, not-suc-le-zero, suc-mul}
use native.Mathlib.Numerals.{add-one}
use native.Mathlib.Omega.{arith}
use lib.ListN.{drop, length, take}
use Rattle.raster.specs.Rows.{Pixelwise, PlaneIs, RowIs, row_bit}
use Rattle.raster.proofs.PartLaws.{pixelwise-part}
use Rattle.raster.proofs.RowLaws.{row_in, row_bit-same}

pub plane-same : {p r m : ℕ} {old new : List ℕ} {g g' : ℕ → ℕ → Bool} → PlaneIs p r m old new g → ((y x : ℕ) → y < m → g y x ≡ g' y x)
    → PlaneIs p r m old new g'
plane-same a e = record { size = a.size; before = a.before; after = a.after; pixels = λ y x l k. a.pixels y x l k ∙ e y x l }

-- ---- a plane changed row by row: g y x of pixel x of row y

pub rows_none : (p r : ℕ) (v : List ℕ) (g : ℕ → ℕ → Bool → Bool) → PlaneIs p r 0 v v (λ y x. g y x (row_bit v (8 * (p + y * r) + x)))
rows_none p r v g = record { size = refl; before = λ j z. refl; after = λ j z. refl; pixels = λ y x a b. absurd (not-suc-le-zero a) }

-- one row more
pub rows_more : (p r m : ℕ) (u v v' : List ℕ) (g : ℕ → ℕ → Bool → Bool) → PlaneIs p r m u v (λ y x. g y x (row_bit u (8 * (p + y * r) + x)))
    → RowIs (p + m * r) r v v' (λ x. g m x (row_bit v (8 * (p + m * r) + x)))
    → PlaneIs p r (m + 1) u v' (λ y x. g y x (row_bit u (8 * (p + y * r) + x)))
rows_more p r m u v v' g a b =
    let n : (m + 1) * r ≡ m * r + r = ap (λ (k : ℕ). k * r) (add-one m) ∙ suc-mul m r in
    record {
      size = b.size ∙ a.size;
      before = λ j z. b.before j (omega arith) ∙ a.before j z;
      after = λ j z. b.after j (omega arith) ∙ a.after j (omega arith);
      pixels = λ y x c d. by y x (dec_lt y m) c d;
    }
  where
    by : (y x : ℕ) → Dec (y < m) → y < m + 1 → x < 8 * r → row_bit v' (8 * (p + y * r) + x) ≡ g y x (row_bit u (8 * (p + y * r) + x))
    by y x (yes c) d e =
        let i = row_in y m r (m * r) c (le_refl (m * r)) in
        row_bit-same v' v (8 * (p + y * r) + x) (b.before ((8 * (p + y * r) + x) / 8) (omega (arith, i))) ∙ a.pixels y x c e
    by y x (no c) d e =
        let q : y ≡ m = omega arith in
        ap (λ (n : ℕ). row_bit v' (8 * (p + n * r) + x)) q ∙ b.pixels x e
        ∙ ap (g m x) (row_bit-same v u (8 * (p + m * r) + x) (a.after ((8 * (p + m * r) + x) / 8) (omega arith)))
        ∙ ap (λ (n : ℕ). g n x (row_bit u (8 * (p + n * r) + x))) (sym q)

-- and that row taken out of the buffer, changed, and put back
pub rows_put : (p r m k d : ℕ) (u v ys : List ℕ) (g : ℕ → ℕ → Bool → Bool) → d ≡ p + m * r → k ≡ r → d + r ≤ length v
    → PlaneIs p r m u v (λ y x. g y x (row_bit u (8 * (p + y * r) + x))) → Pixelwise (take k (drop d v)) ys (g m)
    → PlaneIs p r (m + 1) u (take d v ++ (ys ++ drop k (drop d v))) (λ y x. g y x (row_bit u (8 * (p + y * r) + x)))
rows_put p r m k d u v ys g ed ek h a b =
    let v' = take d v ++ (ys ++ drop k (drop d v)) in
    rows_more p r m u v v' g a (subst (λ (n : ℕ). RowIs n r v v' (λ x. g m x (row_bit v (8 * n + x)))) ed (pixelwise-part d r k v ys (g m) ek h b))
