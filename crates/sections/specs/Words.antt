-- Pixels in words and in rows of bytes. Definitions only; proofs/WordLaws.antt and PlaneLaws.antt have the laws.

use Rattle.std.specs.Prelude.{false, List, [], ◌∷◌, ◌≡◌, ◌*◌, ◌+◌, ◌-◌, ◌<◌, ◌^◌, suc, zero, ℕ}
use Rattle.morphology.specs.Element.{bit}
use Rattle.morphology.specs.Lists.{tabulate}
use Rattle.raster.specs.Rows.{row_bit}
use Rattle.sections.specs.Kinds.{Kind, kind}

-- m pixels of a word of foreground and a word of mask, the highest bit leftmost
unfoldable pub word_kinds : ℕ → ℕ → ℕ → List Kind
word_kinds zero ink mask = []
word_kinds (suc m) ink mask = kind (bit mask m) (bit ink m) ∷ word_kinds m ink mask

-- no three background pixels side by side among m
abbrev pub Dense : ℕ → ℕ → Type 0
Dense m v = (i : ℕ) → i + 2 < m → bit v i ≡ false → bit v (i + 1) ≡ false → bit v (i + 2) ≡ false → ⊥

-- w pixels of a row of foreground at byte a and a row of mask at byte b, from pixel x on
abbrev pub row_kinds : List ℕ → ℕ → ℕ → ℕ → ℕ → List Kind
row_kinds s a b x w = tabulate (λ i. kind (row_bit s (8 * b + i)) (row_bit s (8 * a + i))) x w

-- the m pixels from pixel x on of a run of bytes as a word
pub record Word (s : List ℕ) (x m v : ℕ) : Type 0 where
  pub small : v < 2 ^ m
  pub pixels : (t : ℕ) → t < m → bit v (m - 1 - t) ≡ row_bit s (x + t)
