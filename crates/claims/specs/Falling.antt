-- The claims of 02 about ink that falls off the sheet when it is grown (T-06). Definitions only; proofs/Falling.antt proves each.
use Rattle.std.specs.Prelude.{◌||◌, false, List, ◌∷◌, ◌↔◌, ◌≡◌, ℕ, T}
use Rattle.claims.specs.Formula.{Dilated, Ink, Offset, Set, Within}
use Rattle.morphology.specs.Element.{offsets}
use Rattle.morphology.specs.Falls.{falls_off}
use Rattle.morphology.specs.Image.{clip, image_set}
use Rattle.morphology.specs.InTurn.{Centred, in_turn, together}
use Rattle.morphology.specs.Morphology.{dilate}
use Rattle.morphology.specs.Point.{Point}

-- a grown point lies outside of the sheet
abbrev pub FellOff : ℕ → ℕ → Set → Set → Type 0
FellOff W H B X = (z : Point) × Dilated B X z × (Within W H z → ⊥)

-- The growing step says yes exactly when a grown point fell outside of the sheet: of any element's number, with its origin or without, any sides and any bytes.
abbrev pub SaysWhatFell : Type 0
SaysWhatFell = (W H e : ℕ) (image : List ℕ) → T (falls_off W H (offsets e) (image_set W H image)) ↔ FellOff W H (Offset e) (Ink W H image)

-- It says no exactly when nothing is cut off.
abbrev pub NoMeansWhole : Type 0
NoMeansWhole =
    (W H e : ℕ) (image : List ℕ)
    → let X = image_set W H image in (falls_off W H (offsets e) X ≡ false) ↔ (clip W H (dilate (offsets e) X) ≡ dilate (offsets e) X)

-- Grown by elements in turn, each with the origin, and cut off at the sheet each time.
pub record AsOne (W H : ℕ) (B : List Point) (Bs : List (List Point)) (image : List ℕ) : Type 0 where
  -- a point falls off in one of the turns exactly when one does of all the elements together
  pub falls : let X = image_set W H image in falls_off W H (together (B ∷ Bs)) X ≡ (falls_off W H (together Bs) X || falls_off W H B (in_turn W H Bs X))
  -- where none does, in no turn is anything cut off, and the last of them leaves what growing by all of them together would
  pub whole :
      let X = image_set W H image in
      falls_off W H (together (B ∷ Bs)) X ≡ false → (falls_off W H B (in_turn W H Bs X) ≡ false) × (in_turn W H (B ∷ Bs) X ≡ dilate (together (B ∷ Bs)) X)

abbrev pub TurnsAreOne : Type 0
TurnsAreOne = (W H : ℕ) (B : List Point) (Bs : List (List Point)) → Centred (B ∷ Bs) → (image : List ℕ) → AsOne W H B Bs image
