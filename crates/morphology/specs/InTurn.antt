-- Dilations one after the other, each clipped at the frame. Definitions only; proofs/InTurnLaws.antt has the laws.
use Rattle.std.specs.Prelude.{Bool, ℕ}
use mathlib.Core.List.{List, Memᴰ, [], ◌∷◌}
use Rattle.morphology.specs.Image.{clip}
use Rattle.morphology.specs.Morphology.{dilate, minkowski}
use Rattle.morphology.specs.Point.{Point, origin}

-- the sum of elements; of none, the origin alone
unfoldable pub together : List (List Point) → List Point
together [] = origin ∷ []
together (B ∷ Bs) = minkowski (together Bs) B

-- dilated by each of them, the last one first, and clipped at the frame each time
unfoldable pub in_turn : ℕ → ℕ → List (List Point) → (Point → Bool) → (Point → Bool)
in_turn W H [] X = X
in_turn W H (B ∷ Bs) X = clip W H (dilate B (in_turn W H Bs X))

-- the origin is in each
abbrev pub Centred : List (List Point) → Type 0
Centred Bs = (B : List Point) → Memᴰ B Bs → Memᴰ origin B
