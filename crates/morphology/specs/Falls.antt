-- Whether a dilation leaves the frame ("ink falls off" in 02). Definitions only; proofs/FallsLaws.antt has the laws.
use Rattle.std.specs.Prelude.{Bool, ◌&&◌, not, List, ℕ}
use Rattle.morphology.specs.Image.{on_frame}
use Rattle.morphology.specs.Labels.{places}
use Rattle.morphology.specs.Lists.{some_of}
use Rattle.morphology.specs.Point.{Point, ◌⊞◌}

-- some point of X on the frame, moved by an offset of B, is off the frame
unfoldable pub falls_off : ℕ → ℕ → List Point → (Point → Bool) → Bool
falls_off W H B X = some_of (λ p. X p && some_of (λ b. not (on_frame W H (p ⊞ b))) B) (places W H)
