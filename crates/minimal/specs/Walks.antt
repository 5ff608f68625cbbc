-- One step of the walk, and the walk of a size. Definitions only; proofs/WalkLaws.antt has the laws.
use Rattle.std.specs.Prelude.{Bool, ◌&&◌, cond, false, List, ◌≡◌, ◌*◌, ℕ, length, set}
use Rattle.morphology.specs.Lists.{up_to}
use Rattle.morphology.specs.Minimal.{drop_size}
use Rattle.morphology.specs.Point.{Point}
use Rattle.minimal.specs.Bands.{ink_at}
use Rattle.minimal.specs.Covers.{counts}
use Rattle.minimal.specs.Moves.{CoverMoved, Tells, Twice, below, hits}

-- the plane s, moved from a to place i, counts two or more everywhere: then the point there is gone, and its cover counts one less
pub record StepDone (W H a i : ℕ) (s m c m' c' : List ℕ) : Type 0 where
  pub gone : Bool
  pub tells : Tells gone (Twice (below (W * H) (ink_at W H s)) i a c)
  pub labels : m' ≡ cond gone (set m i 0) m
  pub counters : CoverMoved false (λ x. gone && hits (below (W * H) (ink_at W H s)) i a x) c c'

-- the points of size n that are redundant are dropped, place by place, and the counters are the covers of those left
pub record Walked (W H : ℕ) (B : List Point) (n : ℕ) (m m' c' : List ℕ) : Type 0 where
  pub size : length m' ≡ length m
  pub labels : m' ≡ drop_size W H B n (up_to (W * H)) m
  pub counters : c' ≡ counts W H B m'
