-- Dilation and erosion by one name. Definitions only; proofs/SetLaws.antt has the laws.
use Rattle.std.specs.Prelude.{Bool, false, true, List}
use Rattle.morphology.specs.Morphology.{dilate, erode}
use Rattle.morphology.specs.Point.{Point}

-- dilation (true) or erosion (false)
abbrev pub morphed : Bool → List Point → (Point → Bool) → (Point → Bool)
morphed true B X = dilate B X
morphed false B X = erode B X
