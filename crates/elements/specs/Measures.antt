-- How far an offset goes to one side, and how far an element's go to the four. Definitions only; proofs/ExtentLaws.antt has the laws.
use Rattle.std.specs.Prelude.{Bool, false, List, ◌≡◌, ◌≤◌, true, ℕ, ℤ}
use Rattle.morphology.specs.Extent.{above, below, extent}
use Rattle.morphology.specs.Point.{Point}

-- above 0 (forward) or below it
abbrev pub reach : Bool → ℤ → ℕ
reach true d = above d
reach false d = below d

-- along x (across) or y
abbrev pub along : Bool → Point → ℤ
along true b = b.x
along false b = b.y

-- to the right, to the left, down or up
abbrev pub measure : Bool → Bool → Point → ℕ
measure across forward b = reach forward (along across b)

-- how far the offsets B of an element go to the four sides: no further than the square
pub record Reached (left right up down : ℕ) (B : List Point) : Type 0 where
  pub leftward : left ≡ extent (measure true false) B
  pub rightward : right ≡ extent (measure true true) B
  pub upward : up ≡ extent (measure false false) B
  pub downward : down ≡ extent (measure false true) B
  pub left_near : left ≤ 2
  pub right_near : right ≤ 2
  pub up_near : up ≤ 2
  pub down_near : down ≤ 2
