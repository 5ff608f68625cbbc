-- Minimisation whole: what it begins with and what it leaves.
use Rattle.std.specs.Prelude.{false, List, ◌≡◌, ◌*◌, ◌≤◌, ℕ, T, length, replicate}
use Rattle.morphology.specs.Element.{is_element, offsets}
use Rattle.morphology.specs.Image.{plane_bytes}
use Rattle.morphology.specs.Labels.{points_of}
use Rattle.morphology.specs.Minimal.{minimal_labels}
use Rattle.morphology.specs.Operations.{cleared}
use Rattle.morphology.specs.Refusals.{is_wild, max_side}

-- what the rows 1, 2, 3 and 5 let pass
pub record Passed (W H e : ℕ) (m w c : List ℕ) : Type 0 where
  pub wide : 1 ≤ W
  pub across : W ≤ max_side
  pub high : 1 ≤ H
  pub down : H ≤ max_side
  pub element : T (is_element e)
  pub places : length m ≡ W * H
  pub planes : 3 * plane_bytes W H ≤ length w
  pub counters : length c ≡ W * H
  pub stays : is_wild W H (offsets e) m ≡ false

-- the labels left and their number; work and counters cleared
pub record Shortened (W H e : ℕ) (m w : List ℕ) (n : ℕ) (m' w' c' : List ℕ) : Type 0 where
  pub labels : m' ≡ minimal_labels W H (offsets e) m
  pub points : n ≡ points_of m'
  pub work : w' ≡ cleared W H w
  pub counters : c' ≡ replicate (W * H) 0
