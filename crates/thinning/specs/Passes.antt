-- What steps and passes of thinning leave. Definitions only; proofs/PassLaws.antt and EndLaws.antt have the laws.
use Rattle.std.specs.Prelude.{List, ◌≡◌, ◌-◌, suc, ℕ, drop, length}
use Rattle.morphology.specs.Image.{image_set}
use Rattle.morphology.specs.Labels.{area}
use Rattle.morphology.specs.Thinning.{Thinned, thin_passes}

-- the image is s, and work is as it was from its second plane on
pub record Leaves (p : ℕ) (s t work work' : List ℕ) : Type 0 where
  pub image : t ≡ s
  pub size : length work' ≡ length work
  pub rest : drop p work' ≡ drop p work

-- thinning of s has left t, after n passes with the idle one; k points are removed, l are left; work is as it was from its second plane on
pub record Ended (W H p : ℕ) (s t work work' : List ℕ) (n k l : ℕ) : Type 0 where
  pub thinned : ◌≡◌ {A = Thinned} (thin_passes (suc (area W H (image_set W H s))) W H s) (record { image = t; passes = n })
  pub removed : k ≡ area W H (image_set W H s) - area W H (image_set W H t)
  pub left : l ≡ area W H (image_set W H t)
  pub size : length work' ≡ length work
  pub rest : drop p work' ≡ drop p work
