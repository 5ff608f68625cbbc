-- `refusals::plane_bytes` meets its contract.
use mathlib.Core.Path.{refl}
use Rattle.morphology.specs.Image.{stride}
use Rattle.refusals.proofs.plane_bytes.Goals as goal

pub returns : goal.returns
unfolding stride
returns c = refl
