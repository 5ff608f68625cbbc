-- `refusals::bad_padding` meets its contract.
use mathlib.Core.Path.{refl}
use native.Mathlib.Omega.{arith}
use lib.ListN.{length}
use Rattle.morphology.specs.Image.{plane_bytes, stride}
use Rattle.morphology.proofs.RefusalLaws.{fits-plane}
use Rattle.refusals.proofs.SideLaws.{sides_of}
use Rattle.refusals.proofs.bad_padding.Goals as goal

pub is_clean-requires : goal.is_clean-requires
unfolding stride
is_clean-requires c =
    let a = c.args in
    let q = sides_of a.w a.h c.requires.0 in
    let f = fits-plane (length a.s.now) (plane_bytes a.w a.h) c.requires.1 in
    (refl, omega arith, q.wide, omega (arith, q.across))
