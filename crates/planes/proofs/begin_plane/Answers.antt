-- `planes::begin_plane` meets its contract. The copy of the first plane is what the origin asks for, in an erosion and in a dilation.
use mathlib.Core.Path.{refl}
use Prim.Native.Nat.{◌*◌}
use native.Mathlib.Omega.{arith}
use Rattle.planes.proofs.CentreLaws.{begun_copy, origin-bit}
use Rattle.planes.proofs.begin_plane.Goals as goal

pub overflow_sub-result : goal.overflow_sub-result
overflow_sub-result c = omega (arith, origin-bit c.args.element c.requires.2)

pub returns : goal.returns
returns c t =
    let a = c.args in
    begun_copy t a.q a.f.r a.f.h a.element (a.f.h * a.f.r) a.work.now _ refl (origin-bit a.element c.requires.2) c.copy_up.ensures
