-- `refusals::short_planes` meets its contract.
use Prim.Native.Nat.{◌≤◌}
use native.Mathlib.Nat.{mul-le-mul_right}
use native.Mathlib.Omega.{arith}
use Rattle.morphology.specs.Image.{stride}
use Rattle.refusals.proofs.SideLaws.{plane_lt}
use Rattle.refusals.proofs.short_planes.Goals as goal

pub overflow_mul-result : goal.overflow_mul-result
unfolding stride
overflow_mul-result c =
    let few : c.args.k ≤ 7 = omega (arith, c.requires) in
    omega (arith, mul-le-mul_right c.plane_bytes.result few, c.plane_bytes.ensures, plane_lt c.args.w c.args.h (omega arith) (omega arith))
