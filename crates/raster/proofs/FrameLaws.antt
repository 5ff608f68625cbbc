-- Frames as the struct has them.
use Rattle.std.proofs.Common.{◌*◌, ◌≤◌, ℕ, arith}
use Rattle.std.proofs.Math.Nat.{mul-le-mul}
use Rattle.raster.specs.Frames.{Frame}
use Rattle.raster.specs.Limits.{max_frame, max_stride}
use Rattle.raster.proofs.PackLaws.{frame_row}

-- a plane has few bytes
pub plane-few : {w h r : ℕ} → Frame w h r → h * r ≤ max_frame * max_stride
plane-few {h = h} {r = r} f = omega (arith, mul-le-mul f.down (frame_row f).3)
