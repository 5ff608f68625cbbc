-- Frames as the code has them. Definitions only; proofs/PackLaws.antt has the laws.
use Rattle.std.specs.Prelude.{◌≡◌, ◌*◌, ◌≤◌, ℕ}
use Rattle.morphology.specs.Image.{stride}
use Rattle.raster.specs.Limits.{max_frame}

-- w and h are sides, r is a row's bytes
pub record Frame (w h r : ℕ) : Type 0 where
  pub wide : 1 ≤ w
  pub across : w ≤ max_frame
  pub down : h ≤ max_frame
  pub row : r ≡ stride w

-- w and h are sides, r is a row's bytes, p a plane's
pub record Sheet (w h r p : ℕ) : Type 0 where
  pub frame : Frame w h r
  pub plane : p ≡ h * r
