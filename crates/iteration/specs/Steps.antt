-- What the steps of an operation leave in work. Definitions only; proofs/StepLaws.antt has the laws.
use Rattle.std.specs.Prelude.{Bool, List, ◌++◌, ◌≡◌, ◌*◌, ◌+◌, ◌/◌, ◌≤◌, ℕ, T, drop, length, replicate, take}
use Rattle.morphology.specs.Image.{is_clean, ones_of, pack, plane_bytes}
use Rattle.morphology.specs.InTurn.{in_turn}
use Rattle.morphology.specs.Labels.{area}
use Rattle.morphology.specs.Operations.{cleared}
use Rattle.morphology.specs.Point.{Point}
use Rattle.raster.specs.Frames.{Frame}

-- the first plane of new is S; from the third on new is old
pub record First (W H p : ℕ) (S : Point → Bool) (old new : List ℕ) : Type 0 where
  pub size : length new ≡ length old
  pub first : take p new ≡ pack W H S
  pub rest : drop (2 * p) new ≡ drop (2 * p) old

-- a plane is handed out: its ones are answered, and work is 0 up to its end
pub record HandedOut (p : ℕ) (plane : List ℕ) (n : ℕ) (out work work' : List ℕ) : Type 0 where
  pub answer : n ≡ ones_of plane
  pub image : out ≡ plane
  pub left : work' ≡ replicate (3 * p) 0 ++ drop (3 * p) work

-- S is written into out, its area answered, and work cleared
pub record Wrote (W H : ℕ) (S : Point → Bool) (n : ℕ) (out work work' : List ℕ) : Type 0 where
  pub answer : n ≡ area W H S
  pub image : out ≡ pack W H S
  pub left : work' ≡ cleared W H work

-- dilated n times, clipped at the frame each time
abbrev pub dilated : ℕ → ℕ → List Point → ℕ → (Point → Bool) → (Point → Bool)
dilated W H B n X = in_turn W H (replicate n B) X

-- an image and buffers that the rows 1, 3 and 4 let pass
pub record Ready (w h : ℕ) (s o k : List ℕ) : Type 0 where
  pub frame : Frame w h ((w + 7) / 8)
  pub image : length s ≡ plane_bytes w h
  pub out : length o ≡ plane_bytes w h
  pub work : 3 * plane_bytes w h ≤ length k
  pub clean : T (is_clean w h s)
