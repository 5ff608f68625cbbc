-- What the table of refusals lets pass to hit-or-miss and thinning: the rows that do not hold are what their code asks for.
use mathlib.Core.List.{List, [], ◌∷◌}
use mathlib.Core.Path.{◌≡◌, subst, sym}
use Prim.Native.Nat.{◌+◌, ◌/◌, ◌<◌, ◌^◌, ℕ}
use lib.Dec.{T}
use lib.ListN.{length}
use Rattle.morphology.specs.Element.{is_mask}
use Rattle.morphology.specs.Image.{is_clean, plane_bytes}
use Rattle.morphology.specs.Operations.{hit_rows, thin_rows}
use Rattle.morphology.specs.Refusals.{first_refusal, not_plane, short_work}
use Rattle.morphology.proofs.RefusalLaws.{T_of-not, clear-out, fits-plane, lengths-out}
use Rattle.raster.specs.Frames.{Frame}
use Rattle.raster.proofs.PackLaws.{frame-bytes}
use Rattle.refusals.proofs.SideLaws.{sides-frame, sides_of}
use Rattle.iteration.specs.Steps.{Ready}
use Rattle.iteration.proofs.StepLaws.{frame-sheet, ready, sheet-small}

-- ---- hit-or-miss

pub record HitReady (W H fg bg : ℕ) (s o : List ℕ) : Type 0 where
  pub frame : Frame W H ((W + 7) / 8)
  pub small : plane_bytes W H < 2 ^ 20
  pub image : length s ≡ plane_bytes W H
  pub out : length o ≡ plane_bytes W H
  pub clean : T (is_clean W H s)
  pub mask : T (is_mask (fg, bg))

pub hit_ready : (W H fg bg : ℕ) (image out : List ℕ) → 0 ≡ first_refusal (hit_rows W H (fg, bg) image out) → HitReady W H fg bg image out
hit_ready W H fg bg image out q =
    let c = clear-out (hit_rows W H (fg, bg) image out) tt (sym q) in
    let l = lengths-out (not_plane W H image ∷ not_plane W H out ∷ []) c.1.0 in
    let f = sides-frame (sides_of W H c.0) in
    record {
      frame = f;
      small = subst (λ (p : ℕ). p < 2 ^ 20) (frame-bytes f) (sheet-small (frame-sheet f));
      image = fits-plane (length image) (plane_bytes W H) l.0;
      out = fits-plane (length out) (plane_bytes W H) l.1.0;
      clean = T_of-not (is_clean W H image) c.1.1.0;
      mask = T_of-not (is_mask (fg, bg)) c.1.1.1.0;
    }

-- ---- thinning

pub thin_ready : (W H : ℕ) (image work : List ℕ) → 0 ≡ first_refusal (thin_rows W H image work) → Ready W H image image work
thin_ready W H image work q =
    let c = clear-out (thin_rows W H image work) tt (sym q) in
    let l = lengths-out (not_plane W H image ∷ short_work W H work ∷ []) c.1.0 in
    ready W H image image work (sides-frame (sides_of W H c.0)) l.0 l.0 l.1.0 c.1.1.0
