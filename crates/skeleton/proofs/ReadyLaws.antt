-- What the table of refusals lets pass to each operation: the rows that do not hold are what its code asks for.
use mathlib.Core.List.{List, [], ◌∷◌}
use mathlib.Core.Path.{◌≡◌}
use Prim.Native.Nat.{◌*◌, ◌≤◌, ℕ}
use borrow.Author.Tests.{ltb-false}
use lib.Dec.{T}
use lib.ListN.{length}
use Rattle.morphology.specs.Element.{is_element, offsets}
use Rattle.morphology.specs.Image.{plane_bytes}
use Rattle.morphology.specs.Labels.{max_label}
use Rattle.morphology.specs.Operations.{decompose_rows, fold_rows, reconstruct_rows}
use Rattle.morphology.specs.Refusals.{first_refusal, not_places, not_plane, row4, row5, row7, short_work}
use Rattle.morphology.proofs.RefusalLaws.{fits-plane, side-label}
use Rattle.refusals.proofs.SideLaws.{shaped, sides-frame}
use Rattle.iteration.specs.Steps.{Ready}
use Rattle.iteration.proofs.StepLaws.{ready}
use Rattle.reconstruction.specs.Gathered.{Kept}

module _ (W H e : ℕ) where
  pub fold_ready : (n : ℕ) (image out work : List ℕ) → 0 ≡ first_refusal (fold_rows W H e n image out work)
      → Ready W H image out work × T (is_element e)
  fold_ready n image out work q =
      let d = shaped W H e (not_plane W H image ∷ not_plane W H out ∷ short_work W H work ∷ []) (row4 W H image ∷ row7 n ∷ []) tt q in
      let l = d.lengths in
      (ready W H image out work (sides-frame d.sides) l.0 l.1.0 l.1.1.0 d.rest.0, d.element)

  pub decompose_ready : (image labels work : List ℕ) → 0 ≡ first_refusal (decompose_rows W H e image labels work)
      → Ready W H image image work × (W ≤ max_label) × (H ≤ max_label) × (length labels ≡ W * H) × T (is_element e)
  decompose_ready image labels work q =
      let d = shaped W H e (not_plane W H image ∷ not_places W H labels ∷ short_work W H work ∷ []) (row4 W H image ∷ []) tt q in
      let l = d.lengths in (
        ready W H image image work (sides-frame d.sides) l.0 l.0 l.1.1.0 d.rest.0,
        side-label W d.sides.across,
        side-label H d.sides.down,
        fits-plane (length labels) (W * H) l.1.0,
        d.element,
      )

  pub kept_ready : (k : ℕ) (labels image work : List ℕ) → 0 ≡ first_refusal (reconstruct_rows W H e k labels image work)
      → Kept W H e labels image work
  kept_ready k labels image work q =
      let d = shaped W H e (not_places W H labels ∷ not_plane W H image ∷ short_work W H work ∷ []) (row5 W H (offsets e) labels ∷ row7 k ∷ []) tt q in
      let l = d.lengths in
      record {
        frame = sides-frame d.sides;
        labels = record { places = fits-plane (length labels) (W * H) l.0; element = d.element; stays = d.rest.0 };
        image = fits-plane (length image) (plane_bytes W H) l.1.0;
        work = ltb-false (length work) (3 * plane_bytes W H) l.1.1.0;
      }
