-- A dilation that is not refused: what its code asks for, and its outcome.
use mathlib.Core.Bool.{Bool}
use mathlib.Core.List.{List, [], ◌∷◌}
use mathlib.Core.Path.{◌∙◌, ◌≡◌, ap₂, sym}
use Prim.Native.Nat.{ℕ}
use lib.Dec.{T}
use Rattle.morphology.specs.Answers.{outcome}
use Rattle.morphology.specs.Element.{is_element, offsets}
use Rattle.morphology.specs.Falls.{falls_off}
use Rattle.morphology.specs.Image.{clip, image_set}
use Rattle.morphology.specs.Morphology.{dilate}
use Rattle.morphology.specs.Refusals.{first_refusal, not_plane, row4, short_work}
use Rattle.morphology.proofs.RefusalLaws.{unless_in}
use Rattle.refusals.proofs.SideLaws.{shaped, sides-frame}
use Rattle.iteration.specs.Steps.{Ready, Wrote}
use Rattle.iteration.proofs.StepLaws.{ready}
use Rattle.dilation.specs.Dilation.{dilate_rows, dilated, grown, spreads}

module _ (W H e : ℕ) (image out work : List ℕ) (q : 0 ≡ first_refusal (dilate_rows W H e image out work)) where
  pub dilate_ready : Ready W H image out work × T (is_element e)
  dilate_ready =
      let d = shaped W H e (not_plane W H image ∷ not_plane W H out ∷ short_work W H work ∷ []) (row4 W H image ∷ []) tt q in
      let l = d.lengths in
      (ready W H image out work (sides-frame d.sides) l.0 l.1.0 l.1.1.0 d.rest.0, d.element)

  pub dilate_done : (n : ℕ) (fell : Bool) (out' work' : List ℕ) → Wrote W H (clip W H (dilate (offsets e) (image_set W H image))) n out' work work'
      → fell ≡ falls_off W H (offsets e) (image_set W H image) → outcome (grown n fell) (out' ∷ work' ∷ []) ≡ dilated W H e image out work
  unfolding dilated
  dilate_done n fell out' work' h f =
      ap₂ (λ (k : ℕ) (b : Bool). outcome (grown k b) (out' ∷ work' ∷ [])) h.answer f
      ∙ ap₂ (λ (o w : List ℕ). outcome (spreads W H e (image_set W H image) work).answer (o ∷ w ∷ [])) h.image h.left
      ∙ sym (unless_in (first_refusal (dilate_rows W H e image out work)) (out ∷ work ∷ []) (spreads W H e (image_set W H image) work) (sym q))
