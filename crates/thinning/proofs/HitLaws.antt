-- Hit-or-miss by an accepted mask lies on the frame, and is what is promised.
use mathlib.Core.Bool.{Bool}
use mathlib.Core.List.{List, [], ◌∷◌}
use mathlib.Core.Path.{◌∙◌, ◌≡◌, ap, ap₂, sym}
use Prim.Native.Nat.{ℕ}
use lib.Dec.{T}
use Rattle.morphology.specs.Answers.{foreground, outcome}
use Rattle.morphology.specs.Element.{is_mask}
use Rattle.morphology.specs.Image.{image_set, ones_of, pack}
use Rattle.morphology.specs.Labels.{area}
use Rattle.morphology.specs.Operations.{hit_or_miss, hit_rows}
use Rattle.morphology.specs.Point.{Point}
use Rattle.morphology.specs.Refusals.{first_refusal}
use Rattle.morphology.specs.Thinning.{hit}
use Rattle.morphology.proofs.FrameLaws.{OnFrame}
use Rattle.morphology.proofs.ImageLaws.{image_on}
use Rattle.morphology.proofs.PlaneLaws.{area-pack, on_sub}
use Rattle.morphology.proofs.RefusalLaws.{unless_in}
use Rattle.morphology.proofs.ThinningLaws.{hit-part}

pub hit_on : (W H : ℕ) (m : ℕ × ℕ) → T (is_mask m) → (X : Point → Bool) → OnFrame W H X → OnFrame W H (hit W H m X)
hit_on W H m t X on = on_sub W H (hit W H m X) X (hit-part W H m t X) on

-- ---- the promise of hit-or-miss

pub hit-outcome : (W H : ℕ) (m : ℕ × ℕ) (image out s : List ℕ) (n : ℕ) → T (is_mask m) → first_refusal (hit_rows W H m image out) ≡ 0
    → s ≡ pack W H (hit W H m (image_set W H image)) → n ≡ ones_of s → outcome (foreground n) (s ∷ []) ≡ hit_or_miss W H m image out
unfolding hit_or_miss
hit-outcome W H m image out s n t z q k =
    let X = hit W H m (image_set W H image) in
    sym (unless_in (first_refusal (hit_rows W H m image out)) (out ∷ []) (outcome (foreground (area W H X)) (pack W H X ∷ [])) z
    ∙ ap₂ (λ (n : ℕ) (r : List ℕ). outcome (foreground n) (r ∷ []))
    (area-pack W H X (hit_on W H m t (image_set W H image) (image_on W H image)) ∙ ap ones_of (sym q) ∙ sym k) (sym q))
