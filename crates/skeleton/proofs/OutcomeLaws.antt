-- What an operation that is not refused leaves is its outcome.
use mathlib.Core.Bool.{Bool}
use mathlib.Core.List.{List, [], ◌∷◌}
use mathlib.Core.Path.{◌∙◌, ◌≡◌, ap, ap₂, sym}
use Prim.Native.Nat.{ℕ}
use lib.Dec.{T}
use Rattle.morphology.specs.Answers.{Answer, foreground, outcome}
use Rattle.morphology.specs.Element.{is_element, offsets}
use Rattle.morphology.specs.Image.{image_set}
use Rattle.morphology.specs.Labels.{area, points_of}
use Rattle.morphology.specs.Operations.{cleared, decompose_rows, decomposed, labelled, writes}
use Rattle.morphology.specs.Point.{Point}
use Rattle.morphology.specs.Refusals.{Row, checked, first_refusal}
use Rattle.morphology.specs.Skeleton.{skeleton_labels}
use Rattle.morphology.proofs.DecomposeLaws.{turns-outcome, turns_answer}
use Rattle.morphology.proofs.ElementLaws.{element}
use Rattle.morphology.proofs.ImageLaws.{image_on}
use Rattle.morphology.proofs.RefusalLaws.{unless_in}
use Rattle.iteration.specs.Steps.{Wrote}
use Rattle.decomposition.specs.Turns.{Finished}

-- an image written
pub writes_done : (rows : List Row) (W H : ℕ) (X : Point → Bool) (out work : List ℕ) (n : ℕ) (out' work' : List ℕ) → 0 ≡ first_refusal rows → Wrote W H X n out' work work'
    → outcome (foreground n) (out' ∷ work' ∷ []) ≡ checked rows (out ∷ work ∷ []) (writes W H X work)
writes_done rows W H X out work n out' work' q h =
    ap (λ (k : ℕ). outcome (foreground k) (out' ∷ work' ∷ [])) h.answer
    ∙ ap₂ (λ (o w : List ℕ). outcome (foreground (area W H X)) (o ∷ w ∷ [])) h.image h.left
    ∙ sym (unless_in (first_refusal rows) (out ∷ work ∷ []) (writes W H X work) (sym q))

-- labels written, after the last turn
pub finished-outcome : (W H e : ℕ) → T (is_element e) → (image labels₀ work labels work' : List ℕ) (n found : ℕ) (a : Answer) → 0 ≡ first_refusal (decompose_rows W H e image labels₀ work)
    → Finished W H (offsets e) (image_set W H image) n labels found → work' ≡ cleared W H work → a ≡ turns_answer n found
    → outcome a (labels ∷ work' ∷ []) ≡ decomposed W H e image labels₀ work
unfolding decomposed
finished-outcome W H e el image labels₀ work labels work' n found a q f ew ea =
    let X = image_set W H image in
    let B = offsets e in
    sym (unless_in (first_refusal (decompose_rows W H e image labels₀ work)) (labels₀ ∷ work ∷ []) (labelled W H (skeleton_labels W H B X) work) (sym q)
    ∙ turns-outcome W H B (element e el) X (image_on W H image) n work (λ k p g. let y = f.before k p in g y.0 y.1) f.gone
    ∙ ap₂ (λ (k : ℕ) (m : List ℕ). outcome (turns_answer n k) (m ∷ cleared W H work ∷ [])) (sym (f.points ∙ ap points_of f.below)) (sym f.below)
    ∙ ap₂ (λ (b : Answer) (m : List ℕ). outcome b (labels ∷ m ∷ [])) (sym ea) (sym ew))
