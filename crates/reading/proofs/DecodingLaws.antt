-- The reader whole: what is enough for its first rows, and what an accepted code is read as.
use mathlib.Core.Bool.{Bool, ◌&&◌}
use mathlib.Core.List.{List, [], ◌∷◌}
use mathlib.Core.Option.{Option}
use mathlib.Core.Path.{◌∙◌, ◌≡◌, ap}
use Prim.Native.Nat.{◌*◌, ◌≤◌, ℕ}
use borrow.Author.Tests.{le-ltb}
use lib.Dec.{T}
use lib.ListN.{length}
use Rattle.reading.specs.Decoding.{decode_rows, decoded, decoding}
use Rattle.reading.specs.Maps.{code_rows, code_set}
use Rattle.reading.proofs.OwnLaws.{Accepts}
use Rattle.morphology.specs.Answers.{Outcome, foreground, outcome}
use Rattle.morphology.specs.Element.{is_element, offsets}
use Rattle.morphology.specs.Image.{pack, plane_bytes}
use Rattle.morphology.specs.Labels.{area}
use Rattle.morphology.specs.Operations.{cleared_planes}
use Rattle.morphology.specs.Point.{Point}
use Rattle.morphology.specs.Refusals.{first_refusal, is_side, not_plane, short_planes}
use Rattle.morphology.proofs.RefusalLaws.{first_clear, lengths_in, not-T-false, plane-fits, unless_in}

module _ (W H e : ℕ) (target work : List ℕ) (sides : T (is_side W && is_side H)) (el : T (is_element e)) (fits : length target ≡ plane_bytes W H)
    (enough : 5 * plane_bytes W H ≤ length work) where
  -- no row before those of the stream holds
  pub decode-passes : first_refusal (decode_rows W H e target work) ≡ 0
  decode-passes =
      first_clear (decode_rows W H e target work) (
        not-T-false (is_side W && is_side H) sides,
        (
          not-T-false (is_element e) el,
          (
            lengths_in (not_plane W H target ∷ short_planes 5 W H work ∷ [])
                (plane-fits (length target) (plane_bytes W H) fits, (le-ltb (length work) (5 * plane_bytes W H) enough, tt)),
            tt,
          ),
        ),
      )

  -- a code that is accepted with X is read as X
  pub accepted-decoded : (n : Option ℕ) (bytes : List ℕ) (X : Point → Bool) → Accepts W H (offsets e) n bytes X
      → decoded W H e n bytes target work ≡ outcome (foreground (area W H X)) (pack W H X ∷ cleared_planes 5 W H work ∷ [])
  unfolding decoded
  accepted-decoded n bytes X a =
      let B = offsets e in
      let w = cleared_planes 5 W H work in
      let written : (Point → Bool) → Outcome = λ Y. outcome (foreground (area W H Y)) (pack W H Y ∷ w ∷ []) in
      let read = decoding W H (code_rows W H B n bytes) (code_set W H B n bytes) target work in
      unless_in (first_refusal (decode_rows W H e target work)) (target ∷ work ∷ []) read decode-passes
      ∙ unless_in (first_refusal (code_rows W H B n bytes)) (target ∷ w ∷ []) (written (code_set W H B n bytes)) a.passes
      ∙ ap (λ (Y : Point → Bool). outcome (foreground (area W H Y)) (pack W H Y ∷ w ∷ [])) a.image
