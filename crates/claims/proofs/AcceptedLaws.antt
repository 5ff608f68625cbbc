-- A call that is not refused: no row holds, and the outcome is the success.
use mathlib.Core.List.{List, [], ◌++◌, ◌∷◌}
use mathlib.Core.Option.{Option}
use mathlib.Core.Path.{◌∙◌, ◌≡◌, ap, sym}
use Prim.Native.Nat.{◌-◌, suc, ℕ}
use lib.Dec.{T}
use lib.ListN.{drop, length}
use Rattle.claims.proofs.RowLaws.{code_rises, rises_numbered}
use Rattle.coding.specs.Codes.{code_of}
use Rattle.coding.specs.Coding.{coded, coding, encode_rows, encoded}
use Rattle.morphology.specs.Answers.{Outcome, foreground, outcome, thinned}
use Rattle.morphology.specs.Element.{offsets}
use Rattle.morphology.specs.Image.{image_set, pack}
use Rattle.morphology.specs.Labels.{area}
use Rattle.morphology.specs.Minimal.{minimal_labels}
use Rattle.morphology.specs.Morphology.{erode, opening, times}
use Rattle.morphology.specs.Operations.{
  cleared,
  cleared_planes,
  decompose_rows,
  decomposed,
  eroded,
  fold_rows,
  hit_or_miss,
  hit_rows,
  labelled,
  minimise_rows,
  minimised,
  opened,
  reconstruct_rows,
  reconstructed,
  shortens,
  thin,
  thin_rows,
  writes,
}
use Rattle.morphology.specs.Refusals.{Row, checked, first_refusal, row8}
use Rattle.morphology.specs.Skeleton.{reconstruction, skeleton_labels}
use Rattle.morphology.specs.Thinning.{hit, thin_passes}
use Rattle.morphology.proofs.RefusalLaws.{Clear, clear-out, numbered, unless-out, unless-zero}
use Rattle.reading.specs.Decoding.{decode_rows, decoded, decoding}
use Rattle.reading.specs.Maps.{code_rows, code_set}

pub record Accepted (rows : List Row) (o success : Outcome) : Type 0 where
  pub clear : Clear rows
  pub is : o ≡ success

pub accepted : (rows : List Row) (lent : List (List ℕ)) (success : Outcome) → T (numbered rows) → (checked rows lent success).answer.refusal ≡ 0
    → Accepted rows (checked rows lent success) success
accepted rows lent success t h = record {
  clear = clear-out rows t (unless-zero (first_refusal rows) lent success h);
  is = unless-out (first_refusal rows) lent success h;
}

module _ (W H e : ℕ) where
  pub eroded-accepted : (n : ℕ) (image out work : List ℕ) → (eroded W H e n image out work).answer.refusal ≡ 0
      → Accepted (fold_rows W H e n image out work) (eroded W H e n image out work) (writes W H (erode (times (offsets e) n) (image_set W H image)) work)
  unfolding eroded
  eroded-accepted n image out work h = accepted (fold_rows W H e n image out work) (out ∷ work ∷ []) _ tt h

  pub opened-accepted : (n : ℕ) (image out work : List ℕ) → (opened W H e n image out work).answer.refusal ≡ 0
      → Accepted (fold_rows W H e n image out work) (opened W H e n image out work) (writes W H (opening (times (offsets e) n) (image_set W H image)) work)
  unfolding opened
  opened-accepted n image out work h = accepted (fold_rows W H e n image out work) (out ∷ work ∷ []) _ tt h

  pub decomposed-accepted : (image labels work : List ℕ) → (decomposed W H e image labels work).answer.refusal ≡ 0
      → Accepted (decompose_rows W H e image labels work) (decomposed W H e image labels work)
      (labelled W H (skeleton_labels W H (offsets e) (image_set W H image)) work)
  unfolding decomposed
  decomposed-accepted image labels work h = accepted (decompose_rows W H e image labels work) (labels ∷ work ∷ []) _ tt h

  pub reconstructed-accepted : (k : ℕ) (labels image work : List ℕ) → (reconstructed W H e k labels image work).answer.refusal ≡ 0
      → Accepted (reconstruct_rows W H e k labels image work) (reconstructed W H e k labels image work)
      (writes W H (reconstruction W H (offsets e) k labels) work)
  unfolding reconstructed
  reconstructed-accepted k labels image work h = accepted (reconstruct_rows W H e k labels image work) (image ∷ work ∷ []) _ tt h

  pub minimised-accepted : (labels work counters : List ℕ) → (minimised W H e labels work counters).answer.refusal ≡ 0
      → Accepted (minimise_rows W H e labels work counters) (minimised W H e labels work counters)
      (shortens W H (minimal_labels W H (offsets e) labels) work)
  unfolding minimised
  minimised-accepted labels work counters h = accepted (minimise_rows W H e labels work counters) (labels ∷ work ∷ counters ∷ []) _ tt h

pub hit-accepted : (W H : ℕ) (m : ℕ × ℕ) (image out : List ℕ) → (hit_or_miss W H m image out).answer.refusal ≡ 0
    → let X = hit W H m (image_set W H image) in
    Accepted (hit_rows W H m image out) (hit_or_miss W H m image out) (outcome (foreground (area W H X)) (pack W H X ∷ []))
unfolding hit_or_miss
hit-accepted W H m image out h = accepted (hit_rows W H m image out) (out ∷ []) _ tt h

pub thinned-accepted : (W H : ℕ) (image work : List ℕ) → (thin W H image work).answer.refusal ≡ 0
    → let n = area W H (image_set W H image) in
    let t = thin_passes (suc n) W H image in
    let left = area W H (image_set W H t.image) in
    Accepted (thin_rows W H image work) (thin W H image work) (outcome (thinned t.passes (n - left) left) (t.image ∷ cleared W H work ∷ []))
unfolding thin
thinned-accepted W H image work h = accepted (thin_rows W H image work) (image ∷ work ∷ []) _ tt h

-- the writer's two parts: rows 1 to 4, then row 8
pub encoded-accepted : (W H e : ℕ) (image out work : List ℕ) → (encoded W H e image out work).answer.refusal ≡ 0
    → let t = code_of W H (offsets e) (image_set W H image) in
    Accepted (encode_rows W H e image work ++ (row8 (length t.stream) out ∷ [])) (encoded W H e image out work)
    (outcome (coded t) ((t.stream ++ drop (length t.stream) out) ∷ cleared W H work ∷ []))
unfolding encoded
encoded-accepted W H e image out work h =
    let t = code_of W H (offsets e) (image_set W H image) in
    let a = accepted (encode_rows W H e image work) (out ∷ work ∷ []) (coding W H t out work) tt h in
    let b = accepted (row8 (length t.stream) out ∷ []) (out ∷ cleared W H work ∷ []) (outcome (coded t) ((t.stream ++ drop (length t.stream) out) ∷ cleared W H work ∷ [])) tt
    (ap (λ (o : Outcome). o.answer.refusal) (sym a.is) ∙ h) in
    let c = a.clear in
    record { clear = (c.0, (c.1.0, (c.1.1.0, (c.1.1.1.0, b.clear)))); is = a.is ∙ b.is }

-- the reader's: rows 1 to 3, then those of the stream
pub decoded-accepted : (W H e : ℕ) (n : Option ℕ) (bytes image work : List ℕ) → (decoded W H e n bytes image work).answer.refusal ≡ 0
    → let X = code_set W H (offsets e) n bytes in
    Accepted (decode_rows W H e image work ++ code_rows W H (offsets e) n bytes) (decoded W H e n bytes image work)
    (outcome (foreground (area W H X)) (pack W H X ∷ cleared_planes 5 W H work ∷ []))
unfolding decoded
decoded-accepted W H e n bytes image work h =
    let B = offsets e in
    let X = code_set W H B n bytes in
    let w = cleared_planes 5 W H work in
    let a = accepted (decode_rows W H e image work) (image ∷ work ∷ []) (decoding W H (code_rows W H B n bytes) X image work) tt h in
    let b = accepted (code_rows W H B n bytes) (image ∷ w ∷ []) (outcome (foreground (area W H X)) (pack W H X ∷ w ∷ []))
    (rises_numbered 3 (code_rows W H B n bytes) (code_rises W H B n bytes)) (ap (λ (o : Outcome). o.answer.refusal) (sym a.is) ∙ h) in
    let c = a.clear in
    record { clear = (c.0, (c.1.0, (c.1.1.0, b.clear))); is = a.is ∙ b.is }
