-- What the writer leaves is its outcome.
use mathlib.Core.Bool.{Bool, cond}
use mathlib.Core.List.{List, [], ◌++◌, ◌∷◌}
use mathlib.Core.Option.{Option, none, some}
use mathlib.Core.Path.{◌∙◌, ◌≡◌, ap, ap₂, refl, subst, sym}
use Prim.Native.Nat.{◌*◌, ◌+◌, ◌-◌, ◌/◌, ◌<◌, ◌≤◌, suc, zero, ℕ}
use native.Mathlib.Omega.{arith}
use borrow.Author.Tests.{le-ltb, lt-ltb}
use lib.Dec.{T}
use lib.ListN.{drop, length}
use Rattle.coding.specs.Codes.{Code, code, code_of}
use Rattle.coding.specs.Coding.{coded, coding, encode_rows}
use Rattle.coding.specs.Symbols.{pack_symbols}
use Rattle.coding.specs.Writing.{eroded_runs}
use Rattle.coding.proofs.PackLaws.{length-pack-symbols}
use Rattle.morphology.specs.Answers.{Answer, answered, outcome, refused}
use Rattle.morphology.specs.Element.{is_element, offsets}
use Rattle.morphology.specs.Operations.{cleared}
use Rattle.morphology.specs.Point.{Point}
use Rattle.morphology.specs.Refusals.{first_refusal, not_plane, row4, short_work, unless}
use Rattle.morphology.proofs.FrameLaws.{OnFrame}
use Rattle.iteration.specs.Steps.{Ready}
use Rattle.iteration.proofs.StepLaws.{ready}
use Rattle.refusals.proofs.SideLaws.{shaped, sides-frame}
use Rattle.encoding.specs.Sizes.{Gone, Measured, sizes_answer, symbols_below}
use Rattle.encoding.proofs.SizeLaws.{code-blank, code_sized}

-- the largest of n sizes
abbrev largest_of : ℕ → Option ℕ
largest_of zero = none
largest_of (suc n) = some n

coded_is : (n : ℕ) (s : List ℕ) → coded (code (largest_of n) s) ≡ sizes_answer n (length s)
coded_is zero s = refl
coded_is (suc n) s = refl

pub sizes-some : (n bytes : ℕ) → (n ≡ 0 → ⊥) → answered (bytes ∷ (n - 1) ∷ []) ≡ sizes_answer n bytes
sizes-some zero bytes f = absurd (f refl)
sizes-some (suc n) bytes f = let e : suc n - 1 ≡ n = omega arith in ap (λ (k : ℕ). answered (bytes ∷ k ∷ [])) e

module _ {W H p : ℕ} (e : ℕ) (el : T (is_element e)) {X : Point → Bool} (on : OnFrame W H X) {n total : ℕ} {lengths u v : List ℕ}
    (m : Measured W H p (offsets e) X n lengths total u v) where
  abbrev stream : List ℕ
  stream = pack_symbols (symbols_below (eroded_runs W H (offsets e) X) n)

  code_is : code_of W H (offsets e) X ≡ code (largest_of n) stream
  unfolding symbols_below pack_symbols
  code_is = by n refl
    where
      by : (k : ℕ) → n ≡ k → code_of W H (offsets e) X ≡ code (largest_of k) (pack_symbols (symbols_below (eroded_runs W H (offsets e) X) k))
      by zero q = code-blank W H e el X on (subst (Gone (offsets e) X) q m.gone)
      by (suc k) q = code_sized W H e el X on k (m.before k q) (subst (Gone (offsets e) X) q m.gone)

  stream-bytes : length stream ≡ (total + 3) / 4
  stream-bytes = length-pack-symbols (symbols_below (eroded_runs W H (offsets e) X) n) ∙ ap (λ (k : ℕ). (k + 3) / 4) (sym m.measured.whole)

  -- too few bytes are lent
  pub outcome-short : (out work work' : List ℕ) → length out < (total + 3) / 4 → work' ≡ cleared W H work
      → outcome (refused 8) (out ∷ work' ∷ []) ≡ coding W H (code_of W H (offsets e) X) out work
  unfolding first_refusal
  outcome-short out work work' h c =
      let t = code (largest_of n) stream in
      let w = cleared W H work in
      ap (λ (l : List ℕ). outcome (refused 8) (out ∷ l ∷ [])) c
      ∙ sym (ap (λ (t : Code). coding W H t out work) code_is
      ∙ ap (λ (b : Bool). unless (cond b 8 0) (out ∷ w ∷ []) (outcome (coded t) ((stream ++ drop (length stream) out) ∷ w ∷ [])))
      (lt-ltb (length out) (length stream) (omega (arith, stream-bytes))))

  -- enough are
  pub outcome-written : (a : Answer) (out work out' work' : List ℕ) → (total + 3) / 4 ≤ length out → a ≡ sizes_answer n ((total + 3) / 4)
      → out' ≡ pack_symbols (symbols_below (eroded_runs W H (offsets e) X) n) ++ drop ((total + 3) / 4) out → work' ≡ cleared W H work
      → outcome a (out' ∷ work' ∷ []) ≡ coding W H (code_of W H (offsets e) X) out work
  unfolding first_refusal
  outcome-written a out work out' work' h ea eo c =
      let t = code (largest_of n) stream in
      let w = cleared W H work in
      ap₂ (λ (o l : List ℕ). outcome a (o ∷ l ∷ [])) (eo ∙ ap (λ (k : ℕ). stream ++ drop k out) (sym stream-bytes)) c
      ∙ ap (λ (b : Answer). outcome b ((stream ++ drop (length stream) out) ∷ w ∷ [])) (ea ∙ ap (sizes_answer n) (sym stream-bytes) ∙ sym (coded_is n stream))
      ∙ sym (ap (λ (t : Code). coding W H t out work) code_is
      ∙ ap (λ (b : Bool). unless (cond b 8 0) (out ∷ w ∷ []) (outcome (coded t) ((stream ++ drop (length stream) out) ∷ w ∷ [])))
      (le-ltb (length out) (length stream) (omega (arith, stream-bytes))))

-- the same image by another name
pub measured_as : {W H p : ℕ} {B : List Point} {X Y : Point → Bool} {n total : ℕ} {lengths u u' v : List ℕ} → X ≡ Y → length u ≡ length u'
    → drop (3 * p) u ≡ drop (3 * p) u' → Measured W H p B X n lengths total u v → Measured W H p B Y n lengths total u' v
measured_as {W} {H} {p} {B} {X} {Y} {n} {total} {lengths} {u} {u'} {v} e l d m = subst (λ (Z : Point → Bool). Measured W H p B Z n lengths total u' v) e (record {
  measured = m.measured;
  before = m.before;
  gone = m.gone;
  size = m.size ∙ l;
  rest = m.rest ∙ d;
})

-- ---- what the table lets pass

pub encode_ready : (W H e : ℕ) (image work : List ℕ) → 0 ≡ first_refusal (encode_rows W H e image work) → Ready W H image image work × T (is_element e)
encode_ready W H e image work q =
    let d = shaped W H e (not_plane W H image ∷ short_work W H work ∷ []) (row4 W H image ∷ []) tt q in
    let l = d.lengths in
    (ready W H image image work (sides-frame d.sides) l.0 l.0 l.1.0 d.rest.0, d.element)
