-- A code that was read in work, by its rows; and what the reader then leaves is its outcome.
use mathlib.Core.Bool.{Bool, false, not, true}
use mathlib.Core.List.{List, [], ◌++◌, ◌∷◌}
use mathlib.Core.Option.{Option, none, some}
use mathlib.Core.Path.{◌∙◌, ◌≡◌, ap, ap₂, subst, sym}
use Prim.Native.Nat.{◌*◌, ◌+◌, ◌/◌, ◌<◌, ◌≤◌, ℕ}
use native.Mathlib.Omega.{arith}
use borrow.Author.Tests.{ltb-false}
use lib.Dec.{T, eqb}
use lib.ListN.{drop, length, length-replicate, replicate, take}
use lib.Seq.{take_at}
use Rattle.coding.specs.Symbols.{symbols_of}
use Rattle.iteration.proofs.StepLaws.{three-cleared}
use Rattle.morphology.specs.Answers.{foreground, outcome, refused}
use Rattle.morphology.specs.Element.{is_element}
use Rattle.morphology.specs.Image.{ones_of, pack, plane_bytes}
use Rattle.morphology.specs.Labels.{area}
use Rattle.morphology.specs.Operations.{cleared_planes}
use Rattle.morphology.specs.Point.{Point}
use Rattle.morphology.specs.Refusals.{first_refusal, not_plane, row1, row2, row3, short_planes}
use Rattle.morphology.proofs.PlaneLaws.{area-pack, none as nowhere, none_on, pack-none}
use Rattle.morphology.proofs.RefusalLaws.{checked_refused, first-hit, first_miss, fits-plane, unless_in}
use Rattle.raster.specs.Frames.{Frame}
use Rattle.reading.specs.Decoding.{decode_rows, decoding}
use Rattle.reading.specs.Maps.{code_rows, code_set}
use Rattle.reading.specs.Splits.{is_padding}
use Rattle.refusals.proofs.SideLaws.{shaped, sides-frame}
use Rattle.std.specs.Prelude.{Some}
use Rattle.decoding.specs.declared.Joined.{Joined}
use Rattle.decoding.specs.Reads.{CodeRead, KeptFrom, SizesEnd}
use Rattle.decoding.proofs.HeldLaws.{kept-cleared, kept_more}

-- ---- the rows of a code

-- a code that is refused
pub code-refused : (W H : ℕ) (B : List Point) (n : Option ℕ) (bytes : List ℕ) {k p : ℕ} {old new : List ℕ} (r : ℕ) → k * p ≤ 5 * p → KeptFrom k p old new
    → first_refusal (code_rows W H B n bytes) ≡ r → (r ≡ 0 → ⊥) → CodeRead W H p B n bytes old new r
code-refused W H B n bytes r h k e f =
    record { kept = kept_more h k; answer = sym e; image = λ z. absurd (f z); ones = λ z. absurd (f z) }

-- the same by other names
pub code_as : {W H p q : ℕ} {B : List Point} {m n : Option ℕ} {bytes old new : List ℕ} {r : ℕ} → p ≡ q → n ≡ m
    → CodeRead W H p B m bytes old new r → CodeRead W H q B n bytes old new r
code_as {W} {H} {p} {q} {B} {m} {n} {bytes} {old} {new} {r} e g d =
    subst (λ (q : ℕ). CodeRead W H q B n bytes old new r) e (subst (λ (n : Option ℕ). CodeRead W H p B n bytes old new r) (sym g) d)

module _ (W H p : ℕ) (B : List Point) (N : ℕ) (bytes old new : List ℕ) (j : Joined) (t : SizesEnd W H p B N bytes old new (Some j)) (b : Bool)
    (e : b ≡ is_padding (drop j.at (symbols_of bytes))) where
  -- what follows its sizes is no padding
  pub code_long : not b ≡ true → CodeRead W H p B (some N) bytes old new 10
  code_long q =
      code-refused W H B (some N) bytes 10 (omega arith) t.0
      (t.1 ∙ first-hit 10 (not (is_padding (drop j.at (symbols_of bytes)))) ((11, not j.chained) ∷ []) (ap not (sym e) ∙ q)) (λ z. omega arith)

  -- it is: whether the map is a skeleton is left
  pub code-end : (r : ℕ) → not b ≡ false → r ≡ first_refusal ((11, not j.chained) ∷ []) → CodeRead W H p B (some N) bytes old new r
  code-end r q h = record {
    kept = kept_more (omega arith) t.0;
    answer = h ∙ sym (t.1 ∙ first_miss 10 (not (is_padding (drop j.at (symbols_of bytes)))) ((11, not j.chained) ∷ []) (ap not (sym e) ∙ q));
    image = λ z. t.2;
    ones = λ z. t.3;
  }

-- a code marked blank: its plane is 0
pub code-blank : (W H p : ℕ) (B : List Point) (bytes old ys : List ℕ) (r : ℕ) → p ≡ plane_bytes W H → p ≤ length old
    → ys ≡ replicate (length (take p old)) 0 → r ≡ first_refusal ((10, not (eqb (length bytes) 0)) ∷ [])
    → CodeRead W H p B none bytes old (ys ++ drop p old) r
unfolding code_rows code_set
code-blank W H p B bytes old ys r q h e a =
    let first : take p (ys ++ drop p old) ≡ pack W H nowhere =
    ap (take p) (three-cleared p old ys e h) ∙ take_at (replicate p 0) (drop p old) p (length-replicate p 0)
    ∙ ap (λ (n : ℕ). replicate n 0) q ∙ sym (pack-none W H) in
    record {
      kept = kept-cleared p old ys (omega arith) h e;
      answer = a;
      image = λ z. first;
      ones = λ z. ap ones_of first ∙ sym (area-pack W H nowhere (none_on W H));
    }

-- ---- the outcome

-- five planes cleared after a code was read
pub code-cleared : (W H p : ℕ) (old new ys : List ℕ) → p ≡ plane_bytes W H → KeptFrom 5 (plane_bytes W H) old new → 5 * p ≤ length new
    → ys ≡ replicate (length (take (5 * p) new)) 0 → ys ++ drop (5 * p) new ≡ cleared_planes 5 W H old
unfolding cleared_planes
code-cleared W H p old new ys q k h e =
    three-cleared (5 * p) new ys e h ∙ ap (λ (n : ℕ). replicate (5 * n) 0 ++ drop (5 * n) new) q
    ∙ ap (λ (l : List ℕ). replicate (5 * plane_bytes W H) 0 ++ l) k.rest

module _ {W H : ℕ} {B : List Point} {n : Option ℕ} {bytes old new : List ℕ} {r : ℕ} (d : CodeRead W H (plane_bytes W H) B n bytes old new r)
    (image work : List ℕ) (w : work ≡ cleared_planes 5 W H old) where
  -- a late row refuses it
  pub outcome-refused : (r ≡ 0 → ⊥)
      → outcome (refused r) (image ∷ work ∷ []) ≡ decoding W H (code_rows W H B n bytes) (code_set W H B n bytes) image old
  outcome-refused f =
      let X = code_set W H B n bytes in
      let k = cleared_planes 5 W H old in
      ap (λ (l : List ℕ). outcome (refused r) (image ∷ l ∷ [])) w
      ∙ checked_refused (code_rows W H B n bytes) (image ∷ k ∷ []) (outcome (foreground (area W H X)) (pack W H X ∷ k ∷ [])) r d.answer f

  -- none does
  pub outcome_read : (ones : ℕ) (out : List ℕ) → r ≡ 0 → ones ≡ ones_of (take (plane_bytes W H) new) → out ≡ take (plane_bytes W H) new
      → outcome (foreground ones) (out ∷ work ∷ []) ≡ decoding W H (code_rows W H B n bytes) (code_set W H B n bytes) image old
  outcome_read ones out z h e =
      let X = code_set W H B n bytes in
      let k = cleared_planes 5 W H old in
      ap₂ (λ (o l : List ℕ). outcome (foreground ones) (o ∷ l ∷ [])) (e ∙ d.image z) w
      ∙ ap (λ (m : ℕ). outcome (foreground m) (pack W H X ∷ k ∷ [])) (h ∙ d.ones z)
      ∙ sym (unless_in (first_refusal (code_rows W H B n bytes)) (image ∷ k ∷ []) (outcome (foreground (area W H X)) (pack W H X ∷ k ∷ [])) (sym d.answer ∙ z))

-- ---- the rows before it

-- row 3 has two tests
pub decode-rows : (W H e : ℕ) (a b : Bool) (image work : List ℕ) {r : ℕ} → a ≡ not_plane W H image → b ≡ short_planes 5 W H work
    → r ≡ first_refusal (row1 W H ∷ row2 e ∷ row3 (a ∷ b ∷ false ∷ []) ∷ []) → r ≡ first_refusal (decode_rows W H e image work)
decode-rows W H e a b image work p q h = h ∙ ap₂ (λ (a b : Bool). first_refusal (row1 W H ∷ row2 e ∷ row3 (a ∷ b ∷ []) ∷ [])) p q

-- what they let pass
pub decode_ready : (W H e : ℕ) (image work : List ℕ) → 0 ≡ first_refusal (decode_rows W H e image work)
    → Frame W H ((W + 7) / 8) × (0 < H) × (length image ≡ plane_bytes W H) × (5 * plane_bytes W H ≤ length work) × T (is_element e)
decode_ready W H e image work q =
    let d = shaped W H e (not_plane W H image ∷ short_planes 5 W H work ∷ []) [] tt q in
    let l = d.lengths in (
      sides-frame d.sides,
      d.sides.high,
      fits-plane (length image) (plane_bytes W H) l.0,
      ltb-false (length work) (5 * plane_bytes W H) l.1.0,
      d.element,
    )
