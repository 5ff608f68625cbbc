-- The claims of 02 about the coded ticket, each proved.
use mathlib.Core.Bool.{Bool, false, not}
use mathlib.Core.List.{List, Memᴰ, [], ◌++◌, ◌∷◌, map}
use mathlib.Core.Logic.{◌≢◌}
use mathlib.Core.Option.{Option, none, some}
use mathlib.Core.Path.{◌∙◌, ◌≡◌, ap, fun_ext, refl, subst, sym}
use Prim.Native.Nat.{◌+◌, ◌-◌, ◌<◌, ◌≤◌, suc, zero, zero-le, ℕ}
use native.Mathlib.Nat.{suc-ne-zero}
use native.Mathlib.Omega.{arith}
use borrow.Author.Tests.{le-ltb, ltb-false}
use lib.Dec.{T, T_not, ltb}
use lib.ListN.{drop, get_or, length, length-append, length-drop, take}
use lib.Seq.{drop-append_seam, take-append_seam}
use Rattle.claims.specs.Codes.{BitsFillBytes, BlankHasNoStream, CoveredAbove, IsLargest, MaskIsCovered, NoPointIsSkipped, RunsAreBase3, SectionsBySize, SettledCodes, WriterRefusesExactly, WritesTheCode}
use Rattle.claims.specs.Formula.{Fold, HasSize, Ink, Offset}
use Rattle.claims.proofs.AcceptedLaws.{encoded-accepted}
use Rattle.claims.proofs.FormulaLaws.{fold_in, fold_out, image_is, ink_in, ink-out, offsets_are, size_in, size-out}
use Rattle.claims.proofs.RowLaws.{first-not, refuses_late}
use Rattle.claims.proofs.SymbolLaws.{numeral-base3, sections_packed}
use Rattle.coding.specs.Codes.{Code, code, code_of, map_code, map_symbols}
use Rattle.coding.specs.Coding.{coded, coding, encode_rows, encoded}
use Rattle.coding.specs.Runs.{mask, runs, unmasked}
use Rattle.coding.specs.Symbols.{numeral, pack_symbols, sections}
use Rattle.coding.specs.Writing.{down_from}
use Rattle.coding.proofs.CodeLaws.{code-none, code-some, empty-none, largest-point, map-down, map_runs_lem, mask_in, mask-out, none-empty, size_runs, size_lt}
use Rattle.coding.proofs.MaskLaws.{eroded-above, mask-eroded, size_subset}
use Rattle.coding.proofs.CodingCases.{settled}
use Rattle.morphology.specs.Answers.{Answer, Outcome, answered, blank, outcome, output}
use Rattle.morphology.specs.Element.{is_element, offsets}
use Rattle.morphology.specs.Image.{image_set}
use Rattle.morphology.specs.Lists.{greatest, tabulate}
use Rattle.morphology.specs.Morphology.{dilate, erode, times}
use Rattle.morphology.specs.Operations.{cleared}
use Rattle.morphology.specs.Point.{Point}
use Rattle.morphology.specs.Refusals.{Row, first_refusal, row8, unless}
use Rattle.morphology.specs.Skeleton.{skeleton_labels, skeleton_subset}
use Rattle.morphology.proofs.DecomposeLaws.{subset_turn}
use Rattle.morphology.proofs.ElementLaws.{element}
use Rattle.morphology.proofs.ImageLaws.{get_or-row, image_on, length-row}
use Rattle.morphology.proofs.MorphologyLaws.{⊆_of_eq}
use Rattle.morphology.proofs.RefusalLaws.{T_of-not, clear-out, first_miss, first-none, unless_in}
use Rattle.morphology.proofs.TestLaws.{and_r}

-- ---- the settled cases

pub settled_codes : SettledCodes
settled_codes = settled

-- ---- refusals

coded-accepted : (largest : Option ℕ) (stream : List ℕ) → (coded (code largest stream)).refusal ≡ 0
coded-accepted none s = refl
coded-accepted (some n) s = refl

pub writer_refuses_exactly : WriterRefusesExactly
unfolding encoded
writer_refuses_exactly W H e image out work =
    let t = code_of W H (offsets e) (image_set W H image) in
    refuses_late (encode_rows W H e image work) (row8 (length t.stream) out ∷ []) (out ∷ work ∷ []) (out ∷ cleared W H work ∷ [])
    (outcome (coded t) ((t.stream ++ drop (length t.stream) out) ∷ cleared W H work ∷ [])) tt (coded-accepted t.largest t.stream)

-- ---- what is written and answered

-- an answer has a largest size exactly where the code has
answer-some : (largest : Option ℕ) (stream : List ℕ) (n : ℕ) → coded (code largest stream) ≡ answered (length stream ∷ n ∷ []) → largest ≡ some n
answer-some none s n q = absurd (omega (arith, ap (λ (a : Answer). length a.values) q))
answer-some (some k) s n q = ap some (ap (λ (a : Answer). get_or a.values 1 0) q)

answer-none : (largest : Option ℕ) (stream : List ℕ) → coded (code largest stream) ≡ blank → largest ≡ none
answer-none none s q = refl
answer-none (some k) s q = absurd (omega (arith, ap (λ (a : Answer). length a.values) q))

module _ (W H e : ℕ) (el : T (is_element e)) (image : List ℕ) where
  abbrev B : List Point
  B = offsets e

  abbrev X : Point → Bool
  X = image_set W H image

  abbrev m : List ℕ
  m = skeleton_labels W H B X

  abbrev t : Code
  t = code_of W H B X

  here : (n : ℕ) (z : Point) → T (skeleton_subset B X n z) → HasSize (Offset e) (Ink W H image) n z
  here = size_in B (Offset e) (offsets_are e) X (Ink W H image) (image_is W H image)

  there : (n : ℕ) (z : Point) → HasSize (Offset e) (Ink W H image) n z → T (skeleton_subset B X n z)
  there = size-out B (Offset e) (offsets_are e) X (Ink W H image) (image_is W H image)

  size_below : (n : ℕ) (z : Point) → HasSize (Offset e) (Ink W H image) n z → n < greatest m
  size_below n z h = size_lt W H B (element e el) X (image_on W H image) n z (there n z h)

  -- the code's largest size by the map's largest label
  largest-some : (n : ℕ) → t.largest ≡ some n → greatest m ≡ suc n
  unfolding code_of
  largest-some n q = code-some W H B m (greatest m) n q

  some-largest : (n : ℕ) → greatest m ≡ suc n → t.largest ≡ some n
  unfolding code_of map_code
  some-largest n g = ap (λ (k : ℕ). (map_code W H B m k).largest) g

  largest-none : t.largest ≡ none → greatest m ≡ 0
  unfolding code_of
  largest-none q = code-none W H B m (greatest m) q

  code-blank : greatest m ≡ 0 → t ≡ code none []
  unfolding code_of map_code
  code-blank g = ap (map_code W H B m) g

  -- and by the sizes of points
  largest_in : (n : ℕ) → greatest m ≡ suc n → IsLargest (Offset e) (Ink W H image) n
  largest_in n g =
      let r = largest-point W H B (element e el) X (image_on W H image) n g in
      ((r.0, here n r.0 r.1), λ k z h. omega (arith, size_below k z h))

  largest-out : (n : ℕ) → IsLargest (Offset e) (Ink W H image) n → greatest m ≡ suc n
  largest-out n l = by (greatest m) refl
    where
      by : (g : ℕ) → greatest m ≡ g → g ≡ suc n
      by zero q = absurd (omega (arith, size_below n l.0.0 l.0.1))
      by (suc k) q =
          let r = (largest_in k q).0 in
          omega (arith, size_below n l.0.0 l.0.1, l.1 k r.0 r.1)

  blank_in : greatest m ≡ 0 → (z : Point) → Ink W H image z → ⊥
  blank_in g z i = none-empty W H B (element e el) X (image_on W H image) g z (ink-out W H image z i)

  blank-out : ((z : Point) → Ink W H image z → ⊥) → greatest m ≡ 0
  blank-out f = empty-none W H B (element e el) X (image_on W H image) (λ z t. f z (ink_in W H image z t))

  blank-code : ((z : Point) → Ink W H image z → ⊥) → t ≡ code none []
  blank-code f = code-blank (blank-out f)

-- a call that rows 1 to 4 let pass has an element
clear-element : (W H e : ℕ) (image work : List ℕ) → first_refusal (encode_rows W H e image work) ≡ 0 → T (is_element e)
clear-element W H e image work z = T_of-not (is_element e) (clear-out (encode_rows W H e image work) tt z).1.0

pub writes_the_code : WritesTheCode
writes_the_code W H e image out work h =
    let t = code_of W H (offsets e) (image_set W H image) in
    let s = t.stream in
    let a = encoded-accepted W H e image out work h in
    let el = T_of-not (is_element e) a.clear.1.0 in
    let q : output (encoded W H e image out work) ≡ s ++ drop (length s) out = ap output a.is in
    let r : (encoded W H e image out work).answer ≡ coded t = ap (λ (o : Outcome). o.answer) a.is in
    let room : length s ≤ length out = ltb-false (length out) (length s) a.clear.1.1.1.1.0 in
    record {
      stream = ap (take (length s)) q ∙ take-append_seam s (drop (length s) out);
      past = ap (drop (length s)) q ∙ drop-append_seam s (drop (length s) out);
      size = ap length q ∙ length-append s (drop (length s) out) ∙ ap (λ (n : ℕ). length s + n) (length-drop (length s) out) ∙ add_sub room;
      lent = ap (λ (o : Outcome). o.lent) a.is ∙ ap (λ (l : List ℕ). l ∷ cleared W H work ∷ []) (sym q);
      answer = r;
      largest = λ n. (
        (λ p. largest_in W H e el image n (largest-some W H e el image n (answer-some t.largest s n (sym r ∙ p)))),
        (λ l. r ∙ ap (λ (k : Option ℕ). coded (code k s)) (some-largest W H e el image n (largest-out W H e el image n l))),
      );
      blank = (
        (λ p. blank_in W H e el image (largest-none W H e el image (answer-none t.largest s (sym r ∙ p)))),
        (λ f. r ∙ ap coded (blank-code W H e el image f)),
      );
    }
  where
    add_sub : {a b : ℕ} → a ≤ b → a + (b - a) ≡ b
    add_sub h = omega arith

pub blank_has_no_stream : BlankHasNoStream
unfolding encoded
blank_has_no_stream W H e image out work f = by (first_refusal rows) refl
  where
    rows : List Row
    rows = encode_rows W H e image work

    after : ℕ → Outcome
    after n = unless n (out ∷ work ∷ []) (coding W H (code_of W H (offsets e) (image_set W H image)) out work)

    empty : T (is_element e) → after 0 ≡ outcome blank (out ∷ cleared W H work ∷ [])
    empty el =
        ap (λ (t : Code). coding W H t out work) (blank-code W H e el image f)
        ∙ unless_in (first_refusal (row8 0 out ∷ [])) (out ∷ cleared W H work ∷ []) (outcome blank (out ∷ cleared W H work ∷ []))
        (first_miss 8 (ltb (length out) 0) [] (le-ltb (length out) 0 zero-le) ∙ first-none)

    by : (n : ℕ) → first_refusal rows ≡ n → ((after n).answer.refusal ≢ 8) × ((after n).answer.refusal ≡ 0 → after n ≡ outcome blank (out ∷ cleared W H work ∷ []))
    by zero q = let r = empty (clear-element W H e image work q) in ((λ p. omega (arith, ap (λ (o : Outcome). o.answer.refusal) r)), λ p. r)
    by (suc n) q = ((λ p. first-not rows 8 tt (q ∙ p)), λ p. absurd (suc-ne-zero n p))

-- ---- runs as digits, symbols as bytes

pub runs_are_base3 : RunsAreBase3
runs_are_base3 = numeral-base3

pub bits_fill_bytes : BitsFillBytes
bits_fill_bytes = sections_packed

-- ---- which pixels are skipped

pub mask_is_covered : MaskIsCovered
mask_is_covered B larger z = (mask-out B larger z, mask_in B larger z)

module _ (W H e : ℕ) (el : T (is_element e)) (image : List ℕ) (N : ℕ) (g : greatest (m W H e el image) ≡ suc N) where
  abbrev S : ℕ → Point → Bool
  S = skeleton_subset (offsets e) (image_set W H image)

  abbrev larger : ℕ → List (Point → Bool)
  larger n = tabulate S (suc n) (N - n)

  covered_in : (n : ℕ) (z : Point) → T (mask (offsets e) (larger n) z) → CoveredAbove (Offset e) (Ink W H image) n z
  covered_in n z t =
      let r = mask-out (offsets e) (larger n) z t in
      let i = r.0 in
      let k = suc n + i in
      let j : suc i ≡ k - n = omega arith in
      let h : i < N - n = subst (λ (l : ℕ). i < l) (length-row S (suc n) (N - n)) r.3 in
      let u : T (S k r.1) = subst (λ (F : Point → Bool). T (F r.1)) (get_or-row S (suc n) (N - n) i (λ y. false) h) r.4 in
      (k, r.1, r.2, omega arith, here W H e el image k r.1 u, subst (λ (l : ℕ). Fold (Offset e) l r.2) j (fold_in (offsets e) (Offset e) (offsets_are e) (suc i) r.5), r.6)

  covered_out : (n : ℕ) (z : Point) → CoveredAbove (Offset e) (Ink W H image) n z → T (mask (offsets e) (larger n) z)
  covered_out n z r =
      let k = r.0 in
      let x = r.1 in
      let i = k - suc n in
      let a = r.3 in
      let b = size_below W H e el image k x r.4 in
      let q : suc n + i ≡ k = omega arith in
      let j : k - n ≡ suc i = omega arith in
      let h : i < N - n = omega arith in
      let f : get_or (larger n) i (λ y. false) ≡ S k = get_or-row S (suc n) (N - n) i (λ y. false) h ∙ ap S q in
      mask_in (offsets e) (larger n) z (
        i,
        x,
        r.2,
        subst (λ (l : ℕ). i < l) (sym (length-row S (suc n) (N - n))) h,
        subst (λ (F : Point → Bool). T (F x)) (sym f) (there W H e el image k x r.4),
        subst (λ (l : ℕ). Memᴰ r.2 (times (offsets e) l)) j (fold_out (offsets e) (Offset e) (offsets_are e) (k - n) r.5),
        r.6,
      )

  -- the mask of size n is X(n + 1) dilated once, which S_n leaves out
  not-masked : (n : ℕ) (z : Point) → n ≤ N → T (S n z) → T (mask (offsets e) (larger n) z) → ⊥
  not-masked n z h s t =
      let B = offsets e in
      let X = image_set W H image in
      let gone = eroded-above W H B (element e el) X (image_on W H image) (suc (n + (N - n))) (omega arith) in
      let Y = dilate B (erode (times B (suc n)) X) in
      T_not (Y z) (and_r (erode (times B n) X z) (not (Y z)) (subst T (subset_turn B X n z) s)) (⊆_of_eq (mask-eroded B X (N - n) n gone) z t)

  stream_is : (code_of W H (offsets e) (image_set W H image)).stream
      ≡ pack_symbols (sections (down_from (λ n. map numeral (runs (S n) 0 (unmasked W H (mask (offsets e) (larger n))))) N))
  unfolding code_of map_code map_symbols
  stream_is =
      let B = offsets e in
      let labels = m W H e el image in
      ap (λ (k : ℕ). (map_code W H B labels k).stream) g
      ∙ ap (λ (rs : List (List ℕ)). pack_symbols (sections (map (map numeral) rs))) (map_runs_lem W H B labels N)
      ∙ ap (λ (F : ℕ → Point → Bool). pack_symbols (sections (map (map numeral) (down_from (λ n. size_runs W H B F n (N - n)) N))))
      (fun_ext (size_subset W H B (element e el) (image_set W H image) (image_on W H image)))
      ∙ ap (λ (ws : List (List (List ℕ))). pack_symbols (sections ws)) (map-down (map numeral) (λ n. size_runs W H B S n (N - n)) N)

pub no_point_is_skipped : NoPointIsSkipped
no_point_is_skipped W H e image n z el h c =
    let l = size_below W H e el image n z h in
    let N = greatest (m W H e el image) - 1 in
    let g : greatest (m W H e el image) ≡ suc N = omega arith in
    not-masked W H e el image N g n z (omega arith) (there W H e el image n z h) (covered_out W H e el image N g n z c)

pub sections_by_size : SectionsBySize
sections_by_size W H e image N el q =
    let g = largest-some W H e el image N q in
    record {
      points = S W H e el image N g;
      skipped = λ n. mask (offsets e) (larger W H e el image N g n);
      sizes = λ n z. (here W H e el image n z, there W H e el image n z);
      covered = λ n z. (covered_in W H e el image N g n z, covered_out W H e el image N g n z);
      stream = stream_is W H e el image N g;
    }
