-- The program: what it prints fits its buffer, and depends on no byte past the longest input.
use mathlib.Core.Bool.{Bool, cond, false, not, true}
use mathlib.Core.List.{List, [], ◌∷◌}
use mathlib.Core.Path.{◌∙◌, ◌≡◌, ap, ap₂, refl, sym}
use Prim.Native.Nat.{◌*◌, ◌+◌, ◌-◌, ◌/◌, ◌<◌, ◌≤◌, max, suc, zero, zero-le, ℕ}
use native.Mathlib.Decide.{dec_lt}
use native.Mathlib.Nat.{mul-le-mul, not-suc-le-zero}
use native.Mathlib.Omega.{arith}
use borrow.Author.Tests.{le-ltb, lt-ltb, ne_eqb}
use lib.Dec.{T, eqb, leb, leb→le}
use lib.ListN.{drop, get_or, length, length-drop, length-replicate, replicate, take}
use lib.Seq.{get_or-take, length-take-le, take_all}
use Rattle.morphology.specs.Answers.{Answer, Outcome, outcome}
use Rattle.morphology.specs.Element.{offsets}
use Rattle.morphology.specs.Image.{image_set, plane_bytes, stride}
use Rattle.morphology.specs.Labels.{points_of}
use Rattle.morphology.specs.Lists.{every_of, greatest}
use Rattle.morphology.specs.Operations.{decompose_rows, decomposed, labelled, skeleton_answer}
use Rattle.morphology.specs.Refusals.{Row, first_refusal, not_plane, not_places, row1, row2, row3, row4, short_work, unless}
use Rattle.morphology.specs.Skeleton.{skeleton_function, skeleton_labels}
use Rattle.morphology.proofs.CountLaws.{count_le}
use Rattle.morphology.proofs.DecomposeLaws.{greatest-raster}
use Rattle.morphology.proofs.LabelLaws.{length-raster}
use Rattle.morphology.proofs.RefusalLaws.{clear-out, or-hit}
use Rattle.morphology.proofs.SkeletonLaws.{label_le}
use Rattle.morphology.proofs.TestLaws.{and_l, and_r}
use Rattle.refusals.proofs.SideLaws.{sides_of}
use Rattle.numbers.specs.Numbers.{number_at}
use Rattle.listing.specs.Printed.{answer_text, enough, longest, no_size, outcome_text, printed, refusal_text, side, side_bytes, taken}
use Rattle.listing.specs.Text.{decimal}
use Rattle.listing.proofs.LengthLaws.{refusal-length, skeleton-length, three-digits}

-- ---- the sizes of an image whose sides are bytes

pub record ByteSides (W H : ℕ) : Type 0 where
  pub across : W ≤ side
  pub down : H ≤ side
  pub places : W * H ≤ side * side
  pub bytes : H * ((W + 7) / 8) ≤ side * side_bytes

pub sizes : (W H : ℕ) → W < 256 → H < 256 → ByteSides W H
sizes W H a b =
    let w : W ≤ side = omega arith in
    let h : H ≤ side = omega arith in
    let r : (W + 7) / 8 ≤ side_bytes = omega arith in
    record { across = w; down = h; places = mul-le-mul w h; bytes = mul-le-mul h r }

pub plane_is : (W H : ℕ) → plane_bytes W H ≡ H * ((W + 7) / 8)
unfolding stride
plane_is W H = refl

-- ---- refusals

-- the first refusal is one of the table's numbers
first_le : (N : ℕ) (rows : List Row) → T (every_of (λ r. leb r.0 N) rows) → first_refusal rows ≤ N
unfolding first_refusal
first_le N [] t = zero-le
first_le N ((n, b) ∷ rows) t = by b (leb→le n N (and_l (leb n N) (every_of (λ r. leb r.0 N) rows) t)) (first_le N rows (and_r (leb n N) (every_of (λ r. leb r.0 N) rows) t))
  where
    by : (b : Bool) → n ≤ N → first_refusal rows ≤ N → cond b n (first_refusal rows) ≤ N
    by true l m = l
    by false l m = m

unless-text : (W H r : ℕ) (lent : List (List ℕ)) (o : Outcome) → (r ≡ 0 → ⊥) → outcome_text W H (unless r lent o) ≡ refusal_text r
unfolding answer_text
unless-text W H zero lent o f = absurd (f refl)
unless-text W H (suc r) lent o f = refl

-- an image that is longer than P
abbrev pub too_long : ℕ → ℕ → ℕ → List Row
too_long W H e = row1 W H ∷ row2 e ∷ (3, true) ∷ []

too_long_lem : (W H e : ℕ) → first_refusal (too_long W H e) ≡ 0 → ⊥
unfolding first_refusal
too_long_lem W H e = by (row1 W H).1 (row2 e).1
  where
    by : (a b : Bool) → ◌≡◌ {A = ℕ} (cond a 1 (cond b 2 3)) 0 → ⊥
    by true b q = omega arith
    by false true q = omega arith
    by false false q = omega arith

third-hit : (a b : Row) (t : Bool) (rows : List Row) → t ≡ true → first_refusal (a ∷ b ∷ (3, t) ∷ rows) ≡ first_refusal (a ∷ b ∷ (3, true) ∷ [])
unfolding first_refusal
third-hit a b t rows q = ap (λ (c : Bool). cond a.1 a.0 (cond b.1 b.0 (cond c 3 (first_refusal rows)))) q

module _ (W H e : ℕ) (image : List ℕ) where
  abbrev labels : List ℕ
  labels = replicate (W * H) 0

  abbrev work : List ℕ
  work = replicate (3 * plane_bytes W H) 0

  abbrev rows : List Row
  rows = decompose_rows W H e image labels work

  abbrev found : List ℕ
  found = skeleton_labels W H (offsets e) (image_set W H image)

  found_le : greatest found ≤ max W H
  unfolding skeleton_labels
  found_le = greatest-raster W H (max W H) (skeleton_function (offsets e) (image_set W H image) (max W H)) (label_le (offsets e) (image_set W H image) (max W H))

  found-length : length found ≡ W * H
  unfolding skeleton_labels
  found-length = length-raster W H (skeleton_function (offsets e) (image_set W H image) (max W H))

  -- what is printed of an image fits the buffer
  pub outcome_fits : ByteSides W H → length (outcome_text W H (taken W H e image)) ≤ longest
  unfolding decomposed answer_text
  outcome_fits z = by (first_refusal rows) refl
    where
      sized : 0 < W → (g : ℕ) → greatest found ≡ g → length (answer_text W H (skeleton_answer found g) found) ≤ longest
      sized w zero q = skeleton-length W H 0 no_size found w z.across z.down (omega arith) (omega arith) (omega (arith, found_le))
      sized w (suc n) q =
          skeleton-length W H (points_of found) (decimal n) found w z.across z.down (omega (arith, count_le (λ v. not (eqb v 0)) found, found-length))
          (three-digits n (omega (arith, found_le))) (omega (arith, found_le))

      by : (r : ℕ) → first_refusal rows ≡ r → length (outcome_text W H (unless r (labels ∷ work ∷ []) (labelled W H found work))) ≤ longest
      by zero q = sized (sides_of W H (clear-out rows tt q).0).wide (greatest found) refl
      by (suc r) q = refusal-length (suc r) (omega (arith, first_le 4 rows tt))

  -- an image that is too long is refused, whatever its bytes are
  pub long-text : plane_bytes W H < length image → outcome_text W H (taken W H e image) ≡ refusal_text (first_refusal (too_long W H e))
  unfolding decomposed
  long-text l =
      ap (λ (r : ℕ). outcome_text W H (unless r (labels ∷ work ∷ []) (labelled W H found work))) first
      ∙ unless-text W H (first_refusal (too_long W H e)) (labels ∷ work ∷ []) (labelled W H found work) (too_long_lem W H e)
    where
      wrong : (row3 (not_plane W H image ∷ not_places W H labels ∷ short_work W H work ∷ [])).1 ≡ true
      wrong = or-hit (not_plane W H image) _ (ap not (ne_eqb (length image) (plane_bytes W H) (λ q. omega arith)))

      first : first_refusal rows ≡ first_refusal (too_long W H e)
      first = third-hit (row1 W H) (row2 e) _ (row4 W H image ∷ []) wrong

-- ---- buffers of zeros

pub zeros-length : (n : ℕ) (l : List ℕ) → l ≡ replicate n 0 → length l ≡ n
zeros-length n l e = ap length e ∙ length-replicate n 0

zeros_front : (k n : ℕ) → k ≤ n → take k (replicate {A = ℕ} n 0) ≡ replicate k 0
zeros_front zero n h = refl
zeros_front (suc k) zero h = absurd (not-suc-le-zero h)
zeros_front (suc k) (suc n) h = ap (λ (l : List ℕ). 0 ∷ l) (zeros_front k n (omega arith))

-- a part of k of n zeros, lent
pub zeros-part : (k n : ℕ) (l : List ℕ) → l ≡ replicate n 0 → k ≤ n → take k l ≡ replicate k 0
zeros-part k n l e h = ap (take k) e ∙ zeros_front k n h

-- a decomposition in them
pub taken_is : (W H e : ℕ) (image l k l' k' : List ℕ) (a : Answer) → l ≡ replicate (W * H) 0 → k ≡ replicate (3 * plane_bytes W H) 0
    → outcome a (l' ∷ k' ∷ []) ≡ decomposed W H e image l k → outcome_text W H (taken W H e image) ≡ answer_text W H a l'
taken_is W H e image l k l' k' a u v o = ap (outcome_text W H) (sym (o ∙ ap₂ (λ (s t : List ℕ). decomposed W H e image s t) u v))

-- ---- an input

pub printed-short : (input : List ℕ) → length input < 6 → printed input ≡ refusal_text 3
unfolding printed
printed-short input l =
    let W = get_or input 0 0 in
    let H = get_or input 1 0 in
    ap (λ (b : Bool). cond b (refusal_text 3) (outcome_text W H (taken W H (number_at input 2) (drop 6 input)))) (lt-ltb (length input) 6 l)

pub printed_long : (input : List ℕ) → 6 ≤ length input
    → printed input ≡ outcome_text (get_or input 0 0) (get_or input 1 0) (taken (get_or input 0 0) (get_or input 1 0) (number_at input 2) (drop 6 input))
unfolding printed
printed_long input l =
    let W = get_or input 0 0 in
    let H = get_or input 1 0 in
    ap (λ (b : Bool). cond b (refusal_text 3) (outcome_text W H (taken W H (number_at input 2) (drop 6 input)))) (le-ltb (length input) 6 l)

-- what is printed fits the buffer
pub printed-fits : (input : List ℕ) → get_or input 0 0 < 256 → get_or input 1 0 < 256 → length (printed input) ≤ longest
printed-fits input a b = by (dec_lt (length input) 6)
  where
    by : Dec (length input < 6) → length (printed input) ≤ longest
    by (yes l) = omega (arith, ap length (printed-short input l), refusal-length 3 (omega arith))
    by (no l) =
        let W = get_or input 0 0 in
        let H = get_or input 1 0 in
        omega (arith, ap length (printed_long input (omega arith)), outcome_fits W H (number_at input 2) (drop 6 input) (sizes W H a b))

-- the image, lent as a part of k bytes
pub printed-part : (input : List ℕ) (k e : ℕ) → 6 ≤ length input → k ≡ length input - 6 → e ≡ number_at input 2
    → outcome_text (get_or input 0 0) (get_or input 1 0) (taken (get_or input 0 0) (get_or input 1 0) e (take k (drop 6 input))) ≡ printed input
printed-part input k e l p q =
    let W = get_or input 0 0 in
    let H = get_or input 1 0 in
    ap₂ (λ (n : ℕ) (s : List ℕ). outcome_text W H (taken W H n s)) q (take_all k (drop 6 input) (omega (arith, length-drop 6 input)))
    ∙ sym (printed_long input l)

-- no byte past the longest input and one more changes what is printed: so many are enough to read
pub printed-enough : (input : List ℕ) → get_or input 0 0 < 256 → get_or input 1 0 < 256 → printed (take enough input) ≡ printed input
printed-enough input a b = by (dec_lt enough (length input))
  where
    read : List ℕ
    read = take enough input

    text : ℕ → ℕ → ℕ → List ℕ
    text W H e = refusal_text (first_refusal (too_long W H e))

    long : (s : List ℕ) → get_or s 0 0 < 256 → get_or s 1 0 < 256 → enough ≤ length s → printed s ≡ text (get_or s 0 0) (get_or s 1 0) (number_at s 2)
    long s p q l =
        printed_long s (omega arith) ∙ long-text (get_or s 0 0) (get_or s 1 0) (number_at s 2) (drop 6 s)
        (let z = sizes (get_or s 0 0) (get_or s 1 0) p q in omega (arith, length-drop 6 s, plane_is (get_or s 0 0) (get_or s 1 0)))

    same : (i : ℕ) → i < enough → get_or read i 0 ≡ get_or input i 0
    same i l = get_or-take enough input i 0 l

    by : Dec (enough < length input) → printed read ≡ printed input
    by (no d) = ap printed (take_all enough input (omega arith))
    by (yes d) =
        let n : length read ≡ enough = length-take-le enough input (omega arith) in
        let e : number_at read 2 ≡ number_at input 2 = omega (arith, same 2 (omega arith), same 3 (omega arith), same 4 (omega arith), same 5 (omega arith)) in
        let s0 = same 0 (omega arith) in
        let s1 = same 1 (omega arith) in
        long read (omega arith) (omega arith) (omega arith)
        ∙ ap (λ (W : ℕ). text W (get_or read 1 0) (number_at read 2)) s0
        ∙ ap₂ (λ (H n : ℕ). text (get_or input 0 0) H n) s1 e
        ∙ sym (long input a b (omega arith))
