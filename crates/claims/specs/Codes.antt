-- The claims of 02 about the coded ticket, on the writer as coding/specs/Coding.antt defines it. Definitions only; proofs/Codes.antt proves each.
use Rattle.std.specs.Prelude.{Bool, false, ◌↔◌, ◌≢◌, ◌≡◌, ◌%◌, ◌*◌, ◌+◌, ◌-◌, ◌/◌, ◌<◌, ◌^◌, ◌≤◌, suc, ℕ, T, drop, get_or, length, take}
use mathlib.Core.List.{List, Memᴰ, [], ◌++◌, ◌∷◌, map}
use Rattle.std.proofs.Math.Option.{some}
use Rattle.claims.specs.Claims.{Holds}
use Rattle.claims.specs.Formula.{Fold, HasSize, Ink, Offset, Set}
use Rattle.coding.specs.Codes.{Code, code_of}
use Rattle.coding.specs.Coding.{coded, encode_rows, encoded}
use Rattle.coding.specs.CodingCases.{Settled}
use Rattle.coding.specs.Runs.{mask, runs, unmasked}
use Rattle.coding.specs.Symbols.{numeral, pack_symbols, sections}
use Rattle.coding.specs.Writing.{down_from}
use Rattle.morphology.specs.Answers.{Outcome, answered, blank, outcome, output, refused}
use Rattle.morphology.specs.Element.{is_element, offsets}
use Rattle.morphology.specs.Image.{image_set}
use Rattle.morphology.specs.Morphology.{times}
use Rattle.morphology.specs.Operations.{cleared}
use Rattle.morphology.specs.Point.{Point, ◌⊞◌}
use Rattle.morphology.specs.Refusals.{Row, row8}

-- ---- the settled cases

-- The bytes of G and the runs of 000's sample are those that 02 gives; A to E, H, I and one scan more, blanks and refusal 8 stand beside them.
abbrev pub SettledCodes : Type 0
SettledCodes = Settled

-- ---- refusals

-- What a call answers and leaves whose late rows are tested after work was used; `tidied` are the buffers as they were, but for a cleared work.
pub record RefusesLate (rows late : List Row) (lent tidied : List (List ℕ)) (o : Outcome) : Type 0 where
  -- where a row holds the call is refused, and no lower number holds than the one answered
  pub refuses : (n : ℕ) → Holds n (rows ++ late) → (o.answer.refusal ≢ 0) × (o.answer.refusal ≤ n)
  -- it is refused only where a row holds: that of the number answered
  pub holds : o.answer.refusal ≢ 0 → Holds o.answer.refusal (rows ++ late)
  -- a refusal by one of the first rows answers its number alone, and no lent byte has changed
  pub unchanged : Holds o.answer.refusal rows → o ≡ outcome (refused o.answer.refusal) lent
  -- a refusal by a late row answers its number alone, and no lent byte has changed but in work, which is cleared
  pub tidy : Holds o.answer.refusal late → o ≡ outcome (refused o.answer.refusal) tidied

-- So is the writer, for all arguments and all bytes: rows 1 to 4 change nothing, row 8 clears work and leaves the output.
abbrev pub WriterRefusesExactly : Type 0
WriterRefusesExactly =
    (W H e : ℕ) (image out work : List ℕ)
    → let t = code_of W H (offsets e) (image_set W H image) in
    RefusesLate (encode_rows W H e image work) (row8 (length t.stream) out ∷ []) (out ∷ work ∷ []) (out ∷ cleared W H work ∷ [])
    (encoded W H e image out work)

-- ---- what is written and answered

-- some point has size n, and none a larger one
abbrev pub IsLargest : Set → Set → ℕ → Type 0
IsLargest B X n = ((z : Point) × HasSize B X n z) × ((k : ℕ) (z : Point) → HasSize B X k z → k ≤ n)

-- What the writer leaves and answers of an image whose code is t.
pub record WritesCode (W H e : ℕ) (image out work : List ℕ) (t : Code) (o : Outcome) : Type 0 where
  -- the output's first bytes are the stream, those past it are as they were, and there are as many
  pub stream : take (length t.stream) (output o) ≡ t.stream
  pub past : drop (length t.stream) (output o) ≡ drop (length t.stream) out
  pub size : length (output o) ≡ length out
  -- work is cleared, and nothing else is lent
  pub lent : o.lent ≡ output o ∷ cleared W H work ∷ []
  -- the answer has the stream's bytes and the largest size of a point; it has neither exactly where there is no ink
  pub answer : o.answer ≡ coded t
  pub largest : (n : ℕ) → (o.answer ≡ answered (length t.stream ∷ n ∷ [])) ↔ IsLargest (Offset e) (Ink W H image) n
  pub blank : (o.answer ≡ blank) ↔ ((z : Point) → Ink W H image z → ⊥)

-- So does the writer wherever it is not refused.
abbrev pub WritesTheCode : Type 0
WritesTheCode =
    (W H e : ℕ) (image out work : List ℕ) → (encoded W H e image out work).answer.refusal ≡ 0
    → WritesCode W H e image out work (code_of W H (offsets e) (image_set W H image)) (encoded W H e image out work)

-- An image without ink has no stream: whatever is lent, row 8 never refuses it, and no byte of the output changes.
abbrev pub BlankHasNoStream : Type 0
BlankHasNoStream =
    (W H e : ℕ) (image out work : List ℕ) → ((z : Point) → Ink W H image z → ⊥)
    → let o = encoded W H e image out work in
    (o.answer.refusal ≢ 8) × (o.answer.refusal ≡ 0 → o ≡ outcome blank (out ∷ cleared W H work ∷ []))

-- ---- runs as digits, symbols as bytes

-- the number of base-3 digits, highest first, after those of v
unfoldable pub value_from : ℕ → List ℕ → ℕ
value_from v [] = v
value_from v (d ∷ ds) = value_from (v * 3 + d) ds

-- The digits of n in base 3; there is a first one, and it is 0 in the one digit 0 alone.
pub record Base3 (n : ℕ) (ds : List ℕ) : Type 0 where
  pub digits : (d : ℕ) → Memᴰ d ds → d < 3
  pub value : value_from 0 ds ≡ n
  pub first : get_or ds 0 0 ≡ 0 → ds ≡ 0 ∷ []

-- So is every run written.
abbrev pub RunsAreBase3 : Type 0
RunsAreBase3 = (n : ℕ) → Base3 n (numeral n)

-- Symbols as bytes, four to a byte: symbol j has the two bits of byte j / 4 that come after j % 4 pairs from the top; past the last symbol bits are 0.
pub record Packed (symbols bytes : List ℕ) : Type 0 where
  pub size : length bytes ≡ (length symbols + 3) / 4
  pub entries : (i : ℕ) → get_or bytes i 0 < 256
  pub bits : (j : ℕ) → get_or bytes (j / 4) 0 / 4 ^ (3 - j % 4) % 4 ≡ get_or symbols j 0

-- So are the symbols of any runs, size after size.
abbrev pub BitsFillBytes : Type 0
BitsFillBytes = (sizes : List (List ℕ)) → let s = sections (map (map numeral) sizes) in Packed s (pack_symbols s)

-- ---- which pixels are skipped

-- Of any sets of points, the next larger size first: the mask is what they cover, a point of the i-th grown i + 1 times by B.
abbrev pub MaskIsCovered : Type 0
MaskIsCovered =
    (B : List Point) (larger : List (Point → Bool)) (z : Point)
    → T (mask B larger z)
    ↔ ((i : ℕ) × (x c : Point) × (i < length larger) × T (get_or larger i (λ y. false) x) × Memᴰ c (times B (suc i)) × (z ≡ x ⊞ c))

-- covered by a larger point, grown as far as size n: some point x has a size k above n, and z is one of (k - n)B moved to x
abbrev pub CoveredAbove : Set → Set → ℕ → Set
CoveredAbove B X n z = (k : ℕ) × (x c : Point) × (n < k) × HasSize B X k x × Fold B (k - n) c × (z ≡ x ⊞ c)

-- No point of a size is skipped at that size, so that each has its run.
abbrev pub NoPointIsSkipped : Type 0
NoPointIsSkipped =
    (W H e : ℕ) (image : List ℕ) (n : ℕ) (z : Point) → T (is_element e)
    → HasSize (Offset e) (Ink W H image) n z → CoveredAbove (Offset e) (Ink W H image) n z → ⊥

-- The stream of an image whose largest size is N: a section for each size, from N down to 0, with the runs of its points over the frame's pixels,
-- row after row, that no larger point covers.
pub record Sections (W H N : ℕ) (B X : Set) (bytes : List ℕ) : Type 0 where
  pub points : ℕ → Point → Bool
  pub skipped : ℕ → Point → Bool
  pub sizes : (n : ℕ) (z : Point) → T (points n z) ↔ HasSize B X n z
  pub covered : (n : ℕ) (z : Point) → T (skipped n z) ↔ CoveredAbove B X n z
  pub stream : bytes ≡ pack_symbols (sections (down_from (λ n. map numeral (runs (points n) 0 (unmasked W H (skipped n)))) N))

-- So is the stream of every image with ink, for every element.
abbrev pub SectionsBySize : Type 0
SectionsBySize =
    (W H e : ℕ) (image : List ℕ) (N : ℕ) → T (is_element e)
    → let t = code_of W H (offsets e) (image_set W H image) in
    t.largest ≡ some N → Sections W H N (Offset e) (Ink W H image) t.stream
