-- A sieve as it runs, whole, and lists of such sieves beside the claims' definitions. Definitions and statements only; proofs/RanLaws.antt has the proofs.
use Rattle.std.specs.Prelude.{false, List, [], ◌∷◌, ◌≡◌, ℕ, T, get_or}
use Rattle.claims.specs.Claims.{Image, OneFrame, Sieved}
use Rattle.claims.specs.Sieves.{Sieve, accepted, is_refused, largest_cut, rebuilt, sieve_all, sieve_refused, sieved, taken_apart}
use Rattle.morphology.specs.Answers.{Outcome, outcome, output}
use Rattle.morphology.specs.Element.{is_element}
use Rattle.morphology.specs.Operations.{decomposed, reconstructed}
use Rattle.morphology.specs.Refusals.{unless}

-- the work that a call leaves
abbrev pub work_of : Outcome → List ℕ
work_of o = get_or o.lent 1 []

-- the image is decomposed into labels; where that is refused, its number is the answer, and image, labels and work are as they were;
-- else the labels that it left are reconstructed into the image's own bytes, with the work that it left, and that call's answer is the answer
unfoldable pub sieve_outcome : (W H e k : ℕ) → (image labels work : List ℕ) → Outcome
sieve_outcome W H e k image labels work =
    let first = decomposed W H e image labels work in
    let second = reconstructed W H e k (output first) image (work_of first) in
    unless first.answer.refusal (image ∷ labels ∷ work ∷ []) (outcome second.answer (output second ∷ output first ∷ work_of second ∷ []))

-- ---- one sieve, as the claims have it

-- a sieve as it runs: its first work serves both calls
abbrev pub run : Sieve → List ℕ → Outcome
run s image = sieve_outcome s.width s.height s.element s.cut image s.labels s.first_work

-- the claims' sieve for it: the second call finds the work as the first one left it
abbrev pub handed : Sieve → List ℕ → Sieve
handed s image = record {
  width = s.width;
  height = s.height;
  element = s.element;
  cut = s.cut;
  labels = s.labels;
  first_work = s.first_work;
  second_work = work_of (taken_apart s image);
}

-- the image is left as the claims say; the answer refuses where they do, and is the reconstruction's where they do not
pub record Ran (s : Sieve) (image : List ℕ) (o : Outcome) : Type 0 where
  pub scan : output o ≡ sieved s image
  pub refusal : is_refused o ≡ sieve_refused s image
  pub answer : sieve_refused s image ≡ false → o.answer ≡ (rebuilt s image).answer

abbrev pub RunsAsClaimed : Type 0
RunsAsClaimed = (s : Sieve) (image : List ℕ) → Ran (handed s image) image (run s image)

-- ---- a list of sieves, each run on the image that the one before left

unfoldable pub run_all : List Sieve → List ℕ → List ℕ
run_all [] image = image
run_all (s ∷ ss) image = run_all ss (output (run s image))

unfoldable pub handed_all : List Sieve → List ℕ → List Sieve
handed_all [] image = []
handed_all (s ∷ ss) image = handed s image ∷ handed_all ss (output (run s image))

abbrev pub ListRunsAsClaimed : Type 0
ListRunsAsClaimed = (ss : List Sieve) (image : List ℕ) → run_all ss image ≡ sieve_all (handed_all ss image) image

-- Demand 3 for the list as it runs.
abbrev pub RunningSieveList : Type 0
RunningSieveList =
    (W H e : ℕ) (first : List ℕ) (ss : List Sieve) → Image W H first → T (is_element e)
    → let done = accepted (handed_all ss first) first in
    OneFrame W H e done → Sieved W H e first done (largest_cut done) (run_all ss first)
