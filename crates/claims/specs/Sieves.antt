-- A list of sieves. A sieve at k (01's word; in the field, one opening of a granulometry) is two calls on one image: its decomposition,
-- then the reconstruction at cut k into the image's own bytes. Definitions only; proofs/SieveLaws.antt has the laws.
use Rattle.std.specs.Prelude.{Bool, ◌||◌, cond, not, List, [], ◌∷◌, map, ℕ, eqb}
use Rattle.morphology.specs.Answers.{Outcome, output}
use Rattle.morphology.specs.Lists.{greatest}
use Rattle.morphology.specs.Operations.{decomposed, reconstructed}

-- all that a caller hands in besides the image, with any contents; others may write the work between the two calls
pub record Sieve : Type 0 where
  pub width : ℕ
  pub height : ℕ
  pub element : ℕ
  pub cut : ℕ
  pub labels : List ℕ
  pub first_work : List ℕ
  pub second_work : List ℕ

-- the first call: from the image into the sieve's labels
unfoldable pub taken_apart : Sieve → List ℕ → Outcome
taken_apart s image = decomposed s.width s.height s.element image s.labels s.first_work

-- the second call: from the labels that the first one left into the image's own bytes
unfoldable pub rebuilt : Sieve → List ℕ → Outcome
rebuilt s image = reconstructed s.width s.height s.element s.cut (output (taken_apart s image)) image s.second_work

abbrev pub is_refused : Outcome → Bool
is_refused o = not (eqb o.answer.refusal 0)

-- a sieve is refused where the table refuses either call; no second call is made where the first is refused
unfoldable pub sieve_refused : Sieve → List ℕ → Bool
sieve_refused s image = is_refused (taken_apart s image) || is_refused (rebuilt s image)

-- the image after a sieve: as it was where the sieve is refused
unfoldable pub sieved : Sieve → List ℕ → List ℕ
sieved s image = cond (sieve_refused s image) image (output (rebuilt s image))

-- each sieve takes the image that the one before left
unfoldable pub sieve_all : List Sieve → List ℕ → List ℕ
sieve_all [] image = image
sieve_all (s ∷ ss) image = sieve_all ss (sieved s image)

-- the sieves of the list that are not refused, in order, each with the outcome of its reconstruction
unfoldable pub accepted : List Sieve → List ℕ → List (Sieve × Outcome)
accepted [] image = []
accepted (s ∷ ss) image = let rest = accepted ss (sieved s image) in cond (sieve_refused s image) rest ((s, rebuilt s image) ∷ rest)

-- the largest cut, 0 if there is none ("K" in 01)
unfoldable pub largest_cut : List (Sieve × Outcome) → ℕ
largest_cut done = greatest (map (λ a. a.0.cut) done)
