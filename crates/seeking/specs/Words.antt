-- Words of pixels, and walks over them that seek points (reading/specs/Seeking.antt). Definitions only; proofs/OnwardLaws.antt has the laws.
use Rattle.std.specs.Prelude.{Bool, not, List, [], ◌∷◌, ◌≡◌, ◌*◌, ◌+◌, ◌<◌, ◌^◌, ◌≤◌, suc, zero, ℕ, Option, Some, None}
use Rattle.morphology.specs.Element.{bit}
use Rattle.reading.specs.Nexts.{next_of}
use Rattle.reading.specs.Seeking.{Seek, sought_all, sought_points}
use Rattle.reading.specs.declared.Next.{Next}
use Rattle.reading.specs.declared.Next.TheVariants.{Ended, Run}

-- m pixels of a word, the highest bit leftmost
unfoldable pub word_bits : ℕ → ℕ → List Bool
word_bits zero v = []
word_bits (suc m) v = bit v m ∷ word_bits m v

-- those that a mask covers, where the word has the pixels that are free
unfoldable pub barred : ℕ → ℕ → List Bool
barred zero v = []
barred (suc m) v = not (bit v m) ∷ barred m v

-- A walk over the pixels l, n of them, from the stand t has come to the last n' of them, l', and to the stand t'; v has the points met on the way, at their
-- heights among the n.
pub record Onward (limit n : ℕ) (l : List Bool) (t : Seek) (v n' : ℕ) (l' : List Bool) (t' : Seek) : Type 0 where
  pub stands : sought_all limit l t ≡ sought_all limit l' t'
  pub room : v + 2 ^ n' ≤ 2 ^ n
  pub marks : (q : ℕ) → q < 2 ^ n' → word_bits n' q ≡ sought_points limit l' t' → word_bits n (v + q) ≡ sought_points limit l t

-- The walk over the pixels l, n of them: v has the points, and `next` is what follows, in a stream with the symbols s.
pub record WordSought (s : List ℕ) (limit n : ℕ) (l : List Bool) (t : Seek) (v : ℕ) (next : Option Next) : Type 0 where
  pub small : v < 2 ^ n
  pub marks : word_bits n v ≡ sought_points limit l t
  pub stands : next_of s next ≡ sought_all limit l t

-- Where a walk over n pixels stands that began at symbol `at` with `left` pixels to pass: it has taken two symbols for a pixel at most, and those of its last
-- run, of which some pixels may be to come.
abbrev pub Advanced : ℕ → ℕ → ℕ → ℕ → Option Next → Type 0
Advanced limit n left at None = Unit {0}
Advanced limit n left at (Some (Ended next)) = next + left ≤ at + 2 * n
Advanced limit n left at (Some (Run run)) = (run.at + left ≤ at + run.left + 2 * n) × (run.left < limit)
