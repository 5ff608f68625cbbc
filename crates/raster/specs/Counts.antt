-- Ones counted by words. Definitions only; proofs/CountLaws.antt has the laws.
use Rattle.std.specs.Prelude.{List, ◌≡◌, ◌*◌, ◌+◌, ◌<◌, ◌^◌, suc, zero, ℕ, drop, take}
use Rattle.std.specs.Int.Count.{ones}
use Rattle.morphology.specs.Image.{ones_of}

-- v has the ones of the k bytes of l from i on, in as many digits as they have
pub record Gathered (l : List ℕ) (i k v : ℕ) : Type 0 where
  pub fits : v < 2 ^ (8 * k)
  pub same : ones v ≡ ones_of (take k (drop i l))

-- the ones of n pieces of k bytes of l, p bytes apart, the first at o
unfoldable pub ones_apart : List ℕ → ℕ → ℕ → ℕ → ℕ → ℕ
ones_apart l p k o zero = 0
ones_apart l p k o (suc n) = ones_of (take k (drop o l)) + ones_apart l p k (o + p) n
