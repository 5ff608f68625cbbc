-- The rows of a plane that hold ink: the first, and one past the last. Definitions only; proofs/BandLaws.antt has the laws.
use Rattle.std.specs.Prelude.{List, ◌≡◌, ◌*◌, ◌+◌, ◌-◌, ◌<◌, ◌≤◌, ℕ, get_or}

-- row y of r bytes is background
abbrev pub BlankRow : ℕ → List ℕ → ℕ → Type 0
BlankRow r s y = (i : ℕ) → i < r → get_or s (y * r + i) 0 ≡ 0

-- y is the first of the rows from a up to b that is not blank, or b
pub record FirstRow (r a b : ℕ) (s : List ℕ) (y : ℕ) : Type 0 where
  pub from : a ≤ y
  pub to : y ≤ b
  pub blank : (k : ℕ) → a ≤ k → k < y → BlankRow r s k
  pub ink : y < b → BlankRow r s y → ⊥

-- y is one past the last of the rows from a up to b that is not blank, or a
pub record EndRow (r a b : ℕ) (s : List ℕ) (y : ℕ) : Type 0 where
  pub from : a ≤ y
  pub to : y ≤ b
  pub blank : (k : ℕ) → y ≤ k → k < b → BlankRow r s k
  pub ink : a < y → BlankRow r s (y - 1) → ⊥
