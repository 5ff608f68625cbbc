-- Text written into a buffer from a place on. Definitions only; proofs/AppendLaws.antt has the laws.
use Rattle.std.specs.Prelude.{List, ◌++◌, ◌≡◌, ◌+◌, ◌≤◌, ℕ, drop, length, take}

-- out has room for text s from `at` on
pub record TextFits (s : List ℕ) (at : ℕ) (out : List ℕ) : Type 0 where
  pub fits : at + length s ≤ length out

-- text s stands after what out held up to `at`, and ends at next, from where out is as it was
pub record Appended (s : List ℕ) (at next : ℕ) (out out' : List ℕ) : Type 0 where
  pub size : length out' ≡ length out
  pub ends : next ≡ at + length s
  pub text : take next out' ≡ take at out ++ s
  pub rest : drop next out' ≡ drop next out

-- text s stands at the start of out, n bytes, from where out is as it was
pub record Listed (s : List ℕ) (n : ℕ) (out out' : List ℕ) : Type 0 where
  pub count : n ≡ length s
  pub text : out' ≡ s ++ drop n out
