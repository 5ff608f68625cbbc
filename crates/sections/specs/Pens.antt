-- A pen over a stream of symbols: down it writes runs, up it only moves. Definitions only; proofs/PenLaws.antt has the laws.
use Rattle.std.specs.Prelude.{Bool, false, true, List, ◌≡◌, ◌*◌, ◌+◌, ◌<◌, ◌^◌, ◌≤◌, ℕ, T, get_or, length}
use Rattle.std.proofs.lemmas.List.Edits.{sets}
use Rattle.coding.specs.Symbols.{symbols_of}
use Rattle.coding.specs.Writing.{runs_symbols}
use Rattle.sections.specs.Kinds.{Kind, count_after, runs_of}

-- the symbols t from `at` on over those of s, where the pen is down
abbrev pub marks : Bool → List ℕ → ℕ → List ℕ → List ℕ
marks true s at t = sets s at t
marks false s at t = s

-- runs rs can be written from `at` on: there are as many commas in the stream; no place is too large for the code's numbers
pub record PenRoom (down : Bool) (stream : List ℕ) (at : ℕ) (rs : List ℕ) : Type 0 where
  pub small : at + length (runs_symbols rs) < 2 ^ 40
  pub inside : T down → at + length (runs_symbols rs) ≤ 4 * length stream
  pub commas : T down → (k : ℕ) → k < length (runs_symbols rs) → get_or (symbols_of stream) (at + k) 0 ≡ 0

-- the runs rs, each with its comma, from `at` up to `at'`
pub record Marked (down : Bool) (rs : List ℕ) (old new : List ℕ) (at at' : ℕ) : Type 0 where
  pub size : length new ≡ length old
  pub symbols : symbols_of new ≡ marks down (symbols_of old) at (runs_symbols rs)
  pub pen : at' ≡ at + length (runs_symbols rs)

-- a walk over the pixels l, where k were counted before them: their runs, and those counted after the last
pub record PenWalked (down : Bool) (l : List Kind) (old new : List ℕ) (at k at' k' : ℕ) : Type 0 where
  pub runs : Marked down (runs_of k l) old new at at'
  pub count : k' ≡ count_after k l
