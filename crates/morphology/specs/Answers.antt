-- What a call answers and what it leaves. Definitions only.
use Rattle.std.specs.Prelude.{List, [], ◌∷◌, ℕ, get_or}

-- 01's number of the refusal, 0 where there is none, and 01's values
pub record Answer : Type 0 where
  pub refusal : ℕ
  pub values : List ℕ

-- a refusal answers its number alone
abbrev pub refused : ℕ → Answer
refused n = record { refusal = n; values = [] }

abbrev pub answered : List ℕ → Answer
answered vs = record { refusal = 0; values = vs }

-- erosion, opening, reconstruction, hit-or-miss: the area of the image written
abbrev pub foreground : ℕ → Answer
foreground n = answered (n ∷ [])

-- decomposition: the points and the largest size; of an empty image the points alone, since it has no largest size
abbrev pub skeleton : ℕ → ℕ → Answer
skeleton n s = answered (n ∷ s ∷ [])

abbrev pub blank : Answer
blank = answered (0 ∷ [])

-- minimisation: the points left
abbrev pub minimal : ℕ → Answer
minimal n = answered (n ∷ [])

-- thinning: the passes made, the points removed, the area left
abbrev pub thinned : ℕ → ℕ → ℕ → Answer
thinned p r n = answered (p ∷ r ∷ n ∷ [])

-- the answer, and all buffers that the call may write, afterwards, in the order of its parameters
pub record Outcome : Type 0 where
  pub answer : Answer
  pub lent : List (List ℕ)

abbrev pub outcome : Answer → List (List ℕ) → Outcome
outcome a l = record { answer = a; lent = l }

-- the first of the buffers: the image or the labels that the call writes
abbrev pub output : Outcome → List ℕ
output o = get_or o.lent 0 []
