-- A walk of pixels that seeks the points of one size, run by run. Definitions only; proofs/SeekLaws.antt has the laws: over the frame it is `read_size`.
use Rattle.std.specs.Prelude.{Bool, cond, false, true, List, [], ◌∷◌, suc, zero, ℕ}
use Rattle.std.proofs.Math.Option.{Option, none, some}
use Rattle.reading.specs.Taking.{short_run, take_run}
use Rattle.morphology.specs.Point.{Point}

-- so many pixels outside the mask come before the next point, and the symbols after its run; or the size has ended, and the symbols left; or the symbols
-- cannot be read
pub data Seek : Type 0 where
  seek : ℕ → List ℕ → Seek
  ended : List ℕ → Seek
  lost : Seek

abbrev pub found_run : Option (ℕ × List ℕ) → Seek
found_run none = lost
found_run (some q) = seek q.0 q.1

-- after a run and its comma: a comma ends the size; otherwise a run follows, with a value below a limit
unfoldable pub next_run : ℕ → List ℕ → Seek
next_run limit [] = lost
next_run limit (zero ∷ s) = ended s
next_run limit (suc d ∷ s) = found_run (short_run limit (take_run (suc d ∷ s)))

-- at the start of a size: two commas end it; otherwise a run follows
unfoldable pub first_run : ℕ → List ℕ → Seek
first_run limit [] = lost
first_run limit (zero ∷ []) = lost
first_run limit (zero ∷ zero ∷ s) = ended s
first_run limit (zero ∷ suc d ∷ s) = lost
first_run limit (suc d ∷ s) = next_run limit (suc d ∷ s)

-- over one pixel, masked or not: whether it is a point, and where the walk stands then
abbrev pub is_sought : Bool → Seek → Bool
is_sought true t = false
is_sought false (seek zero s) = true
is_sought false (seek (suc k) s) = false
is_sought false (ended s) = false
is_sought false lost = false

abbrev pub sought : ℕ → Bool → Seek → Seek
sought limit true t = t
sought limit false (seek zero s) = next_run limit s
sought limit false (seek (suc k) s) = seek k s
sought limit false (ended s) = ended s
sought limit false lost = lost

-- over the pixels of a list: which are points, and where the walk stands then
unfoldable pub sought_points : ℕ → List Bool → Seek → List Bool
sought_points limit [] t = []
sought_points limit (m ∷ l) t = is_sought m t ∷ sought_points limit l (sought limit m t)

unfoldable pub sought_all : ℕ → List Bool → Seek → Seek
sought_all limit [] t = t
sought_all limit (m ∷ l) t = sought_all limit l (sought limit m t)

-- the members of a list that are marked
unfoldable pub selected : {A : Type 0} → List A → List Bool → List A
selected [] marks = []
selected (z ∷ l) [] = []
selected (z ∷ l) (m ∷ marks) = let r = selected l marks in cond m (z ∷ r) r

-- what a walk has found: the points, where the size has ended
abbrev pub size_found : Seek → List Point → Option (List Point × List ℕ)
size_found (seek k s) ps = none
size_found (ended s) ps = some (ps, s)
size_found lost ps = none
