-- Row 5 of the table of refusals by labels: a coordinate leaves room for sizes, and so for labels. Definitions only; proofs/WildLaws.antt has the laws.
use Rattle.std.specs.Prelude.{Bool, ◌||◌, false, not, List, ◌≡◌, ◌*◌, ◌<◌, ◌≤◌, suc, zero, ℕ, leb, ltb, pos, get_or}
use Rattle.morphology.specs.Extent.{fits}
use Rattle.morphology.specs.Labels.{max_label}

-- the size of a point with this label has no room
unfoldable pub too_large : (ℕ → Bool) → ℕ → Bool
too_large room zero = false
too_large room (suc n) = not (room n)

-- the sizes n that have room at x on a side of W, where the element goes lo back and hi forward
abbrev pub room_at : ℕ → ℕ → ℕ → ℕ → ℕ → Bool
room_at W lo hi x n = fits W (n * lo) (n * hi) (pos x)

-- of the sizes that have a label, those up to r have room
abbrev pub Room : (ℕ → Bool) → ℕ → Type 0
Room room r = (n : ℕ) → n < max_label → leb n r ≡ room n

-- of the labels, those above l are too large
abbrev pub Limit : (ℕ → Bool) → ℕ → Type 0
Limit room l = (v : ℕ) → v ≤ max_label → ltb l v ≡ too_large room v

-- a limit for each x of a side
abbrev pub Limits : ℕ → ℕ → ℕ → List ℕ → Type 0
Limits W lo hi limits = (x : ℕ) → x < W → Limit (room_at W lo hi x) (get_or limits x 0)

-- a label is above one of two limits
abbrev pub over : ℕ → ℕ → ℕ → Bool
over v a b = ltb a v || ltb b v
