-- An image coded size by size, from the smallest up. Definitions only; proofs/SizeLaws.antt has the laws.
use Rattle.std.specs.Prelude.{Bool, false, List, [], ◌++◌, ◌∷◌, map, ◌≡◌, ◌*◌, ◌+◌, ◌<◌, ◌≤◌, suc, zero, ℕ, T, drop, get_or, length, take}
use Rattle.coding.specs.Runs.{runs, unmasked}
use Rattle.coding.specs.Symbols.{numeral, section}
use Rattle.coding.specs.Writing.{eroded_runs}
use Rattle.iteration.specs.Bands.{PlaneEroded}
use Rattle.morphology.specs.Answers.{Answer, answered, blank}
use Rattle.morphology.specs.Element.{is_element}
use Rattle.morphology.specs.Image.{image_set, is_clean, pack}
use Rattle.morphology.specs.Morphology.{erode, opening, times}
use Rattle.morphology.specs.Point.{Point}
use Rattle.raster.specs.Frames.{Frame}
use Rattle.raster.specs.Rows.{overwrite}
use Rattle.sections.specs.Kinds.{kinds_from, runs_of}
use Rattle.sections.specs.Pens.{Marked}

-- ---- one size

-- what it begins with: three planes, p bytes apart, of which the first is clean
pub record SizeStart (W H r p e : ℕ) (work : List ℕ) : Type 0 where
  pub frame : Frame W H r
  pub apart : H * r ≤ p
  pub planes : p + p + H * r ≤ length work
  pub element : T (is_element e)
  pub clean : T (is_clean W H work)

-- the runs of the first plane over the pixels outside its opening, where k pixels were counted before
abbrev pub lacking_runs : ℕ → ℕ → List Point → ℕ → List ℕ → List ℕ
lacking_runs W H B k work = runs_of k (kinds_from W (image_set W H work) (opening B (image_set W H work)) 0 (W * H))

-- these runs marked, and the first plane eroded by way of the others
pub record SizeTurned (down : Bool) (W H p : ℕ) (B : List Point) (k : ℕ) (work work' out out' : List ℕ) (at at' : ℕ) : Type 0 where
  pub planes :
      let X = image_set W H work in
      let E = pack W H (erode B X) in
      work' ≡ overwrite 0 E (overwrite (p + p) (pack W H (opening B X)) (overwrite p E work))
  pub runs : Marked down (lacking_runs W H B k work) out out' at at'

-- the runs of the whole first plane
abbrev pub open_runs : ℕ → ℕ → List Point → List ℕ → List ℕ
open_runs W H B work = let X = image_set W H work in runs X 0 (unmasked W H (opening B X))

-- and where nothing is masked
abbrev pub ink_runs : ℕ → ℕ → List ℕ → List ℕ
ink_runs W H work = runs (image_set W H work) 0 (unmasked W H (λ z. false))

pub record SizeStepped (down : Bool) (W H p : ℕ) (B : List Point) (work work' out out' : List ℕ) (at at' : ℕ) : Type 0 where
  pub planes : PlaneEroded W H p B work work'
  pub runs : Marked down (open_runs W H B work) out out' at at'

-- ---- the sizes one after the other

-- the symbols of the sizes below n, the largest first
unfoldable pub symbols_below : (ℕ → List ℕ) → ℕ → List ℕ
symbols_below f zero = []
symbols_below f (suc n) = section (map numeral (f n)) ++ symbols_below f n

-- after n sizes: the plane of X(n), from the fourth on as it was
pub record SizesPassed (W H p : ℕ) (B : List Point) (X : Point → Bool) (n : ℕ) (work₀ work : List ℕ) : Type 0 where
  pub size : length work ≡ length work₀
  pub eroded : take p work ≡ pack W H (erode (times B n) X)
  pub rest : drop (3 * p) work ≡ drop (3 * p) work₀

-- the lengths of the sections of the sizes below n, and that of all
pub record Lengths (W H : ℕ) (B : List Point) (X : Point → Bool) (n : ℕ) (lengths : List ℕ) (total : ℕ) : Type 0 where
  pub each : (k : ℕ) → k < n → get_or lengths k 0 ≡ length (section (map numeral (eroded_runs W H B X k)))
  pub whole : total ≡ length (symbols_below (eroded_runs W H B X) n)

-- no ink is left from size n on
abbrev pub Gone : List Point → (Point → Bool) → ℕ → Type 0
Gone B X n = (z : Point) → T (erode (times B n) X z) → ⊥

-- all sizes measured: n of them have ink, and no more
pub record Measured (W H p : ℕ) (B : List Point) (X : Point → Bool) (n : ℕ) (lengths : List ℕ) (total : ℕ) (work₀ work : List ℕ) : Type 0 where
  pub measured : Lengths W H B X n lengths total
  pub before : (k : ℕ) → n ≡ suc k → (z : Point) × T (erode (times B k) X z)
  pub gone : Gone B X n
  pub size : length work ≡ length work₀
  pub rest : drop (3 * p) work ≡ drop (3 * p) work₀

-- the answer to so many sizes and bytes
abbrev pub sizes_answer : ℕ → ℕ → Answer
sizes_answer zero bytes = blank
sizes_answer (suc n) bytes = answered (bytes ∷ n ∷ [])
