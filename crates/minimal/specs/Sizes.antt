-- Minimisation size by size: the plane of a size, the counters on the way up. Definitions only; proofs/SizeLaws.antt and CountingLaws.antt have the laws.
use Rattle.std.specs.Prelude.{Bool, ◌&&◌, ◌||◌, List, ◌≡◌, ◌*◌, ◌+◌, ◌<◌, ◌≤◌, ℕ, T, eqb, leb, ltb, drop, get_or, length}
use Rattle.morphology.specs.Element.{is_element, offsets}
use Rattle.morphology.specs.Image.{image_set, is_clean}
use Rattle.morphology.specs.Labels.{max_label, raster}
use Rattle.morphology.specs.Lists.{count_of, greatest, up_to}
use Rattle.morphology.specs.Minimal.{covers}
use Rattle.morphology.specs.Point.{Point}
use Rattle.morphology.specs.Refusals.{max_side}
use Rattle.raster.specs.Frames.{Frame, Sheet}
use Rattle.minimal.specs.Covers.{AllStay, Stays, spread}

-- a plane is what a point of size n at place a covers, and that stays on the frame
pub record Shape (W H r : ℕ) (B : List Point) (n a : ℕ) (s : List ℕ) : Type 0 where
  pub frame : Frame W H r
  pub bytes : H * r ≤ length s
  pub clean : T (is_clean W H s)
  pub set : image_set W H s ≡ spread W B n a
  pub stays : Stays W H B n a

-- a map whose points stay on the frame, and counters for it
pub record AllFit (W H : ℕ) (B : List Point) (m : List ℕ) : Type 0 where
  pub places : length m ≡ W * H
  pub few : W * H ≤ max_side * max_side
  pub stays : AllStay W H B m

-- a map, a place a of its largest label, and work: minimisation can begin
pub record WalkBegun (W H r p e a top : ℕ) (m work : List ℕ) : Type 0 where
  pub sheet : Sheet W H r p
  pub planes : 2 * p ≤ length work
  pub element : T (is_element e)
  pub tame : AllFit W H (offsets e) m
  pub place : a < W * H
  pub label : get_or m a 0 ≡ top
  pub largest : greatest m ≡ top
  pub fits : top ≤ max_label

-- from its third plane on work is as it was
pub record Left (p : ℕ) (old new : List ℕ) : Type 0 where
  pub size : length new ≡ length old
  pub rest : drop (2 * p) new ≡ drop (2 * p) old

-- no place from i on, up to e, has label v
abbrev pub Without : ℕ → ℕ → ℕ → List ℕ → Type 0
Without v i e m = (j : ℕ) → i ≤ j → j < e → get_or m j 0 ≡ v → ⊥

-- i is the first place from `from` on with label v, or the end
pub record NextPlace (v from : ℕ) (m : List ℕ) (i : ℕ) : Type 0 where
  pub after : from ≤ i
  pub within : i ≤ length m
  pub without : Without v from i m
  pub label : i < length m → get_or m i 0 ≡ v

-- counted before place i of size n: a smaller size, or a place before
abbrev pub before : List ℕ → ℕ → ℕ → ℕ → Bool
before m n i j = leb (get_or m j 0) n || (eqb (get_or m j 0) (n + 1) && ltb j i)

-- how many of those cover z
unfoldable pub cover_to : ℕ → ℕ → List Point → List ℕ → ℕ → ℕ → Point → ℕ
cover_to W H B m n i z = count_of (λ j. before m n i j && covers W B m z j) (up_to (W * H))

-- the counters then
abbrev pub Counting : ℕ → ℕ → List Point → List ℕ → ℕ → ℕ → List ℕ → Type 0
Counting W H B m n i c = c ≡ raster W H (cover_to W H B m n i)
