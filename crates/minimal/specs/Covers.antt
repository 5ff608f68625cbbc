-- What points cover, and how often. Definitions only; proofs/CoverCountLaws.antt has the laws.
use Rattle.std.specs.Prelude.{Bool, ◌≡◌, ◌*◌, ◌<◌, suc, ℕ, T, get_or}
use mathlib.Core.List.{List, Memᴰ}
use Rattle.morphology.specs.Image.{on_frame}
use Rattle.morphology.specs.Labels.{place, raster}
use Rattle.morphology.specs.Lists.{count_of, up_to}
use Rattle.morphology.specs.Minimal.{covers}
use Rattle.morphology.specs.Morphology.{dilate, times}
use Rattle.morphology.specs.Point.{Point, ◌⊞◌, same_point}

-- place i alone
abbrev pub single : ℕ → ℕ → (Point → Bool)
single W i y = same_point y (place W i)

-- dilated n times: what a point of size n there covers
abbrev pub spread : ℕ → List Point → ℕ → ℕ → (Point → Bool)
spread W B n i = dilate (times B n) (single W i)

-- a point of size n at place i stays on the frame
abbrev pub Stays : ℕ → ℕ → List Point → ℕ → ℕ → Type 0
Stays W H B n i = (b : Point) → Memᴰ b (times B n) → T (on_frame W H (place W i ⊞ b))

-- every point of the map m does
abbrev pub AllStay : ℕ → ℕ → List Point → List ℕ → Type 0
AllStay W H B m = (i n : ℕ) → i < W * H → get_or m i 0 ≡ suc n → Stays W H B n i

-- how many of the map's points cover z
unfoldable pub cover : ℕ → ℕ → List Point → List ℕ → Point → ℕ
cover W H B m z = count_of (covers W B m z) (up_to (W * H))

-- the counters
abbrev pub counts : ℕ → ℕ → List Point → List ℕ → List ℕ
counts W H B m = raster W H (cover W H B m)
