-- What the sizes of a stream leave in work: the first plane has what they cover. Definitions only; proofs/ has the laws.
use Rattle.std.specs.Prelude.{Bool, ◌||◌, false, not, true, List, [], ◌∷◌, ◌↔◌, ◌⊎◌, ◌≡◌, ◌*◌, ◌+◌, ◌<◌, ◌^◌, ◌≤◌, ℕ, Option as Maybe, Some, None, T, drop, length, take}
use Rattle.std.proofs.Math.Option.{Option, none, some}
use Rattle.coding.specs.Runs.{unmasked}
use Rattle.coding.specs.Symbols.{symbols_of}
use Rattle.morphology.specs.Falls.{falls_off}
use Rattle.morphology.specs.Image.{image_set, ones_of, pack}
use Rattle.morphology.specs.Labels.{area}
use Rattle.morphology.specs.Morphology.{dilate, erode}
use Rattle.morphology.specs.Point.{Point}
use Rattle.morphology.specs.Refusals.{first_refusal}
use Rattle.reading.specs.Maps.{code_rows, code_set}
use Rattle.reading.specs.Points.{among}
use Rattle.reading.specs.Splits.{is_padding}
use Rattle.reading.specs.Taking.{read_size}
use Rattle.decoding.specs.declared.Joined.{Joined}

-- from the first k planes on work is as it was
pub record KeptFrom (k p : ℕ) (old new : List ℕ) : Type 0 where
  pub size : length new ≡ length old
  pub rest : drop (k * p) new ≡ drop (k * p) old

-- the next cover: the points read, joined to what the larger ones cover, A, grown
abbrev pub joined : List Point → List Point → (Point → Bool) → (Point → Bool)
joined B ps A z = among ps z || dilate B A z

-- the points of the next size, from symbol `at` up to `at'`; its cover in the first two planes; whether that, eroded, is A
pub record NextRead (w h p : ℕ) (B : List Point) (s : List ℕ) (A : Point → Bool) (at at' : ℕ) (chained : Bool) (new : List ℕ) : Type 0 where
  pub points : List Point
  pub stays : falls_off w h B A ≡ false
  pub reads : read_size (unmasked w h (dilate B A)) (drop at s) ≡ some (points, drop at' s)
  pub first : take p new ≡ pack w h (joined B points A)
  pub again : take p (drop p new) ≡ take p new
  pub chain : T chained ↔ (erode B (joined B points A) ≡ A)
  pub near : at' ≤ at + 2 * (w * h) + 2

-- a size is refused where a point of the larger ones leaves the frame when it is grown, or where its symbols cannot be read
abbrev pub StepRead : ℕ → ℕ → ℕ → List Point → List ℕ → ℕ → List ℕ → List ℕ → Maybe Joined → Type 0
StepRead w h p B s at old new None =
    KeptFrom 3 p old new × ((falls_off w h B (image_set w h old) ≡ true) ⊎ (read_size (unmasked w h (dilate B (image_set w h old))) (drop at s) ≡ none))
StepRead w h p B s at old new (Some q) = KeptFrom 3 p old new × NextRead w h p B s (image_set w h old) at q.at q.chained new

-- all sizes of a stream, the largest N: refused by row 9, or what is left to rows 10 and 11, and the image in the first plane; `at` is a small number
abbrev pub SizesEnd : ℕ → ℕ → ℕ → List Point → ℕ → List ℕ → List ℕ → List ℕ → Maybe Joined → Type 0
SizesEnd w h p B N bytes old new None = KeptFrom 3 p old new × (first_refusal (code_rows w h B (some N) bytes) ≡ 9)
SizesEnd w h p B N bytes old new (Some q) =
    KeptFrom 3 p old new
    × (first_refusal (code_rows w h B (some N) bytes) ≡ first_refusal ((10, not (is_padding (drop q.at (symbols_of bytes)))) ∷ (11, not q.chained) ∷ []))
    × (take p new ≡ pack w h (code_set w h B (some N) bytes)) × (ones_of (take p new) ≡ area w h (code_set w h B (some N) bytes))
    × (q.at < 2 ^ 40)

-- a code that was read in work: its refusal, or its image in the first plane
pub record CodeRead (w h p : ℕ) (B : List Point) (n : Option ℕ) (bytes old new : List ℕ) (refusal : ℕ) : Type 0 where
  pub kept : KeptFrom 5 p old new
  pub answer : refusal ≡ first_refusal (code_rows w h B n bytes)
  pub image : refusal ≡ 0 → take p new ≡ pack w h (code_set w h B n bytes)
  pub ones : refusal ≡ 0 → ones_of (take p new) ≡ area w h (code_set w h B n bytes)
