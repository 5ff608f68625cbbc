-- Writing by erosions, as the passes over the image do. Definitions only; proofs/MaskLaws.antt and SectionLaws.antt have the laws: these are the runs and the
-- sections of Codes.antt and Symbols.antt.
use Rattle.std.specs.Prelude.{Bool, List, [], ◌++◌, ◌∷◌, suc, zero, ℕ}
use Rattle.coding.specs.Runs.{runs, unmasked}
use Rattle.coding.specs.Symbols.{comma, digit_symbols, numeral}
use Rattle.morphology.specs.Morphology.{dilate, erode, times}
use Rattle.morphology.specs.Point.{Point}

-- f from n down to 0
abbrev pub down_from : {A : Type 0} → (ℕ → A) → ℕ → List A
down_from f zero = f 0 ∷ []
down_from f (suc n) = f (suc n) ∷ down_from f n

-- the runs of size n: those of X(n) over the pixels outside X(n + 1) dilated once
abbrev pub eroded_runs : ℕ → ℕ → List Point → (Point → Bool) → ℕ → List ℕ
eroded_runs W H B X n = runs (erode (times B n) X) 0 (unmasked W H (dilate B (erode (times B (suc n)) X)))

-- ---- a section run by run

-- the symbols of runs, a comma after each
unfoldable pub runs_symbols : List ℕ → List ℕ
runs_symbols [] = []
runs_symbols (r ∷ rs) = digit_symbols (numeral r) ++ comma ∷ runs_symbols rs

-- the commas after them that end the size
abbrev pub ending : List ℕ → List ℕ
ending [] = comma ∷ comma ∷ []
ending (r ∷ rs) = comma ∷ []
