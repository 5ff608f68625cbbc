-- Symbols read: the number that digits stand for, and symbols split into sizes. Definitions only; proofs/ValueLaws.antt and SplitLaws.antt have the laws.
use Rattle.std.specs.Prelude.{Bool, ◌&&◌, false, true, List, [], ◌∷◌, ◌*◌, ◌+◌, suc, zero, ℕ, eqb, ltb, length}
use Rattle.std.proofs.Math.Option.{Option, none, some}
use Rattle.coding.specs.Symbols.{comma}
use Rattle.morphology.specs.Lists.{every_of}

-- ---- runs as numerals

-- the number that n followed by the digits ds stands for
unfoldable pub value_after : ℕ → List ℕ → ℕ
value_after n [] = n
value_after n (d ∷ ds) = value_after (n * 3 + d) ds

abbrev pub value : List ℕ → ℕ
value ds = value_after 0 ds

-- a digit, and no leading zero
abbrev pub is_numeral : List ℕ → Bool
is_numeral [] = false
is_numeral (d ∷ []) = true
is_numeral (zero ∷ e ∷ ds) = false
is_numeral (suc d ∷ e ∷ ds) = true

-- what may follow the last size: the rest of its byte, 0
abbrev pub is_padding : List ℕ → Bool
is_padding s = every_of (λ a. eqb a comma) s && ltb (length s) 4

-- ---- symbols split into sizes, and what is left; a size is a list of runs, each a list of digits

-- where a symbol stands: at the start of a size; after a comma there; in a run; after a run and its comma
pub data Stand : Type 0 where
  start empty inside between : Stand

-- one more digit before the first run; one more run; one more size
abbrev pub with_digit : ℕ → List (List (List ℕ)) → List (List (List ℕ))
with_digit d [] = []
with_digit d ([] ∷ sizes) = [] ∷ sizes
with_digit d ((w ∷ ws) ∷ sizes) = ((d ∷ w) ∷ ws) ∷ sizes

abbrev pub with_run : List (List (List ℕ)) → List (List (List ℕ))
with_run [] = []
with_run (ws ∷ sizes) = ([] ∷ ws) ∷ sizes

abbrev pub with_size : List (List (List ℕ)) → List (List (List ℕ))
with_size sizes = [] ∷ sizes

-- the sizes, and the symbols left
abbrev pub Splitting : Type 0
Splitting = List (List (List ℕ)) × List ℕ

abbrev pub on_sizes : (List (List (List ℕ)) → List (List (List ℕ))) → Option Splitting → Option Splitting
on_sizes f none = none
on_sizes f (some r) = some (f r.0, r.1)

-- n sizes, or n more after the one that is being read; nothing if the symbols end early or a run has no digit
unfoldable pub split : List ℕ → Stand → ℕ → Option Splitting
split [] start zero = some ([], [])
split [] start (suc n) = none
split [] empty n = none
split [] inside n = none
split [] between n = none
split (a ∷ s) start zero = some ([], a ∷ s)
split (zero ∷ s) start (suc n) = split s empty n
split (suc d ∷ s) start (suc n) = on_sizes (with_digit d) (split s inside n)
split (zero ∷ s) empty n = on_sizes with_size (split s start n)
split (suc d ∷ s) empty n = none
split (zero ∷ s) inside n = on_sizes with_run (split s between n)
split (suc d ∷ s) inside n = on_sizes (with_digit d) (split s inside n)
split (zero ∷ s) between n = on_sizes with_size (split s start n)
split (suc d ∷ s) between n = on_sizes (with_digit d) (split s inside n)
