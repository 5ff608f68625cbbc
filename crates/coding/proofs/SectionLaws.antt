-- Sections run by run: the symbols of each run with a comma after it, then the commas that end the size.
use mathlib.Core.List.{List, [], ◌++◌, ◌∷◌, append_assoc, map}
use mathlib.Core.Path.{◌∙◌, ◌≡◌, ap, refl, sym}
use Prim.Native.Nat.{ℕ}
use Rattle.coding.specs.Symbols.{comma, digit_symbols, numeral, parted, section}
use Rattle.coding.specs.Writing.{ending, runs_symbols}

-- what follows a run and its comma: more runs, each with a comma, then one comma more
section_cons : (r : ℕ) (rs : List ℕ) → section (map numeral (r ∷ rs)) ≡ runs_symbols (r ∷ rs) ++ comma ∷ []
unfolding section parted runs_symbols
section_cons r [] = sym (append_assoc (digit_symbols (numeral r)) (comma ∷ []) (comma ∷ []))
section_cons r (v ∷ rs) =
    append_assoc (digit_symbols (numeral r)) (comma ∷ parted (map numeral (v ∷ rs))) (comma ∷ comma ∷ [])
    ∙ ap (λ (l : List ℕ). digit_symbols (numeral r) ++ comma ∷ l) (section_cons v rs)
    ∙ sym (append_assoc (digit_symbols (numeral r)) (comma ∷ runs_symbols (v ∷ rs)) (comma ∷ []))

pub section-runs : (rs : List ℕ) → section (map numeral rs) ≡ runs_symbols rs ++ ending rs
unfolding section parted runs_symbols
section-runs [] = refl
section-runs (r ∷ rs) = section_cons r rs

pub runs_append : (xs ys : List ℕ) → runs_symbols (xs ++ ys) ≡ runs_symbols xs ++ runs_symbols ys
unfolding runs_symbols
runs_append [] ys = refl
runs_append (x ∷ xs) ys =
    ap (λ (l : List ℕ). digit_symbols (numeral x) ++ comma ∷ l) (runs_append xs ys)
    ∙ sym (append_assoc (digit_symbols (numeral x)) (comma ∷ runs_symbols xs) (runs_symbols ys))
