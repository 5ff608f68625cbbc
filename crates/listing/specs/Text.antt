-- Text as bytes of ASCII: numbers, words, lines, maps. Definitions only; proofs/TextLaws.antt has the laws.
use Rattle.std.specs.Prelude.{cond, List, [], ◌++◌, ◌∷◌, map, ◌%◌, ◌+◌, ◌/◌, suc, zero, ℕ, eqb, ltb, drop, take}

abbrev pub line_feed : ℕ
line_feed = 10

abbrev pub space : ℕ
space = 32

-- n in decimal, of which at most k digits
unfoldable pub digits : ℕ → ℕ → List ℕ
digits zero n = []
digits (suc k) n = cond (ltb n 10) [] (digits k (n / 10)) ++ ((48 + n % 10) ∷ [])

-- n in decimal; it has n + 1 digits at most
unfoldable pub decimal : ℕ → List ℕ
decimal n = digits (suc n) n

-- words, each after a space
unfoldable pub after : List (List ℕ) → List ℕ
after [] = []
after (w ∷ ws) = space ∷ (w ++ after ws)

-- words apart by one space
unfoldable pub spaced : List (List ℕ) → List ℕ
spaced [] = []
spaced (w ∷ ws) = w ++ after ws

-- what word i adds to the words before it
abbrev pub word_at : ℕ → List ℕ → List ℕ
word_at i w = cond (eqb i 0) w (space ∷ w)

-- words apart by one space, ended by a line feed
unfoldable pub line : List (List ℕ) → List ℕ
line ws = spaced ws ++ (line_feed ∷ [])

-- the labels of H rows of W, a line a row
unfoldable pub map_text : ℕ → ℕ → List ℕ → List ℕ
map_text W zero m = []
map_text W (suc H) m = line (map decimal (take W m)) ++ map_text W H (drop W m)
