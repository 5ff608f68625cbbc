-- The globally minimal skeleton (000; "shortening" in 01). Definitions only; proofs/MinimalLaws.antt and CoverLaws.antt have the laws.
use Rattle.std.specs.Prelude.{Bool, ◌&&◌, cond, not, List, [], ◌∷◌, ◌*◌, suc, ℕ, eqb, get_or, set}
use Rattle.morphology.specs.Labels.{place}
use Rattle.morphology.specs.Lists.{every_of, greatest, some_of, up_to}
use Rattle.morphology.specs.Morphology.{times}
use Rattle.morphology.specs.Point.{Point, ◌⊞◌}
use Rattle.morphology.specs.Skeleton.{stamp}

-- the point at place j of the map m covers z
abbrev pub covers : ℕ → List Point → List ℕ → Point → ℕ → Bool
covers W B m z j = stamp B 0 (place W j) (get_or m j 0) z

-- each pixel that the point at place i covers, its size n, is covered by another point of the map m
unfoldable pub is_redundant : ℕ → ℕ → List Point → ℕ → List ℕ → ℕ → Bool
is_redundant W H B n m i = every_of (λ b. some_of (λ j. not (eqb j i) && covers W B m (place W i ⊞ b) j) (up_to (W * H))) (times B n)

-- place i is dropped where it holds a redundant point of size n
unfoldable pub drop_at : ℕ → ℕ → List Point → ℕ → List ℕ → ℕ → List ℕ
drop_at W H B n m i = cond (eqb (get_or m i 0) (suc n) && is_redundant W H B n m i) (set m i 0) m

-- places in turn
unfoldable pub drop_size : ℕ → ℕ → List Point → ℕ → List ℕ → List ℕ → List ℕ
drop_size W H B n [] m = m
drop_size W H B n (i ∷ is) m = drop_size W H B n is (drop_at W H B n m i)

-- sizes in turn, the places of each row by row
unfoldable pub drop_sizes : ℕ → ℕ → List Point → List ℕ → List ℕ → List ℕ
drop_sizes W H B [] m = m
drop_sizes W H B (n ∷ ns) m = drop_sizes W H B ns (drop_size W H B n (up_to (W * H)) m)

-- the sizes below N, smallest first
unfoldable pub minimal_below : ℕ → ℕ → ℕ → List Point → List ℕ → List ℕ
minimal_below N W H B m = drop_sizes W H B (up_to N) m

-- all sizes: the largest label is one more than the largest size
unfoldable pub minimal_labels : ℕ → ℕ → List Point → List ℕ → List ℕ
minimal_labels W H B m = minimal_below (greatest m) W H B m
