-- Runs over a list of pixels, part by part, and over the frame.
use mathlib.Core.Bool.{Bool, cond, false, not, true}
use mathlib.Core.List.{List, [], ◌++◌, ◌∷◌, map}
use mathlib.Core.Path.{◌∙◌, ◌≡◌, ap, ap₂, refl, sym}
use Prim.Native.Nat.{◌*◌, ◌+◌, ◌<◌, ◌≤◌, suc, zero, ℕ}
use native.Mathlib.Nat.{add-suc, add-zero, suc-add}
use native.Mathlib.Omega.{arith}
use lib.ListN.{length, length-append, length-map}
use Rattle.coding.specs.Runs.{keep, runs, unmasked}
use Rattle.coding.specs.Symbols.{comma, digit_symbols, numeral}
use Rattle.coding.specs.Writing.{runs_symbols}
use Rattle.coding.proofs.NumeralLaws.{length_le}
use Rattle.morphology.specs.Labels.{place, places}
use Rattle.morphology.specs.Lists.{tabulate}
use Rattle.morphology.specs.Point.{Point}
use Rattle.sections.specs.Kinds.{Kind, count_after, free, kind, kinds_from, masked, point, runs_of}

-- ---- part by part

pub runs_parts : (k : ℕ) (l m : List Kind) → runs_of k (l ++ m) ≡ runs_of k l ++ runs_of (count_after k l) m
unfolding runs_of count_after
runs_parts k [] m = refl
runs_parts k (masked ∷ l) m = runs_parts k l m
runs_parts k (point ∷ l) m = ap (λ (rs : List ℕ). k ∷ rs) (runs_parts 0 l m)
runs_parts k (free ∷ l) m = runs_parts (suc k) l m

pub count_parts_lem : (k : ℕ) (l m : List Kind) → count_after k (l ++ m) ≡ count_after (count_after k l) m
unfolding count_after
count_parts_lem k [] m = refl
count_parts_lem k (masked ∷ l) m = count_parts_lem k l m
count_parts_lem k (point ∷ l) m = count_parts_lem 0 l m
count_parts_lem k (free ∷ l) m = count_parts_lem (suc k) l m

-- ---- how long

pub count_le : (k : ℕ) (l : List Kind) → count_after k l ≤ k + length l
unfolding count_after
count_le k [] = omega arith
count_le k (masked ∷ l) = omega (arith, count_le k l)
count_le k (point ∷ l) = omega (arith, count_le 0 l)
count_le k (free ∷ l) = omega (arith, count_le (suc k) l)

pub symbols_le : (k : ℕ) (l : List Kind) → length (runs_symbols (runs_of k l)) ≤ 2 * (k + length l)
unfolding runs_of runs_symbols
symbols_le k [] = omega arith
symbols_le k (masked ∷ l) = omega (arith, symbols_le k l)
symbols_le k (point ∷ l) =
    let e : length (digit_symbols (numeral k)) ≡ length (numeral k) = length-map (numeral k) suc in
    omega (arith, length-append (digit_symbols (numeral k)) (comma ∷ runs_symbols (runs_of 0 l)), e, length_le k, symbols_le 0 l)
symbols_le k (free ∷ l) = omega (arith, symbols_le (suc k) l)

-- ---- over the frame

kinds-runs : (S M : Point → Bool) (k : ℕ) (l : List Point) → runs S k (keep (λ z. not (M z)) l) ≡ runs_of k (map (λ z. kind (M z) (S z)) l)
unfolding runs keep runs_of
kinds-runs S M k [] = refl
kinds-runs S M k (z ∷ l) = go (M z) (S z) (kinds-runs S M k l) (kinds-runs S M 0 l) (kinds-runs S M (suc k) l) refl
  where
    go : (m s : Bool)
        → runs S k (keep (λ z. not (M z)) l) ≡ runs_of k (map (λ z. kind (M z) (S z)) l)
        → runs S 0 (keep (λ z. not (M z)) l) ≡ runs_of 0 (map (λ z. kind (M z) (S z)) l)
        → runs S (suc k) (keep (λ z. not (M z)) l) ≡ runs_of (suc k) (map (λ z. kind (M z) (S z)) l)
        → S z ≡ s → runs S k (cond (not m) (z ∷ keep (λ z. not (M z)) l) (keep (λ z. not (M z)) l)) ≡ runs_of k (kind m s ∷ map (λ z. kind (M z) (S z)) l)
    go true s a b c e = a
    go false true a b c e = ap (λ (t : Bool). cond t (k ∷ runs S 0 (keep (λ z. not (M z)) l)) (runs S (suc k) (keep (λ z. not (M z)) l))) e ∙ ap (λ (rs : List ℕ). k ∷ rs) b
    go false false a b c e = ap (λ (t : Bool). cond t (k ∷ runs S 0 (keep (λ z. not (M z)) l)) (runs S (suc k) (keep (λ z. not (M z)) l))) e ∙ c

map_row : (f : ℕ → Point) (g : Point → Kind) (i n : ℕ) → map g (tabulate f i n) ≡ tabulate (λ j. g (f j)) i n
unfolding tabulate
map_row f g i zero = refl
map_row f g i (suc n) = ap (λ (l : List Kind). g (f i) ∷ l) (map_row f g (suc i) n)

-- the runs of a size, as a walk of the frame finds them
pub frame-runs : (W H : ℕ) (S M : Point → Bool) → runs S 0 (unmasked W H M) ≡ runs_of 0 (kinds_from W S M 0 (W * H))
unfolding unmasked places kinds_from
frame-runs W H S M = kinds-runs S M 0 (tabulate (place W) 0 (W * H)) ∙ ap (runs_of 0) (map_row (place W) (λ z. kind (M z) (S z)) 0 (W * H))

-- n pixels, and m after them
pub row_parts : {A : Type 0} (f : ℕ → A) (i n m : ℕ) → tabulate f i (n + m) ≡ tabulate f i n ++ tabulate f (i + n) m
unfolding tabulate
row_parts f i zero m = let e : 0 + m ≡ m = omega arith in ap (tabulate f i) e ∙ ap (λ (j : ℕ). tabulate f j m) (sym (add-zero i))
row_parts {A} f i (suc n) m =
    ap (tabulate f i) (suc-add n m) ∙ ap (λ (l : List A). f i ∷ l) (row_parts f (suc i) n m ∙ ap (λ (j : ℕ). tabulate f (suc i) n ++ tabulate f j m) (suc-add i n ∙ sym (add-suc i n)))

-- equal pixel by pixel
pub row_agree : {A : Type 0} (f g : ℕ → A) (i j n : ℕ) → ((t : ℕ) → t < n → f (i + t) ≡ g (j + t)) → tabulate f i n ≡ tabulate g j n
unfolding tabulate
row_agree f g i j zero h = refl
row_agree {A} f g i j (suc n) h =
    ap₂ (λ (a : A) (l : List A). a ∷ l) (ap f (sym (add-zero i)) ∙ h 0 (omega arith) ∙ ap g (add-zero j))
    (row_agree f g (suc i) (suc j) n (λ t l. ap f (suc-add i t ∙ sym (add-suc i t)) ∙ h (suc t) (omega arith) ∙ ap g (add-suc j t ∙ sym (suc-add j t))))
