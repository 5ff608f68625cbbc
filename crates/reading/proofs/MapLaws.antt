-- Maps and runs: the sizes of a map from the largest down as runs, and back, for maps in which no point is masked. A skeleton is such a map.
use mathlib.Core.Bool.{Bool, ◌||◌, cond, false, not, true}
use mathlib.Core.List.{List, Memᴰ, [], ◌++◌, ◌∷◌, append-nil, reverse, reverse_aux, reverse_aux-eq}
use mathlib.Core.Option.{Option, none-ne-some, some-injective, none, some}
use mathlib.Core.Path.{◌∙◌, ◌≡◌, ap, ap₂, fun_ext, refl, subst, sym}
use Prim.Native.Nat.{◌*◌, ◌+◌, ◌<◌, ◌≤◌, suc, zero, zero-le, ℕ}
use native.Mathlib.Nat.{add-suc, add-zero, suc-add, suc-ne-zero, zero-add}
use native.Mathlib.Omega.{arith}
use lib.Dec.{T, T_not, eqb, eqb_refl, eqb→eq}
use lib.ListN.{get_or, length, length-reverse}
use lib.Seq.{ext_get_or, get_or_at}
use Rattle.coding.specs.Codes.{map_runs, of_size, sizes_down}
use Rattle.coding.specs.Runs.{mask, runs_down, unmasked}
use Rattle.coding.proofs.MaskLaws.{mask-eroded, subset_on}
use Rattle.reading.specs.Maps.{label_in}
use Rattle.reading.specs.Points.{among, placed, placed_down}
use Rattle.reading.proofs.PlacedLaws.{among-keep, among-out, placed_in, placed-runs, runs-placed, unmasked_distinct, unmasked_in, unmasked-out}
use Rattle.morphology.specs.Labels.{label_at, place, places, raster}
use Rattle.morphology.specs.Lists.{greatest, tabulate}
use Rattle.morphology.specs.Morphology.{dilate, erode, times}
use Rattle.morphology.specs.Point.{Point, origin}
use Rattle.morphology.specs.Skeleton.{skeleton_subset}
use Rattle.morphology.proofs.DecomposeLaws.{greatest-raster, subset_turn}
use Rattle.morphology.proofs.ElementLaws.{Element}
use Rattle.morphology.proofs.FrameLaws.{OnFrame}
use Rattle.morphology.proofs.ImageLaws.{get_or-row, length-row, mem-row}
use Rattle.morphology.proofs.LabelLaws.{get_or-place, label_at-place, label_at-raster, length-raster}
use Rattle.morphology.proofs.MorphologyLaws.{dilate_in, ⊆_of_eq}
use Rattle.morphology.proofs.PlaneLaws.{Empty, none as nowhere}
use Rattle.morphology.proofs.PointLaws.{unit}
use Rattle.morphology.proofs.ReconstructLaws.{label_on}
use Rattle.morphology.proofs.TestLaws.{T_ext, and_r, or_l, or_r}

-- ---- sizes from the largest down

-- n + 1 sizes
pub length-down : (S : ℕ → Point → Bool) (n : ℕ) → length (sizes_down S n) ≡ suc n
unfolding sizes_down
length-down S zero = refl
length-down S (suc n) = ap suc (length-down S n)

-- families that agree up to n have the same sizes from n down
pub down_agree : (S U : ℕ → Point → Bool) (n : ℕ) → ((i : ℕ) → i ≤ n → S i ≡ U i) → sizes_down S n ≡ sizes_down U n
unfolding sizes_down
down_agree S U zero f = ap (λ (X : Point → Bool). X ∷ []) (f 0 (omega arith))
down_agree S U (suc n) f = ap₂ (λ (X : Point → Bool) (l : List (Point → Bool)). X ∷ l) (f (suc n) (omega arith)) (down_agree S U n (λ i h. f i (omega arith)))

-- a row with its next value after it is one longer
row_snoc : (S : ℕ → Point → Bool) (i n : ℕ) (l : List (Point → Bool)) → tabulate S i n ++ S (i + n) ∷ l ≡ tabulate S i (suc n) ++ l
unfolding tabulate
row_snoc S i zero l = ap (λ (k : ℕ). S k ∷ l) (add-zero i)
row_snoc S i (suc n) l =
    ap (λ (k : ℕ). S i ∷ (tabulate S (suc i) n ++ S k ∷ l)) (add-suc i n ∙ sym (suc-add i n))
    ∙ ap (λ (r : List (Point → Bool)). S i ∷ r) (row_snoc S (suc i) n l)

-- turned round, they are the sizes from 0 up
pub down_up : (S : ℕ → Point → Bool) (n : ℕ) (larger : List (Point → Bool)) → reverse_aux (sizes_down S n) larger ≡ tabulate S 0 (suc n) ++ larger
unfolding sizes_down tabulate
down_up S zero larger = refl
down_up S (suc n) larger =
    down_up S n (S (suc n) ∷ larger) ∙ ap (λ (k : ℕ). tabulate S 0 (suc n) ++ S k ∷ larger) (sym (zero-add (suc n))) ∙ row_snoc S 0 (suc n) larger

-- and turned round again
pub up-down : (sets larger : List (Point → Bool)) (n : ℕ) → length sets ≡ suc n → sizes_down (λ i. get_or (reverse_aux sets larger) i nowhere) n ≡ sets
unfolding sizes_down
up-down [] larger n e = absurd (suc-ne-zero n (sym e))
up-down (S ∷ []) larger zero e = refl
up-down (S ∷ U ∷ sets) larger zero e = absurd (omega arith)
up-down (S ∷ []) larger (suc n) e = absurd (omega arith)
up-down (S ∷ U ∷ sets) larger (suc n) e =
    let l : length (U ∷ sets) ≡ suc n = omega arith in
    ap₂ (λ (X : Point → Bool) (l : List (Point → Bool)). X ∷ l)
    (ap (λ (l : List (Point → Bool)). get_or l (suc n) nowhere) (reverse_aux-eq (U ∷ sets) (S ∷ larger))
    ∙ get_or_at (reverse (U ∷ sets)) S larger nowhere (suc n) (length-reverse (U ∷ sets) ∙ l))
    (up-down (U ∷ sets) (S ∷ larger) n l)

module _ (W H : ℕ) (B : List Point) where
  -- every point of a size, the sizes in rising order, stands on the frame and outside the mask of its size
  abbrev pub Tidy : List (Point → Bool) → Type 0
  Tidy [] = Unit {0}
  Tidy (S ∷ larger) = ((z : Point) → T (S z) → Memᴰ z (unmasked W H (mask B larger))) × Tidy larger

  -- the larger sizes of a tidy map are tidy
  pub tidy_larger : (smaller larger : List (Point → Bool)) → Tidy (reverse_aux smaller larger) → Tidy larger
  tidy_larger [] larger t = t
  tidy_larger (S ∷ smaller) larger t = (tidy_larger smaller (S ∷ larger) t).1

  -- ---- the points of a tidy map's runs are the map's

  -- the sizes below one that was placed or not
  abbrev further : List (Point → Bool) → List (List ℕ) → Option (List Point) → Option (List (Point → Bool))
  further larger rss o = elim o [ none ↦ none | some ps ↦ placed_down W H B (among ps ∷ larger) rss ]

  -- a tidy map's runs, placed, are its sizes
  pub placed-down : (smaller larger : List (Point → Bool)) → Tidy (reverse_aux smaller larger)
      → placed_down W H B larger (runs_down W H B larger smaller) ≡ some (reverse_aux smaller larger)
  unfolding placed_down runs_down
  placed-down [] larger t = refl
  placed-down (S ∷ smaller) larger t =
      let l = unmasked W H (mask B larger) in
      ap (further larger (runs_down W H B (S ∷ larger) smaller)) (placed-runs S l)
      ∙ ap (λ (U : Point → Bool). placed_down W H B (U ∷ larger) (runs_down W H B (S ∷ larger) smaller)) (among-keep S l (tidy_larger smaller (S ∷ larger) t).0)
      ∙ placed-down smaller (S ∷ larger) t

  -- ---- the runs of the points of runs are those runs, and the map is tidy

  -- what was read, below the larger sizes
  abbrev PlacedSizes : List (Point → Bool) → List (List ℕ) → List (Point → Bool) → Type 0
  PlacedSizes larger rss sets =
      (smaller : List (Point → Bool)) × (runs_down W H B larger smaller ≡ rss) × (sets ≡ reverse_aux smaller larger) × (length smaller ≡ length rss) × Tidy sets

  -- runs that are placed are the runs of what is placed
  pub runs-down : (rss : List (List ℕ)) (larger sets : List (Point → Bool)) → Tidy larger → placed_down W H B larger rss ≡ some sets → PlacedSizes larger rss sets
  unfolding placed_down runs_down
  runs-down [] larger sets t e =
      let q = some-injective larger sets e in
      ([], refl, sym q, refl, subst Tidy q t)
  runs-down (rs ∷ rss) larger sets t e = go (placed l rs) refl (λ S. runs-down rss (S ∷ larger) sets) e
    where
      l : List Point
      l = unmasked W H (mask B larger)

      go : (o : Option (List Point)) → placed l rs ≡ o
          → ((S : Point → Bool) → Tidy (S ∷ larger) → placed_down W H B (S ∷ larger) rss ≡ some sets → PlacedSizes (S ∷ larger) rss sets)
          → further larger rss o ≡ some sets → PlacedSizes larger (rs ∷ rss) sets
      go none q rest e = absurd (none-ne-some sets e)
      go (some ps) q rest e =
          let r = rest (among ps) ((λ z u. placed_in l rs ps q z (among-out z ps u)), t) e in (
            among ps ∷ r.0,
            ap₂ (λ (a : List ℕ) (b : List (List ℕ)). a ∷ b) (runs-placed l rs ps (unmasked_distinct W H (mask B larger)) q) r.1,
            r.2,
            ap suc r.3,
            r.4,
          )

  -- ---- labels

  module _ (ob : Memᴰ origin B) where
    -- the mask holds what it grew from
    pub mask-grown : (S : Point → Bool) (larger : List (Point → Bool)) (z : Point) → T (S z || mask B larger z) → T (mask B (S ∷ larger) z)
    unfolding mask
    mask-grown S larger z t =
        subst (λ (y : Point). T (dilate B (λ y. S y || mask B larger y) y)) (unit z) (dilate_in B (λ y. S y || mask B larger y) z origin t ob)

    -- the mask of a size holds every larger point
    pub mask-holds : (larger : List (Point → Bool)) (i : ℕ) (z : Point) → T (get_or larger i nowhere z) → T (mask B larger z)
    mask-holds [] i z t = absurd t
    mask-holds (S ∷ larger) zero z t = mask-grown S larger z (or_l (S z) (mask B larger z) t)
    mask-holds (S ∷ larger) (suc i) z t = mask-grown S larger z (or_r (S z) (mask B larger z) (mask-holds larger i z t))

    -- a point's label is its size and one more
    pub label_in_lem : (sets : List (Point → Bool)) → Tidy sets → (n i : ℕ) (z : Point) → T (get_or sets i nowhere z) → label_in n sets z ≡ suc (n + i)
    unfolding label_in
    label_in_lem [] t n i z u = absurd u
    label_in_lem (S ∷ larger) t n zero z u = go (S z) u
      where
        go : (b : Bool) → T b → cond b (suc n) (label_in (suc n) larger z) ≡ suc (n + 0)
        go true u = ap suc (sym (add-zero n))
        go false u = absurd u
    label_in_lem (S ∷ larger) t n (suc i) z u =
        go (S z) (λ v. (unmasked-out W H (mask B larger) (t.0 z v)).1 (mask-holds larger i z u)) (label_in_lem larger t.1 (suc n) i z u)
      where
        go : (b : Bool) → (T b → ⊥) → label_in (suc n) larger z ≡ suc (suc n + i) → cond b (suc n) (label_in (suc n) larger z) ≡ suc (n + suc i)
        go true f e = absurd (f tt)
        go false f e = let q : suc n + i ≡ n + suc i = omega arith in e ∙ ap suc q

-- and only the points of a size have its label
pub label-out : (sets : List (Point → Bool)) (n k : ℕ) (z : Point) → label_in n sets z ≡ suc k
    → (i : ℕ) × (k ≡ n + i) × (i < length sets) × T (get_or sets i nowhere z)
unfolding label_in
label-out [] n k z e = absurd (suc-ne-zero k (sym e))
label-out (S ∷ larger) n k z e = go (S z) refl (label-out larger (suc n) k z) e
  where
    go : (b : Bool) → S z ≡ b → (label_in (suc n) larger z ≡ suc k → (i : ℕ) × (k ≡ suc n + i) × (i < length larger) × T (get_or larger i nowhere z))
        → cond b (suc n) (label_in (suc n) larger z) ≡ suc k → (i : ℕ) × (k ≡ n + i) × (i < suc (length larger)) × T (get_or (S ∷ larger) i nowhere z)
    go true q rest e = (0, omega arith, omega arith, subst T (sym q) tt)
    go false q rest e = let r = rest e in (suc r.0, omega (arith, r.1), omega (arith, r.2), r.3)

-- a label is at most the number of sizes
label_le-sizes : (sets : List (Point → Bool)) (z : Point) → label_in 0 sets z ≤ length sets
label_le-sizes sets z = by (label_in 0 sets z) refl
  where
    by : (v : ℕ) → label_in 0 sets z ≡ v → v ≤ length sets
    by zero e = zero-le
    by (suc k) e = let r = label-out sets 0 k z e in omega (arith, r.1, r.2)

-- and so is the greatest
pub greatest_le-sizes : (W H : ℕ) (sets : List (Point → Bool)) → greatest (raster W H (label_in 0 sets)) ≤ length sets
greatest_le-sizes W H sets = greatest-raster W H (length sets) (label_in 0 sets) (label_le-sizes sets)

-- ---- label buffers

-- a buffer of the frame's length is the raster of its labels
pub raster-label_at : (W H : ℕ) (m : List ℕ) → length m ≡ W * H → raster W H (label_at W H m) ≡ m
raster-label_at W H m e =
    ext_get_or 0 (raster W H (label_at W H m)) m (length-raster W H (label_at W H m) ∙ sym e) (λ i h.
    let l : i < W * H = subst (λ (n : ℕ). i < n) (length-raster W H (label_at W H m)) h in
    get_or-place W H (label_at W H m) i l ∙ label_at-place W H m i l)

-- functions that agree on the frame have the same raster
raster_agree : (W H : ℕ) (f g : Point → ℕ) → ((z : Point) → Memᴰ z (places W H) → f z ≡ g z) → raster W H f ≡ raster W H g
unfolding places
raster_agree W H f g h =
    ext_get_or 0 (raster W H f) (raster W H g) (length-raster W H f ∙ sym (length-raster W H g)) (λ i k.
    let l : i < W * H = subst (λ (n : ℕ). i < n) (length-raster W H f) k in
    get_or-place W H f i l ∙ h (place W i) (place_in W H i l) ∙ sym (get_or-place W H g i l))
  where
    place_in : (W H i : ℕ) → i < W * H → Memᴰ (place W i) (places W H)
    place_in W H i h = subst (λ (k : ℕ). Memᴰ (place W k) (places W H)) (zero-add i) (mem-row (place W) 0 (W * H) i h)

module _ (W H : ℕ) (B : List Point) (ob : Memᴰ origin B) where
  -- the points of a tidy map stand on the frame
  pub tidy_on : (sets : List (Point → Bool)) → Tidy W H B sets → (i : ℕ) (z : Point) → T (get_or sets i nowhere z) → Memᴰ z (places W H)
  tidy_on [] t i z u = absurd u
  tidy_on (S ∷ larger) t zero z u = (unmasked-out W H (mask B larger) (t.0 z u)).0
  tidy_on (S ∷ larger) t (suc i) z u = tidy_on larger t.1 i z u

  -- the labels of a tidy map give its sizes
  pub size_of : (sets : List (Point → Bool)) → Tidy W H B sets → (i : ℕ) → of_size W H (raster W H (label_in 0 sets)) i ≡ get_or sets i nowhere
  unfolding of_size
  size_of sets t i = fun_ext (λ z. T_ext (to z) (fro z))
    where
      m : List ℕ
      m = raster W H (label_in 0 sets)

      to : (z : Point) → T (eqb (label_at W H m z) (suc i)) → T (get_or sets i nowhere z)
      to z u =
          let e = eqb→eq (label_at W H m z) (suc i) u in
          let r = label-out sets 0 i z (sym (label_at-raster W H (label_in 0 sets) (label_on W H m z i e)) ∙ e) in
          let q : r.0 ≡ i = omega (arith, r.1) in
          subst (λ (j : ℕ). T (get_or sets j nowhere z)) q r.3

      fro : (z : Point) → T (get_or sets i nowhere z) → T (eqb (label_at W H m z) (suc i))
      fro z u =
          let e = label_at-raster W H (label_in 0 sets) (tidy_on sets t i z u) ∙ label_in_lem W H B ob sets t 0 i z u ∙ ap suc (zero-add i) in
          subst (λ (v : ℕ). T (eqb v (suc i))) (sym e) (eqb_refl (suc i))

  -- ---- a map's runs, and back

  -- the map read from runs has those runs
  pub map-runs_read : (rss : List (List ℕ)) (n : ℕ) (sets : List (Point → Bool)) → length rss ≡ suc n → placed_down W H B [] rss ≡ some sets
      → (map_runs W H B (raster W H (label_in 0 sets)) n ≡ rss) × Tidy W H B sets × (length sets ≡ suc n)
  unfolding map_runs
  map-runs_read rss n sets l e =
      let r = runs-down W H B rss [] sets tt e in
      let smaller = r.0 in
      let m = raster W H (label_in 0 sets) in
      let same : (i : ℕ) → of_size W H m i ≡ get_or (reverse_aux smaller []) i nowhere =
      λ i. size_of sets r.4 i ∙ ap (λ (l : List (Point → Bool)). get_or l i nowhere) r.2 in (
        ap (runs_down W H B []) (down_agree (of_size W H m) (λ i. get_or (reverse_aux smaller []) i nowhere) n (λ i h. same i) ∙ up-down smaller [] n (r.3 ∙ l))
            ∙ r.1,
        r.4,
        ap length r.2 ∙ length-reverse smaller ∙ r.3 ∙ l,
      )

  -- the runs of a tidy map give that map
  pub runs_map : (m : List ℕ) (n : ℕ) → length m ≡ W * H → ((z : Point) → label_at W H m z ≤ suc n) → Tidy W H B (tabulate (of_size W H m) 0 (suc n))
      → (placed_down W H B [] (map_runs W H B m n) ≡ some (tabulate (of_size W H m) 0 (suc n))) × (raster W H (label_in 0 (tabulate (of_size W H m) 0 (suc n))) ≡ m)
  unfolding map_runs of_size
  runs_map m n len top t =
      let sets = tabulate (of_size W H m) 0 (suc n) in
      let q = down_up (of_size W H m) n [] ∙ append-nil sets in (
        placed-down W H B (sizes_down (of_size W H m) n) [] (subst (Tidy W H B) (sym q) t) ∙ ap some q,
        raster_agree W H (label_in 0 sets) (label_at W H m) (λ z k. same z (label_at W H m z) refl) ∙ raster-label_at W H m len,
      )
    where
      S : ℕ → Point → Bool
      S = of_size W H m

      sets : List (Point → Bool)
      sets = tabulate (of_size W H m) 0 (suc n)

      at : (i : ℕ) (z : Point) → i < suc n → get_or sets i nowhere z ≡ eqb (label_at W H m z) (suc i)
      at i z h = ap (λ (X : Point → Bool). X z) (get_or-row (of_size W H m) 0 (suc n) i nowhere h ∙ ap (of_size W H m) (zero-add i))

      none-at : (z : Point) → label_at W H m z ≡ 0 → (v : ℕ) → label_in 0 sets z ≡ v → v ≡ 0
      none-at z e zero q = refl
      none-at z e (suc k) q =
          let r = label-out sets 0 k z q in
          let h : r.0 < suc n = omega (arith, r.2, length-row (of_size W H m) 0 (suc n)) in
          let u = eqb→eq (label_at W H m z) (suc r.0) (subst T (at r.0 z h) r.3) in
          absurd (suc-ne-zero r.0 (sym u ∙ e))

      same : (z : Point) (v : ℕ) → label_at W H m z ≡ v → label_in 0 sets z ≡ label_at W H m z
      same z zero e = none-at z e (label_in 0 sets z) refl ∙ sym e
      same z (suc i) e =
          let h = top z in
          let l : i < suc n = omega arith in
          label_in_lem W H B ob sets t 0 i z (subst T (sym (at i z l)) (subst (λ (v : ℕ). T (eqb v (suc i))) (sym e) (eqb_refl (suc i))))
          ∙ ap suc (zero-add i) ∙ sym e

-- ---- a skeleton

module _ (W H : ℕ) (B : List Point) (el : Element B) (X : Point → Bool) (on : OnFrame W H X) where
  -- no point of size n stands in X(n + 1) dilated once
  subset-unmasked : (n : ℕ) (z : Point) → T (skeleton_subset B X n z) → T (dilate B (erode (times B (suc n)) X) z) → ⊥
  subset-unmasked n z t =
      let Y = dilate B (erode (times B (suc n)) X) in
      T_not (Y z) (and_r (erode (times B n) X z) (not (Y z)) (subst T (subset_turn B X n z) t))

  -- the skeleton is tidy, whatever sizes it is cut to that hold all its points
  pub skeleton-tidy : (d n : ℕ) → Empty (erode (times B (n + d)) X) → Tidy W H B (tabulate (skeleton_subset B X) n d)
  unfolding tabulate
  skeleton-tidy zero n e = tt
  skeleton-tidy (suc d) n e =
      let e₁ = subst (λ (k : ℕ). Empty (erode (times B k) X)) (add-suc n d) e in
      let e₂ = subst (λ (k : ℕ). Empty (erode (times B k) X)) (add-suc n d ∙ sym (suc-add n d)) e in
      let M = mask B (tabulate (skeleton_subset B X) (suc n) d) in (
        (λ z t. unmasked_in W H M (subset_on W H B el X on n z t) (λ u. subset-unmasked n z t (⊆_of_eq (mask-eroded B X d n e₁) z u))),
        skeleton-tidy d (suc n) e₂,
      )
