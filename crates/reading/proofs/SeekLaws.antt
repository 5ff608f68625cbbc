-- A walk of pixels that seeks the points of one size: over the pixels of a frame it reads what `read_size` reads over those outside the mask.
use mathlib.Core.Bool.{Bool, ◌&&◌, cond, false, not, true}
use mathlib.Core.List.Memᴰ
use mathlib.Core.List.{List, Memᴰ, [], ◌++◌, ◌∷◌, map}
use mathlib.Core.Logic.{◌↔◌}
use mathlib.Core.Option.{Option, none, some}
use mathlib.Core.Path.{◌∙◌, ◌≡◌, ap, ap₂, refl, subst, sym}
use Prim.Native.Nat.{◌*◌, ◌-◌, ◌<◌, ◌≤◌, suc, zero, ℕ}
use native.Mathlib.Nat.{le_of_suc-le-suc, zero-add}
use native.Mathlib.Omega.{arith}
use borrow.Author.Tests.{ltb-false, ltb-true}
use lib.Dec.{T, ltb}
use lib.ListN.{get_or, length, replicate}
use Rattle.coding.specs.Runs.{keep}
use Rattle.reading.specs.Points.{among}
use Rattle.reading.specs.Seeking.{Seek, ended, first_run, found_run, is_sought, lost, next_run, seek, selected, size_found, sought, sought_all, sought_points}
use Rattle.reading.specs.Splits.{is_numeral, value}
use Rattle.reading.specs.Taking.{pixel_after, point_then, read_more, read_size, short_run, take_run, then_more, then_points}
use Rattle.reading.proofs.ReadLaws.{more_early, more-end, more-run, pixel-past, size_early, size-no_digit, size_none, size-run}
use Rattle.morphology.specs.Labels.{place, places}
use Rattle.morphology.specs.Lists.{count_of, tabulate}
use Rattle.morphology.specs.Point.{Point, same_point}
use Rattle.morphology.proofs.ImageLaws.{get_or-row, length-row}
use Rattle.morphology.proofs.PointLaws.{same_eq, same_refl}
use Rattle.morphology.proofs.TestLaws.{any_in, any_out}

-- ---- a walk reads one size

-- what is read from where a walk stands, over the pixels that are left
abbrev read_from : List Point → Seek → Option (List Point × List ℕ)
read_from l (seek k s) = then_points (pixel_after l k) s
read_from l (ended s) = some ([], s)
read_from l lost = none

-- a run that is no numeral, or as long as the list or longer, ends at no pixel
run-from : (limit : ℕ) (l : List Point) (o : Option (List ℕ × List ℕ)) → length l ≤ limit → then_more l o ≡ read_from l (found_run (short_run limit o))
run-from limit l none h = refl
run-from limit l (some q) h = by (is_numeral q.0) (ltb (value q.0) limit) refl
  where
    by : (a b : Bool) → ltb (value q.0) limit ≡ b
        → cond a (then_points (pixel_after l (value q.0)) q.1) none ≡ read_from l (found_run (cond (a && b) (some (value q.0, q.1)) none))
    by false b e = refl
    by true true e = refl
    by true false e =
        let past = ltb-false (value q.0) limit e in
        ap (λ (p : Option (Point × List Point)). then_points p q.1) (pixel-past l (value q.0) (omega arith))

-- the points after a run and its comma are those from the next run on
more-from : (limit : ℕ) (l : List Point) (s : List ℕ) → length l ≤ limit → read_more l s ≡ read_from l (next_run limit s)
unfolding next_run
more-from limit l [] h = more_early l
more-from limit l (zero ∷ s) h = more-end l s
more-from limit l (suc d ∷ s) h = more-run l d s ∙ run-from limit l (take_run (suc d ∷ s)) h

-- the points of a size are those from its first run on
size-from : (limit : ℕ) (l : List Point) (s : List ℕ) → length l ≤ limit → read_size l s ≡ read_from l (first_run limit s)
unfolding first_run
size-from limit l [] h = (size_early l).0
size-from limit l (zero ∷ []) h = (size_early l).1
size-from limit l (zero ∷ zero ∷ s) h = size_none l s
size-from limit l (zero ∷ suc d ∷ s) h = size-no_digit l d s
size-from limit l (suc d ∷ s) h = size-run l d s ∙ more-from limit l (suc d ∷ s) h

-- a point found before the others
found-point : (z : Point) (t : Seek) (ps : List Point) → point_then z (size_found t ps) ≡ size_found t (z ∷ ps)
found-point z (seek k s) ps = refl
found-point z (ended s) ps = refl
found-point z lost ps = refl

-- no more members pass than there are
length-keep : (p : Point → Bool) (l : List Point) → length (keep p l) ≤ length l
unfolding keep
length-keep p [] = omega arith
length-keep p (z ∷ l) = by (p z) (length-keep p l)
  where
    by : (b : Bool) → length (keep p l) ≤ length l → length (cond b (z ∷ keep p l) (keep p l)) ≤ suc (length l)
    by true h = omega arith
    by false h = omega arith

-- a walk from anywhere finds what is read from there
walk_from : (M : Point → Bool) (l : List Point) (limit : ℕ) (t : Seek) → length l ≤ limit
    → read_from (keep (λ z. not (M z)) l) t ≡ size_found (sought_all limit (map M l) t) (selected l (sought_points limit (map M l) t))
unfolding sought_all sought_points selected keep pixel_after
walk_from M [] limit (seek k s) h = refl
walk_from M [] limit (ended s) h = refl
walk_from M [] limit lost h = refl
walk_from M (z ∷ l) limit t h = by (M z) t (λ u. walk_from M l limit u (omega arith))
  where
    rest : List Point
    rest = keep (λ z. not (M z)) l

    end : Seek → Seek
    end u = sought_all limit (map M l) u

    marked : Seek → List Point
    marked u = selected l (sought_points limit (map M l) u)

    short : length rest ≤ limit
    short = omega (arith, length-keep (λ z. not (M z)) l)

    by : (m : Bool) (t : Seek) → ((u : Seek) → read_from rest u ≡ size_found (end u) (marked u))
        → read_from (cond (not m) (z ∷ rest) rest) t
        ≡ size_found (end (sought limit m t)) (cond (is_sought m t) (z ∷ marked (sought limit m t)) (marked (sought limit m t)))
    by true t ih = ih t
    by false (seek zero s) ih =
        let u = next_run limit s in
        ap (point_then z) (more-from limit rest s short ∙ ih u) ∙ found-point z (end u) (marked u)
    by false (seek (suc k) s) ih = ih (seek k s)
    by false (ended s) ih = ih (ended s)
    by false lost ih = ih lost

-- a walk from the first run finds the points of one size
pub seek-size : (M : Point → Bool) (l : List Point) (limit : ℕ) (s : List ℕ) → length l ≤ limit
    → read_size (keep (λ z. not (M z)) l) s
    ≡ size_found (sought_all limit (map M l) (first_run limit s)) (selected l (sought_points limit (map M l) (first_run limit s)))
seek-size M l limit s h =
    size-from limit (keep (λ z. not (M z)) l) s (omega (arith, length-keep (λ z. not (M z)) l)) ∙ walk_from M l limit (first_run limit s) h

-- ---- runs

-- the value of a run that follows is below the limit
abbrev RunBelow : ℕ → Seek → Type 0
RunBelow limit (seek k s) = k < limit
RunBelow limit (ended s) = Unit {0}
RunBelow limit lost = Unit {0}

run-below : (limit : ℕ) (s : List ℕ) → RunBelow limit (next_run limit s)
unfolding next_run
run-below limit [] = tt
run-below limit (zero ∷ s) = tt
run-below limit (suc d ∷ s) = by (take_run (suc d ∷ s))
  where
    test : (v : ℕ) (l : List ℕ) (a b : Bool) → ltb v limit ≡ b → RunBelow limit (found_run (cond (a && b) (some (v, l)) none))
    test v l false b e = tt
    test v l true true e = ltb-true v limit e
    test v l true false e = tt

    by : (o : Option (List ℕ × List ℕ)) → RunBelow limit (found_run (short_run limit o))
    by none = tt
    by (some q) = test (value q.0) q.1 (is_numeral q.0) (ltb (value q.0) limit) refl

pub next-below : (limit k : ℕ) (s l : List ℕ) → seek k l ≡ next_run limit s → k < limit
next-below limit k s l e = subst (RunBelow limit) (sym e) (run-below limit s)

first-seek : (limit : ℕ) (s : List ℕ) → RunBelow limit (first_run limit s)
unfolding first_run
first-seek limit [] = tt
first-seek limit (zero ∷ []) = tt
first-seek limit (zero ∷ zero ∷ s) = tt
first-seek limit (zero ∷ suc d ∷ s) = tt
first-seek limit (suc d ∷ s) = run-below limit (suc d ∷ s)

-- so is that of a run that a size begins with
pub first_below : (limit k : ℕ) (s l : List ℕ) → seek k l ≡ first_run limit s → k < limit
first_below limit k s l e = subst (RunBelow limit) (sym e) (first-seek limit s)

-- ---- a walk in parts

-- over two lists of pixels, one after the other: where the walk stands then
pub sought_append : (limit : ℕ) (a b : List Bool) (t : Seek) → sought_all limit (a ++ b) t ≡ sought_all limit b (sought_all limit a t)
unfolding sought_all
sought_append limit [] b t = refl
sought_append limit (m ∷ a) b t = sought_append limit a b (sought limit m t)

-- and which are points
pub points_append : (limit : ℕ) (a b : List Bool) (t : Seek)
    → sought_points limit (a ++ b) t ≡ sought_points limit a t ++ sought_points limit b (sought_all limit a t)
unfolding sought_all sought_points
points_append limit [] b t = refl
points_append limit (m ∷ a) b t = ap (λ (l : List Bool). is_sought m t ∷ l) (points_append limit a b (sought limit m t))

-- one mark a pixel
pub length-points : (limit : ℕ) (l : List Bool) (t : Seek) → length (sought_points limit l t) ≡ length l
unfolding sought_points
length-points limit [] t = refl
length-points limit (m ∷ l) t = ap suc (length-points limit l (sought limit m t))

-- ---- a walk that finds no point

-- after the end of the size
pub ended_all : (limit : ℕ) (l : List Bool) (s : List ℕ)
    → (sought_all limit l (ended s) ≡ ended s) × (sought_points limit l (ended s) ≡ replicate (length l) false)
unfolding sought_all sought_points
ended_all limit [] s = (refl, refl)
ended_all limit (true ∷ l) s = let h = ended_all limit l s in (h.0, ap (λ (k : List Bool). false ∷ k) h.1)
ended_all limit (false ∷ l) s = let h = ended_all limit l s in (h.0, ap (λ (k : List Bool). false ∷ k) h.1)

-- after symbols that cannot be read
pub lost_all : (limit : ℕ) (l : List Bool) → (sought_all limit l lost ≡ lost) × (sought_points limit l lost ≡ replicate (length l) false)
unfolding sought_all sought_points
lost_all limit [] = (refl, refl)
lost_all limit (true ∷ l) = let h = lost_all limit l in (h.0, ap (λ (k : List Bool). false ∷ k) h.1)
lost_all limit (false ∷ l) = let h = lost_all limit l in (h.0, ap (λ (k : List Bool). false ∷ k) h.1)

-- the number of pixels outside the mask
abbrev pub free_of : List Bool → ℕ
free_of l = count_of (λ m. not m) l

-- within a run
pub skip_all : (limit k : ℕ) (l : List Bool) (s : List ℕ) → free_of l ≤ k
    → (sought_all limit l (seek k s) ≡ seek (k - free_of l) s) × (sought_points limit l (seek k s) ≡ replicate (length l) false)
unfolding sought_all sought_points count_of
skip_all limit k [] s h = let e : k ≡ k - 0 = omega arith in (ap (λ (n : ℕ). seek n s) e, refl)
skip_all limit k (true ∷ l) s h =
    let r = skip_all limit k l s (omega arith) in
    let e : k - free_of l ≡ k - free_of (true ∷ l) = omega arith in
    (r.0 ∙ ap (λ (n : ℕ). seek n s) e, ap (λ (m : List Bool). false ∷ m) r.1)
skip_all limit zero (false ∷ l) s h = absurd (omega arith)
skip_all limit (suc k) (false ∷ l) s h =
    let r = skip_all limit k l s (omega arith) in
    let e : k - free_of l ≡ suc k - free_of (false ∷ l) = omega arith in
    (r.0 ∙ ap (λ (n : ℕ). seek n s) e, ap (λ (m : List Bool). false ∷ m) r.1)

-- a run ends at the pixel after as many outside the mask as it counts
pub point_at : (limit k : ℕ) (a b : List Bool) (s : List ℕ) → free_of a ≡ k
    → (sought_all limit (a ++ (false ∷ b)) (seek k s) ≡ sought_all limit b (next_run limit s))
    × (sought_points limit (a ++ (false ∷ b)) (seek k s) ≡ replicate (length a) false ++ (true ∷ sought_points limit b (next_run limit s)))
unfolding sought_all sought_points
point_at limit k a b s h =
    let r = skip_all limit k a s (omega arith) in
    let e : k - free_of a ≡ 0 = omega arith in
    let here : sought_all limit a (seek k s) ≡ seek 0 s = r.0 ∙ ap (λ (n : ℕ). seek n s) e in (
      sought_append limit a (false ∷ b) (seek k s) ∙ ap (sought_all limit (false ∷ b)) here,
      points_append limit a (false ∷ b) (seek k s) ∙ ap₂ (λ (l : List Bool) (t : Seek). l ++ sought_points limit (false ∷ b) t) r.1 here,
    )

-- ---- the marked members of a list

-- a marked member is selected
pub selected_in : {A : Type 0} (l : List A) (marks : List Bool) (i : ℕ) (z d : A) → i < length l → get_or l i d ≡ z → T (get_or marks i false)
    → Memᴰ z (selected l marks)
unfolding selected
selected_in [] marks i z d h e t = absurd (omega arith)
selected_in (x ∷ l) [] i z d h e t = absurd t
selected_in (x ∷ l) (true ∷ marks) zero z d h e t = Memᴰ.head (sym e)
selected_in (x ∷ l) (false ∷ marks) zero z d h e t = absurd t
selected_in (x ∷ l) (true ∷ marks) (suc i) z d h e t = Memᴰ.tail (selected_in l marks i z d (le_of_suc-le-suc h) e t)
selected_in (x ∷ l) (false ∷ marks) (suc i) z d h e t = selected_in l marks i z d (le_of_suc-le-suc h) e t

-- a selected member is marked
pub selected-out : {A : Type 0} (l : List A) (marks : List Bool) (z d : A) → Memᴰ z (selected l marks)
    → (i : ℕ) × (i < length l) × (get_or l i d ≡ z) × T (get_or marks i false)
unfolding selected
selected-out [] marks z d m = absurd (Memᴰ.not-nil m)
selected-out (x ∷ l) [] z d m = absurd (Memᴰ.not-nil m)
selected-out (x ∷ l) (true ∷ marks) z d (Memᴰ.head e) = (0, omega arith, sym e, tt)
selected-out (x ∷ l) (true ∷ marks) z d (Memᴰ.tail m) =
    let r = selected-out l marks z d m in
    (suc r.0, omega (arith, r.1), r.2, r.3)
selected-out (x ∷ l) (false ∷ marks) z d m =
    let r = selected-out l marks z d m in
    (suc r.0, omega (arith, r.1), r.2, r.3)

-- ---- over a frame

-- a function of the entries of a table
map_row : (M : Point → Bool) (f : ℕ → Point) (i n : ℕ) → map M (tabulate f i n) ≡ tabulate (λ j. M (f j)) i n
unfolding tabulate
map_row M f i zero = refl
map_row M f i (suc n) = ap (λ (l : List Bool). M (f i) ∷ l) (map_row M f (suc i) n)

-- the mask's entry at a place
pub sought-place : (W H : ℕ) (M : Point → Bool) (i : ℕ) → i < W * H → get_or (map M (places W H)) i false ≡ M (place W i)
unfolding places
sought-place W H M i h =
    ap (λ (l : List Bool). get_or l i false) (map_row M (place W) 0 (W * H))
    ∙ get_or-row (λ j. M (place W j)) 0 (W * H) i false h ∙ ap (λ (j : ℕ). M (place W j)) (zero-add i)

-- the set of the marked places
pub among-place : (W H : ℕ) (marks : List Bool) (z : Point)
    → T (among (selected (places W H) marks) z) ↔ ((i : ℕ) × (i < W * H) × (z ≡ place W i) × T (get_or marks i false))
unfolding among places
among-place W H marks z = (
  (λ t.
      let r = any_out (λ p. same_point z p) (selected l marks) t in
      let q = selected-out l marks r.0 z r.1 in
      let h = subst (λ (n : ℕ). q.0 < n) (length-row (place W) 0 (W * H)) q.1 in
      (q.0, h, same_eq z r.0 r.2 ∙ sym q.2 ∙ at q.0 h, q.3)),
  (λ r.
      any_in (λ p. same_point z p) (
      selected_in l marks r.0 z z (subst (λ (n : ℕ). r.0 < n) (sym (length-row (place W) 0 (W * H))) r.1) (at r.0 r.1 ∙ sym r.2) r.3
      ) (same_refl z)),
)
  where
    l : List Point
    l = tabulate (place W) 0 (W * H)

    at : (i : ℕ) → i < W * H → get_or l i z ≡ place W i
    at i h = get_or-row (place W) 0 (W * H) i z h ∙ ap (place W) (zero-add i)
