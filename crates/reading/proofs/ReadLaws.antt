-- Reading size by size and run by run: the same map as from the whole split, which a loop over the symbols can follow.
use mathlib.Core.Bool.{Bool, ◌&&◌, cond, false, true}
use mathlib.Core.List.{List, [], ◌++◌, ◌∷◌, map}
use mathlib.Core.Option.{Option, none, some}
use mathlib.Core.Path.{◌∙◌, ◌≡◌, ap, refl, sym}
use Prim.Native.Nat.{◌*◌, ◌+◌, ◌≤◌, suc, zero, ℕ}
use native.Mathlib.Nat.{le_refl}
use native.Mathlib.Omega.{arith}
use lib.ListN.{length}
use Rattle.coding.specs.Runs.{mask, unmasked}
use Rattle.coding.specs.Symbols.{comma, symbols_of}
use Rattle.reading.specs.Maps.{placed_sizes, read_map, with_labels}
use Rattle.reading.specs.Points.{among, and_point, placed, placed_down}
use Rattle.reading.specs.Splits.{Splitting, between, empty, inside, is_numeral, on_sizes, split, start, value, value_after, with_digit, with_run, with_size}
use Rattle.reading.specs.Taking.{
  digit_then,
  first_points,
  first_size,
  map_of,
  pixel_after,
  placed_runs,
  point_then,
  read_more,
  read_size,
  read_sizes,
  take_run,
  then_more,
  then_placed,
  then_points,
  with_rest,
}
use Rattle.reading.proofs.PlacedLaws.{placed-none}
use Rattle.reading.proofs.SplitLaws.{read_none, sections-split, written}
use Rattle.morphology.specs.Lists.{every_of}
use Rattle.morphology.specs.Point.{Point}

-- ---- one size at a time

-- n sizes more after those of a reading
abbrev pub then_sizes : Option Splitting → ℕ → Option Splitting
then_sizes none n = none
then_sizes (some r) n = on_sizes (λ sizes. r.0 ++ sizes) (split r.1 start n)

-- changes one after the other; changes that agree
on_sizes_twice : (f g : List (List (List ℕ)) → List (List (List ℕ))) (o : Option Splitting) → on_sizes f (on_sizes g o) ≡ on_sizes (λ l. f (g l)) o
on_sizes_twice f g none = refl
on_sizes_twice f g (some r) = refl

on_sizes_agree : (f g : List (List (List ℕ)) → List (List (List ℕ))) (o : Option Splitting) → ((l : List (List (List ℕ))) → f l ≡ g l)
    → on_sizes f o ≡ on_sizes g o
on_sizes_agree f g none h = refl
on_sizes_agree f g (some r) h = ap (λ (l : List (List (List ℕ))). some (l, r.1)) (h r.0)

-- what changes the first size alone may be done before or after the others are read
after_first : (f : List (List (List ℕ)) → List (List (List ℕ))) (o : Option Splitting) (n : ℕ)
    → ((r : Splitting) → o ≡ some r → (l : List (List (List ℕ))) → f (r.0 ++ l) ≡ f r.0 ++ l) → on_sizes f (then_sizes o n) ≡ then_sizes (on_sizes f o) n
after_first f none n h = refl
after_first f (some r) n h =
    on_sizes_twice f (λ sizes. r.0 ++ sizes) (split r.1 start n) ∙ on_sizes_agree (λ l. f (r.0 ++ l)) (λ l. f r.0 ++ l) (split r.1 start n) (h r refl)

-- a digit, a run and a size change the first size alone
digit-first : (d : ℕ) (s : List ℕ) (r : Splitting) → split s inside 0 ≡ some r → (l : List (List (List ℕ)))
    → with_digit d (r.0 ++ l) ≡ with_digit d r.0 ++ l
digit-first d s r e l =
    let h = written s inside 0 r e in
    ap (λ (k : List (List (List ℕ))). with_digit d (k ++ l)) h.3 ∙ sym (ap (λ (k : List (List (List ℕ))). with_digit d k ++ l) h.3)

run-first : (s : List ℕ) (r : Splitting) → split s between 0 ≡ some r → (l : List (List (List ℕ))) → with_run (r.0 ++ l) ≡ with_run r.0 ++ l
run-first s r e l =
    let h = written s between 0 r e in
    ap (λ (k : List (List (List ℕ))). with_run (k ++ l)) h.2 ∙ sym (ap (λ (k : List (List (List ℕ))). with_run k ++ l) h.2)

size-first : (s : List ℕ) (n : ℕ) → on_sizes with_size (split s start n) ≡ then_sizes (on_sizes with_size (split s start 0)) n
size-first s n = sym (ap (λ (o : Option Splitting). then_sizes (on_sizes with_size o) n) (read_none s))

-- a size that is being read, and n more
split_rest : (s : List ℕ) (n : ℕ) → (split s empty n ≡ then_sizes (split s empty 0) n) × (split s inside n ≡ then_sizes (split s inside 0) n)
    × (split s between n ≡ then_sizes (split s between 0) n)
unfolding split
split_rest [] n = (refl, refl, refl)
split_rest (zero ∷ s) n =
    let r = split_rest s n in (
      size-first s n,
      ap (on_sizes with_run) r.2 ∙ after_first with_run (split s between 0) n (run-first s),
      size-first s n,
    )
split_rest (suc d ∷ s) n =
    let r = split_rest s n in
    let e = ap (on_sizes (with_digit d)) r.1 ∙ after_first (with_digit d) (split s inside 0) n (digit-first d s) in
    (refl, e, e)

-- a size and n more are the size, then n sizes
pub split-size : (s : List ℕ) (n : ℕ) → split s start (suc n) ≡ then_sizes (split s start 1) n
unfolding split
split-size [] n = refl
split-size (zero ∷ s) n = (split_rest s n).0
split-size (suc d ∷ s) n = ap (on_sizes (with_digit d)) (split_rest s n).1 ∙ after_first (with_digit d) (split s inside 0) n (digit-first d s)

-- ---- the map, size by size

module _ (W H : ℕ) (B : List Point) where
  -- the sizes of a whole split, below those in the list
  abbrev staged : List (Point → Bool) → Option Splitting → Option (List (Point → Bool) × List ℕ)
  staged larger none = none
  staged larger (some r) =
      let found = with_rest r.1 (placed_down W H B larger (map (map value) r.0)) in
      cond (every_of (every_of is_numeral) r.0) found none

  -- nothing, whatever the test
  cond-none : (b : Bool) → ◌≡◌ {A = Option (List (Point → Bool) × List ℕ)} (cond b none none) none
  cond-none true = refl
  cond-none false = refl

  -- the first size's points, then the others
  abbrev then_staged : List (Point → Bool) → Option (List Point) → Option Splitting → Option (List (Point → Bool) × List ℕ)
  then_staged larger none o = none
  then_staged larger (some ps) o = staged (among ps ∷ larger) o

  -- of a size and the others: the runs of the size are placed, then the others
  first_staged : (larger : List (Point → Bool)) (ws : List (List ℕ)) (o : Option Splitting)
      → staged larger (on_sizes (λ sizes. (ws ∷ []) ++ sizes) o)
      ≡ cond (every_of is_numeral ws) (then_staged larger (placed (unmasked W H (mask B larger)) (map value ws)) o) none
  unfolding placed_down
  first_staged larger ws none = nothing (placed (unmasked W H (mask B larger)) (map value ws)) (every_of is_numeral ws)
    where
      nothing : (p : Option (List Point)) (b : Bool) → none ≡ cond b (then_staged larger p none) none
      nothing none true = refl
      nothing none false = refl
      nothing (some ps) true = refl
      nothing (some ps) false = refl
  first_staged larger ws (some r) =
      by (every_of is_numeral ws) (every_of (every_of is_numeral) r.0) (placed (unmasked W H (mask B larger)) (map value ws)) refl
    where
      by : (a b : Bool) (p : Option (List Point)) → b ≡ every_of (every_of is_numeral) r.0
          → cond (a && b) (with_rest {A = List (Point → Bool)} r.1 (
          elim p as (λ p. Option (List (Point → Bool))) [ none ↦ none | some ps ↦ placed_down W H B (among ps ∷ larger) (map (map value) r.0) ]
          )) none
          ≡ cond a (then_staged larger p (some r)) none
      by true b none e = cond-none b
      by true b (some ps) e = ap (λ (c : Bool). cond c (with_rest r.1 (placed_down W H B (among ps ∷ larger) (map (map value) r.0))) none) e
      by false b p e = refl

  -- reading size by size is reading the whole split
  staged-sizes : (n : ℕ) (larger : List (Point → Bool)) (s : List ℕ) → staged larger (split s start n) ≡ read_sizes W H B larger s n
  unfolding read_sizes read_size placed_down
  staged-sizes zero larger s = ap (staged larger) (read_none s)
  staged-sizes (suc n) larger s = ap (staged larger) (split-size s n) ∙ go (split s start 1) refl (λ ps rest. staged-sizes n (among ps ∷ larger) rest)
    where
      l : List Point
      l = unmasked W H (mask B larger)

      on : Option (List Point × List ℕ) → Option (List (Point → Bool) × List ℕ)
      on q = elim q [ none ↦ none | some q ↦ read_sizes W H B (among q.0 ∷ larger) q.1 n ]

      rest_of : (ws : List (List ℕ)) (rest : List ℕ)
          → ((ps : List Point) (rest : List ℕ) → staged (among ps ∷ larger) (split rest start n) ≡ read_sizes W H B (among ps ∷ larger) rest n)
          → (a : Bool) (p : Option (List Point)) → cond a (then_staged larger p (split rest start n)) none ≡ on (cond a (with_rest rest p) none)
      rest_of ws rest ih true none = refl
      rest_of ws rest ih true (some ps) = ih ps rest
      rest_of ws rest ih false p = refl

      one : (sizes : List (List (List ℕ))) (rest : List ℕ) → length sizes ≡ 1
          → ((ps : List Point) (rest : List ℕ) → staged (among ps ∷ larger) (split rest start n) ≡ read_sizes W H B (among ps ∷ larger) rest n)
          → staged larger (on_sizes (λ x. sizes ++ x) (split rest start n)) ≡ on (placed_runs l (first_size sizes) rest)
      one [] rest e ih = absurd (omega arith)
      one (ws ∷ []) rest e ih = first_staged larger ws (split rest start n) ∙ rest_of ws rest ih (every_of is_numeral ws) (placed l (map value ws))
      one (ws ∷ vs ∷ sizes) rest e ih = absurd (omega arith)

      go : (o : Option Splitting) → split s start 1 ≡ o
          → ((ps : List Point) (rest : List ℕ) → staged (among ps ∷ larger) (split rest start n) ≡ read_sizes W H B (among ps ∷ larger) rest n)
          → staged larger (then_sizes o n) ≡ on (first_points l o)
      go none e ih = refl
      go (some r) e ih = one r.0 r.1 (sections-split s 1 r e).1 ih

  -- the map of a stream, size by size
  pub read-sizes : (n : ℕ) (bytes : List ℕ) → read_map W H B n bytes ≡ map_of W H (read_sizes W H B [] (symbols_of bytes) (suc n))
  unfolding read_map
  read-sizes n bytes = by (split (symbols_of bytes) start (suc n)) ∙ ap (map_of W H) (staged-sizes (suc n) [] (symbols_of bytes))
    where
      labels : (b : Bool) (rest : List ℕ) (o : Option (List (Point → Bool)))
          → cond b (with_labels W H rest o) none ≡ map_of W H (cond b (with_rest rest o) none)
      labels true rest none = refl
      labels true rest (some sets) = refl
      labels false rest o = refl

      by : (o : Option Splitting) → placed_sizes W H B o ≡ map_of W H (staged [] o)
      by none = refl
      by (some r) = labels (every_of (every_of is_numeral) r.0) r.1 (placed_down W H B [] (map (map value) r.0))

-- ---- one run at a time

-- one more run, and the runs after it
abbrev with_word : List ℕ → List (List (List ℕ)) → List (List (List ℕ))
with_word w [] = []
with_word w (ws ∷ sizes) = (w ∷ ws) ∷ sizes

abbrev then_runs : Option (List ℕ × List ℕ) → ℕ → Option Splitting
then_runs none n = none
then_runs (some q) n = on_sizes (with_word q.0) (split q.1 between n)

-- a size that is being read within a run: the run, then the others
split-run : (s : List ℕ) (n : ℕ) → split s inside n ≡ then_runs (take_run s) n
unfolding split take_run
split-run [] n = refl
split-run (zero ∷ s) n = on_sizes_agree with_run (with_word []) (split s between n) same
  where
    same : (l : List (List (List ℕ))) → with_run l ≡ with_word [] l
    same [] = refl
    same (ws ∷ sizes) = refl
split-run (suc d ∷ s) n = ap (on_sizes (with_digit d)) (split-run s n) ∙ by (take_run s)
  where
    same : (w : List ℕ) (l : List (List (List ℕ))) → with_digit d (with_word w l) ≡ with_word (d ∷ w) l
    same w [] = refl
    same w (ws ∷ sizes) = refl

    by : (o : Option (List ℕ × List ℕ)) → on_sizes (with_digit d) (then_runs o n) ≡ then_runs (digit_then d o) n
    by none = refl
    by (some q) =
        on_sizes_twice (with_digit d) (with_word q.0) (split q.1 between n)
        ∙ on_sizes_agree (λ l. with_digit d (with_word q.0 l)) (with_word (d ∷ q.0)) (split q.1 between n) (same q.0)

-- a run ends at a pixel of the list, or passes it
pub placed-run : (l : List Point) (r : ℕ) (rs : List ℕ) → placed l (r ∷ rs) ≡ then_placed (pixel_after l r) rs
unfolding placed pixel_after
placed-run [] r rs = refl
placed-run (z ∷ l) zero rs = refl
placed-run (z ∷ l) (suc r) rs = placed-run l r rs

-- symbols that end early give no points
nothing_more : (b : Bool) (o : Option (Point × List Point)) (s : List ℕ) → split s between 0 ≡ none → none ≡ cond b (then_points o s) none
unfolding read_more
nothing_more false o s e = refl
nothing_more true none s e = refl
nothing_more true (some t) s e = sym (ap (λ (q : Option Splitting). point_then t.0 (first_points t.1 q)) e)

-- a point before those of the runs that follow
rest-point : (z : Point) (rest : List ℕ) (o : Option (List Point)) → with_rest rest (and_point z o) ≡ point_then z (with_rest rest o)
rest-point z rest none = refl
rest-point z rest (some ps) = refl

-- a run w is read and s follows it
module _ (l : List Point) (w : List ℕ) (s : List ℕ) where
  first_run_lem : (ws : List (List ℕ)) (tail : List (List (List ℕ))) (rest : List ℕ) → split s between 0 ≡ some (ws ∷ tail, rest)
      → placed_runs l (w ∷ ws) rest ≡ cond (is_numeral w) (then_points (pixel_after l (value w)) s) none
  unfolding read_more
  first_run_lem ws tail rest e =
      ap (λ (p : Option (List Point)). cond (is_numeral w && every_of is_numeral ws) (with_rest rest p) none) (placed-run l (value w) (map value ws))
      ∙ by (is_numeral w) (every_of is_numeral ws) refl (pixel_after l (value w))
    where
      by : (a b : Bool) → b ≡ every_of is_numeral ws → (o : Option (Point × List Point))
          → cond (a && b) (with_rest rest (then_placed o (map value ws))) none ≡ cond a (then_points o s) none
      by false b q o = refl
      by true true q none = refl
      by true false q none = refl
      by true true q (some t) =
          rest-point t.0 rest (placed t.1 (map value ws))
          ∙ ap (λ (b : Bool). point_then t.0 (cond b (with_rest rest (placed t.1 (map value ws))) none)) q
          ∙ sym (ap (λ (o : Option Splitting). point_then t.0 (first_points t.1 o)) e)
      by true false q (some t) =
          ap (λ (b : Bool). point_then t.0 (cond b (with_rest rest (placed t.1 (map value ws))) none)) q
          ∙ sym (ap (λ (o : Option Splitting). point_then t.0 (first_points t.1 o)) e)

  word_more : (o : Option Splitting) → split s between 0 ≡ o
      → first_points l (on_sizes (with_word w) o) ≡ cond (is_numeral w) (then_points (pixel_after l (value w)) s) none
  word_more none e = nothing_more (is_numeral w) (pixel_after l (value w)) s e
  word_more (some r) e =
      let h = written s between 0 r e in
      ap (λ (k : List (List (List ℕ))). placed_runs l (first_size (with_word w k)) r.1) h.2
      ∙ first_run_lem h.0 h.1 r.1 (e ∙ ap (λ (k : List (List (List ℕ))). some (k, r.1)) h.2)

-- a digit after a comma begins a run
between-inside : (d : ℕ) (s : List ℕ) → split (suc d ∷ s) between 0 ≡ split (suc d ∷ s) inside 0
unfolding split
between-inside d s = refl

-- at a comma the size ends; at a digit a run follows
pub more-end : (l : List Point) (s : List ℕ) → read_more l (comma ∷ s) ≡ some ([], s)
unfolding read_more split
more-end l s = ap (λ (o : Option Splitting). first_points l (on_sizes with_size o)) (read_none s) ∙ ap (with_rest s) (placed-none l)

pub more-run : (l : List Point) (d : ℕ) (s : List ℕ) → read_more l (suc d ∷ s) ≡ then_more l (take_run (suc d ∷ s))
unfolding read_more
more-run l d s = ap (first_points l) (between-inside d s ∙ split-run (suc d ∷ s) 0) ∙ by (take_run (suc d ∷ s))
  where
    by : (o : Option (List ℕ × List ℕ)) → first_points l (then_runs o 0) ≡ then_more l o
    by none = refl
    by (some q) = word_more l q.0 q.1 (split q.1 between 0) refl

-- symbols that end within a size
pub more_early : (l : List Point) → read_more l [] ≡ none
unfolding read_more split
more_early l = refl

-- a size begins with a run, or with two commas
pub size-run : (l : List Point) (d : ℕ) (s : List ℕ) → read_size l (suc d ∷ s) ≡ read_more l (suc d ∷ s)
unfolding read_size read_more split
size-run l d s = refl

pub size_none : (l : List Point) (s : List ℕ) → read_size l (comma ∷ comma ∷ s) ≡ some ([], s)
unfolding read_size split
size_none l s = ap (λ (o : Option Splitting). first_points l (on_sizes with_size o)) (read_none s) ∙ ap (with_rest s) (placed-none l)

-- a comma that begins a size, and a digit; symbols that end there
pub size-no_digit : (l : List Point) (d : ℕ) (s : List ℕ) → read_size l (comma ∷ suc d ∷ s) ≡ none
unfolding read_size split
size-no_digit l d s = refl

pub size_early : (l : List Point) → (read_size l [] ≡ none) × (read_size l (comma ∷ []) ≡ none)
unfolding read_size split
size_early l = (refl, refl)

-- ---- a run that is too long may be given up at once

-- more digits stand for no smaller number
pub value_grows : (ds : List ℕ) (v : ℕ) → v ≤ value_after v ds
unfolding value_after
value_grows [] v = le_refl v
value_grows (d ∷ ds) v = let h = value_grows ds (v * 3 + d) in omega arith

-- no pixel comes after as many as there are
pub pixel-past : (l : List Point) (r : ℕ) → length l ≤ r → pixel_after l r ≡ none
unfolding pixel_after
pixel-past [] r h = refl
pixel-past (z ∷ l) zero h = absurd (omega arith)
pixel-past (z ∷ l) (suc r) h = pixel-past l r (omega arith)
