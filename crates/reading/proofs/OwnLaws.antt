-- Codes: a stream is accepted with an image exactly when it is the image's own.
use mathlib.Core.Bool.{Bool, ◌&&◌, ◌||◌, cond, false, not, true}
use mathlib.Core.List.{List, Memᴰ, [], ◌++◌, ◌∷◌, map}
use mathlib.Core.Logic.{◌↔◌}
use mathlib.Core.Option.{Option, none-ne-some, some-injective, none, some}
use mathlib.Core.Path.{◌∙◌, ◌≡◌, ap, ap₂, fun_ext, refl, subst, sym}
use Prim.Native.Nat.{◌%◌, ◌*◌, ◌+◌, ◌<◌, ◌≤◌, max, suc, zero, ℕ}
use native.Mathlib.Nat.{suc-ne-zero}
use native.Mathlib.Omega.{arith}
use borrow.Author.Tests.{lt-leb}
use lib.Dec.{T, eqb, eqb-suc-zero, leb, ltb}
use lib.ListN.{length, length-append, length-map}
use lib.Pow.{are_bytes}
use Rattle.coding.specs.Codes.{Code, code, code_of, map_code, map_runs, map_symbols, of_size, sizes_down}
use Rattle.coding.specs.Runs.{runs_down}
use Rattle.coding.specs.Symbols.{numeral, pack_symbols, sections, symbols_of}
use Rattle.coding.proofs.CodeLaws.{empty-none, none-empty}
use Rattle.coding.proofs.MaskLaws.{eroded-above, size_subset}
use Rattle.coding.proofs.PackLaws.{length_symbols, pack-symbols}
use Rattle.reading.specs.Maps.{Reading, code_rows, code_set, is_skeleton, label_in, lacks, map_rows, map_set, placed_sizes, read_map, with_labels}
use Rattle.reading.specs.Points.{placed_down}
use Rattle.reading.specs.Splits.{Splitting, is_numeral, is_padding, split, start, value}
use Rattle.reading.proofs.MapLaws.{Tidy, greatest_le-sizes, length-down, map-runs_read, runs_map, skeleton-tidy}
use Rattle.reading.proofs.OwnFacts.{has-largest, is-skeleton, largest_has, length-labels, skeleton_is}
use Rattle.reading.proofs.PaddingLaws.{pack_padding, symbols_of-bytes, symbols-pack}
use Rattle.reading.proofs.PlacedLaws.{cond-true}
use Rattle.reading.proofs.SplitLaws.{all_left, are_symbols, sections-digits, sections-split, sections-symbols, split-sections}
use Rattle.reading.proofs.ValueLaws.{are_digits, digits-numeral, is-numeral, numeral-value, value-numeral}
use Rattle.morphology.specs.Labels.{label_at, raster}
use Rattle.morphology.specs.Lists.{every_of, greatest, tabulate}
use Rattle.morphology.specs.Point.{Point, origin}
use Rattle.morphology.specs.Refusals.{first_refusal, is_side, is_wild, max_side}
use Rattle.morphology.specs.Skeleton.{reconstruction, skeleton_function, skeleton_labels}
use Rattle.morphology.proofs.DecomposeLaws.{greatest-raster}
use Rattle.morphology.proofs.ElementLaws.{Element}
use Rattle.morphology.proofs.FrameLaws.{OnFrame}
use Rattle.morphology.proofs.LabelLaws.{label_at_le}
use Rattle.morphology.proofs.MorphologyLaws.{open-zero, ⊆_of_eq}
use Rattle.morphology.proofs.PlaneLaws.{Empty, empty_eq, none_on}
use Rattle.morphology.proofs.ReconstructLaws.{reconstruction_on}
use Rattle.morphology.proofs.RefusalLaws.{T_of-not, clear-out, first_clear, first-hit, not-T-false, or_in-false, or-out-false, side_le}
use Rattle.morphology.proofs.SkeletonLaws.{label_le, reconstruction_open, skeleton-tame}
use Rattle.morphology.proofs.TestLaws.{all-out, and_in, and_l, and_r}

-- ---- sizes of numerals

-- there and back over a list, where it is so at each member
map_back : {A C : Type 0} (f : A → C) (g : C → A) (l : List A) → ((a : A) → Memᴰ a l → g (f a) ≡ a) → map g (map f l) ≡ l
map_back f g [] h = refl
map_back {A} f g (a ∷ l) h =
    ap₂ (λ (b : A) (k : List A). b ∷ k) (h a (Memᴰ.head refl)) (map_back f g l (λ b m. h b (Memᴰ.tail m)))

-- the values of the numerals of runs are the runs
sizes-value : (rss : List (List ℕ)) → map (map value) (map (map numeral) rss) ≡ rss
sizes-value rss = map_back (map numeral) (map value) rss (λ rs m. map_back numeral value rs (λ r k. value-numeral r))

-- digits with no leading zero are the numerals of their values
sizes-numeral : (sizes : List (List (List ℕ))) → T (every_of (every_of are_digits) sizes) → T (every_of (every_of is_numeral) sizes)
    → map (map numeral) (map (map value) sizes) ≡ sizes
sizes-numeral sizes t u =
    map_back (map value) (map numeral) sizes (λ ws m. map_back value numeral ws (λ w k.
    numeral-value w (all-out are_digits (all-out (every_of are_digits) t m) k) (all-out is_numeral (all-out (every_of is_numeral) u m) k)))

-- a test that every value of f passes
all_map : {A C : Type 0} (p : C → Bool) (f : A → C) (l : List A) → ((a : A) → T (p (f a))) → T (every_of p (map f l))
all_map p f [] h = tt
all_map p f (a ∷ l) h = and_in (p (f a)) (every_of p (map f l)) (h a) (all_map p f l h)

-- the runs written have no leading zero
are_numerals : (rss : List (List ℕ)) → T (every_of (every_of is_numeral) (map (map numeral) rss))
are_numerals rss = all_map (every_of is_numeral) (map numeral) rss (λ rs. all_map is_numeral numeral rs is-numeral)

-- and are digits
pub are-digits : (rss : List (List ℕ)) → T (every_of (every_of are_digits) (map (map numeral) rss))
are-digits rss = all_map (every_of are_digits) (map numeral) rss (λ rs. all_map are_digits numeral rs digits-numeral)

-- a list of runs for each size
length_runs : (W H : ℕ) (B : List Point) (larger smaller : List (Point → Bool)) → length (runs_down W H B larger smaller) ≡ length smaller
unfolding runs_down
length_runs W H B larger [] = refl
length_runs W H B larger (S ∷ smaller) = ap suc (length_runs W H B (S ∷ larger) smaller)

-- the sizes written are n + 1
length-sizes : (W H : ℕ) (B : List Point) (m : List ℕ) (n : ℕ) → length (map_runs W H B m n) ≡ suc n
unfolding map_runs
length-sizes W H B m n = length_runs W H B [] (sizes_down (of_size W H m) n) ∙ length-down (of_size W H m) n

-- ---- what a stream has to be to be read

module _ (W H : ℕ) (B : List Point) where
  -- a map that was read is that of sets that were placed
  with_labels-out : (rest : List ℕ) (o : Option (List (Point → Bool))) (r : Reading) → with_labels W H rest o ≡ some r
      → (sets : List (Point → Bool)) × (o ≡ some sets) × (r ≡ (raster W H (label_in 0 sets), rest))
  with_labels-out rest none r e = absurd (none-ne-some r e)
  with_labels-out rest (some sets) r e = (sets, refl, sym (some-injective (raster W H (label_in 0 sets), rest) r e))

  -- they were placed from sizes whose runs have no leading zero
  placed-out : (o : Option Splitting) (r : Reading) → placed_sizes W H B o ≡ some r
      → (q : Splitting) × (sets : List (Point → Bool)) × (o ≡ some q) × T (every_of (every_of is_numeral) q.0)
      × (placed_down W H B [] (map (map value) q.0) ≡ some sets) × (r ≡ (raster W H (label_in 0 sets), q.1))
  placed-out none r e = absurd (none-ne-some r e)
  placed-out (some q) r e = go (every_of (every_of is_numeral) q.0) refl e
    where
      go : (b : Bool) → every_of (every_of is_numeral) q.0 ≡ b → cond b (with_labels W H q.1 (placed_down W H B [] (map (map value) q.0))) none ≡ some r
          → (q' : Splitting) × (sets : List (Point → Bool)) × (◌≡◌ {A = Option Splitting} (some q) (some q')) × T (every_of (every_of is_numeral) q'.0)
          × (placed_down W H B [] (map (map value) q'.0) ≡ some sets) × (r ≡ (raster W H (label_in 0 sets), q'.1))
      go true b e = let s = with_labels-out q.1 (placed_down W H B [] (map (map value) q.0)) r e in (q, s.0, refl, subst T (sym b) tt, s.1, s.2)
      go false b e = absurd (none-ne-some r e)

  -- sections of runs that can be placed are read as the map of their points, and the rest is left
  pub sections_read : (runs : List (List ℕ)) (rest : List ℕ) (n : ℕ) (bytes : List ℕ) (sets : List (Point → Bool)) → length runs ≡ suc n
      → symbols_of bytes ≡ sections (map (map numeral) runs) ++ rest → placed_down W H B [] runs ≡ some sets
      → read_map W H B n bytes ≡ some (raster W H (label_in 0 sets), rest)
  unfolding read_map
  sections_read runs rest n bytes sets l s p =
      let ws = map (map numeral) runs in
      ap₂ (λ (s : List ℕ) (k : ℕ). placed_sizes W H B (split s start k)) s (sym (length-map runs (map numeral) ∙ l))
      ∙ ap (placed_sizes W H B) (split-sections ws rest (are_numerals runs))
      ∙ cond-true (every_of (every_of is_numeral) ws) (with_labels W H rest (placed_down W H B [] (map (map value) ws))) none (are_numerals runs)
      ∙ ap (λ (l : List (List ℕ)). with_labels W H rest (placed_down W H B [] l)) (sizes-value runs) ∙ ap (with_labels W H rest) p

  -- and nothing else is read
  pub read-sections : (n : ℕ) (bytes m rest : List ℕ) → read_map W H B n bytes ≡ some (m, rest)
      → (runs : List (List ℕ)) × (sets : List (Point → Bool)) × (length runs ≡ suc n) × (symbols_of bytes ≡ sections (map (map numeral) runs) ++ rest)
      × (placed_down W H B [] runs ≡ some sets) × (m ≡ raster W H (label_in 0 sets))
  unfolding read_map
  read-sections n bytes m rest e =
      let o = placed-out (split (symbols_of bytes) start (suc n)) (m, rest) e in
      let ws = o.0.0 in
      let left = o.0.1 in
      let w = sections-split (symbols_of bytes) (suc n) o.0 o.2 in
      let symbols = subst (λ (l : List ℕ). T (are_symbols l)) w.0 (symbols_of-bytes bytes) in
      let digits = sections-digits ws (all_left (λ a. ltb a 4) (sections ws) left symbols) in (
        map (map value) ws,
        o.1,
        length-map ws (map value) ∙ w.1,
        w.0
            ∙ ap₂ (λ (l : List (List (List ℕ))) (s : List ℕ). sections l ++ s) (sym (sizes-numeral ws digits o.3)) (sym (ap (λ (r : Reading). r.1) o.5)),
        o.4,
        ap (λ (r : Reading). r.0) o.5,
      )

-- ---- the stream of a map, read

-- whole bytes hold four symbols each
symbols-whole : (bytes : List ℕ) → length (symbols_of bytes) % 4 ≡ 0
symbols-whole bytes = omega (arith, length_symbols bytes)

module _ (W H : ℕ) (B : List Point) (centred : Memᴰ origin B) where
  -- the stream of a tidy map gives that map, and padding is left
  pub read-written : (m : List ℕ) (n : ℕ) → length m ≡ W * H → ((z : Point) → label_at W H m z ≤ suc n) → Tidy W H B (tabulate (of_size W H m) 0 (suc n))
      → (p : List ℕ) × (read_map W H B n (pack_symbols (map_symbols W H B m n)) ≡ some (m, p)) × T (is_padding p)
  unfolding map_symbols
  read-written m n len top t =
      let rss = map_runs W H B m n in
      let s = sections (map (map numeral) rss) in
      let r = symbols-pack s (sections-symbols (map (map numeral) rss) (are-digits rss)) in
      let q = runs_map W H B centred m n len top t in (
        r.0,
        sections_read W H B rss r.0 n (pack_symbols s) (tabulate (of_size W H m) 0 (suc n)) (length-sizes W H B m n) r.1 q.0
            ∙ ap (λ (l : List ℕ). some (l, r.0)) q.1,
        r.2,
      )

  -- a map that was read, with padding left, has that stream; its labels are at most the size given and one more
  pub written_read : (n : ℕ) (bytes m rest : List ℕ) → T (are_bytes bytes) → read_map W H B n bytes ≡ some (m, rest) → T (is_padding rest)
      → (pack_symbols (map_symbols W H B m n) ≡ bytes) × (greatest m ≤ suc n)
  unfolding map_symbols
  written_read n bytes m rest t e u =
      let o = read-sections W H B n bytes m rest e in
      let s = sections (map (map numeral) o.0) in
      let runs = map-runs_read W H B centred o.0 n o.1 o.2 o.4 in
      let whole : (length s + length rest) % 4 ≡ 0 =
      ap (λ (k : ℕ). k % 4) (sym (length-append s rest)) ∙ ap (λ (l : List ℕ). length l % 4) (sym o.3) ∙ symbols-whole bytes in (
        ap (λ (l : List ℕ). pack_symbols (sections (map (map numeral) (map_runs W H B l n)))) o.5
            ∙ ap (λ (l : List (List ℕ)). pack_symbols (sections (map (map numeral) l))) runs.0
            ∙ sym (pack_padding s rest u whole) ∙ ap pack_symbols (sym o.3) ∙ pack-symbols bytes t,
        omega (arith, greatest_le-sizes W H o.1, runs.2, ap greatest o.5),
      )

-- ---- the theorem

-- a code that no row refuses, with the image X
pub record Accepts (W H : ℕ) (B : List Point) (n : Option ℕ) (bytes : List ℕ) (X : Point → Bool) : Type 0 where
  -- and it is enough
  pub passes : first_refusal (code_rows W H B n bytes) ≡ 0
  pub image : code_set W H B n bytes ≡ X

module _ (W H : ℕ) (B : List Point) (sides : T (is_side W && is_side H)) (el : Element B) where
  -- a map that no row refuses
  record Unrefused (n : ℕ) (r : Reading) : Type 0 where
    small : leb max_side n ≡ false
    held : lacks r.0 n ≡ false
    tame : is_wild W H B r.0 ≡ false
    padded : T (is_padding r.1)
    skeletal : T (is_skeleton W H B r.0)

  -- what the rows have shown
  passed : (n : ℕ) (r : Reading) → first_refusal (map_rows W H B n (some r)) ≡ 0 → Unrefused n r
  passed n r e =
      let rows = clear-out (map_rows W H B n (some r)) tt e in
      let a = or-out-false (leb max_side n) (lacks r.0 n || is_wild W H B r.0) rows.0 in
      let b = or-out-false (lacks r.0 n) (is_wild W H B r.0) a.1 in
      record {
        small = a.0;
        held = b.0;
        tame = b.1;
        padded = T_of-not (is_padding r.1) rows.1.0;
        skeletal = T_of-not (is_skeleton W H B r.0) rows.1.1.0;
      }

  passes : (n : ℕ) (r : Reading) → Unrefused n r → first_refusal (map_rows W H B n (some r)) ≡ 0
  passes n r p =
      let shaped = or_in-false (lacks r.0 n) (is_wild W H B r.0) p.held p.tame in
      first_clear (map_rows W H B n (some r)) (
        or_in-false (leb max_side n) (lacks r.0 n || is_wild W H B r.0) p.small shaped,
        (not-T-false (is_padding r.1) p.padded, (not-T-false (is_skeleton W H B r.0) p.skeletal, tt)),
      )

  -- ---- accepted, so written

  -- a map that no row refuses is the skeleton of the image it rebuilds, and the stream is its own
  own-map : (n : ℕ) (bytes : List ℕ) (r : Reading) → T (are_bytes bytes) → read_map W H B n bytes ≡ some r → Unrefused n r
      → code_of W H B (reconstruction W H B 0 r.0) ≡ code (some n) bytes
  unfolding code_of map_code
  own-map n bytes r t e p =
      let m = r.0 in
      let w = written_read W H B el.centred n bytes m r.1 t e p.padded in
      ap (λ (l : List ℕ). map_code W H B l (greatest l)) (sym (skeleton_is W H B m p.skeletal))
      ∙ ap (map_code W H B m) (largest_has n m p.held w.1) ∙ ap (code (some n)) w.0

  -- a stream that is accepted has an image on the frame, and is its own
  accepted_read : (n : ℕ) (bytes : List ℕ) (o : Option Reading) (X : Point → Bool) → T (are_bytes bytes) → read_map W H B n bytes ≡ o
      → first_refusal (map_rows W H B n o) ≡ 0 → map_set W H B o ≡ X → OnFrame W H X × (code_of W H B X ≡ code (some n) bytes)
  accepted_read n bytes none X t q e i = absurd (suc-ne-zero 8 (sym (first-hit 9 true [] refl) ∙ e))
  accepted_read n bytes (some r) X t q e i =
      let p = passed n r e in (
        subst (OnFrame W H) i (reconstruction_on W H B el r.0 p.tame 0),
        ap (code_of W H B) (sym i) ∙ own-map n bytes r t q p,
      )

  -- ---- written, so accepted

  -- sizes stay below the limit
  labels-small : (X : Point → Bool) → greatest (skeleton_labels W H B X) ≤ max_side
  unfolding skeleton_labels
  labels-small X =
      let h = greatest-raster W H (max W H) (skeleton_function B X (max W H)) (label_le B X (max W H)) in
      omega (arith, side_le W (and_l (is_side W) (is_side H) sides), side_le H (and_r (is_side W) (is_side H) sides))

  -- the skeleton rebuilds its image
  rebuilt : (X : Point → Bool) → OnFrame W H X → reconstruction W H B 0 (skeleton_labels W H B X) ≡ X
  rebuilt X on = reconstruction_open W H B el X on 0 ∙ open-zero B X

  -- and is tidy
  tidy-labels : (X : Point → Bool) (n : ℕ) → OnFrame W H X → greatest (skeleton_labels W H B X) ≡ suc n
      → Tidy W H B (tabulate (of_size W H (skeleton_labels W H B X)) 0 (suc n))
  tidy-labels X n on e =
      subst (λ (S : ℕ → Point → Bool). Tidy W H B (tabulate S 0 (suc n))) (sym (fun_ext (size_subset W H B el X on)))
      (skeleton-tidy W H B el X on (suc n) 0 (eroded-above W H B el X on (0 + suc n) (omega arith)))

  -- the stream of an image that isn't empty is accepted, with the image
  written-accepted : (X : Point → Bool) (n : ℕ) → OnFrame W H X → greatest (skeleton_labels W H B X) ≡ suc n
      → Accepts W H B (some n) (pack_symbols (map_symbols W H B (skeleton_labels W H B X) n)) X
  unfolding code_rows code_set
  written-accepted X n on e =
      let m = skeleton_labels W H B X in
      let r = read-written W H B el.centred m n (length-labels W H B X) (λ z. let h = label_at_le W H m z in omega arith) (tidy-labels X n on e) in
      let small : n < max_side = omega (arith, labels-small X) in
      record {
        passes = ap (λ (o : Option Reading). first_refusal (map_rows W H B n o)) r.1 ∙ passes n (m, r.0) (record {
          small = lt-leb max_side n small;
          held = has-largest n m e;
          tame = skeleton-tame W H B el X on;
          padded = r.2;
          skeletal = is-skeleton W H B m (ap (skeleton_labels W H B) (sym (rebuilt X on)));
        });
        image = ap (map_set W H B) r.1 ∙ rebuilt X on;
      }

  -- ---- blanks

  -- the code of an empty image
  blank_own : (X : Point → Bool) → Empty X → code_of W H B X ≡ code none []
  unfolding code_of map_code
  blank_own X e = ap (map_code W H B (skeleton_labels W H B X)) (empty-none W H B el X (subst (OnFrame W H) (sym (empty_eq X e)) (none_on W H)) e)

  -- it is accepted, with the empty image
  blank-accepted : (X : Point → Bool) → Empty X → Accepts W H B none [] X
  unfolding code_rows code_set first_refusal
  blank-accepted X e = record { passes = refl; image = sym (empty_eq X e) }

  -- a code marked blank is accepted only where it is the empty image's own
  accepted-blank : (bytes : List ℕ) (X : Point → Bool) → Accepts W H B none bytes X → OnFrame W H X × (code_of W H B X ≡ code none bytes)
  unfolding code_rows code_set
  accepted-blank [] X a = (subst (OnFrame W H) a.image (none_on W H), blank_own X (λ z t. ⊆_of_eq (sym a.image) z t))
  accepted-blank (b ∷ bytes) X a =
      absurd (suc-ne-zero 9 (sym (first-hit 10 (not (eqb (suc (length bytes)) 0)) [] (ap not (eqb-suc-zero (length bytes)))) ∙ a.passes))

  -- the rows of a code with a largest size, and its image, are those of the map read
  rows-some : (n : ℕ) (bytes : List ℕ) → first_refusal (code_rows W H B (some n) bytes) ≡ 0 → first_refusal (map_rows W H B n (read_map W H B n bytes)) ≡ 0
  unfolding code_rows
  rows-some n bytes e = e

  set-some : (n : ℕ) (bytes : List ℕ) (X : Point → Bool) → code_set W H B (some n) bytes ≡ X → map_set W H B (read_map W H B n bytes) ≡ X
  unfolding code_set
  set-some n bytes X e = e

  -- ---- both ways

  -- whatever is written is accepted, with the image
  pub own-accepted : (X : Point → Bool) → OnFrame W H X → Accepts W H B (code_of W H B X).largest (code_of W H B X).stream X
  unfolding code_of map_code
  own-accepted X on = go (greatest (skeleton_labels W H B X)) refl
    where
      m : List ℕ
      m = skeleton_labels W H B X

      go : (g : ℕ) → greatest m ≡ g → Accepts W H B (map_code W H B m (greatest m)).largest (map_code W H B m (greatest m)).stream X
      go zero e =
          subst (λ (k : ℕ). Accepts W H B (map_code W H B m k).largest (map_code W H B m k).stream X) (sym e) (blank-accepted X (none-empty W H B el X on e))
      go (suc n) e =
          subst (λ (k : ℕ). Accepts W H B (map_code W H B m k).largest (map_code W H B m k).stream X) (sym e) (written-accepted X n on e)

  -- a code is accepted with X exactly when X lies on the frame and the code is its own
  pub accepts_own : (n : Option ℕ) (bytes : List ℕ) (X : Point → Bool) → T (are_bytes bytes)
      → Accepts W H B n bytes X ↔ (OnFrame W H X × (code_of W H B X ≡ code n bytes))
  accepts_own n bytes X t = (to n, fro)
    where
      read : (k : ℕ) → Accepts W H B (some k) bytes X → OnFrame W H X × (code_of W H B X ≡ code (some k) bytes)
      read k a = accepted_read k bytes (read_map W H B k bytes) X t refl (rows-some k bytes a.passes) (set-some k bytes X a.image)

      to : (n : Option ℕ) → Accepts W H B n bytes X → OnFrame W H X × (code_of W H B X ≡ code n bytes)
      to none a = accepted-blank bytes X a
      to (some k) a = read k a

      fro : OnFrame W H X × (code_of W H B X ≡ code n bytes) → Accepts W H B n bytes X
      fro h = subst (λ (u : Code). Accepts W H B u.largest u.stream X) h.1 (own-accepted X h.0)

  -- one stream for one image: accepted codes are equal, largest size included, exactly when their images are
  pub codes_equal : (n k : Option ℕ) (bytes bits : List ℕ) (X Y : Point → Bool) → T (are_bytes bytes) → T (are_bytes bits)
      → Accepts W H B n bytes X → Accepts W H B k bits Y → (code n bytes ≡ code k bits) ↔ (X ≡ Y)
  codes_equal n k bytes bits X Y t u a b = (
    (λ e. sym a.image ∙ ap (λ (v : Code). code_set W H B v.largest v.stream) e ∙ b.image),
    (λ e. sym ((accepts_own n bytes X t).0 a).1 ∙ ap (code_of W H B) e ∙ ((accepts_own k bits Y u).0 b).1),
  )
