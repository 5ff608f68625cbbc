-- A stream read size by size, from the largest size down: what a loop over the sizes knows, and which rows then hold.
use mathlib.Core.Bool.{Bool, ◌&&◌, ◌||◌, cond, false, not, true}
use mathlib.Core.List.{List, Memᴰ, [], ◌∷◌, map}
use mathlib.Core.Logic.{◌↔◌, ◌⊎◌, inl, inr}
use mathlib.Core.Option.{Option, none-ne-some, some-injective, none, some}
use mathlib.Core.Path.{◌∙◌, ◌≡◌, ap, ap₂, fun_ext, refl, subst, sym}
use Prim.Native.Nat.{◌*◌, ◌+◌, ◌-◌, ◌<◌, ◌≤◌, suc, zero, zero-le, ℕ}
use native.Mathlib.Decide.{ℕ_discrete}
use native.Mathlib.Nat.{zero-add}
use native.Mathlib.Omega.{arith}
use borrow.Author.Tests.{lt-leb}
use lib.Dec.{T, T_not, eqb, eqb_refl, eqb→eq, leb, le→leb, lt→ltb, not_T}
use lib.ListN.{drop, get_or, length}
use Rattle.coding.specs.Runs.{mask, unmasked}
use Rattle.coding.specs.Symbols.{symbols_of}
use Rattle.reading.specs.Maps.{Reading, code_rows, code_set, is_skeleton, label_in, lacks, map_rows, map_set, read_map, row10, row11, row9}
use Rattle.reading.specs.Points.{among, covered, placed}
use Rattle.reading.specs.Splits.{Splitting, is_numeral, is_padding, split, start, value}
use Rattle.reading.specs.Taking.{first_points, first_size, map_of, read_size, read_sizes, with_rest}
use Rattle.reading.proofs.ChainLaws.{
  Chained,
  Suffix,
  covered_none,
  covered_turn,
  dilated_one,
  mask-covered,
  reconstruction-covered,
  skeleton_iff_chained,
  suffix_head,
  suffix_tail,
  union-covered,
}
use Rattle.reading.proofs.MapLaws.{Tidy, label_in_lem, label-out, tidy_on}
use Rattle.reading.proofs.PlacedLaws.{among-out, placed_in, unmasked-out}
use Rattle.reading.proofs.ReadLaws.{read-sizes}
use Rattle.morphology.specs.Falls.{falls_off}
use Rattle.morphology.specs.Image.{inside, on_frame}
use Rattle.morphology.specs.Labels.{place, places, raster}
use Rattle.morphology.specs.Lists.{every_of, some_of}
use Rattle.morphology.specs.Morphology.{dilate, erode, times}
use Rattle.morphology.specs.Point.{Point, ◌⊞◌}
use Rattle.morphology.specs.Refusals.{first_refusal, is_wild, max_side}
use Rattle.morphology.proofs.ElementLaws.{Element}
use Rattle.morphology.proofs.FallsLaws.{falls_on, falls-some}
use Rattle.morphology.proofs.FrameLaws.{OnFrame, on_out}
use Rattle.morphology.proofs.ImageLaws.{mem-row, row_mem}
use Rattle.morphology.proofs.LabelLaws.{of_places}
use Rattle.morphology.proofs.MorphologyLaws.{dilate_in, dilate-out, ⊆_of_eq}
use Rattle.morphology.proofs.PlaneLaws.{Empty, none as nowhere, none_on}
use Rattle.morphology.proofs.ReconstructLaws.{tame_on, union_on}
use Rattle.morphology.proofs.RefusalLaws.{false_of, first-hit, first_miss, not-T-false, or_in-false}
use Rattle.morphology.proofs.TestLaws.{T_ext, and_in, and_l, and_r, any_in, any_out, decide, or_l, or-out, or_r}

-- ---- what is read

-- of the sizes up to N, n are left to read from the symbols s, from symbol `at` on; A is the cover at size n, and its chain holds or not
pub record SizesRead (W H : ℕ) (B : List Point) (s : List ℕ) (N n at : ℕ) (A : Point → Bool) (chained : Bool) : Type 0 where
  -- the sizes read, the smallest first
  pub larger : List (Point → Bool)
  pub count : length larger + n ≡ suc N
  pub reads : read_sizes W H B [] s (suc N) ≡ read_sizes W H B larger (drop at s) n
  pub cover : covered B larger ≡ A
  pub on : OnFrame W H A
  pub tidy : Tidy W H B larger
  pub chain : T chained ↔ Chained B larger
  -- the largest size, once it is read, has a point
  pub held : n ≤ N → (z : Point) × T (get_or larger (N - n) nowhere z)

-- a size's points are pixels of the list
pub size_in : (l : List Point) (s : List ℕ) (q : List Point × List ℕ) → read_size l s ≡ some q → (z : Point) → Memᴰ z q.0 → Memᴰ z l
unfolding read_size
size_in l s q e z m = go (split s start 1) e
  where
    found : (rs rest : List ℕ) (o : Option (List Point)) → placed l rs ≡ o → with_rest rest o ≡ some q → Memᴰ z l
    found rs rest none p e = absurd (none-ne-some q e)
    found rs rest (some ps) p e =
        let r = some-injective (ps, rest) q e in
        placed_in l rs ps p z (subst (λ (q : List Point × List ℕ). Memᴰ z q.0) (sym r) m)

    by : (ws : List (List ℕ)) (rest : List ℕ) (b : Bool) → cond b (with_rest rest (placed l (map value ws))) none ≡ some q → Memᴰ z l
    by ws rest true e = found (map value ws) rest (placed l (map value ws)) refl e
    by ws rest false e = absurd (none-ne-some q e)

    go : (o : Option Splitting) → first_points l o ≡ some q → Memᴰ z l
    go none e = absurd (none-ne-some q e)
    go (some r) e = by (first_size r.0) r.1 (every_of is_numeral (first_size r.0)) e

-- a pixel lies on the frame
place_on : (W H : ℕ) {z : Point} → Memᴰ z (places W H) → T (inside W z.x) × T (inside H z.y)
place_on W H m =
    let r = of_places W H m in (
      subst (λ (z : Point). T (inside W z.x)) (sym r.4) (lt→ltb r.0 W r.2),
      subst (λ (z : Point). T (inside H z.y)) (sym r.4) (lt→ltb r.1 H r.3),
    )

-- the points of a size, and what is covered, dilated, lie on the frame where nothing falls off
pub joined_on : (W H : ℕ) (B : List Point) (A : Point → Bool) (s : List ℕ) (ps : List Point) (rest : List ℕ) → OnFrame W H A → falls_off W H B A ≡ false
    → read_size (unmasked W H (dilate B A)) s ≡ some (ps, rest) → OnFrame W H (λ z. among ps z || dilate B A z)
joined_on W H B A s ps rest on f e = record {
  across = λ z t. across z (or-out (among ps z) (dilate B A z) t);
  down = λ z t. down z (or-out (among ps z) (dilate B A z) t);
}
  where
    pixel : (z : Point) → T (among ps z) → T (inside W z.x) × T (inside H z.y)
    pixel z t = place_on W H (unmasked-out W H (dilate B A) (size_in (unmasked W H (dilate B A)) s (ps, rest) e z (among-out z ps t))).0

    across : (z : Point) → T (among ps z) ⊎ T (dilate B A z) → T (inside W z.x)
    across z (inl t) = (pixel z t).0
    across z (inr t) = (falls_on W H B A on f).across z t

    down : (z : Point) → T (among ps z) ⊎ T (dilate B A z) → T (inside H z.y)
    down z (inl t) = (pixel z t).1
    down z (inr t) = (falls_on W H B A on f).down z t

-- a label of a raster stands there
raster_in : (W H : ℕ) (f : Point → ℕ) {z : Point} → Memᴰ z (places W H) → Memᴰ (f z) (raster W H f)
unfolding raster places
raster_in W H f m =
    let r = row_mem (place W) 0 (W * H) m in
    subst (λ (z : Point). Memᴰ (f z) (raster W H f)) (sym r.2) (mem-row (λ i. f (place W i)) 0 (W * H) r.0 r.1)

-- no sizes cover nothing
covered_nothing : (B : List Point) (sets : List (Point → Bool)) → length sets ≡ 0 → Empty (covered B sets)
covered_nothing B [] e z t = ⊆_of_eq (covered_none B) z t
covered_nothing B (S ∷ sets) e z t = absurd (omega arith)

module _ (W H : ℕ) (B : List Point) where
  -- n sizes more, below one that was read or not
  abbrev then_read : List (Point → Bool) → ℕ → Option (List Point × List ℕ) → Option (List (Point → Bool) × List ℕ)
  then_read larger n o = elim o [ none ↦ none | some q ↦ read_sizes W H B (among q.0 ∷ larger) q.1 n ]

  -- a tidy list of all sizes, n of them before those read
  abbrev Ending : List (Point → Bool) → ℕ → List (Point → Bool) → Type 0
  Ending sets n larger = Tidy W H B sets × Suffix sets n larger × (n + length larger ≡ length sets)

  -- the sizes read stay in the list that a reading ends with, which is tidy
  pub sizes-kept : (n : ℕ) (larger : List (Point → Bool)) (s : List ℕ) (q : List (Point → Bool) × List ℕ) → Tidy W H B larger
      → read_sizes W H B larger s n ≡ some q → Ending q.0 n larger
  unfolding read_sizes
  sizes-kept zero larger s q t e =
      let r = some-injective (larger, s) q e in (
        subst (λ (q : List (Point → Bool) × List ℕ). Tidy W H B q.0) r t,
        (λ i. ap₂ (λ (q : List (Point → Bool) × List ℕ) (k : ℕ). get_or q.0 k nowhere) r (sym (zero-add i))),
        zero-add (length larger) ∙ ap (λ (q : List (Point → Bool) × List ℕ). length q.0) r,
      )
  sizes-kept (suc n) larger s q t e = go (read_size l s) refl (λ ps rest. sizes-kept n (among ps ∷ larger) rest q) e
    where
      l : List Point
      l = unmasked W H (mask B larger)

      go : (o : Option (List Point × List ℕ)) → read_size l s ≡ o
          → ((ps : List Point) (rest : List ℕ) → Tidy W H B (among ps ∷ larger) → read_sizes W H B (among ps ∷ larger) rest n ≡ some q
          → Ending q.0 n (among ps ∷ larger))
          → then_read larger n o ≡ some q → Ending q.0 (suc n) larger
      go none p more e = absurd (none-ne-some q e)
      go (some r) p more e =
          let k = more r.0 r.1 ((λ z u. size_in l s r p z (among-out z r.0 u)), t) e in
          (k.0, suffix_tail q.0 n (among r.0) larger k.1, omega (arith, k.2))

  -- ---- before the first size

  -- whatever is read, row 9 holds: so the number is 9
  rows_nine : (N : ℕ) (bytes : List ℕ)
      → ((q : List (Point → Bool) × List ℕ) → read_sizes W H B [] (symbols_of bytes) (suc N) ≡ some q → T (row9 W H B N (raster W H (label_in 0 q.0))).1)
      → first_refusal (code_rows W H B (some N) bytes) ≡ 9
  unfolding code_rows
  rows_nine N bytes f =
      ap (λ (o : Option Reading). first_refusal (map_rows W H B N o)) (read-sizes W H B N bytes) ∙ go (read_sizes W H B [] (symbols_of bytes) (suc N)) refl
    where
      go : (o : Option (List (Point → Bool) × List ℕ)) → read_sizes W H B [] (symbols_of bytes) (suc N) ≡ o → first_refusal (map_rows W H B N (map_of W H o)) ≡ 9
      go none e = first-hit 9 true [] refl
      go (some q) e =
          let m = raster W H (label_in 0 q.0) in
          first-hit 9 (row9 W H B N m).1 (row10 q.1 ∷ row11 W H B m ∷ []) (T_ext (λ t. tt) (λ t. f q e))

  -- at first nothing is read
  pub sizes-start : (s : List ℕ) (N : ℕ) → SizesRead W H B s N (suc N) 0 nowhere true
  sizes-start s N = record {
    larger = [];
    count = zero-add (suc N);
    reads = refl;
    cover = covered_none B;
    on = none_on W H;
    tidy = tt;
    chain = ((λ t. tt), (λ t. tt));
    held = λ h. absurd (omega arith);
  }

  -- a largest size above the limit is refused
  pub sizes_large : (bytes : List ℕ) (N : ℕ) → max_side ≤ N → first_refusal (code_rows W H B (some N) bytes) ≡ 9
  sizes_large bytes N h =
      rows_nine N bytes (λ q e.
      let m = raster W H (label_in 0 q.0) in
      or_l (leb max_side N) (lacks m N || is_wild W H B m) (le→leb max_side N h))

  -- ---- one size more

  module _ {s : List ℕ} {N n at : ℕ} {A : Point → Bool} {c : Bool} (r : SizesRead W H B s N (suc n) at A c) where
    -- the mask of the next size
    next-mask : mask B r.larger ≡ dilate B A
    next-mask = mask-covered B r.larger ∙ ap (dilate B) r.cover

    -- what is left, where the next size is read or not
    next-reads : (o : Option (List Point × List ℕ)) → read_size (unmasked W H (dilate B A)) (drop at s) ≡ o
        → read_sizes W H B [] s (suc N) ≡ then_read r.larger n o
    unfolding read_sizes
    next-reads o e =
        r.reads ∙ ap (then_read r.larger n) (ap (λ (M : Point → Bool). read_size (unmasked W H M) (drop at s)) next-mask ∙ e)

    module _ (ps : List Point) (at' : ℕ) (e : read_size (unmasked W H (dilate B A)) (drop at s) ≡ some (ps, drop at' s)) where
      -- a point of the size is a pixel outside the mask
      next_in : (z : Point) → T (among ps z) → Memᴰ z (unmasked W H (dilate B A))
      next_in z t = size_in (unmasked W H (dilate B A)) (drop at s) (ps, drop at' s) e z (among-out z ps t)

      -- the sizes are tidy
      next-tidy : Tidy W H B (among ps ∷ r.larger)
      next-tidy = ((λ z t. subst (λ (M : Point → Bool). Memᴰ z (unmasked W H M)) (sym next-mask) (next_in z t)), r.tidy)

      -- their cover is the points and the mask
      next-cover : covered B (among ps ∷ r.larger) ≡ (λ z. among ps z || dilate B A z)
      next-cover = covered_turn B (among ps) r.larger ∙ ap (λ (X : Point → Bool). λ z. among ps z || dilate B X z) r.cover

      -- which lies on the frame, where nothing falls off
      pub next_on : falls_off W H B A ≡ false → OnFrame W H (λ z. among ps z || dilate B A z)
      next_on f = joined_on W H B A (drop at s) ps (drop at' s) r.on f e

      -- the largest size has a point, at once or as before
      next_held : (n ≡ N → (z : Point) × T (among ps z || dilate B A z)) → n ≤ N → (z : Point) × T (get_or (among ps ∷ r.larger) (N - n) nowhere z)
      next_held h l = by (ℕ_discrete n N)
        where
          at_top : n ≡ N → (z : Point) → T (among ps z) ⊎ T (dilate B A z) → T (among ps z)
          at_top q z (inl t) = t
          at_top q z (inr t) =
              let o = dilate-out B A z t in
              absurd (covered_nothing B r.larger (omega (arith, r.count)) o.0 (⊆_of_eq (sym r.cover) o.0 o.2))

          by : Dec (n ≡ N) → (z : Point) × T (get_or (among ps ∷ r.larger) (N - n) nowhere z)
          by (yes q) =
              let p = h q in
              let k : N - n ≡ 0 = omega arith in (
                p.0,
                subst (λ (i : ℕ). T (get_or (among ps ∷ r.larger) i nowhere p.0)) (sym k)
                    (at_top q p.0 (or-out (among ps p.0) (dilate B A p.0) p.1)),
              )
          by (no q) =
              let p = r.held (omega arith) in
              let k : N - n ≡ suc (N - suc n) = omega arith in
              (p.0, subst (λ (i : ℕ). T (get_or (among ps ∷ r.larger) i nowhere p.0)) (sym k) p.1)

    -- the next size is read; c' tells whether its cover eroded is the cover before
    pub sizes_next : falls_off W H B A ≡ false → (ps : List Point) (at' : ℕ) → read_size (unmasked W H (dilate B A)) (drop at s) ≡ some (ps, drop at' s)
        → (c' : Bool) → (T c' ↔ (erode B (λ z. among ps z || dilate B A z) ≡ A)) → (n ≡ N → (z : Point) × T (among ps z || dilate B A z))
        → SizesRead W H B s N n at' (λ z. among ps z || dilate B A z) (c && c')
    sizes_next f ps at' e c' same h =
        let q = next-cover ps at' e in
        record {
          larger = among ps ∷ r.larger;
          count = omega (arith, r.count);
          reads = next-reads (some (ps, drop at' s)) e;
          cover = q;
          on = next_on ps at' e f;
          tidy = next-tidy ps at' e;
          chain = (
            (λ t. (ap (erode B) q ∙ same.0 (and_r c c' t) ∙ sym r.cover, r.chain.0 (and_l c c' t))),
            (λ u. and_in c c' (r.chain.1 u.1) (same.1 (sym (ap (erode B) q) ∙ u.0 ∙ r.cover))),
          );
          held = next_held ps at' e h;
        }

  -- ---- what is refused by 9

  -- a size that cannot be read
  pub sizes_unread : (bytes : List ℕ) {N n at : ℕ} {A : Point → Bool} {c : Bool} → SizesRead W H B (symbols_of bytes) N (suc n) at A c
      → read_size (unmasked W H (dilate B A)) (drop at (symbols_of bytes)) ≡ none → first_refusal (code_rows W H B (some N) bytes) ≡ 9
  sizes_unread bytes {N} r e = rows_nine N bytes (λ q g. absurd (none-ne-some q (sym (next-reads r none e) ∙ g)))

  -- a largest size with no point
  pub sizes-empty : (bytes : List ℕ) {N at : ℕ} {A : Point → Bool} {c : Bool} → SizesRead W H B (symbols_of bytes) N (suc N) at A c
      → (ps : List Point) (at' : ℕ) → read_size (unmasked W H (dilate B A)) (drop at (symbols_of bytes)) ≡ some (ps, drop at' (symbols_of bytes))
      → Empty (λ z. among ps z || dilate B A z) → first_refusal (code_rows W H B (some N) bytes) ≡ 9
  unfolding raster
  sizes-empty bytes {N} {at} {A} r ps at' e f =
      rows_nine N bytes (λ q g.
      let m = raster W H (label_in 0 q.0) in
      let rest = drop at' (symbols_of bytes) in
      let k = sizes-kept N (among ps ∷ r.larger) rest q (next-tidy r ps at' e) (sym (next-reads r (some (ps, rest)) e) ∙ g) in
      or_r (leb max_side N) (lacks m N || is_wild W H B m)
      (or_l (lacks m N) (is_wild W H B m) (not_T (some_of (λ v. eqb v (suc N)) m) (λ t.
      let v = any_out (λ v. eqb v (suc N)) m t in
      let i = row_mem (λ i. label_in 0 q.0 (place W i)) 0 (W * H) v.1 in
      let z = place W (0 + i.0) in
      let o = label-out q.0 0 N z (sym i.2 ∙ eqb→eq v.0 (suc N) v.2) in
      let j : o.0 ≡ N = omega (arith, o.1) in
      let same = ap (λ (j : ℕ). get_or q.0 j nowhere) j ∙ sym (suffix_head q.0 N (among ps) r.larger k.1) in
      f z (or_l (among ps z) (dilate B A z) (⊆_of_eq same z o.3))))))

  module _ (el : Element B) where
    -- a cover that falls off when it is dilated for the next size
    pub sizes-falls : (bytes : List ℕ) {N n at : ℕ} {A : Point → Bool} {c : Bool} → SizesRead W H B (symbols_of bytes) N (suc n) at A c
        → falls_off W H B A ≡ true → first_refusal (code_rows W H B (some N) bytes) ≡ 9
    sizes-falls bytes {N} {n} {at} {A} r f =
        rows_nine N bytes (λ q g.
        let m = raster W H (label_in 0 q.0) in
        or_r (leb max_side N) (lacks m N || is_wild W H B m) (or_r (lacks m N) (is_wild W H B m) (wild q g (decide (is_wild W H B m)))))
      where
        fall : (z b : Point) × T (A z) × Memᴰ b B × T (not (on_frame W H (z ⊞ b)))
        fall = falls-some W H B A (subst T (sym f) tt)

        wild : (q : List (Point → Bool) × List ℕ) → read_sizes W H B [] (symbols_of bytes) (suc N) ≡ some q
            → T (is_wild W H B (raster W H (label_in 0 q.0))) ⊎ T (not (is_wild W H B (raster W H (label_in 0 q.0))))
            → T (is_wild W H B (raster W H (label_in 0 q.0)))
        wild q g (inl t) = t
        wild q g (inr t) =
            let w = is_wild W H B (raster W H (label_in 0 q.0)) in
            let k = sizes-kept (suc n) r.larger (drop at (symbols_of bytes)) q r.tidy (sym r.reads ∙ g) in
            let z = fall.0 in
            let b = fall.1 in
            let X = covered B r.larger in
            let up = subst (λ (Y : Point → Bool). OnFrame W H (dilate (times B 1) Y)) (union-covered W H B el q.0 k.0 r.larger (suc n) k.1 k.2)
            (union_on W H B el (raster W H (label_in 0 q.0)) (false_of w (T_not w t)) (suc n) 1 (omega arith)) in
            absurd (T_not (on_frame W H (z ⊞ b)) fall.4
            (on_out W H (dilate (times B 1) X) up (z ⊞ b) (⊆_of_eq (sym (dilated_one B X)) (z ⊞ b) (dilate_in B X z b (⊆_of_eq (sym r.cover) z fall.2) fall.3))))

    -- ---- all sizes are read

    module _ (bytes : List ℕ) {N at : ℕ} {A : Point → Bool} {c : Bool} (r : SizesRead W H B (symbols_of bytes) N 0 at A c) where
      -- the map of the sizes
      abbrev map_read : List ℕ
      map_read = raster W H (label_in 0 r.larger)

      -- is what the stream stands for, before the symbols left
      done-reads : read_map W H B N bytes ≡ some (map_read, drop at (symbols_of bytes))
      unfolding read_sizes
      done-reads = read-sizes W H B N bytes ∙ ap (map_of W H) r.reads

      -- no point leaves the frame when it is dilated to its size: the cover, which the map rebuilds, lies on the frame
      done-tame : is_wild W H B map_read ≡ false
      done-tame =
          tame_on W H B el map_read (subst (OnFrame W H) (sym (reconstruction-covered W H B el r.larger r.tidy ∙ r.cover)) r.on)

      -- the largest size has a point
      done_held : lacks map_read N ≡ false
      done_held =
          let p = r.held zero-le in
          let z = p.0 in
          let k : N - 0 ≡ N = omega arith in
          let t = subst (λ (i : ℕ). T (get_or r.larger i nowhere z)) k p.1 in
          let e = label_in_lem W H B el.centred r.larger r.tidy 0 N z t ∙ ap suc (zero-add N) in
          not-T-false (some_of (λ v. eqb v (suc N)) map_read)
          (any_in (λ v. eqb v (suc N)) (raster_in W H (label_in 0 r.larger) (tidy_on W H B el.centred r.larger r.tidy N z t))
          (subst (λ (v : ℕ). T (eqb v (suc N))) (sym e) (eqb_refl (suc N))))

      -- the map is a skeleton exactly when the chain holds
      done-skeleton : is_skeleton W H B map_read ≡ c
      done-skeleton =
          let k = skeleton_iff_chained W H B el r.larger r.tidy done-tame in
          T_ext (λ t. r.chain.1 (k.0 t)) (λ t. k.1 (r.chain.0 t))

      -- the padding and the chain are left to test, and the image is the cover at size 0
      pub sizes_done : N < max_side
          → (first_refusal (code_rows W H B (some N) bytes) ≡ first_refusal ((10, not (is_padding (drop at (symbols_of bytes)))) ∷ (11, not c) ∷ []))
          × (code_set W H B (some N) bytes ≡ A)
      unfolding code_rows code_set
      sizes_done h =
          let rest = drop at (symbols_of bytes) in
          let wild = is_wild W H B map_read in (
            ap (λ (o : Option Reading). first_refusal (map_rows W H B N o)) done-reads
                ∙ first_miss 9 (row9 W H B N map_read).1 (row10 rest ∷ row11 W H B map_read ∷ [])
                (or_in-false (leb max_side N) (lacks map_read N || wild) (lt-leb max_side N h) (or_in-false (lacks map_read N) wild done_held done-tame))
                ∙ ap (λ (b : Bool). first_refusal ((10, not (is_padding rest)) ∷ (11, not b) ∷ [])) done-skeleton,
            fun_ext (λ z. ap (λ (o : Option Reading). map_set W H B o z) done-reads
                ∙ ap (λ (X : Point → Bool). X z) (reconstruction-covered W H B el r.larger r.tidy ∙ r.cover)),
          )
