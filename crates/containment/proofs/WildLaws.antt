-- Row 5 of the table of refusals: limits of the labels of a column and of a row say which labels leave the frame.
use mathlib.Core.Bool.{Bool, ◌||◌, false, not, true}
use mathlib.Core.List.{List, Memᴰ}
use mathlib.Core.Path.{◌∙◌, ◌≡◌, ap, ap₂, refl, subst, sym}
use Prim.Native.Nat.{◌*◌, ◌+◌, ◌-◌, ◌<◌, ◌≤◌, min, suc, zero, ℕ}
use native.Mathlib.Decide.{dec_le}
use native.Mathlib.Nat.{le_refl, mul_comm, zero-add}
use native.Mathlib.Numerals.{add-one}
use native.Mathlib.Omega.{arith}
use Rattle.std.proofs.lemmas.Bool.Decides.{nat_tests}
use borrow.Author.Tests.{le-leb, le-ltb, lt-leb, lt-ltb}
use lib.Dec.{T, leb, ltb}
use lib.IntN.{pos}
use lib.ListN.{drop, get_or, length, length-drop, take}
use lib.Seq.{get_or-drop, get_or-take, length-take-le}
use Rattle.morphology.specs.Extent.{boxed, extent}
use Rattle.morphology.specs.Labels.{label_at, max_label, places}
use Rattle.morphology.specs.Lists.{some_of, up_to}
use Rattle.morphology.specs.Point.{Point, at, origin}
use Rattle.morphology.specs.Refusals.{is_wild, leaves}
use Rattle.morphology.proofs.CountLaws.{any-suc}
use Rattle.morphology.proofs.CoverLaws.{in-up_to, of-up_to}
use Rattle.morphology.proofs.ElementLaws.{Element}
use Rattle.morphology.proofs.ExtentLaws.{box_exact}
use Rattle.morphology.proofs.LabelLaws.{in-places, label_at-at, of_places}
use Rattle.morphology.proofs.SkeletonLaws.{any_agree}
use Rattle.morphology.proofs.TestLaws.{T_ext, any_in, any_out, not-and}
use Rattle.elements.specs.Measures.{Reached, measure}
use Rattle.raster.proofs.RowLaws.{row_in}
use Rattle.containment.specs.Wild.{Limit, Limits, over, room_at, too_large}

-- ---- the limit

-- a label n + 1 is above l exactly when its size has no room
pub limit_is : (r l : ℕ) → ((n : ℕ) → n < max_label → n ≤ r → n < l) → ((n : ℕ) → n < max_label → r < n → l ≤ n) → Limit (λ n. leb n r) l
unfolding too_large
limit_is r l f g zero h = le-ltb l 0 (omega arith)
limit_is r l f g (suc n) h = by (dec_le n r)
  where
    by : Dec (n ≤ r) → ltb l (suc n) ≡ not (leb n r)
    by (yes b) = le-ltb l (suc n) (f n (omega arith) b) ∙ sym (ap not (le-leb n r b))
    by (no b) = lt-ltb l (suc n) (let z = g n (omega arith) (omega arith) in omega arith) ∙ sym (ap not (lt-leb n r (omega arith)))

-- the limit of a coordinate
pub limit_of : (l : ℕ) (f g : ℕ → Bool) → ((n : ℕ) → n < max_label → f n ≡ g n) → Limit f l → Limit g l
unfolding too_large
limit_of l f g e m zero h = m 0 h
limit_of l f g e m (suc n) h = m (suc n) h ∙ ap not (e n (omega arith))

-- ---- a row

pub over-min : (v a b : ℕ) → ltb (min a b) v ≡ over v a b
over-min v a b = grind (arith, nat_tests)

pub any_more : (p : ℕ → Bool) (n : ℕ) → some_of p (up_to (n + 1)) ≡ (some_of p (up_to n) || p n)
any_more p n = ap (λ (k : ℕ). some_of p (up_to k)) (add-one n) ∙ any-suc p (λ k. k) 0 n ∙ ap (λ (k : ℕ). some_of p (up_to n) || p k) (zero-add n)

-- ---- the frame

-- a point that leaves the frame leaves one of its sides
leaves-sides : (W H : ℕ) (B : List Point) → Memᴰ origin B → (x y v : ℕ)
    → leaves W H B (at (pos x) (pos y)) v
    ≡ (too_large (room_at W (extent (measure true false) B) (extent (measure true true) B) x) v
    || too_large (room_at H (extent (measure false false) B) (extent (measure false true) B) y) v)
unfolding leaves too_large boxed
leaves-sides W H B ob x y zero = refl
leaves-sides W H B ob x y (suc n) =
    ap not (box_exact W H B ob n (at (pos x) (pos y)))
    ∙ sym (not-and (room_at W (extent (measure true false) B) (extent (measure true true) B) x n)
    (room_at H (extent (measure false false) B) (extent (measure false true) B) y n))

-- a label of row y leaves the frame
abbrev pub row_wild : ℕ → ℕ → List Point → List ℕ → ℕ → Bool
row_wild W H B m y = some_of (λ x. leaves W H B (at (pos x) (pos y)) (get_or m (y * W + x) 0)) (up_to W)

wild-rows : (W H : ℕ) (B : List Point) (m : List ℕ) → is_wild W H B m ≡ some_of (row_wild W H B m) (up_to H)
unfolding is_wild
wild-rows W H B m = T_ext to of
  where
    to : T (some_of (λ p. leaves W H B p (label_at W H m p)) (places W H)) → T (some_of (row_wild W H B m) (up_to H))
    to t =
        let r = any_out (λ p. leaves W H B p (label_at W H m p)) (places W H) t in
        let q = of_places W H r.1 in
        let x = q.0 in
        let y = q.1 in
        let z : T (leaves W H B (at (pos x) (pos y)) (get_or m (y * W + x) 0)) =
        subst T (ap (λ (p : Point). leaves W H B p (label_at W H m p)) q.4 ∙ ap (leaves W H B (at (pos x) (pos y))) (label_at-at W H m x y q.2 q.3))
        r.2 in
        any_in (row_wild W H B m) (in-up_to H y q.3) (any_in (λ x. leaves W H B (at (pos x) (pos y)) (get_or m (y * W + x) 0)) (in-up_to W x q.2) z)

    of : T (some_of (row_wild W H B m) (up_to H)) → T (some_of (λ p. leaves W H B p (label_at W H m p)) (places W H))
    of t =
        let r = any_out (row_wild W H B m) (up_to H) t in
        let y = r.0 in
        let hy = of-up_to H r.1 in
        let s = any_out (λ x. leaves W H B (at (pos x) (pos y)) (get_or m (y * W + x) 0)) (up_to W) r.2 in
        let x = s.0 in
        let hx = of-up_to W s.1 in
        any_in (λ p. leaves W H B p (label_at W H m p)) (in-places W H x y hx hy)
        (subst T (sym (ap (leaves W H B (at (pos x) (pos y))) (label_at-at W H m x y hx hy))) s.2)

-- ---- the loop over the rows

-- the element's extents, and the limits of the columns
pub record Limited (W H : ℕ) (B : List Point) (m : List ℕ) (left right up down : ℕ) (limits : List ℕ) : Type 0 where
  pub shape : Element B
  pub size : length m ≡ W * H
  pub labels : (i : ℕ) → get_or m i 0 ≤ max_label
  pub reach : Reached left right up down B
  pub columns : Limits W left right limits
  pub room : W ≤ length limits

-- row y, and its labels against the limits of their columns and of the row
abbrev pub row_of : ℕ → List ℕ → ℕ → List ℕ
row_of W m y = take (y * W + W - y * W) (drop (y * W) m)

abbrev pub row_over : List ℕ → List ℕ → ℕ → Bool
row_over row limits l = some_of (λ x. over (get_or row x 0) (get_or limits x 0) l) (up_to (length row))

module _ {W H : ℕ} {B : List Point} {m : List ℕ} {left right up down : ℕ} {limits : List ℕ} (r : Limited W H B m left right up down limits) (y : ℕ)
    (h : y < H) where
  pub row_fits : y * W + W ≤ length m
  row_fits = omega (arith, row_in y H W (H * W) h (le_refl (H * W)), mul_comm H W, r.size)

  row-length : length (row_of W m y) ≡ W
  row-length =
      let n : ℕ = y * W + W - y * W in
      let e : n ≡ W = omega arith in
      length-take-le n (drop (y * W) m) (omega (arith, length-drop (y * W) m, row_fits)) ∙ e

  module _ (l : ℕ) (row : Limit (room_at H up down y) l) where
    label_exact : (x : ℕ) → x < W → over (get_or (row_of W m y) x 0) (get_or limits x 0) l ≡ leaves W H B (at (pos x) (pos y)) (get_or m (y * W + x) 0)
    label_exact x hx =
        let v : ℕ = get_or m (y * W + x) 0 in
        ap (λ (i : ℕ). over i (get_or limits x 0) l) (get_or-take (y * W + W - y * W) (drop (y * W) m) x 0 (omega arith) ∙ get_or-drop (y * W) m x 0)
        ∙ ap₂ ◌||◌ (r.columns x hx v (r.labels (y * W + x))) (row v (r.labels (y * W + x)))
        ∙ ap₂ (λ (a b : ℕ). too_large (room_at W a b x) v || too_large (room_at H up down y) v) r.reach.leftward r.reach.rightward
        ∙ ap₂ (λ (a b : ℕ). too_large (room_at W (extent (measure true false) B) (extent (measure true true) B) x) v || too_large (room_at H a b y) v)
        r.reach.upward r.reach.downward
        ∙ sym (leaves-sides W H B r.shape.centred x y v)

    row_exact : row_over (row_of W m y) limits l ≡ row_wild W H B m y
    row_exact =
        ap (λ (i : ℕ). some_of (λ x. over (get_or (row_of W m y) x 0) (get_or limits x 0) l) (up_to i)) row-length
        ∙ any_agree (λ x. over (get_or (row_of W m y) x 0) (get_or limits x 0) l) (λ x. leaves W H B (at (pos x) (pos y)) (get_or m (y * W + x) 0)) (up_to W)
        (λ x i. label_exact x (of-up_to W i))

    -- a row that leaves the frame
    pub wild_stop : row_over (row_of W m y) limits l ≡ true → true ≡ is_wild W H B m
    wild_stop q =
        sym (wild-rows W H B m ∙ T_ext (λ u. tt) (λ u. any_in (row_wild W H B m) (in-up_to H y h) (subst T (sym q ∙ row_exact) tt)))

    -- one that does not
    pub wild_turn : row_over (row_of W m y) limits l ≡ false → some_of (row_wild W H B m) (up_to y) ≡ false → some_of (row_wild W H B m) (up_to (y + 1)) ≡ false
    wild_turn q f = any_more (row_wild W H B m) y ∙ ap₂ ◌||◌ f (sym row_exact ∙ q)

pub wild_last : (W H : ℕ) (B : List Point) (m : List ℕ) (y : ℕ) → y ≡ H → some_of (row_wild W H B m) (up_to y) ≡ false → false ≡ is_wild W H B m
wild_last W H B m y e f = sym (wild-rows W H B m ∙ ap (λ (n : ℕ). some_of (row_wild W H B m) (up_to n)) (sym e) ∙ f)
