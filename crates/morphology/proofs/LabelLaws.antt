-- Places, and label buffers: there and back.
use mathlib.Core.Bool.{Bool, ◌&&◌, cond, false, true}
use mathlib.Core.List.{List, Memᴰ}
use mathlib.Core.Path.{◌∙◌, ◌≡◌, ap, ap₂, subst, sym}
use Prim.Native.Nat.{◌%◌, ◌*◌, ◌+◌, ◌/◌, ◌<◌, ◌≤◌, suc, zero, zero-le, ℕ}
use native.Mathlib.Nat.{div-add-mod', div-lt_iff_lt-mul, mod-lt, mul_comm, mul-zero, not-suc-le-zero, zero-add, zero-lt-suc}
use borrow.Author.Tests.{lt-ltb}
use lib.Arith.{digits_div, digits_lt, digits_mod}
use lib.Dec.{T, ltb, ltb→lt}
use lib.IntN.{negsuc, pos, ℤ}
use lib.ListN.{get_or, length}
use Rattle.morphology.specs.Extent.{above}
use Rattle.morphology.specs.Image.{inside}
use Rattle.morphology.specs.Labels.{label_at, place, places, raster}
use Rattle.morphology.specs.Lists.{greatest, tabulate}
use Rattle.morphology.specs.Point.{Point, at}
use Rattle.morphology.proofs.CountLaws.{get_or-greatest}
use Rattle.morphology.proofs.FrameLaws.{OnFrame}
use Rattle.morphology.proofs.ImageLaws.{get_or-row, length-row, mem-row, row_mem}

-- a place has one index
pub place_inj : (W i j : ℕ) → place W i ≡ place W j → i ≡ j
place_inj W i j e =
    let p : i % W ≡ j % W = ap (λ (z : Point). above z.x) e in
    let q : i / W ≡ j / W = ap (λ (z : Point). above z.y) e in
    sym (div-add-mod' i W) ∙ ap₂ (λ (a b : ℕ). a * W + b) q p ∙ div-add-mod' j W

pub place_at : (W x y : ℕ) → x < W → place W (y * W + x) ≡ at (pos x) (pos y)
place_at W x y h = ap₂ (λ (u v : ℕ). at (pos u) (pos v)) (digits_mod y h) (digits_div y h)

index_lt : (W H x y : ℕ) → x < W → y < H → y * W + x < W * H
index_lt W H x y hx hy = subst (λ (n : ℕ). y * W + x < n) (mul_comm H W) (digits_lt hy hx)

pub in-places : (W H x y : ℕ) → x < W → y < H → Memᴰ (at (pos x) (pos y)) (places W H)
unfolding places
in-places W H x y hx hy =
    subst (λ (p : Point). Memᴰ p (tabulate (place W) 0 (W * H))) (ap (place W) (zero-add (y * W + x)) ∙ place_at W x y hx)
    (mem-row (place W) 0 (W * H) (y * W + x) (index_lt W H x y hx hy))

-- a place of the frame, by its column and row
pub of_places : (W H : ℕ) {p : Point} → Memᴰ p (places W H) → (x y : ℕ) × (x < W) × (y < H) × (p ≡ at (pos x) (pos y))
unfolding places
of_places W H {p} m = let r = row_mem (place W) 0 (W * H) m in go W r.0 r.1 (r.2 ∙ ap (place W) (zero-add r.0))
  where
    go : (w i : ℕ) → i < w * H → p ≡ place w i → (x y : ℕ) × (x < w) × (y < H) × (p ≡ at (pos x) (pos y))
    go zero i h e = absurd (not-suc-le-zero (subst (λ (n : ℕ). i < n) (mul_comm 0 H ∙ mul-zero H) h))
    go (suc w) i h e =
        (i % suc w, i / suc w, mod-lt i (zero-lt-suc w), (div-lt_iff_lt-mul (zero-lt-suc w)).1 (subst (λ (n : ℕ). i < n) (mul_comm (suc w) H) h), e)

-- ---- label buffers

pub length-raster : (W H : ℕ) (f : Point → ℕ) → length (raster W H f) ≡ W * H
unfolding raster
length-raster W H f = length-row (λ i. f (place W i)) 0 (W * H)

pub get_or-raster : (W H : ℕ) (f : Point → ℕ) (x y : ℕ) → x < W → y < H → get_or (raster W H f) (y * W + x) 0 ≡ f (at (pos x) (pos y))
unfolding raster
get_or-raster W H f x y hx hy =
    get_or-row (λ i. f (place W i)) 0 (W * H) (y * W + x) 0 (index_lt W H x y hx hy)
    ∙ ap (λ (i : ℕ). f (place W i)) (zero-add (y * W + x)) ∙ ap f (place_at W x y hx)

pub label_at-at : (W H : ℕ) (m : List ℕ) (x y : ℕ) → x < W → y < H → label_at W H m (at (pos x) (pos y)) ≡ get_or m (y * W + x) 0
unfolding label_at
label_at-at W H m x y hx hy = ap₂ (λ (a b : Bool). cond (a && b) (get_or m (y * W + x) 0) 0) (lt-ltb x W hx) (lt-ltb y H hy)

-- a label is at most the largest
pub label_at_le : (W H : ℕ) (m : List ℕ) (z : Point) → label_at W H m z ≤ greatest m
unfolding label_at
label_at_le W H m z = by z.x z.y
  where
    by : (x y : ℤ) → label_at W H m (at x y) ≤ greatest m
    by (pos x) (pos y) = go (ltb x W && ltb y H)
      where
        go : (b : Bool) → cond b (get_or m (y * W + x) 0) 0 ≤ greatest m
        go true = get_or-greatest m (y * W + x)
        go false = zero-le
    by (pos x) (negsuc y) = zero-le
    by (negsuc x) y = zero-le

pub label_at-raster : (W H : ℕ) (f : Point → ℕ) {p : Point} → Memᴰ p (places W H) → label_at W H (raster W H f) p ≡ f p
label_at-raster W H f {p} m =
    let r = of_places W H m in
    ap (label_at W H (raster W H f)) r.4 ∙ label_at-at W H (raster W H f) r.0 r.1 r.2 r.3
    ∙ get_or-raster W H f r.0 r.1 r.2 r.3 ∙ ap f (sym r.4)

-- by place
pub get_or-place : (W H : ℕ) (f : Point → ℕ) (i : ℕ) → i < W * H → get_or (raster W H f) i 0 ≡ f (place W i)
unfolding raster
get_or-place W H f i h = get_or-row (λ i. f (place W i)) 0 (W * H) i 0 h ∙ ap (λ (j : ℕ). f (place W j)) (zero-add i)

pub label_at-place : (W H : ℕ) (m : List ℕ) (i : ℕ) → i < W * H → label_at W H m (place W i) ≡ get_or m i 0
label_at-place zero H m i h = absurd (not-suc-le-zero (subst (λ (n : ℕ). i < n) (mul_comm 0 H ∙ mul-zero H) h))
label_at-place (suc W) H m i h =
    label_at-at (suc W) H m (i % suc W) (i / suc W) (mod-lt i (zero-lt-suc W)) ((div-lt_iff_lt-mul (zero-lt-suc W)).1 (subst (λ (n : ℕ). i < n) (mul_comm (suc W) H) h))
    ∙ ap (λ (j : ℕ). get_or m j 0) (div-add-mod' i (suc W))

-- a set on the frame lies in its places
pub on-places : (W H : ℕ) (X : Point → Bool) → OnFrame W H X → (z : Point) → T (X z) → Memᴰ z (places W H)
on-places W H X on z t = by z.x z.y (on.across z t) (on.down z t)
  where
    by : (x y : ℤ) → T (inside W x) → T (inside H y) → Memᴰ (at x y) (places W H)
    by (pos x) (pos y) tx ty = in-places W H x y (ltb→lt x W tx) (ltb→lt y H ty)
    by (pos x) (negsuc y) tx ty = absurd ty
    by (negsuc x) y tx ty = absurd tx
